use Rattle.std.proofs.Common.{◌≡◌, ◌+◌, ◌++◌, string_bytes, drop, arith, slice_index_or, ◌∷◌, []}
use Rattle.std.proofs.lemmas.Grind.{common_steps}
use Rattle.frametext.specs.Hexadecimals.{hexadecimal as hexadecimal_of}
use Rattle.frametext.proofs.AdditionLaws.{refused, cut_within}
use Rattle.frametext.proofs.hexadecimals.push_hexadecimal.Goals as goal

pub returns-in_err-push_octet : goal.returns-in_err-push_octet
returns-in_err-push_octet c =
    let octets = c.args.octets.now in
    let at = c.loop-octet.octet-index in
    let cut = c.in_err-push_octet.ensures.added in
    let more = hexadecimal_of (drop (at + 1) octets) in
    let same : string_bytes c.loop-octet.text ++ (hexadecimal_of (slice_index_or octets at 0 ∷ []) ++ more) ≡ string_bytes c.args.text.now ++ hexadecimal_of octets = grind (arith, common_steps) in
    record {
      added =
          refused c.from_residual.ensures.0 (omega (arith, cut.room))
          (cut_within _ c.loop-octet.text _ _ (hexadecimal_of (slice_index_or octets at 0 ∷ [])) more same (omega arith) (omega arith) cut.memory);
    }
