use Rattle.std.proofs.Common.{◌≡◌, ap, sym, ◌++◌, ◌∙◌, arith}
use Rattle.std.specs.List.{flat_map, range_with_len}
use Rattle.pace.specs.Frames.{fields, fields_of, block_length, block}
use Rattle.pace.proofs.Rounds.{flat_push, flat_more}
use Rattle.pace.proofs.frames.pairs.Goals as goal

pub loop-number-preserved : goal.loop-number-preserved
loop-number-preserved c =
    ap (flat_map fields) (c.in_ok-push.ensures.items)
    ∙ flat_push fields c.loop-number.pairs.items c.new.result
    ∙ (λ i. c.loop-number.invariant i ++ c.new.ensures.answer i)
    ∙ sym (flat_more fields_of c.loop-number.number)

pub returns : goal.returns
unfolding block
returns c =
    let all : c.loop-number.number ≡ block_length = omega (arith, c.loop-number-test.false, c.loop-number.auto.number-end) in
    record { made = c.loop-number.invariant ∙ ap (λ count. flat_map fields_of (range_with_len 0 count)) all }
