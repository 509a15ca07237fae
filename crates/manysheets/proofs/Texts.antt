-- What is written of the lines of a text, one line after another.
use Rattle.std.proofs.Common.{◌≡◌, ℕ, ◌+◌, ◌<◌, Some, None, IfSome, List, [], ◌∷◌, map, take, length, get_or, flat_map, All, Option, Bor, append-nil}
use Rattle.std.proofs.KnownBytes.{Appends-trans}
use Rattle.std.proofs.lemmas.List.{map_more}
use Rattle.std.proofs.lemmas.List.Concat.{flat_map-append}
use Rattle.std.proofs.lemmas.List.Elements.{All-push}
use Rattle.std.specs.Io.KnownBytes.{Appends}
use Rattle.manysheets.specs.Prints.{NamesSheet, NamesSheets, named_prints}

-- the lines as texts
abbrev pub texts : List (Bor (List ℕ)) → List (List ℕ)
texts found = map (λ line. line.now) found

module _ (found : List (Bor (List ℕ))) (i : ℕ) (none : Bor (List ℕ)) (less : i < length found) where
  -- what one line more prints
  pub line_printed : (before between after : Option (List ℕ)) → Appends before between (flat_map named_prints (texts (take i found)))
      → Appends between after (named_prints (get_or found i none).now) → Appends before after (flat_map named_prints (texts (take (i + 1) found)))
  line_printed before between after printed more =
      let text = (get_or found i none).now in
      rw (map_more (λ line. line.now) found i none less, flat_map-append named_prints (texts (take i found)) (text ∷ []), append-nil (named_prints text))
      (Appends-trans before between after (flat_map named_prints (texts (take i found))) (named_prints text) printed more)

  -- one line more has a name and digits
  pub line_named : All NamesSheet (texts (take i found)) → NamesSheet (get_or found i none).now → All NamesSheet (texts (take (i + 1) found))
  line_named named more =
      rw (map_more (λ line. line.now) found i none less) (All-push NamesSheet (texts (take i found)) (get_or found i none).now named more)

-- where the lines of a text that was read have names and digits, those of what is known of the input do
pub known_named : (known : Option (List ℕ)) (text : List ℕ) → IfSome known (λ all. text ≡ all) → NamesSheets text → IfSome known (λ all. NamesSheets all)
known_named None text read named = tt
known_named (Some all) text read named = rw read at named
