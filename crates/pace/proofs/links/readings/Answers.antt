use Rattle.std.proofs.Common.{List, [], ◌∷◌, ◌++◌, ap, sym, ◌∙◌, arith}
use Rattle.std.proofs.lemmas.List.FromFn.{map-range_with_len_more}
use Rattle.loads.specs.declared.readings.Reading.{Reading}
use Rattle.pace.specs.Links.{reading_at}
use Rattle.pace.proofs.links.readings.Goals as goal

pub loop-place-preserved : goal.loop-place-preserved
loop-place-preserved c =
    c.in_ok-push.ensures.items
    ∙ ap (λ (items : List Reading). items ++ reading_at c.loop-place.place ∷ []) c.loop-place.invariant
    ∙ sym (map-range_with_len_more reading_at 0 c.loop-place.place c.loop-place.place (omega arith))
