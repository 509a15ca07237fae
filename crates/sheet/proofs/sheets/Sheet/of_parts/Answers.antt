use Rattle.std.proofs.Common.{◌≡◌, ℕ, ◌+◌, ◌<◌, List, [], ◌∷◌, ◌++◌, length, map, take, take_all, get_or, ap, sym, ◌∙◌, rules, arith}
use Rattle.std.specs.List.{flat_map}
use Rattle.std.proofs.lemmas.Grind.{flat_map-append}
use Rattle.std.proofs.lemmas.List.{take_more, map_push, append-nil}
use Rattle.sheet.specs.declared.parts.Part.{Part}
use Rattle.sheet.specs.declared.parts.Way.TheVariants.{ToHut, Back}
use Rattle.sheet.specs.Parts.{Meaning, part_state, load_in, mark_in, call_in}
use Rattle.sheet.proofs.sheets.Sheet.of_parts.Goals as goal
use Rattle.sheet.proofs.sheets.Sheet.of_parts.Goals.{in-BookRecord+in_ok-push-in-BookRecord, in-Mark-default-default-ToHut-default+in_ok-push-in-Mark-default-default-ToHut-default, in-Mark-default-default-Back-default+in_ok-push-in-Mark-default-default-Back-default, in-Call+in_ok-push-in-Call}

-- what parts have, with one part more
more : {T X : Type 0} (has : Meaning T → List X) (parts : List (Part T)) (i : ℕ) (part : Part T) → i < length parts → part ≡ get_or parts i part
    → flat_map (λ part. has part.meaning) (map part_state (take (i + 1) parts)) ≡ flat_map (λ part. has part.meaning) (map part_state (take i parts)) ++ has (part_state part).meaning
more has parts i part less is =
    let one : take (i + 1) parts ≡ take i parts ++ part ∷ [] = take_more parts i part less ∙ ap (λ part. take i parts ++ part ∷ []) (sym is) in
    rw (one, map_push part_state (take i parts) part, flat_map-append)
    (ap (λ last. flat_map (λ part. has part.meaning) (map part_state (take i parts)) ++ last) (append-nil (has (part_state part).meaning)))

pub loop-part-preserved : goal.loop-part-preserved
loop-part-preserved g c =
    let parts = c.deref-part-items.result.now in
    let i = c.loop-part.part-index in
    let loads = more load_in parts i c.part-item.result c.loop-part-test.true c.part-item.is in
    let to_hut = more (mark_in ToHut) parts i c.part-item.result c.loop-part-test.true c.part-item.is in
    let back = more (mark_in Back) parts i c.part-item.result c.loop-part-test.true c.part-item.is in
    let calls = more call_in parts i c.part-item.result c.loop-part-test.true c.part-item.is in
    elim c.match-part.branch [
      | in-BookRecord+in_ok-push-in-BookRecord w ↦ search (rules, loads, to_hut, back, calls)
      | in-Mark-default-default-ToHut-default+in_ok-push-in-Mark-default-default-ToHut-default w ↦ search (rules, loads, to_hut, back, calls)
      | in-Mark-default-default-Back-default+in_ok-push-in-Mark-default-default-Back-default w ↦ search (rules, loads, to_hut, back, calls)
      | in-Call+in_ok-push-in-Call w ↦ search (rules, loads, to_hut, back, calls)
    ]

pub invariant_of-result : goal.invariant_of-result
invariant_of-result g c =
    let every : take c.loop-part.part-index c.deref-part-items.result.now ≡ c.deref-part-items.result.now = take_all _ _ (omega arith) in (
      rw (c.loop-part.invariant.to_hut, every, c.deref-part-items.ensures.value) (c.requires.marks ToHut),
      rw (c.loop-part.invariant.back, every, c.deref-part-items.ensures.value) (c.requires.marks Back),
      c.requires.repeats,
    )
