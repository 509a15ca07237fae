use Rattle.std.proofs.Common.{[], ◌∷◌, map}
use Rattle.std.proofs.lemmas.List.{map_push}
use Rattle.sheet.specs.Parts.{part_state}
use Rattle.sheet.specs.Sections.{section_state, section_reads}
use Rattle.sheet.proofs.InTurn.{before_before}
use Rattle.sheet.proofs.readers.read_section.Goals as goal

pub loop-part-preserved : goal.loop-part-preserved
loop-part-preserved g c =
    let now = map part_state c.loop-part.parts.items in
    let left = section_reads g.T.Load (section_state c.next.new.self) in
    let next = rw c.in-Some.is at c.in_ok-part.ensures in
    record {
      reads = rw (c.in_ok-push.ensures.items, map_push part_state c.loop-part.parts.items c.in-Some.part, ← before_before now (part_state c.in-Some.part ∷ []) left, ← next.cases) c.loop-part.invariant.reads;
      some = λ some. c.loop-part.invariant.some next.some;
    }
