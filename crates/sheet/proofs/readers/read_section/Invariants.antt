use Rattle.std.proofs.Common.{◌≡◌, ◌<◌, length, map, vec_items}
use Rattle.sheet.specs.Parts.{part_state}
use Rattle.sheet.specs.Sections.{section_state, before, section_reads}
use Rattle.sheet.proofs.readers.read_section.Given as goal

abbrev pub invariant-loop-part : goal.invariant-loop-part
invariant-loop-part g l = record {
  reads : before (map part_state (vec_items l.parts)) (section_reads g.T.Load (section_state l.left))
      ≡ before (map part_state (vec_items l.initial.parts)) (section_reads g.T.Load (section_state l.section));
  some : 0 < length l.left.octets.now → 0 < length l.section.octets.now;
}

abbrev pub decreases-loop-part : goal.decreases-loop-part
decreases-loop-part g l = l.left.room
