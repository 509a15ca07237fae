use Rattle.std.proofs.Common.{◌≡◌, map, drop, vec_items}
use Rattle.sheet.specs.Parts.{part_state}
use Rattle.sheet.specs.Sections.{section_state, before, sections_read}
use Rattle.sheet.proofs.readers.read_sections.Given as goal

abbrev pub invariant-loop-section : goal.invariant-loop-section
invariant-loop-section g l =
    before (map part_state (vec_items l.parts)) (sections_read g.T.Load (map section_state (drop l.section-index l.sections)))
    ≡ sections_read g.T.Load (map section_state l.sections)
