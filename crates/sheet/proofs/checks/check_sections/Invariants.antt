use Rattle.std.proofs.Common.{◌≡◌, map, drop}
use Rattle.sheet.specs.Sections.{section_state, sections_read, verdict_of}
use Rattle.sheet.proofs.checks.check_sections.Given as goal

abbrev pub invariant-loop-section : goal.invariant-loop-section
invariant-loop-section g l =
    verdict_of (sections_read g.T.Load (map section_state (drop l.section-index l.sections)))
    ≡ verdict_of (sections_read g.T.Load (map section_state l.sections))
