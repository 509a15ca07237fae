use Rattle.std.proofs.Common.{◌≡◌}
use Rattle.sheet.specs.Sections.{section_state, section_reads, verdict_of}
use Rattle.sheet.proofs.checks.check_section.Given as goal

abbrev pub invariant-loop : goal.invariant-loop
invariant-loop g l =
    verdict_of (section_reads g.T.Load (section_state l.left)) ≡ verdict_of (section_reads g.T.Load (section_state l.section))

abbrev pub decreases-loop : goal.decreases-loop
decreases-loop g l = l.left.room
