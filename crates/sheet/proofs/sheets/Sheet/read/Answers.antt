use Rattle.std.proofs.Common.{map, rules, arith}
use Rattle.sheet.specs.Sections.{section_state}
use Rattle.sheet.proofs.SectionLaws.{sections_have}
use Rattle.sheet.proofs.sheets.Sheet.read.Goals as goal

pub of_parts-requires-clause-marks : goal.of_parts-requires-clause-marks
of_parts-requires-clause-marks g c way =
    let have = sections_have g.T.Load (map section_state c.layout.inside.sections) _ c.in_ok-parts.ensures.cases in
    omega (arith, have.few way, c.layout.invariant.1 way)

pub returns-in_err-of_parts-clause-memory : goal.returns-in_err-of_parts-clause-memory
returns-in_err-of_parts-clause-memory g c =
    let have = sections_have g.T.Load (map section_state c.layout.inside.sections) _ c.in_ok-parts.ensures.cases in
    search (rules, have.some c.in_err-of_parts.ensures.memory)
