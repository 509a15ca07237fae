use Rattle.std.proofs.Common.{ap, map, rules, sym, ◌∙◌}
use Rattle.sheet.specs.Parts.{part_state}
use Rattle.sheet.specs.Sections.{before}
use Rattle.sheet.proofs.InTurn.{octets_some, section_fails, section_more, sections_at}
use Rattle.sheet.proofs.readers.read_sections.Goals as goal

pub returns-in_err-read_section-clause-cases : goal.returns-in_err-read_section-clause-cases
returns-in_err-read_section-clause-cases g c =
    let now = map part_state c.loop-section.parts.items in
    let at = sections_at g.T.Load c.args.sections.now c.loop-section.section-index c.section-item.result c.loop-section-test.true c.section-item.is in
    let fails = section_fails now _ _ _ _ (ap (before now) (sym at) ∙ c.loop-section.invariant) c.in_err-read_section.ensures.cases in
    search (rules, fails)

pub returns-in_err-read_section-clause-memory : goal.returns-in_err-read_section-clause-memory
returns-in_err-read_section-clause-memory g c =
    let some = octets_some c.args.sections.now c.loop-section.section-index c.section-item.result c.loop-section-test.true c.section-item.is in
    search (rules, some)

pub loop-section-preserved : goal.loop-section-preserved
loop-section-preserved g c =
    let now = map part_state c.loop-section.parts.items in
    let at = sections_at g.T.Load c.args.sections.now c.loop-section.section-index c.section-item.result c.loop-section-test.true c.section-item.is in
    sym (section_more now _ _ _ c.in_ok-read_section.ensures.cases) ∙ ap (before now) (sym at) ∙ c.loop-section.invariant
