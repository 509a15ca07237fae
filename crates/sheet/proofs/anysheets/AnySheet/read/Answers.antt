use Rattle.std.proofs.Common.{◌∙◌, ap, subst, sym, rules, arith}
use Rattle.loads.specs.Pieces.{pieces}
use Rattle.loads.specs.Readings.{readings}
use Rattle.sheet.specs.declared.layouts.LoadKind.TheVariants.{Reading, Piece}
use Rattle.sheet.specs.Layouts.{LayoutState}
use Rattle.sheet.proofs.FirstFaults.{Verdict, layout_first, reason_by}
use Rattle.sheet.proofs.SheetLaws.{octets_below, of_readings, of_pieces, kind_spelled, kind_verdict}
use Rattle.sheet.proofs.anysheets.AnySheet.read.Goals as goal

pub returns-in_err-layout-clause-first : goal.returns-in_err-layout-clause-first
returns-in_err-layout-clause-first c =
    let first = layout_first c.args.octets.now c.in_err-layout.field-0.0 (sym c.in_err-layout.ensures.answer) in
    search (rules, first)

pub returns-in_ok-read-in-Reading-clause-spelled : goal.returns-in_ok-read-in-Reading-clause-spelled
returns-in_ok-read-in-Reading-clause-spelled c =
    let below = octets_below c.args.octets.now (λ i. omega (arith, c.type_inv.octets i)) in
    kind_spelled Reading readings of_readings c.args.octets.now below _ (sym c.in_ok-layout.ensures.answer) (ap (λ (layout : LayoutState). layout.kind) (sym c.layout.view_is) ∙ c.in-Reading.is) _ c.in_ok-read-in-Reading.ensures.cases

pub returns-in_ok-read-in-Reading-clause-first : goal.returns-in_ok-read-in-Reading-clause-first
returns-in_ok-read-in-Reading-clause-first c =
    let octets = c.args.octets.now in
    let below = octets_below octets (λ i. omega (arith, c.type_inv.octets i)) in
    let verdict = kind_verdict Reading readings of_readings octets below _ (sym c.in_ok-layout.ensures.answer) (ap (λ (layout : LayoutState). layout.kind) (sym c.layout.view_is) ∙ c.in-Reading.is) in
    subst (Verdict octets) c.in_ok-read-in-Reading.ensures.cases verdict

pub returns-in_err-read-in-Reading-clause-first : goal.returns-in_err-read-in-Reading-clause-first
returns-in_err-read-in-Reading-clause-first c =
    let octets = c.args.octets.now in
    let below = octets_below octets (λ i. omega (arith, c.type_inv.octets i)) in
    let verdict = kind_verdict Reading readings of_readings octets below _ (sym c.in_ok-layout.ensures.answer) (ap (λ (layout : LayoutState). layout.kind) (sym c.layout.view_is) ∙ c.in-Reading.is) in
    let failed = c.in_err-read-in-Reading in
    let reason = reason_by octets _ verdict failed.field-0.0 failed.ensures.cases failed.ensures.good in
    search (rules, reason)

pub returns-in_ok-read-in-Piece-clause-spelled : goal.returns-in_ok-read-in-Piece-clause-spelled
returns-in_ok-read-in-Piece-clause-spelled c =
    let below = octets_below c.args.octets.now (λ i. omega (arith, c.type_inv.octets i)) in
    kind_spelled Piece pieces of_pieces c.args.octets.now below _ (sym c.in_ok-layout.ensures.answer) (ap (λ (layout : LayoutState). layout.kind) (sym c.layout.view_is) ∙ c.in-Piece.is) _ c.in_ok-read-in-Piece.ensures.cases

pub returns-in_ok-read-in-Piece-clause-first : goal.returns-in_ok-read-in-Piece-clause-first
returns-in_ok-read-in-Piece-clause-first c =
    let octets = c.args.octets.now in
    let below = octets_below octets (λ i. omega (arith, c.type_inv.octets i)) in
    let verdict = kind_verdict Piece pieces of_pieces octets below _ (sym c.in_ok-layout.ensures.answer) (ap (λ (layout : LayoutState). layout.kind) (sym c.layout.view_is) ∙ c.in-Piece.is) in
    subst (Verdict octets) c.in_ok-read-in-Piece.ensures.cases verdict

pub returns-in_err-read-in-Piece-clause-first : goal.returns-in_err-read-in-Piece-clause-first
returns-in_err-read-in-Piece-clause-first c =
    let octets = c.args.octets.now in
    let below = octets_below octets (λ i. omega (arith, c.type_inv.octets i)) in
    let verdict = kind_verdict Piece pieces of_pieces octets below _ (sym c.in_ok-layout.ensures.answer) (ap (λ (layout : LayoutState). layout.kind) (sym c.layout.view_is) ∙ c.in-Piece.is) in
    let failed = c.in_err-read-in-Piece in
    let reason = reason_by octets _ verdict failed.field-0.0 failed.ensures.cases failed.ensures.good in
    search (rules, reason)
