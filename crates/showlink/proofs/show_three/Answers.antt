use Rattle.std.proofs.Common.{◌≡◌, ◌++◌, Ok, ap, ◌∙◌, rules, string_bytes}
use Rattle.channels.specs.Wires.{wire_waits}
use Rattle.loads.specs.Readings.{readings}
use Rattle.frametext.specs.Lines.{line}
use Rattle.link.specs.Calls.{outcome}
use Rattle.link.specs.States.{joined_link}
use Rattle.linktext.specs.Lines.{event_lines, outcome_text}
use Rattle.sheetrun.specs.CallsByMarks.{calls_by_marks, marked_link}
use Rattle.sheetrun.proofs.RunsByMarks.{runs_decided}
use Rattle.showlink.specs.Prints.{three, start, sent, outcome_line, three_lines}
use Rattle.showlink.specs.Sendings.{sendings}
use Rattle.showlink.proofs.show_three.Goals as goal

pub returns : goal.returns
returns g c =
    let (link, log) = c.in-Ok.sent in
    let before = joined_link 2 c.unwrap-to_hut.result c.unwrap-back.result in
    let book : c.in_ok-book.book ≡ three = c.in_ok-book.ensures.cases in
    let begun : marked_link readings before ≡ start = search (rules, c.unwrap-to_hut.ensures, c.unwrap-back.ensures) in
    -- the marks decide what is answered and left
    let decided : (log, marked_link readings link) ≡ sent =
    runs_decided (wire_waits readings) (λ frames. frames) c.in_ok-book.book before link log c.in-Ok.ensures.open_answers
    ∙ ap (λ calls. calls_by_marks c.in_ok-book.book calls (marked_link readings before)) c.in-Ok.ensures.calls
    ∙ ap (λ book. calls_by_marks book sendings (marked_link readings before)) book
    ∙ ap (λ start. calls_by_marks three sendings start) begun in
    let logged : log ≡ sent.0 = ap (λ sent. sent.0) decided in
    let ends : Ok (c.in_ok-word.word, c.in_ok-word.told) ≡ outcome sent.1.link =
    c.in_ok-word.ensures.answer ∙ ap (λ sent. outcome sent.1.link) decided in
    let made : string_bytes c.in_ok-format.field-0 ≡ event_lines readings log ++ line (outcome_text c.in_ok-word.word c.in_ok-word.told) =
    search (rules, c.in_ok-format.ensures.ok, c.in_ok-lines.ensures.made, c.in_ok-last.ensures.made) in
    let printed : string_bytes c.in_ok-format.field-0 ≡ three_lines =
    made ∙ ap (λ log. event_lines readings log ++ line (outcome_text c.in_ok-word.word c.in_ok-word.told)) logged
    ∙ ap (λ ended. event_lines readings sent.0 ++ outcome_line ended) ends in
    record {
      printed = rw (c.as_bytes.ensures.value, printed) at c.in_ok-write_all.ensures.bytes;
      law = rw (book, logged) at c.in-Ok.ensures.law.1;
    }
