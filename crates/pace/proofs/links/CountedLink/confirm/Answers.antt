use Rattle.std.proofs.Common.{◌∙◌, refl, sym}
use Rattle.loads.specs.declared.readings.Reading.{Reading}
use Rattle.link.specs.declared.calls.Call.TheVariants as call
use Rattle.link.specs.declared.events.Answer.{Answer}
use Rattle.link.specs.declared.events.Answer.TheVariants.{Confirmed}
use Rattle.link.specs.declared.words.Word.{Word}
use Rattle.link.specs.Calls.{shown}
use Rattle.pace.specs.Tallies.{added, word_number}
use Rattle.pace.proofs.Counts.{step_counts, value_taken, none_taken}
use Rattle.pace.proofs.links.CountedLink.confirm.Goals as goal

abbrev show : Word → Answer Reading
show = Confirmed

pub returns-in-Some : goal.returns-in-Some
returns-in-Some c =
    let taken = sym c.take.ensures.answer ∙ c.in-Some.is in
    let tallied = c.add.ensures.after ∙ (λ i. added (c.number.ensures.answer i) (c.take.ensures.after i)) ∙ value_taken show (word_number) (λ shown tally. refl) c.confirm.result c.in-Some.word _ taken in
    record { after = step_counts call.Confirm (shown show c.confirm.result) (c.confirm.ensures.step c.self.inside.book.now) tallied c.self.view_is }

pub returns-in_default : goal.returns-in_default
returns-in_default c =
    let taken = sym c.take.ensures.answer ∙ c.in_default.is in
    let tallied = c.take.ensures.after ∙ none_taken show c.confirm.result _ taken in
    record { after = step_counts call.Confirm (shown show c.confirm.result) (c.confirm.ensures.step c.self.inside.book.now) tallied c.self.view_is }
