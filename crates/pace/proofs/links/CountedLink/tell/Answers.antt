use Rattle.std.proofs.Common.{◌∙◌, ap, refl, sym}
use Rattle.loads.specs.declared.readings.Reading.{Reading}
use Rattle.link.specs.declared.calls.Call.TheVariants as call
use Rattle.link.specs.declared.events.Answer.{Answer}
use Rattle.link.specs.declared.events.Answer.TheVariants.{Told}
use Rattle.link.specs.declared.words.Position.{Position}
use Rattle.link.specs.Calls.{shown}
use Rattle.pace.specs.Tallies.{added}
use Rattle.pace.proofs.Counts.{step_counts, value_taken, none_taken}
use Rattle.pace.proofs.links.CountedLink.tell.Goals as goal

abbrev show : (Position × Reading) → Answer Reading
show = λ told. Told told.0 told.1

pub returns-in-Some : goal.returns-in-Some
returns-in-Some c =
    let taken = sym c.take.ensures.answer ∙ c.in-Some.is in
    let tallied = c.add.ensures.after ∙ ap (added (c.in-Some.load.value)) c.take.ensures.after ∙ value_taken show (λ (told : Position × Reading). told.1.value) (λ shown tally. refl) c.tell.result (c.in-Some.field-0-0, c.in-Some.load) _ taken in
    record { after = step_counts call.Tell (shown show c.tell.result) (c.tell.ensures.step c.self.inside.book.now) tallied c.self.view_is }

pub returns-in_default : goal.returns-in_default
returns-in_default c =
    let taken = sym c.take.ensures.answer ∙ c.in_default.is in
    let tallied = c.take.ensures.after ∙ none_taken show c.tell.result _ taken in
    record { after = step_counts call.Tell (shown show c.tell.result) (c.tell.ensures.step c.self.inside.book.now) tallied c.self.view_is }
