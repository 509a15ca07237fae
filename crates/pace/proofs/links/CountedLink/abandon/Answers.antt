use Rattle.std.proofs.Common.{◌∙◌}
use Rattle.link.specs.declared.calls.Call.TheVariants as call
use Rattle.link.specs.declared.events.Answer.TheVariants.{Done}
use Rattle.link.specs.Calls.{shown}
use Rattle.pace.proofs.Counts.{step_counts, done_taken}
use Rattle.pace.proofs.links.CountedLink.abandon.Goals as goal

pub returns : goal.returns
returns c =
    let tallied = c.take.ensures.after ∙ done_taken c.abandon.result _ in
    record { after = step_counts call.Abandon (shown (λ _. Done) c.abandon.result) (c.abandon.ensures.step c.self.inside.book.now) tallied c.self.view_is }
