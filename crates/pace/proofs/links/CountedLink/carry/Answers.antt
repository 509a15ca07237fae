use Rattle.std.proofs.Common.{◌∙◌}
use Rattle.link.specs.declared.calls.Call.TheVariants as call
use Rattle.link.specs.declared.events.Answer.TheVariants.{Polled}
use Rattle.link.specs.Calls.{shown}
use Rattle.pace.proofs.Counts.{step_counts, polled_taken}
use Rattle.pace.proofs.links.CountedLink.carry.Goals as goal

pub returns : goal.returns
returns c =
    let tallied = c.take.ensures.after ∙ polled_taken c.carry.result _ in
    record { after = step_counts call.Carry (shown Polled c.carry.result) (c.carry.ensures.step c.self.inside.book.now) tallied c.self.view_is }
