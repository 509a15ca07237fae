use Rattle.std.proofs.Common.{◌∙◌}
use Rattle.link.specs.declared.calls.Call.TheVariants as call
use Rattle.link.specs.declared.events.Answer.TheVariants.{Polled}
use Rattle.link.specs.Calls.{shown}
use Rattle.pace.proofs.Counts.{step_counts, polled_taken}
use Rattle.pace.proofs.links.CountedLink.return_reply.Goals as goal

pub returns : goal.returns
returns c =
    let tallied = c.take.ensures.after ∙ polled_taken c.return_reply.result _ in
    record { after = step_counts call.Return (shown Polled c.return_reply.result) (c.return_reply.ensures.step c.self.inside.book.now) tallied c.self.view_is }
