use Rattle.std.proofs.Common.{ap, sym, ◌∙◌}
use Rattle.pace.specs.Links.{counts, counts_all}
use Rattle.pace.specs.Repeats.{message_calls}
use Rattle.pace.proofs.Rounds.{rounds_more}
use Rattle.pace.proofs.calls.send_messages.Goals as goal

pub loop-round-preserved : goal.loop-round-preserved
loop-round-preserved c =
    c.send_message.ensures.after
    ∙ ap (counts_all (message_calls c.loop-round.round)) c.loop-round.invariant
    ∙ sym (rounds_more counts message_calls c.loop-round.round c.args.link.now)
