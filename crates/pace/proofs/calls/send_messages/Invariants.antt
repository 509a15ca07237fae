use Rattle.std.proofs.Common.{◌≡◌}
use Rattle.pace.specs.Links.{counts_all}
use Rattle.pace.specs.Repeats.{calls_made}
use Rattle.pace.proofs.calls.send_messages.Given as goal

abbrev pub invariant-loop-round : goal.invariant-loop-round
invariant-loop-round l = l.link ≡ counts_all (calls_made l.round) l.fn.link
