use Rattle.std.proofs.Common.{◌≡◌}
use Rattle.std.specs.Fn.{iterate}
use Rattle.pace.specs.Links.{counts_all}
use Rattle.pace.specs.Repeats.{next, requests_made}
use Rattle.pace.proofs.requests.send_loads.Given as goal

abbrev pub invariant-loop : goal.invariant-loop
invariant-loop l = record {
  chance : l.chance ≡ iterate next l.counter 1;
  made : l.link ≡ counts_all (requests_made l.loads l.counter) l.fn.link;
}
