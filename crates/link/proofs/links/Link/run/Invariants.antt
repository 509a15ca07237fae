use Rattle.std.proofs.Common.{◌≡◌, map, take, drop}
use Rattle.link.specs.Runs.{Runs, call_of}
use Rattle.link.proofs.links.Link.run.Given as goal

abbrev pub invariant-loop-i : goal.invariant-loop-i
invariant-loop-i g l = record {
  called : map call_of (take l.i l.log) ≡ take l.i l.calls;
  later : drop l.i l.log ≡ drop l.i l.initial.log;
  open_answers : Runs g.K.Channel g.L.Channel l.initial.book l.initial.self (take l.i l.log) l.self;
}
