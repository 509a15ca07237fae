use Rattle.std.proofs.Common.{◌≡◌, map, take, drop}
use Rattle.channel.specs.Rows.{use_of, RowLeads}
use Rattle.channel.proofs.rows.make_uses.Given as goal

abbrev pub invariant-loop-i : goal.invariant-loop-i
invariant-loop-i g l = record {
  made : map use_of (take l.i l.log) ≡ take l.i l.uses;
  later : drop l.i l.log ≡ drop l.i l.initial.log;
  open_answers : RowLeads g.C.Channel l.initial.channel (take l.i l.log) l.channel;
}
