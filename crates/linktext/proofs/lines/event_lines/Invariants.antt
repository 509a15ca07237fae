use Rattle.std.proofs.Common.{◌≡◌, string_bytes, take}
use Rattle.linktext.specs.Lines.{event_lines as lines_of}
use Rattle.linktext.proofs.lines.event_lines.Given as goal

abbrev pub invariant-loop-event : goal.invariant-loop-event
invariant-loop-event g l = string_bytes l.lines ≡ lines_of g.T.Load (take l.event-index l.events)
