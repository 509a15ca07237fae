-- The refusals of the link and of the timers, by number.
use Rattle.std.specs.Prelude.{ℕ}
use Rattle.link.specs.declared.refusals.LinkRefusal.{LinkRefusal}
use Rattle.link.specs.declared.refusals.LinkRefusal.TheVariants.{AlreadyJoined, TooManyRepeats, ChannelHolds, NotJoined, MessageOpen, BadCount, BeyondBook, NotDue, NoLoad, NothingWaits, ChannelFull, StillOpen, NoneConfirmed, ShortLog}
use Rattle.link.specs.declared.timers.TimerRefusal.{TimerRefusal}
use Rattle.link.specs.declared.timers.TimerRefusal.TheVariants as timer

-- the number of each refusal of the link
abbrev pub number_of : LinkRefusal → ℕ
number_of AlreadyJoined = 1
number_of TooManyRepeats = 2
number_of ChannelHolds = 3
number_of NotJoined = 4
number_of MessageOpen = 5
number_of BadCount = 6
number_of BeyondBook = 7
number_of NotDue = 8
number_of NoLoad = 9
number_of NothingWaits = 10
number_of ChannelFull = 11
number_of StillOpen = 12
number_of NoneConfirmed = 13
number_of ShortLog = 23

-- and of the timers
abbrev pub timer_number : TimerRefusal → ℕ
timer_number timer.TooManyRepeats = 2
timer_number timer.ShortReplyTimer = 24
timer_number timer.ShortHutTimer = 25
