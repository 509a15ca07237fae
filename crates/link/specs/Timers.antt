-- The most repeats of a link, and the timer question.
use Rattle.std.specs.Prelude.{ℕ, ◌*◌, if◌then◌else◌, Ok, Err, Result, nat_le, nat_lt}
use Rattle.link.specs.declared.timers.TimerRefusal.{TimerRefusal}
use Rattle.link.specs.declared.timers.TimerRefusal.TheVariants.{TooManyRepeats, ShortReplyTimer, ShortHutTimer}

-- the most repeats that a link joins with
abbrev pub most_repeats : ℕ
most_repeats = 10

-- the two comparisons, with channels that keep a frame for at most `bound` ticks
abbrev pub timers_fit : ℕ → ℕ → ℕ → ℕ → Result (Unit {0}) TimerRefusal
timers_fit repeats bound t1 t2 =
    if nat_lt most_repeats repeats then Err TooManyRepeats
    else if nat_le t1 (2 * bound) then Err ShortReplyTimer
    else if nat_le t2 (repeats * t1) then Err ShortHutTimer
    else Ok tt
