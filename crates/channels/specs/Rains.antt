-- A rain: how it is made, and what it does by mark.
use Rattle.std.specs.Prelude.{◌≡◌, ℕ, Bool, true, false, List, Ok, Err, Result, Some, None, Option}
use Rattle.loads.specs.declared.frames.Frame.{Frame}
use Rattle.channel.specs.declared.polls.Poll.{Poll}
use Rattle.channel.specs.declared.polls.Poll.TheVariants.{Empty, Still, Arrived, Lost}
use Rattle.channel.specs.declared.rules.Channel.{Ghosts}
use Rattle.channel.specs.Channels.{Puts, Polls}
use Rattle.channel.specs.Rules.{held}
use Rattle.channels.specs.declared.marks.Mark.{Mark}
use Rattle.channels.specs.declared.marks.Mark.TheVariants.{Pass, Lose, Delay}
use Rattle.channels.specs.declared.rains.BadMarks.{BadMarks}
use Rattle.channels.specs.Marks.{marks_read, marks_kept, next_mark, later_marks}

-- a rain as plain values: the channel below, the mark of the frame that waits, the marks of the frames to come
pub record RainState (C : Type 0) : Type 0 where
  pub below : C
  pub mark : Mark
  pub ahead : List Mark

-- an answer under Lose: what arrives is lost
abbrev pub lossy : {T : Type 0} → Poll T → Poll T
lossy Empty = Empty
lossy Still = Still
lossy (Arrived frame) = Lost
lossy Lost = Lost

-- making a rain, if its marks are such as it takes: a frame that waits below has Pass, and all the marks are ahead;
-- refused, the channel comes back
abbrev pub rain_over : {C : Type 0} → C → Option (List Mark) → Result (RainState C) (BadMarks C)
rain_over below (Some marks) = Ok (record { below = below; mark = Pass; ahead = marks })
rain_over below None = Err (record { below = below })

-- by octets
abbrev pub rain_of : {C : Type 0} → C → List ℕ → Result (RainState C) (BadMarks C)
rain_of below octets = rain_over below (marks_read octets)

-- by marks
abbrev pub rain_of_marks : {C : Type 0} → C → List Mark → Result (RainState C) (BadMarks C)
rain_of_marks below marks = rain_over below (marks_kept marks)

-- by what the channel below is known to do
module _ {T C : Type 0} (below : Ghosts C T) where
  -- a put goes below, and what is left there is `after`'s. By whether a frame waits: refused, it takes no mark;
  -- accepted, it takes the next
  abbrev pub RainPuts : Bool → RainState C → Frame T → RainState C → Type 0
  RainPuts true before frame after =
      Puts below before.below frame after.below
      × (after ≡ record { below = after.below; mark = before.mark; ahead = before.ahead })
  RainPuts false before frame after =
      Puts below before.below frame after.below
      × (after ≡ record { below = after.below; mark = next_mark before.ahead; ahead = later_marks before.ahead })

  -- a poll, by the mark and by whether a frame waits
  abbrev pub RainPolls : Mark → Bool → RainState C → Poll T → RainState C → Type 0
  RainPolls Pass holding before answer after =
      Polls below before.below answer after.below
      × (after ≡ record { below = after.below; mark = Pass; ahead = before.ahead })
  RainPolls Lose holding before answer after =
      ((heard : Poll T) × Polls below before.below heard after.below × (answer ≡ lossy heard))
      × (after ≡ record { below = after.below; mark = Lose; ahead = before.ahead })
  RainPolls Delay true before answer after =
      (answer ≡ Still) × (after ≡ record { below = before.below; mark = Pass; ahead = before.ahead })
  RainPolls Delay false before answer after = (answer ≡ Empty) × (after ≡ before)

  -- all that a rain says of itself
  abbrev pub rains : Ghosts (RainState C) T
  rains = record {
    waiting = λ rain. below.waiting rain.below;
    puts = λ before frame after. RainPuts (held (below.waiting before.below)) before frame after;
    polls = λ before answer after. RainPolls before.mark (held (below.waiting before.below)) before answer after;
  }
