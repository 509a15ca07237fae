-- The channel rule: what put, poll and holds answer and leave, by the frames that wait, oldest first.
use Rattle.std.specs.Prelude.{◌≡◌, Bool, true, false, List, [], ◌∷◌, drop, Ok, Err, Result, ⊤}
use Rattle.loads.specs.declared.frames.Frame.{Frame}
use Rattle.channel.specs.declared.polls.Poll.{Poll}
use Rattle.channel.specs.declared.polls.Poll.TheVariants.{Empty, Still, Arrived, Lost}
use Rattle.channel.specs.declared.refusals.Full.{Full}

module _ {T : Type 0} where
  -- a put is accepted where nothing waits
  abbrev pub put_answer : List (Frame T) → Result (Unit {0}) Full
  put_answer [] = Ok tt
  put_answer waiting = Err (record {})

  -- an accepted put leaves the frame as the only one; a refused one leaves what waited
  abbrev pub put_leaves : List (Frame T) → Frame T → List (Frame T)
  put_leaves [] frame = frame ∷ []
  put_leaves waiting frame = waiting

  -- what a poll may answer: Empty where nothing waits; else Still, Arrived with the oldest, or Lost
  abbrev pub IsAllowed : List (Frame T) → Poll T → Type 0
  IsAllowed [] Empty = ⊤
  IsAllowed (oldest ∷ others) Still = ⊤
  IsAllowed (oldest ∷ others) (Arrived frame) = frame ≡ oldest
  IsAllowed (oldest ∷ others) Lost = ⊤
  IsAllowed waiting answer = ⊥

  -- the oldest leaves where it arrived or was lost; else what waited stays
  abbrev pub poll_leaves : List (Frame T) → Poll T → List (Frame T)
  poll_leaves waiting (Arrived frame) = drop 1 waiting
  poll_leaves waiting Lost = drop 1 waiting
  poll_leaves waiting answer = waiting

  -- whether a frame waits
  abbrev pub held : List (Frame T) → Bool
  held [] = false
  held waiting = true
