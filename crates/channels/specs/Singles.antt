-- A channel with room for one frame, which neither delays nor loses it.
use Rattle.std.specs.Prelude.{◌≡◌, List, [], ◌∷◌, ⊤}
use Rattle.loads.specs.declared.frames.Frame.{Frame}
use Rattle.channel.specs.declared.polls.Poll.{Poll}
use Rattle.channel.specs.declared.polls.Poll.TheVariants.{Empty, Arrived}
use Rattle.channel.specs.declared.rules.Channel.{Ghosts}

module _ {T : Type 0} where
  -- its poll: the oldest frame arrives, if one waits
  abbrev pub arrival : List (Frame T) → Poll T
  arrival [] = Empty
  arrival (oldest ∷ others) = Arrived oldest

  -- all that such a channel says of itself, by what waits in it
  abbrev pub singles : {C : Type 0} → (C → List (Frame T)) → Ghosts C T
  singles waits = record {
    waiting = waits;
    puts = λ _ _ _. ⊤;
    polls = λ before answer _. answer ≡ arrival (waits before);
  }

  -- all that a store says of itself: it is seen as the frames that wait
  abbrev pub stores : Ghosts (List (Frame T)) T
  stores = singles (λ frames. frames)
