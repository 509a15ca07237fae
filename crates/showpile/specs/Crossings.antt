-- How a frame crosses the pile.
use Rattle.std.specs.Prelude.{List, [], ◌∷◌, Ok}
use Rattle.loads.specs.declared.frames.Frame.{Frame}
use Rattle.channel.specs.declared.polls.Poll.TheVariants.{Empty, Still, Arrived, Lost}
use Rattle.channel.specs.declared.rows.Used.{Used}
use Rattle.channel.specs.declared.rows.Used.TheVariants.{Put, Poll as Polled}

-- a frame that the rain loses once: it moves along the hop, is lost, is put again, moves along and
-- arrives
abbrev pub lost_once : {T : Type 0} → Frame T → List (Used T)
lost_once frame =
    Put frame (Ok tt) ∷ Polled Still ∷ Polled Lost
    ∷ Put frame (Ok tt) ∷ Polled Still ∷ Polled (Arrived frame) ∷ Polled Empty ∷ []
