-- What a call of a link comes to: its answer, the link after, and how it uses each channel.
use Rattle.std.specs.Prelude.{List, [], ◌∷◌, Ok, Err, Result}
use Rattle.loads.specs.declared.frames.Frame.{Frame}
use Rattle.loads.specs.declared.empties.EmptyLoad.{EmptyLoad}
use Rattle.channel.specs.declared.polls.Poll.{Poll}
use Rattle.channel.specs.declared.polls.Poll.TheVariants as poll
use Rattle.channel.specs.declared.rows.Used.{Used}
use Rattle.channel.specs.declared.rows.Used.TheVariants as used
use Rattle.link.specs.declared.refusals.LinkRefusal.{LinkRefusal}
use Rattle.link.specs.declared.refusals.LinkRefusal.TheVariants.{NothingWaits}
use Rattle.link.specs.declared.words.Heard.{Heard}
use Rattle.link.specs.declared.words.Heard.TheVariants.{Still, Arrived, Lost}
use Rattle.link.specs.Changes.{Change, answer_of, after_of}
use Rattle.link.specs.States.{LinkState}

-- `to_hut` and `back` are the uses of channel K and of channel L, in order
pub record Effect (T X : Type 0) : Type 0 where
  pub answer : Result X LinkRefusal
  pub after : LinkState T
  pub to_hut : List (Used T)
  pub back : List (Used EmptyLoad)

-- a call that uses neither channel, and leaves the link changed only if it is accepted
abbrev pub alone : {T X : Type 0} → LinkState T → Change (LinkState T) X → Effect T X
alone link gives = record { answer = answer_of gives; after = after_of link gives; to_hut = []; back = [] }

-- what a channel answers to a poll: EMPTY where nothing waits, or else what it chooses for the oldest frame
abbrev pub polled : {T : Type 0} → Heard → List (Frame T) → Poll T
polled heard [] = poll.Empty
polled Still (oldest ∷ others) = poll.Still
polled Arrived (oldest ∷ others) = poll.Arrived oldest
polled Lost (oldest ∷ others) = poll.Lost

-- what a link answers to it
abbrev pub heard_of : {T : Type 0} → Poll T → Result Heard LinkRefusal
heard_of poll.Empty = Err NothingWaits
heard_of poll.Still = Ok Still
heard_of (poll.Arrived frame) = Ok Arrived
heard_of poll.Lost = Ok Lost

-- the poll of a call with this answer of the channel, unless the call is turned down before it polls
abbrev pub polls : {T : Type 0} → Result (Poll T) LinkRefusal → List (Used T)
polls (Ok answer) = used.Poll answer ∷ []
polls (Err why) = []
