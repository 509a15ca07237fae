-- Calls on a link over two rains, each over a channel that neither delays nor loses: what is answered, by the marks.
use Rattle.std.specs.Prelude.{ℕ, List, [], ◌∷◌, Ok, fold}
use Rattle.loads.specs.declared.empties.EmptyLoad.{EmptyLoad}
use Rattle.loads.specs.declared.frames.Frame.{Frame}
use Rattle.loads.specs.declared.kinds.Load as loads
use Rattle.channel.specs.declared.polls.Poll.TheVariants as poll
use Rattle.channel.specs.declared.rows.Used.{Used}
use Rattle.channel.specs.declared.rows.Used.TheVariants.{Put, Poll}
use Rattle.channel.specs.declared.rules.Channel.{Ghosts}
use Rattle.channels.specs.declared.marks.Mark.{Mark}
use Rattle.channels.specs.declared.marks.Mark.TheVariants.{Pass, Lose, Delay}
use Rattle.channels.specs.Marks.{next_mark, later_marks}
use Rattle.channels.specs.declared.wires.Wire.{Wire}
use Rattle.channels.specs.Rains.{RainState, rains}
use Rattle.channels.specs.Singles.{stores}
use Rattle.channels.specs.Wires.{wires}
use Rattle.link.specs.declared.calls.Call.{Call}
use Rattle.link.specs.declared.calls.Call.TheVariants as call
use Rattle.link.specs.declared.events.Answer.{Answer}
use Rattle.link.specs.declared.events.Event.{Event}
use Rattle.link.specs.declared.words.Heard.{Heard}
use Rattle.link.specs.declared.words.Heard.TheVariants.{Still, Arrived, Lost}
use Rattle.link.specs.Calls.{made}
use Rattle.link.specs.Effects.{Effect}
use Rattle.link.specs.States.{LinkState, LinkParts, plain, started}

-- the marks of a rain: of the frame that waits, and of those to come
pub record RainMarks : Type 0 where
  pub mark : Mark
  pub ahead : List Mark

-- a link and the marks of its two channels
pub record MarkedLink (T : Type 0) : Type 0 where
  pub link : LinkState T
  pub to_hut : RainMarks
  pub back : RainMarks

-- a link that joined with these repeats, over two empty channels, with these marks to come
abbrev pub link_over : {T : Type 0} → ℕ → List Mark → List Mark → MarkedLink T
link_over repeats to_hut back = record {
  link = started repeats;
  to_hut = record { mark = Pass; ahead = to_hut };
  back = record { mark = Pass; ahead = back };
}

-- what becomes of a frame with this mark
abbrev pub heard_by_mark : Mark → Heard
heard_by_mark Pass = Arrived
heard_by_mark Lose = Lost
heard_by_mark Delay = Still

-- a frame is delayed once
abbrev pub delayed_once : Mark → Mark
delayed_once Delay = Pass
delayed_once mark = mark

-- the marks after a channel was used: an accepted put takes the next mark, and a poll delays a frame that waits
abbrev pub marks_after : {T : Type 0} → RainMarks → Used T → RainMarks
marks_after marks (Put frame (Ok done)) = record { mark = next_mark marks.ahead; ahead = later_marks marks.ahead }
marks_after marks (Poll poll.Empty) = marks
marks_after marks (Poll answer) = record marks { mark = delayed_once marks.mark }
marks_after marks used = marks

module _ {T : Type 0} where
  -- what a call hears, if it polls where a frame waits; for any other call the value is not used
  abbrev pub heard_by : Call → MarkedLink T → Heard
  heard_by call.Carry before = heard_by_mark before.to_hut.mark
  heard_by call.Return before = heard_by_mark before.back.mark
  heard_by call before = Still

  -- what a call leaves of the link and of the marks
  abbrev pub marked_after : MarkedLink T → Effect T (Answer T) → MarkedLink T
  marked_after before effect = record {
    link = effect.after;
    to_hut = fold marks_after before.to_hut effect.to_hut;
    back = fold marks_after before.back effect.back;
  }

  -- one call: its event, and what it leaves
  abbrev pub call_by_marks : List T → Call → MarkedLink T → Event T × MarkedLink T
  call_by_marks book call before =
      let effect = made book (heard_by call before) call before.link in
      (record { call = call; answer = effect.answer }, marked_after before effect)

  -- an event before others
  abbrev pub logged : Event T → List (Event T) × MarkedLink T → List (Event T) × MarkedLink T
  logged event (events, after) = (event ∷ events, after)

  -- calls one after another
  abbrev pub calls_by_marks : List T → List Call → MarkedLink T → List (Event T) × MarkedLink T
  calls_by_marks book [] before = ([], before)
  calls_by_marks book (call ∷ calls) before =
      logged (call_by_marks book call before).0 (calls_by_marks book calls (call_by_marks book call before).1)

-- the marks of a rain
abbrev pub rain_marks : {C : Type 0} → RainState C → RainMarks
rain_marks rain = record { mark = rain.mark; ahead = rain.ahead }

-- a link over two rains, as plain values
abbrev pub marked_link_of : {T C D : Type 0} → Ghosts (RainState C) T → Ghosts (RainState D) EmptyLoad
    → LinkParts T (RainState C) (RainState D) → MarkedLink T
marked_link_of k l link = record { link = plain k l link; to_hut = rain_marks link.to_hut; back = rain_marks link.back }

-- a link over a rain over a wire and a rain over a store, as plain values
abbrev pub marked_link : {T : Type 0} → loads.Ghosts T
    → LinkParts T (RainState (Wire T)) (RainState (List (Frame EmptyLoad))) → MarkedLink T
marked_link kind link = marked_link_of (rains (wires kind)) (rains stores) link
