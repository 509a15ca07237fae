-- Calls on a link over two channels, with how they use the channels; that they keep the law; and a run's answer, its calls and
-- its log.
use Rattle.std.specs.Prelude.{◌≡◌, ℕ, if◌then◌else◌, nat_lt, List, [], ◌∷◌, ◌++◌, length, take, drop, Ok, Err, Result}
use Rattle.loads.specs.declared.empties.EmptyLoad.{EmptyLoad}
use Rattle.channel.specs.declared.rules.Channel.{Ghosts}
use Rattle.channel.specs.Rows.{RowLeads}
use Rattle.link.specs.declared.calls.Call.{Call}
use Rattle.link.specs.declared.events.Event.{Event}
use Rattle.link.specs.declared.refusals.LinkRefusal.{LinkRefusal}
use Rattle.link.specs.declared.refusals.LinkRefusal.TheVariants.{ShortLog}
use Rattle.link.specs.Histories.{effect_of, EventLeads, HistoryLeads}
use Rattle.link.specs.Laws.{IsLawful}
use Rattle.link.specs.States.{LinkState, LinkParts, plain}

module _ {T K L : Type 0} (k : Ghosts K T) (l : Ghosts L EmptyLoad) (book : List T) where
  -- a link steps by an event: the event leads from the link before to the link after, and each channel is used as the call says
  pub record Steps (before : LinkParts T K L) (event : Event T) (after : LinkParts T K L) : Type 0 where
    pub leads : EventLeads book (plain k l before) event (plain k l after)
    pub to_hut : RowLeads k before.to_hut (effect_of book event (plain k l before)).to_hut after.to_hut
    pub back : RowLeads l before.back (effect_of book event (plain k l before)).back after.back

  -- events one after another
  abbrev pub Runs : LinkParts T K L → List (Event T) → LinkParts T K L → Type 0
  Runs before [] after = after ≡ before
  Runs before (event ∷ events) after = (between : LinkParts T K L) × Steps before event between × Runs between events after

-- every history that leads to the link before goes on with these events to the link after, and the law holds of it
abbrev pub StaysLawful : {T : Type 0} → List T → LinkState T → List (Event T) → LinkState T → Type 0
StaysLawful {T} book before events after =
    (repeats : ℕ) (history : List (Event T)) → HistoryLeads book repeats history before
    → HistoryLeads book repeats (history ++ events) after × IsLawful book repeats (history ++ events)

-- the call of an event
abbrev pub call_of : {T : Type 0} → Event T → Call
call_of event = event.call

-- a run of so many calls, with a log for so many: its answer, and how many it makes
abbrev pub run_answer : ℕ → ℕ → Result (Unit {0}) LinkRefusal
run_answer calls log = if nat_lt log calls then Err ShortLog else Ok tt

abbrev pub run_count : ℕ → ℕ → ℕ
run_count calls log = if nat_lt log calls then 0 else calls

-- by the calls and the log before: what a run has written to the log after, and what is behind that
abbrev pub written : {T : Type 0} → List Call → List (Event T) → List (Event T) → List (Event T)
written calls before after = take (run_count (length calls) (length before)) after

abbrev pub behind : {T : Type 0} → List Call → List (Event T) → List (Event T) → List (Event T)
behind calls before after = drop (run_count (length calls) (length before)) after
