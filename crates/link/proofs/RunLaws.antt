-- Histories and runs, one after another.
use Rattle.std.proofs.Common.{◌≡◌, List, [], ◌∷◌, ◌++◌, refl, ap, ◌∙◌}
use Rattle.loads.specs.declared.empties.EmptyLoad.{EmptyLoad}
use Rattle.channel.specs.declared.rules.Channel.{Ghosts}
use Rattle.link.specs.declared.events.Event.{Event}
use Rattle.link.specs.Histories.{EventsLead}
use Rattle.link.specs.JoinedRuns.{left_by}
use Rattle.link.specs.Runs.{Steps, Runs}
use Rattle.link.specs.States.{LinkState, LinkParts, plain}

-- a history and then another
pub lead_on : {T : Type 0} (book : List T) (before between after : LinkState T) (events more : List (Event T)) → EventsLead book before events between
    → EventsLead book between more after → EventsLead book before (events ++ more) after
lead_on book before between after [] more leads then = rw leads at then
lead_on book before between after (event ∷ events) more (next, stepped, leads) then =
    (next, stepped, lead_on book next between after events more leads then)

-- what a history's events leave is where they lead
pub events_leave : {T : Type 0} (book : List T) (before after : LinkState T) (events : List (Event T)) → EventsLead book before events after
    → after ≡ left_by book before events
events_leave book before after [] leads = leads
events_leave book before after (event ∷ events) (between, first, leads) =
    events_leave book between after events leads ∙ ap (λ link. left_by book link events) first.leaves

module _ {T K L : Type 0} (k : Ghosts K T) (l : Ghosts L EmptyLoad) (book : List T) where
  -- a run and then one call
  pub runs_push : (before between after : LinkParts T K L) (events : List (Event T)) (event : Event T) → Runs k l book before events between
      → Steps k l book between event after → Runs k l book before (events ++ event ∷ []) after
  runs_push before between after [] event runs made = (after, rw runs at made, refl)
  runs_push before between after (first ∷ events) event (next, stepped, runs) made =
      (next, stepped, runs_push next between after events event runs made)

  -- a run is a history
  pub runs_lead : (before after : LinkParts T K L) (events : List (Event T)) → Runs k l book before events after
      → EventsLead book (plain k l before) events (plain k l after)
  runs_lead before after [] runs = ap (plain k l) runs
  runs_lead before after (event ∷ events) (next, made, runs) = (plain k l next, made.leads, runs_lead next after events runs)
