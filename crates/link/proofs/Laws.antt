-- The law: what every history keeps, and that events make it longer.
use Rattle.std.proofs.Common.{◌≡◌, ℕ, List, [], ◌∷◌, ◌++◌, Result, refl, ◌∙◌, rules}
use Rattle.std.specs.Prelude.{OnErr}
use Rattle.loads.specs.declared.empties.EmptyLoad.{EmptyLoad}
use Rattle.channel.specs.declared.rules.Channel.{Ghosts}
use Rattle.link.specs.declared.events.Event.{Event}
use Rattle.link.specs.declared.refusals.LinkRefusal.{LinkRefusal}
use Rattle.link.specs.declared.words.Word.{Word}
use Rattle.link.specs.Calls.{outcome}
use Rattle.link.specs.Histories.{EventLeads, EventsLead, HistoryLeads}
use Rattle.link.specs.Laws.{outcome_of}
use Rattle.link.specs.Runs.{Steps, Runs, StaysLawful}
use Rattle.link.specs.States.{LinkState, LinkParts, plain, started}
use Rattle.link.proofs.Moves.{history_lawful, history_outcome}
use Rattle.link.proofs.RunLaws.{lead_on, runs_lead}

-- one event more
pub history_longer : {T : Type 0} (book : List T) (repeats : ℕ) (history : List (Event T)) (before after : LinkState T) (event : Event T)
    → HistoryLeads book repeats history before → EventLeads book before event after → HistoryLeads book repeats (history ++ event ∷ []) after
history_longer book repeats history before after event leads step =
    (leads.0, lead_on book (started repeats) before after history (event ∷ []) leads.1 (after, step, refl))

-- a call that is turned down leaves the link as it was
pub refusal_stays : {T : Type 0} (book : List T) (before after : LinkState T) (event : Event T) → EventLeads book before event after
    → OnErr event.answer (after ≡ before)
refusal_stays book before after event leads = search rules

-- events that lead on keep the law
pub events_lawful : {T : Type 0} (book : List T) (before after : LinkState T) (events : List (Event T)) → EventsLead book before events after
    → StaysLawful book before events after
events_lawful book before after events lead repeats history leads =
    let longer : HistoryLeads book repeats (history ++ events) after =
    (leads.0, lead_on book (started repeats) before after history events leads.1 lead) in
    (longer, history_lawful book repeats (history ++ events) after longer)

module _ {T K L : Type 0} (k : Ghosts K T) (l : Ghosts L EmptyLoad) (book : List T) (before after : LinkParts T K L) where
  pub step_lawful : (event : Event T) → Steps k l book before event after → StaysLawful book (plain k l before) (event ∷ []) (plain k l after)
  step_lawful event steps = events_lawful book (plain k l before) (plain k l after) (event ∷ []) (plain k l after, steps.leads, refl)

  pub runs_lawful : (events : List (Event T)) → Runs k l book before events after → StaysLawful book (plain k l before) events (plain k l after)
  runs_lawful events runs = events_lawful book (plain k l before) (plain k l after) events (runs_lead k l book before after events runs)

pub outcome_told : {T : Type 0} (link : LinkState T) (answer : Result (Word × ℕ) LinkRefusal) → answer ≡ outcome link
    → (book : List T) (repeats : ℕ) (history : List (Event T)) → HistoryLeads book repeats history link → answer ≡ outcome_of history
outcome_told link answer says book repeats history leads = says ∙ history_outcome book repeats history link leads
