-- A history: the calls that were made on a link since it joined, with their answers, oldest first.
use Rattle.std.specs.Prelude.{◌≡◌, ℕ, ◌≤◌, List, [], ◌∷◌, Ok, Result}
use Rattle.link.specs.declared.events.Answer.{Answer}
use Rattle.link.specs.declared.events.Answer.TheVariants.{Polled}
use Rattle.link.specs.declared.events.Event.{Event}
use Rattle.link.specs.declared.refusals.LinkRefusal.{LinkRefusal}
use Rattle.link.specs.declared.words.Heard.{Heard}
use Rattle.link.specs.declared.words.Heard.TheVariants.{Still}
use Rattle.link.specs.Calls.{made}
use Rattle.link.specs.Effects.{Effect}
use Rattle.link.specs.States.{LinkState, started}
use Rattle.link.specs.Timers.{most_repeats}

module _ {T : Type 0} where
  -- what the channel chose, by the answer of a poll; for any other call the value is not used
  abbrev pub choice : Result (Answer T) LinkRefusal → Heard
  choice (Ok (Polled heard)) = heard
  choice answer = Still

  -- what the call of an event comes to
  abbrev pub effect_of : List T → Event T → LinkState T → Effect T (Answer T)
  effect_of book event link = made book (choice event.answer) event.call link

  -- an event leads from a link to another: its answer and that link are what the call comes to
  pub record EventLeads (book : List T) (before : LinkState T) (event : Event T) (after : LinkState T) : Type 0 where
    pub answers : event.answer ≡ (effect_of book event before).answer
    pub leaves : after ≡ (effect_of book event before).after

  -- events one after another
  abbrev pub EventsLead : List T → LinkState T → List (Event T) → LinkState T → Type 0
  EventsLead book before [] after = after ≡ before
  EventsLead book before (event ∷ events) after =
      (between : LinkState T) × EventLeads book before event between × EventsLead book between events after

  -- a history leads to a link: from a join with these repeats on, over one book
  abbrev pub HistoryLeads : List T → ℕ → List (Event T) → LinkState T → Type 0
  HistoryLeads book repeats history link = (repeats ≤ most_repeats) × EventsLead book (started repeats) history link
