-- A new link that joins over two channels and then makes a list of calls.
use Rattle.std.specs.Prelude.{ℕ, List, fold, Result}
use Rattle.link.specs.declared.events.Event.{Event}
use Rattle.link.specs.declared.refusals.LinkRefusal.{LinkRefusal}
use Rattle.link.specs.Calls.{join}
use Rattle.link.specs.Changes.{◌>>=◌}
use Rattle.link.specs.Histories.{effect_of}
use Rattle.link.specs.Runs.{run_answer}
use Rattle.link.specs.States.{LinkState}

module _ {T : Type 0} where
  -- the answer, for so many calls and a log for so many events: that of the join, or where that is accepted that of the run
  abbrev pub joined_run_answer : ℕ → LinkState T → ℕ → ℕ → Result (Unit {0}) LinkRefusal
  joined_run_answer repeats link calls log = (join repeats link).answer >>= λ _. run_answer calls log

  -- what events leave of a link, one after another
  abbrev pub left_by : List T → LinkState T → List (Event T) → LinkState T
  left_by book before events = fold (λ link event. (effect_of book event link).after) before events
