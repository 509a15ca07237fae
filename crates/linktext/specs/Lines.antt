-- The printed lines of a link: of a call with its answer, and of an outcome.
use Rattle.std.specs.Prelude.{ℕ, List, [], ◌∷◌, ◌++◌, Ok, Err, Result, codes, decimal}
use Rattle.std.specs.List.{flat_map}
use Rattle.loads.specs.declared.kinds.Load.{Ghosts}
use Rattle.loads.specs.Refusals.{answer_number}
use Rattle.link.specs.declared.events.Answer.{Answer}
use Rattle.link.specs.declared.events.Answer.TheVariants.{Done, Polled, Told, Confirmed}
use Rattle.link.specs.declared.events.Event.{Event}
use Rattle.link.specs.declared.refusals.LinkRefusal.{LinkRefusal}
use Rattle.link.specs.declared.words.Word.{Word}
use Rattle.link.specs.Refusals.{number_of}
use Rattle.link.specs.Words.{letter, heard_text, position_text, word_text}
use Rattle.frametext.specs.Hexadecimals.{hexadecimal}
use Rattle.frametext.specs.Lines.{line}

-- by the load kind
module _ {T : Type 0} (kind : Ghosts T) where
  -- a load's octets
  abbrev pub load_text : T → List ℕ
  load_text load = hexadecimal (kind.spelled load)

  -- what an accepted call shows: the answer of a poll, the position and the load that the hut is told, or the word
  abbrev pub shown_text : Result (Answer T) LinkRefusal → List ℕ
  shown_text (Ok Done) = []
  shown_text (Ok (Polled heard)) = codes " " ++ heard_text heard
  shown_text (Ok (Told position load)) = codes " " ++ (position_text position ++ (codes " " ++ load_text load))
  shown_text (Ok (Confirmed word)) = codes " " ++ word_text word
  shown_text (Err why) = []

  -- the letter, the number of the answer, and what is shown
  abbrev pub call_text : Event T → List ℕ
  call_text event =
      letter event.call ∷ (codes " " ++ (decimal (answer_number number_of event.answer) ++ shown_text event.answer))

  -- each call on a line of its own
  abbrev pub event_lines : List (Event T) → List ℕ
  event_lines events = flat_map (λ event. line (call_text event)) events

-- the word of a message, and how many of its loads were told
abbrev pub outcome_text : Word → ℕ → List ℕ
outcome_text word told = codes "outcome " ++ (word_text word ++ (codes " " ++ decimal told))
