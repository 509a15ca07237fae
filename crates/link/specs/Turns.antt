-- What an event of a history means for its messages.
use Rattle.std.specs.Prelude.{ℕ, List, map, Ok, Err, Result}
use Rattle.link.specs.declared.calls.Call.{Call}
use Rattle.link.specs.declared.calls.Call.TheVariants as call
use Rattle.link.specs.declared.events.Answer.{Answer}
use Rattle.link.specs.declared.events.Answer.TheVariants.{Done, Polled, Told, Confirmed}
use Rattle.link.specs.declared.events.Event.{Event}
use Rattle.link.specs.declared.refusals.LinkRefusal.{LinkRefusal}
use Rattle.link.specs.declared.words.Heard.{Heard}
use Rattle.link.specs.declared.words.Heard.TheVariants.{Arrived, Lost}
use Rattle.link.specs.declared.words.Position.{Position}
use Rattle.link.specs.declared.words.Word.{Word}

-- what a channel lost: on K a frame, on L a reply
pub data Loss : Type 0 where
  a_frame : Loss
  a_reply : Loss

-- `asks start count` is an accepted request, `sends` an accepted send; `tells` is a load that the hut is told, with its
-- position; `replied` a reply that arrived; `loses` a loss; `gives_up` an accepted abandon; `ends` a confirm with its word;
-- `breaks` and `meets` are an accepted break and meet; `works` is any other accepted call that does not answer STILL, and
-- `nothing` one that does, or one that is turned down
pub data Turn (T : Type 0) : Type 0 where
  asks : ℕ → ℕ → Turn T
  sends : Turn T
  tells : Position → T → Turn T
  replied : Turn T
  loses : Loss → Turn T
  gives_up : Turn T
  ends : Word → Turn T
  breaks : Turn T
  meets : Turn T
  works : Turn T
  nothing : Turn T

module _ {T : Type 0} where
  -- a call that was accepted with nothing to show; each is named, so that none is left out of a law by default
  abbrev pub done_turn : Call → Turn T
  done_turn (call.Request start count) = asks start count
  done_turn call.Send = sends
  done_turn call.Carry = works
  done_turn call.Tell = works
  done_turn call.Reply = works
  done_turn call.Return = works
  done_turn call.Retry = works
  done_turn call.Abandon = gives_up
  done_turn call.Confirm = works
  done_turn call.Part = works
  done_turn call.Break = breaks
  done_turn call.Meet = meets

  -- a call that polled: a carry polls K, and a return polls L; where the answer is STILL, nothing happened
  abbrev pub polled_turn : Call → Heard → Turn T
  polled_turn call.Carry Arrived = works
  polled_turn call.Carry Lost = loses a_frame
  polled_turn call.Return Arrived = replied
  polled_turn call.Return Lost = loses a_reply
  polled_turn call heard = nothing

  -- a call with its answer
  abbrev pub turn : Call → Result (Answer T) LinkRefusal → Turn T
  turn call (Ok Done) = done_turn call
  turn call (Ok (Polled heard)) = polled_turn call heard
  turn call (Ok (Told position load)) = tells position load
  turn call (Ok (Confirmed word)) = ends word
  turn call (Err why) = nothing

  -- a history read so
  abbrev pub turns : List (Event T) → List (Turn T)
  turns history = map (λ event. turn event.call event.answer) history
