-- What each call does with the sender.
use Rattle.std.specs.Prelude.{ℕ, ◌+◌, ◌%◌, ◌^◌, Bool, true, false, not, ◌&&◌, ◌||◌, if◌then◌else◌, List, [], ◌∷◌, drop, Ok, Err, Result, None, Option, ok_or, ◌==◌, nat_le, nat_lt}
use Rattle.std.specs.List.{slice_get, range_with_len}
use Rattle.loads.specs.declared.frames.Frame.{Frame}
use Rattle.link.specs.declared.places.SenderPlace.{SenderPlace}
use Rattle.link.specs.declared.places.SenderPlace.TheVariants.{ToSend, AwaitsReply, ToConfirm, ToPart, ToMeet}
use Rattle.link.specs.declared.places.SenderEvent.{SenderEvent}
use Rattle.link.specs.declared.places.SenderEvent.TheVariants.{Send, Retry, Abandon, Confirm, Part}
use Rattle.link.specs.declared.refusals.LinkRefusal.{LinkRefusal}
use Rattle.link.specs.declared.refusals.LinkRefusal.TheVariants.{MessageOpen, BadCount, BeyondBook, NotDue, NoLoad}
use Rattle.link.specs.declared.words.Word.{Word}
use Rattle.link.specs.declared.words.Word.TheVariants as word
use Rattle.link.specs.Changes.{Change, next_if, ◌>>=◌}
use Rattle.link.specs.States.{SenderState}

-- whether no place is left
abbrev pub is_done : List ℕ → Bool
is_done [] = true
is_done places = false

-- whether exactly one is
abbrev pub is_lone : List ℕ → Bool
is_lone (place ∷ []) = true
is_lone places = false

-- one more, in 32 bits
abbrev pub more : ℕ → ℕ
more count = (count + 1) % 2 ^ 32

-- where an event leads from a place, if it is due there
abbrev pub next_place : SenderPlace → SenderEvent → SenderState → Result SenderPlace LinkRefusal
next_place ToSend Send sender = next_if sender.«open» AwaitsReply
next_place ToSend Abandon sender = next_if sender.«open» ToConfirm
next_place place Retry sender = next_if (sender.armed && sender.lost) ToSend
next_place ToConfirm Confirm sender = Ok (if is_done sender.rest then ToSend else ToPart)
next_place ToPart Part sender = Ok ToMeet
next_place place event sender = Err NotDue

-- the most loads of a message
abbrev pub most_loads : ℕ
most_loads = 4096

-- request: `loads` is how many the book has
abbrev pub request : ℕ → ℕ → ℕ → SenderState → Change SenderState (Unit {0})
request loads start count sender =
    if sender.«open» then Err MessageOpen
    else if count == 0 || nat_lt most_loads count then Err BadCount
    else if nat_lt loads (start + count) then Err BeyondBook
    else Ok (tt, record sender { «open» = true; rest = range_with_len start count })

-- the book's load at the first of these places
abbrev pub first_load : {T : Type 0} → List T → List ℕ → Option T
first_load book [] = None
first_load book (place ∷ others) = slice_get book place

-- the frame that carries a load
abbrev pub frame_of : {T : Type 0} → SenderState → T → Frame T
frame_of sender load = record { first = sender.first; last = is_lone sender.rest; toggle = sender.toggle; load = load }

-- send: the frame that is put, and the sender after an accepted put
abbrev pub send : {T : Type 0} → List T → SenderState → Change SenderState (Frame T)
send book sender = do
  place ← next_place sender.place Send sender
  load ← ok_or (first_load book sender.rest) NoLoad
  Ok (frame_of sender load, record sender { place = place; armed = true; tries = more sender.tries })

-- a frame or a reply was lost
abbrev pub missed : SenderState → SenderState
missed sender = record sender { lost = true }

-- a reply arrived: the sender is to confirm after the last load, else to send the next
abbrev pub replied : SenderState → SenderState
replied sender =
    if is_lone sender.rest
    then record sender { place = ToConfirm; first = true; armed = false; toggle = not sender.toggle; rest = drop 1 sender.rest }
    else record sender {
      place = ToSend;
      first = false;
      armed = false;
      toggle = not sender.toggle;
      rest = drop 1 sender.rest;
      tries = 0;
    }

-- retry: where the repeats are used up, there is nothing left but to confirm
abbrev pub retry : ℕ → SenderState → Change SenderState (Unit {0})
retry repeats sender = do
  place ← next_place sender.place Retry sender
  Ok (tt, record sender { place = if nat_le sender.tries repeats then place else ToConfirm; armed = false; lost = false })

-- abandon
abbrev pub abandon : SenderState → Change SenderState (Unit {0})
abandon sender = do
  place ← next_place sender.place Abandon sender
  Ok (tt, record sender { place = place })

-- the word of a message
abbrev pub word_of : SenderState → Word
word_of sender =
    if is_done sender.rest then word.Ok
    else if is_lone sender.rest && not (sender.tries == 0) then word.DontKnow
    else word.NotOk

-- confirm
abbrev pub confirm : SenderState → Change SenderState Word
confirm sender = do
  place ← next_place sender.place Confirm sender
  Ok (word_of sender, record sender { place = place; «open» = false; rest = []; tries = 0 })

-- part
abbrev pub part : SenderState → Change SenderState (Unit {0})
part sender = do
  place ← next_place sender.place Part sender
  Ok (tt, record sender { place = place; first = true; toggle = not sender.toggle })

-- meet
abbrev pub met : SenderState → SenderState
met sender = record sender { place = ToSend }
