-- What each call does with the hut's end.
use Rattle.std.specs.Prelude.{Bool, true, false, not, ◌&&◌, if◌then◌else◌, Ok, Err, Result, Some, ok_or}
use Rattle.std.specs.Bool.{beq}
use Rattle.loads.specs.declared.frames.Frame.{Frame}
use Rattle.loads.specs.declared.empties.EmptyLoad.{EmptyLoad}
use Rattle.link.specs.declared.places.HutPlace.{HutPlace}
use Rattle.link.specs.declared.places.HutPlace.TheVariants.{AwaitsFrame, ToTell, ToReply, ToReplyAgain, ToTellBreak}
use Rattle.link.specs.declared.words.Position.{Position}
use Rattle.link.specs.declared.words.Position.TheVariants as position
use Rattle.link.specs.declared.places.HutEvent.{HutEvent}
use Rattle.link.specs.declared.places.HutEvent.TheVariants.{Arrive, Tell, Reply, Break, Meet}
use Rattle.link.specs.declared.refusals.LinkRefusal.{LinkRefusal}
use Rattle.link.specs.declared.refusals.LinkRefusal.TheVariants.{NotDue}
use Rattle.link.specs.Changes.{Change, next_if, ◌>>=◌, after_of}
use Rattle.link.specs.States.{HutState}

-- whether a reply from this place starts the timer: from SA, and not from RTS
abbrev pub starts_timer : HutPlace → Bool
starts_timer ToReply = true
starts_timer place = false

module _ {T : Type 0} where
  -- the position of a frame's load in its message
  abbrev pub position_of : Frame T → Position
  position_of frame =
      if frame.last then position.Ok
      else if frame.first then position.First
      else position.Incomplete

  -- the reply to a frame: its bits with the empty load
  abbrev pub reply_to : Frame T → Frame EmptyLoad
  reply_to frame = record { first = frame.first; last = frame.last; toggle = frame.toggle; load = record {} }

  -- where an event leads from a place, if it is due there
  abbrev pub next_place : HutPlace → HutEvent → HutState T → Result HutPlace LinkRefusal
  next_place AwaitsFrame Arrive hut = Ok ToTell
  next_place ToTell Tell hut = Ok ToReply
  next_place ToReply Reply hut = Ok AwaitsFrame
  next_place ToReplyAgain Reply hut = Ok AwaitsFrame
  next_place ToTellBreak Break hut = Ok AwaitsFrame
  next_place AwaitsFrame Meet hut = next_if hut.quiet AwaitsFrame
  next_place place event hut = Err NotDue

  -- whether a frame that arrives is a repeat: toggles are compared only while strict is on
  abbrev pub is_repeat : HutState T → Frame T → Bool
  is_repeat hut frame = hut.strict && not (beq frame.toggle hut.expected)

  -- a frame arrives: it is held where one is awaited; a new one is to be told, and a repeat to be replied to again
  abbrev pub arrive : HutState T → Frame T → Change (HutState T) (Unit {0})
  arrive hut frame = do
    place ← next_place hut.place Arrive hut
    Ok (
      tt,
      if is_repeat hut frame
          then record hut { place = ToReplyAgain; held = Some frame }
          else record hut { place = place; timer = false; held = Some frame },
    )

  -- what a frame that arrives leaves of the end
  abbrev pub arrived : HutState T → Frame T → HutState T
  arrived hut frame = after_of hut (arrive hut frame)

  -- tell; an end at this place holds a frame
  abbrev pub tell : HutState T → Change (HutState T) (Position × T)
  tell hut = do
    place ← next_place hut.place Tell hut
    frame ← ok_or hut.held NotDue
    Ok (
      (position_of frame, frame.load),
      record hut { place = place; fresh = frame.last; strict = true; expected = not frame.toggle },
    )

  -- reply: the frame that is put, and the end after an accepted put; an end at these places holds a frame
  abbrev pub reply : HutState T → Change (HutState T) (Frame EmptyLoad)
  reply hut = do
    place ← next_place hut.place Reply hut
    frame ← ok_or hut.held NotDue
    Ok (reply_to frame, record hut { place = place; timer = if starts_timer hut.place then true else hut.timer })

  -- part: with the timer on, toggles are no longer compared, and a message that was told in part is to be broken
  abbrev pub parted : HutState T → HutState T
  parted hut =
      if not hut.timer then record hut { quiet = true }
      else if hut.fresh then record hut { strict = false; quiet = true }
      else record hut { place = ToTellBreak; strict = false; timer = false; quiet = true }

  -- break
  abbrev pub tell_break : HutState T → Change (HutState T) (Unit {0})
  tell_break hut = do
    place ← next_place hut.place Break hut
    Ok (tt, record hut { place = place; fresh = true; timer = true })

  -- meet
  abbrev pub meet : HutState T → Change (HutState T) (Unit {0})
  meet hut = do
    place ← next_place hut.place Meet hut
    Ok (tt, record hut { place = place; quiet = false })
