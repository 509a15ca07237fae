-- A link as plain values: its two ends, what it has told and confirmed, and the frames that wait in its two channels.
use Rattle.std.specs.Prelude.{ℕ, Bool, true, false, List, [], Some, None, Option}
use Rattle.loads.specs.declared.frames.Frame.{Frame}
use Rattle.loads.specs.declared.empties.EmptyLoad.{EmptyLoad}
use Rattle.channel.specs.declared.rules.Channel.{Ghosts}
use Rattle.link.specs.declared.places.SenderPlace.{SenderPlace}
use Rattle.link.specs.declared.places.SenderPlace.TheVariants.{ToSend}
use Rattle.link.specs.declared.places.HutPlace.{HutPlace}
use Rattle.link.specs.declared.places.HutPlace.TheVariants.{AwaitsFrame}
use Rattle.link.specs.declared.words.Word.{Word}

-- the sender: first is whether the next frame is to be marked as the first of its message, armed whether a reply is
-- awaited, lost whether a frame or a reply was lost, toggle the bit that tells the next load from a repeat; rest has the
-- book places that are not yet replied to, tries how often the load at the first was sent
pub record SenderState : Type 0 where
  pub place : SenderPlace
  pub «open» : Bool
  pub first : Bool
  pub armed : Bool
  pub lost : Bool
  pub toggle : Bool
  pub rest : List ℕ
  pub tries : ℕ

-- the hut's end: fresh is whether nothing was told yet, or the load told last was the last of its message, or a break was
-- told since; strict whether toggles are compared; timer is on from a first reply or a break until a new frame arrives or
-- a break becomes due; quiet is whether the sender has parted and the ends have not met since; expected is the toggle of
-- the next new frame, and held the frame that is held
pub record HutState (T : Type 0) : Type 0 where
  pub place : HutPlace
  pub fresh : Bool
  pub strict : Bool
  pub timer : Bool
  pub quiet : Bool
  pub expected : Bool
  pub held : Option (Frame T)

-- the link: channel K leads to the hut, and channel L back; told is how many loads of the last message the hut was told,
-- word how the last message that was confirmed ended; repeats are absent where it is not joined
pub record LinkParts (T K L : Type 0) : Type 0 where
  pub sender : SenderState
  pub hut : HutState T
  pub told : ℕ
  pub word : Option Word
  pub repeats : Option ℕ
  pub to_hut : K
  pub back : L

-- a link with the frames that wait in place of its channels
abbrev pub LinkState : Type 0 → Type 0
LinkState T = LinkParts T (List (Frame T)) (List (Frame EmptyLoad))

-- a link by the frames that wait in its channels
abbrev pub plain : {T K L : Type 0} → Ghosts K T → Ghosts L EmptyLoad → LinkParts T K L → LinkState T
plain k l link = record {
  sender = link.sender;
  hut = link.hut;
  told = link.told;
  word = link.word;
  repeats = link.repeats;
  to_hut = k.waiting link.to_hut;
  back = l.waiting link.back;
}

-- the ends at the start
abbrev pub sender_start : SenderState
sender_start = record {
  place = ToSend;
  «open» = false;
  first = true;
  armed = false;
  lost = false;
  toggle = false;
  rest = [];
  tries = 0;
}

abbrev pub hut_start : {T : Type 0} → HutState T
hut_start = record {
  place = AwaitsFrame;
  fresh = true;
  strict = false;
  timer = false;
  quiet = false;
  expected = false;
  held = None;
}

-- a link as it is made over two channels, not joined
abbrev pub new_link : {T K L : Type 0} → K → L → LinkParts T K L
new_link to_hut back = record {
  sender = sender_start;
  hut = hut_start;
  told = 0;
  word = None;
  repeats = None;
  to_hut = to_hut;
  back = back;
}

-- and as it joined
abbrev pub joined_link : {T K L : Type 0} → ℕ → K → L → LinkParts T K L
joined_link repeats to_hut back = record (new_link to_hut back) { repeats = Some repeats }

-- a link as it joined, by the frames that wait in its channels: none
abbrev pub started : {T : Type 0} → ℕ → LinkState T
started repeats = joined_link repeats [] []
