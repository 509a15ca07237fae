-- Where a link that joined can stand, as the phases of a message, and what each then knows of it.
use Rattle.std.proofs.Common.{◌≡◌, ℕ, suc, ◌+◌, ◌≤◌, Bool, true, false, ◌||◌, List, [], ◌∷◌, drop, length, Some, Option}
use Rattle.std.specs.Prelude.{◌==◌}
use Rattle.std.specs.List.{slice_get}
use Rattle.loads.specs.declared.frames.Frame.{Frame}
use Rattle.loads.specs.declared.empties.EmptyLoad.{EmptyLoad}
use Rattle.link.specs.declared.places.SenderPlace.{SenderPlace}
use Rattle.link.specs.declared.places.SenderPlace.TheVariants.{ToSend, AwaitsReply, ToConfirm, ToPart, ToMeet}
use Rattle.link.specs.declared.places.HutPlace.{HutPlace}
use Rattle.link.specs.declared.places.HutPlace.TheVariants.{AwaitsFrame, ToTell, ToReply, ToReplyAgain, ToTellBreak}
use Rattle.link.specs.declared.words.Position.{Position}
use Rattle.link.specs.declared.words.Word.{Word}
use Rattle.link.specs.Laws.{positioned}
use Rattle.link.specs.Senders.{is_lone}
use Rattle.link.specs.States.{SenderState, HutState, LinkState}
use Rattle.link.proofs.Watches.{Watch}

-- the loads at places of a book
pub data Rest {T : Type 0} (book : List T) : List ℕ → List T → Type 0 where
  none : Rest book [] []
  next : {place : ℕ} {places : List ℕ} {load : T} {loads : List T} → slice_get book place ≡ Some load → Rest book places loads
      → Rest book (place ∷ places) (load ∷ loads)

-- by strict, expected and the sender's toggle: whether the hut is ahead, which then has told the load that has no reply
pub data Sync : Bool → Bool → Bool → Bool → Type 0 where
  loose : {expected toggle : Bool} → Sync false expected toggle false
  level_on : Sync true true true false
  level_off : Sync true false false false
  ahead_on : Sync true false true true
  ahead_off : Sync true true false true

-- a strict hut that awaits a frame has its timer on
pub data Timed : Bool → Bool → Type 0 where
  untimed : {timer : Bool} → Timed false timer
  timed : Timed true true

-- the hut is ahead only of a load that was sent
pub data Tried : Bool → ℕ → Type 0 where
  unsent : {tries : ℕ} → Tried false tries
  tried : {tries : ℕ} → Tried true (suc tries)

-- what is still to be told
abbrev pub left_of : {T : Type 0} → Bool → Bool → List T → List (Position × T)
left_of false first loads = positioned first loads
left_of true first loads = drop 1 (positioned first loads)

abbrev pub watch : {T : Type 0} → List (Position × T) → ℕ → ℕ → Bool → Watch T
watch left count loss given = record { «open» = true; left = left; count = count; loss = loss; given = given }

abbrev pub sender_at : SenderPlace → Bool → Bool → Bool → Bool → Bool → List ℕ → ℕ → SenderState
sender_at place busy first armed lost toggle rest tries = record {
  place = place;
  «open» = busy;
  first = first;
  armed = armed;
  lost = lost;
  toggle = toggle;
  rest = rest;
  tries = tries;
}

abbrev pub hut_at : {T : Type 0} → HutPlace → Bool → Bool → Bool → Bool → Bool → Option (Frame T) → HutState T
hut_at place fresh strict timer quiet expected held = record {
  place = place;
  fresh = fresh;
  strict = strict;
  timer = timer;
  quiet = quiet;
  expected = expected;
  held = held;
}

-- a message that is closed, or open with nothing of it sent
pub data Opening {T : Type 0} (book : List T) : Bool → List ℕ → Watch T → Type 0 where
  closed : {w : Watch T} → w.«open» ≡ false → Opening book false [] w
  opened : {place : ℕ} {places : List ℕ} {load : T} {loads : List T} → slice_get book place ≡ Some load → Rest book places loads
      → Opening book true (place ∷ places) (watch (positioned true (load ∷ loads)) (suc (length loads)) 0 false)

module _ {T : Type 0} (book : List T) (repeats : ℕ) where
  abbrev pub link_at : SenderState → HutState T → ℕ → Option Word → List (Frame T) → List (Frame EmptyLoad) → LinkState T
  link_at sender hut told word to_hut back = record {
    sender = sender;
    hut = hut;
    told = told;
    word = word;
    repeats = Some repeats;
    to_hut = to_hut;
    back = back;
  }

  abbrev pub frame_at : Bool → Bool → List ℕ → T → Frame T
  frame_at first toggle rest load = record { first = first; last = is_lone rest; toggle = toggle; load = load }

  pub data Phase : LinkState T → Watch T → Type 0 where
    idle : {toggle fresh strict timer expected : Bool} {held : Option (Frame T)} {told : ℕ} {word : Option Word} {w : Watch T}
        → w.«open» ≡ false → Sync strict expected toggle false → Timed strict timer
        → Phase (link_at (sender_at ToSend false true false false toggle [] 0) (hut_at AwaitsFrame fresh strict timer false expected held) told word [] []) w
    ready : {first toggle fresh strict timer expected ahead : Bool} {place tries loss told : ℕ} {places : List ℕ} {load : T} {loads : List T} {held : Option (Frame T)} {word : Option Word}
        → slice_get book place ≡ Some load → Rest book places loads → Sync strict expected toggle ahead → Timed strict timer
        → Tried ahead tries → tries ≡ loss → loss ≤ repeats
        → Phase (link_at (sender_at ToSend true first false false toggle (place ∷ places) tries) (hut_at AwaitsFrame fresh strict timer false expected held) told word [] [])
        (watch (left_of ahead first (load ∷ loads)) (suc (length loads)) loss false)
    going : {first toggle fresh strict timer expected ahead : Bool} {place tries loss told : ℕ} {places : List ℕ} {load : T} {loads : List T} {held : Option (Frame T)} {word : Option Word}
        → slice_get book place ≡ Some load → Rest book places loads → Sync strict expected toggle ahead → Timed strict timer
        → tries ≡ suc loss → loss ≤ repeats
        → Phase (link_at (sender_at AwaitsReply true first true false toggle (place ∷ places) tries) (hut_at AwaitsFrame fresh strict timer false expected held) told word (frame_at first toggle (place ∷ places) load ∷ []) [])
        (watch (left_of ahead first (load ∷ loads)) (suc (length loads)) loss false)
    hearing : {first toggle fresh strict expected : Bool} {place tries loss told : ℕ} {places : List ℕ} {load : T} {loads : List T} {word : Option Word}
        → slice_get book place ≡ Some load → Rest book places loads → Sync strict expected toggle false
        → tries ≡ suc loss → loss ≤ repeats
        → Phase (link_at (sender_at AwaitsReply true first true false toggle (place ∷ places) tries) (hut_at ToTell fresh strict false false expected (Some (frame_at first toggle (place ∷ places) load))) told word [] [])
        (watch (left_of false first (load ∷ loads)) (suc (length loads)) loss false)
    telling : {first toggle fresh strict timer expected : Bool} {place tries loss told : ℕ} {places : List ℕ} {load : T} {loads : List T} {word : Option Word}
        → slice_get book place ≡ Some load → Rest book places loads → Sync strict expected toggle true
        → tries ≡ suc loss → loss ≤ repeats
        → Phase (link_at (sender_at AwaitsReply true first true false toggle (place ∷ places) tries) (hut_at ToReply fresh strict timer false expected (Some (frame_at first toggle (place ∷ places) load))) told word [] [])
        (watch (left_of true first (load ∷ loads)) (suc (length loads)) loss false)
    again : {first toggle fresh strict timer expected : Bool} {place tries loss told : ℕ} {places : List ℕ} {load : T} {loads : List T} {word : Option Word}
        → slice_get book place ≡ Some load → Rest book places loads → Sync strict expected toggle true → Timed strict timer
        → tries ≡ suc loss → loss ≤ repeats
        → Phase (link_at (sender_at AwaitsReply true first true false toggle (place ∷ places) tries) (hut_at ToReplyAgain fresh strict timer false expected (Some (frame_at first toggle (place ∷ places) load))) told word [] [])
        (watch (left_of true first (load ∷ loads)) (suc (length loads)) loss false)
    coming : {first toggle fresh strict timer expected : Bool} {place tries loss told : ℕ} {places : List ℕ} {load : T} {loads : List T} {held : Option (Frame T)} {word : Option Word} {reply : Frame EmptyLoad}
        → slice_get book place ≡ Some load → Rest book places loads → Sync strict expected toggle true → Timed strict timer
        → tries ≡ suc loss → loss ≤ repeats
        → Phase (link_at (sender_at AwaitsReply true first true false toggle (place ∷ places) tries) (hut_at AwaitsFrame fresh strict timer false expected held) told word [] (reply ∷ []))
        (watch (left_of true first (load ∷ loads)) (suc (length loads)) loss false)
    missing : {first toggle fresh strict timer expected ahead : Bool} {place tries loss told : ℕ} {places : List ℕ} {load : T} {loads : List T} {held : Option (Frame T)} {word : Option Word}
        → slice_get book place ≡ Some load → Rest book places loads → Sync strict expected toggle ahead → Timed strict timer
        → Tried ahead tries → tries ≡ loss → loss ≤ suc repeats
        → Phase (link_at (sender_at AwaitsReply true first true true toggle (place ∷ places) tries) (hut_at AwaitsFrame fresh strict timer false expected held) told word [] [])
        (watch (left_of ahead first (load ∷ loads)) (suc (length loads)) loss false)
    over : {toggle fresh strict timer expected : Bool} {tries told : ℕ} {held : Option (Frame T)} {word : Option Word}
        → Sync strict expected toggle false → Timed strict timer
        → Phase (link_at (sender_at ToConfirm true true false false toggle [] tries) (hut_at AwaitsFrame fresh strict timer false expected held) told word [] [])
        (watch [] 0 0 false)
    failed : {first toggle fresh strict timer expected ahead given : Bool} {place tries loss told : ℕ} {places : List ℕ} {load : T} {loads : List T} {held : Option (Frame T)} {word : Option Word}
        → slice_get book place ≡ Some load → Rest book places loads → Sync strict expected toggle ahead → Timed strict timer
        → Tried ahead tries → (given || (loss == repeats + 1)) ≡ true
        → Phase (link_at (sender_at ToConfirm true first false false toggle (place ∷ places) tries) (hut_at AwaitsFrame fresh strict timer false expected held) told word [] [])
        (watch (left_of ahead first (load ∷ loads)) (suc (length loads)) loss given)
    apart : {busy first toggle fresh strict timer expected : Bool} {rest : List ℕ} {held : Option (Frame T)} {told : ℕ} {word : Option Word} {w : Watch T}
        → Opening book busy rest w → Timed strict timer
        → Phase (link_at (sender_at ToPart busy first false false toggle rest 0) (hut_at AwaitsFrame fresh strict timer false expected held) told word [] []) w
    parting : {busy toggle fresh timer expected : Bool} {rest : List ℕ} {held : Option (Frame T)} {told : ℕ} {word : Option Word} {w : Watch T}
        → Opening book busy rest w
        → Phase (link_at (sender_at ToMeet busy true false false toggle rest 0) (hut_at AwaitsFrame fresh false timer true expected held) told word [] []) w
    breaking : {busy toggle fresh expected : Bool} {rest : List ℕ} {held : Option (Frame T)} {told : ℕ} {word : Option Word} {w : Watch T}
        → Opening book busy rest w
        → Phase (link_at (sender_at ToMeet busy true false false toggle rest 0) (hut_at ToTellBreak fresh false false true expected held) told word [] []) w
