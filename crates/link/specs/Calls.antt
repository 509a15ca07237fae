-- Join, the twelve calls and the question for the outcome: what each comes to.
use Rattle.std.specs.Prelude.{ℕ, ◌||◌, if◌then◌else◌, nat_lt, is_some, List, [], drop, length, Ok, Err, Result, Some, ok_or}
use Rattle.loads.specs.declared.empties.EmptyLoad.{EmptyLoad}
use Rattle.channel.specs.declared.polls.Poll.{Poll}
use Rattle.channel.specs.declared.polls.Poll.TheVariants as poll
use Rattle.channel.specs.Rules.{held}
use Rattle.link.specs.declared.calls.Call.{Call}
use Rattle.link.specs.declared.calls.Call.TheVariants as call
use Rattle.link.specs.declared.events.Answer.{Answer}
use Rattle.link.specs.declared.events.Answer.TheVariants.{Done, Polled, Told, Confirmed}
use Rattle.link.specs.declared.events.Event.{Event}
use Rattle.link.specs.declared.refusals.LinkRefusal.{LinkRefusal}
use Rattle.link.specs.declared.refusals.LinkRefusal.TheVariants.{AlreadyJoined, TooManyRepeats, ChannelHolds, NotJoined, StillOpen, NoneConfirmed}
use Rattle.link.specs.declared.words.Heard.{Heard}
use Rattle.link.specs.declared.words.Position.{Position}
use Rattle.link.specs.declared.words.Word.{Word}
use Rattle.link.specs.Changes.{◌>>=◌, PutEffect, offers}
use Rattle.link.specs.Effects.{Effect, alone, polled, heard_of, polls}
use Rattle.link.specs.States.{SenderState, HutState, LinkState, started}
use Rattle.link.specs.Timers.{most_repeats}
use Rattle.link.specs.Senders as sender
use Rattle.link.specs.Huts as hut

module _ {T : Type 0} where
  -- join
  abbrev pub join : ℕ → LinkState T → Effect T (Unit {0})
  join repeats link = alone link
      (if is_some link.repeats then Err AlreadyJoined
      else if nat_lt most_repeats repeats then Err TooManyRepeats
      else if held link.to_hut || held link.back then Err ChannelHolds
      else Ok (tt, started repeats))

  -- every call asks for a joined link first
  abbrev pub joined : LinkState T → Result ℕ LinkRefusal
  joined link = ok_or link.repeats NotJoined

  -- request: the hut has been told nothing of the message
  abbrev pub request : List T → ℕ → ℕ → LinkState T → Effect T (Unit {0})
  request book start count link = alone link do
    _ ← joined link
    requested ← sender.request (length book) start count link.sender
    Ok (tt, record link { sender = requested.1; told = 0 })

  -- send, by what it comes to for the sender
  abbrev pub sent : PutEffect SenderState T → LinkState T → Effect T (Unit {0})
  sent effect link = record {
    answer = effect.answer;
    after = record link { sender = effect.after; to_hut = effect.waiting };
    to_hut = effect.puts;
    back = [];
  }

  abbrev pub send : List T → LinkState T → Effect T (Unit {0})
  send book link = sent (offers link.sender link.to_hut (joined link >>= λ _. sender.send book link.sender)) link

  -- carry, by what channel K answers, unless it is turned down before: a frame that arrives reaches the hut, and of a lost one
  -- the sender hears
  abbrev pub frame_polled : Result (Poll T) LinkRefusal → LinkState T → LinkState T
  frame_polled (Ok (poll.Arrived frame)) link = record link { hut = hut.arrived link.hut frame; to_hut = drop 1 link.to_hut }
  frame_polled (Ok poll.Lost) link = record link { sender = sender.missed link.sender; to_hut = drop 1 link.to_hut }
  frame_polled answer link = link

  abbrev pub carried : Result (Poll T) LinkRefusal → LinkState T → Effect T Heard
  carried answer link = record {
    answer = answer >>= heard_of;
    after = frame_polled answer link;
    to_hut = polls answer;
    back = [];
  }

  -- carry, by what the channel chooses
  abbrev pub carry : Heard → LinkState T → Effect T Heard
  carry heard link = carried (joined link >>= λ _. Ok (polled heard link.to_hut)) link

  -- tell: one load more was told
  abbrev pub tell : LinkState T → Effect T (Position × T)
  tell link = alone link do
    _ ← joined link
    told ← hut.tell link.hut
    Ok (told.0, record link { hut = told.1; told = sender.more link.told })

  -- reply, by what it comes to for the hut's end
  abbrev pub replied : PutEffect (HutState T) EmptyLoad → LinkState T → Effect T (Unit {0})
  replied effect link = record {
    answer = effect.answer;
    after = record link { hut = effect.after; back = effect.waiting };
    to_hut = [];
    back = effect.puts;
  }

  abbrev pub reply : LinkState T → Effect T (Unit {0})
  reply link = replied (offers link.hut link.back (joined link >>= λ _. hut.reply link.hut)) link

  -- return, by what channel L answers, unless it is turned down before: the sender hears of a reply that arrives, whose bits
  -- are not looked at, and of a lost one
  abbrev pub reply_polled : Result (Poll EmptyLoad) LinkRefusal → LinkState T → LinkState T
  reply_polled (Ok (poll.Arrived reply)) link = record link { sender = sender.replied link.sender; back = drop 1 link.back }
  reply_polled (Ok poll.Lost) link = record link { sender = sender.missed link.sender; back = drop 1 link.back }
  reply_polled answer link = link

  abbrev pub returned : Result (Poll EmptyLoad) LinkRefusal → LinkState T → Effect T Heard
  returned answer link = record {
    answer = answer >>= heard_of;
    after = reply_polled answer link;
    to_hut = [];
    back = polls answer;
  }

  -- return, by what the channel chooses
  abbrev pub return : Heard → LinkState T → Effect T Heard
  return heard link = returned (joined link >>= λ _. Ok (polled heard link.back)) link

  -- retry
  abbrev pub retry : LinkState T → Effect T (Unit {0})
  retry link = alone link do
    repeats ← joined link
    retried ← sender.retry repeats link.sender
    Ok (tt, record link { sender = retried.1 })

  -- abandon
  abbrev pub abandon : LinkState T → Effect T (Unit {0})
  abandon link = alone link do
    _ ← joined link
    abandoned ← sender.abandon link.sender
    Ok (tt, record link { sender = abandoned.1 })

  -- confirm: the word is kept
  abbrev pub confirm : LinkState T → Effect T Word
  confirm link = alone link do
    _ ← joined link
    confirmed ← sender.confirm link.sender
    Ok (confirmed.0, record link { sender = confirmed.1; word = Some confirmed.0 })

  -- part: of the sender, and then of the hut's end
  abbrev pub part : LinkState T → Effect T (Unit {0})
  part link = alone link do
    _ ← joined link
    parted ← sender.part link.sender
    Ok (tt, record link { sender = parted.1; hut = hut.parted link.hut })

  -- break
  abbrev pub break : LinkState T → Effect T (Unit {0})
  break link = alone link do
    _ ← joined link
    broken ← hut.tell_break link.hut
    Ok (tt, record link { hut = broken.1 })

  -- meet: of the hut's end, and then of the sender
  abbrev pub meet : LinkState T → Effect T (Unit {0})
  meet link = alone link do
    _ ← joined link
    met ← hut.meet link.hut
    Ok (tt, record link { hut = met.1; sender = sender.met link.sender })

-- an answer, as an answer of any call
abbrev pub shown : {T X : Type 0} → (X → Answer T) → Result X LinkRefusal → Result (Answer T) LinkRefusal
shown show (Ok x) = Ok (show x)
shown show (Err why) = Err why

-- a call that answered so, as an event
abbrev pub event_of : {T X : Type 0} → Call → (X → Answer T) → Result X LinkRefusal → Event T
event_of call show answer = record { call = call; answer = shown show answer }

-- what a call comes to, with its answer so shown
abbrev pub showing : {T X : Type 0} → (X → Answer T) → Effect T X → Effect T (Answer T)
showing show effect = record {
  answer = shown show effect.answer;
  after = effect.after;
  to_hut = effect.to_hut;
  back = effect.back;
}

module _ {T : Type 0} where
  -- any call over a book, by what the channel chooses
  abbrev pub made : List T → Heard → Call → LinkState T → Effect T (Answer T)
  made book heard (call.Request start count) link = showing (λ _. Done) (request book start count link)
  made book heard call.Send link = showing (λ _. Done) (send book link)
  made book heard call.Carry link = showing Polled (carry heard link)
  made book heard call.Tell link = showing (λ told. Told told.0 told.1) (tell link)
  made book heard call.Reply link = showing (λ _. Done) (reply link)
  made book heard call.Return link = showing Polled (return heard link)
  made book heard call.Retry link = showing (λ _. Done) (retry link)
  made book heard call.Abandon link = showing (λ _. Done) (abandon link)
  made book heard call.Confirm link = showing Confirmed (confirm link)
  made book heard call.Part link = showing (λ _. Done) (part link)
  made book heard call.Break link = showing (λ _. Done) (break link)
  made book heard call.Meet link = showing (λ _. Done) (meet link)

-- the question for the outcome: the last confirmed message's word and how many of its loads were told
abbrev pub outcome : {T : Type 0} → LinkState T → Result (Word × ℕ) LinkRefusal
outcome link = do
  _ ← joined link
  word ← if link.sender.«open» then Err StillOpen else ok_or link.word NoneConfirmed
  Ok (word, link.told)
