-- Every call takes a link from one phase to the next, as the watch over its history sees it.
use Rattle.std.proofs.Common.{◌≡◌, ℕ, zero, suc, ◌+◌, ◌%◌, ◌^◌, ◌<◌, ◌≤◌, Bool, true, false, not, ◌||◌, List, [], ◌∷◌, drop, take, length, Ok, Err, Some, Option, refl, ap, sym, ◌∙◌, subst, add-one, length-take, arith, rules, tests}
use Rattle.std.specs.Prelude.{◌==◌, nat_le, nat_lt, if◌then◌else◌, None}
use Rattle.std.specs.List.{slice_get, range_with_len}
use Rattle.loads.specs.declared.frames.Frame.{Frame}
use Rattle.link.specs.declared.places.SenderPlace.TheVariants.{ToSend, ToConfirm}
use Rattle.link.specs.declared.places.HutPlace.TheVariants.{AwaitsFrame}
use Rattle.link.specs.declared.words.Word.{Word}
use Rattle.link.specs.declared.calls.Call.{Call}
use Rattle.link.specs.declared.calls.Call.TheVariants as call
use Rattle.link.specs.declared.events.Answer.{Answer}
use Rattle.link.specs.declared.events.Answer.TheVariants.{Done}
use Rattle.link.specs.declared.refusals.LinkRefusal.TheVariants.{BadCount, BeyondBook, StillOpen, NoneConfirmed}
use Rattle.link.specs.declared.words.Heard.{Heard}
use Rattle.link.specs.declared.words.Heard.TheVariants.{Arrived, Lost}
use Rattle.link.specs.declared.events.Event.{Event}
use Rattle.link.specs.Changes.{◌>>=◌}
use Rattle.link.specs.Effects.{Effect, alone}
use Rattle.link.specs.Calls.{showing, made, outcome}
use Rattle.link.specs.Histories.{choice, effect_of, EventLeads, EventsLead, HistoryLeads}
use Rattle.link.specs.Laws.{IsLawful, outcome_of}
use Rattle.link.specs.Messages.{messages}
use Rattle.link.specs.Senders.{more}
use Rattle.link.specs.States.{SenderState, LinkState, started}
use Rattle.link.specs.Turns.{Turn, turn, turns, asks, tells, ends}
use Rattle.link.proofs.Watches.{Watch, fresh, advance, Right, Rightly, positioned_length, rightly_truthful}
use Rattle.link.proofs.Tallies.{tally, tally_right, last_is}
use Rattle.link.proofs.Phases.{link_at, sender_at, hut_at, watch, left_of, Rest, none, next, Sync, loose, level_on, level_off, ahead_on, ahead_off, Timed, untimed, timed, Tried, unsent, tried, Opening, closed, opened, Phase, idle, ready, going, hearing, telling, again, coming, missing, over, failed, apart, parting, breaking}

-- what was sent once was tried
sent_once : (tries : ℕ) → (suc tries == 0) ≡ false
sent_once tries = search (rules, tests)

-- a list at a place within it
load_at : {T : Type 0} (loads : List T) (place : ℕ) → place < length loads
    → (load : T) × (slice_get loads place ≡ Some load) × (drop place loads ≡ load ∷ drop (suc place) loads)
load_at [] place within = search rules
load_at (load ∷ loads) zero within = (load, refl, refl)
load_at (load ∷ loads) (suc place) within = load_at loads place (omega (within, arith))

-- what becomes of the count of loads told, and of the answer to the question for the outcome
abbrev pub Kept : {T : Type 0} → Turn T → LinkState T → LinkState T → Type 0
Kept (asks start count) before after = (after.told ≡ 0) × (outcome after ≡ Err StillOpen)
Kept (tells position load) before after = (after.told ≡ more before.told) × (outcome after ≡ outcome before)
Kept (ends word) before after = (after.told ≡ before.told) × (outcome after ≡ Ok (word, before.told))
Kept turn before after = (after.told ≡ before.told) × (outcome after ≡ outcome before)

module _ {T : Type 0} (book : List T) (repeats : ℕ) (small : repeats ≤ 10) where
  -- an answered call is as it should be, and leads to a phase
  abbrev Next : LinkState T → Watch T → Call → Effect T (Answer T) → Type 0
  Next before w call effect =
      Right repeats w (turn call effect.answer)
      × Phase book repeats effect.after (advance book w (turn call effect.answer))
      × Kept (turn call effect.answer) before effect.after

  -- tries are few, and so do not wrap
  once_more : {tries loss : ℕ} → tries ≡ loss → loss ≤ repeats → (tries + 1) % 2 ^ 32 ≡ suc loss
  once_more tries few = omega (tries, few, small, arith)

  -- a load that was sent was tried
  has_tried : (ahead : Bool) {tries loss : ℕ} → tries ≡ suc loss → Tried ahead tries
  has_tried true some = rw some tried
  has_tried false some = unsent

  -- the sender's toggle flips: the hut is no longer ahead
  level : {strict expected toggle : Bool} → Sync strict expected toggle true → Sync strict expected (not toggle) false
  level ahead_on = level_off
  level ahead_off = level_on

  -- a hut that told expects the other toggle
  ahead_of : (toggle : Bool) → Sync true (not toggle) toggle true
  ahead_of true = ahead_on
  ahead_of false = ahead_off

  -- a message of which nothing was sent may be sent
  begun : {toggle fresh strict timer expected : Bool} {rest : List ℕ} {held : Option (Frame T)} {told : ℕ} {word : Option Word} {w : Watch T}
      → Opening book true rest w → Sync strict expected toggle false → Timed strict timer
      → Phase book repeats (link_at book repeats (sender_at ToSend true true false false toggle rest 0) (hut_at AwaitsFrame fresh strict timer false expected held) told word [] []) w
  begun (opened load rest) sync on = ready load rest sync on unsent refl (omega arith)

  -- a retry sends once more, or gives up where the repeats are used up
  retry_to : {first toggle fresh strict timer expected ahead : Bool} {place tries loss told : ℕ} {places : List ℕ} {load : T} {loads : List T} {held : Option (Frame T)} {word : Option Word}
      (within : Bool) → nat_le tries repeats ≡ within
      → slice_get book place ≡ Some load → Rest book places loads → Sync strict expected toggle ahead → Timed strict timer
      → Tried ahead tries → tries ≡ loss → loss ≤ suc repeats
      → Phase book repeats (link_at book repeats (sender_at (if within then ToSend else ToConfirm) true first false false toggle (place ∷ places) tries) (hut_at AwaitsFrame fresh strict timer false expected held) told word [] [])
      (watch (left_of ahead first (load ∷ loads)) (suc (length loads)) loss false)
  retry_to true within load rest sync on ahead tries few = ready load rest sync on ahead tries (omega (tries, within, tests, arith))
  retry_to false within load rest sync on ahead tries few = failed load rest sync on ahead (search (rules, tests))

  -- a request takes loads of the book
  chosen : (start count : ℕ) → start + count ≤ length book → Rest book (range_with_len start count) (take count (drop start book))
  chosen start zero fits = none
  chosen start (suc count) fits =
      let found = load_at book start (omega (fits, arith)) in
      rw (found.2, add-one) (next found.1 (chosen (suc start) count (omega (fits, arith))))

  opening : {place : ℕ} {places : List ℕ} {loads : List T} → Rest book (place ∷ places) loads → Opening book true (place ∷ places) (fresh loads)
  opening (next load rest) = opened load rest

  -- a request on a link with no message open, by its two tests
  asked : (link : LinkState T) (after : SenderState) (w : Watch T) (start count : ℕ) (bad beyond : Bool)
      → (count == 0 || nat_lt 4096 count) ≡ bad → nat_lt (length book) (start + count) ≡ beyond
      → w.«open» ≡ false → Phase book repeats link w
      → (Opening book true (range_with_len start count) (fresh (take count (drop start book)))
      → Phase book repeats (record link { sender = after; told = 0 }) (fresh (take count (drop start book))))
      → outcome (record link { sender = after; told = 0 }) ≡ Err StillOpen
      → Next link w (call.Request start count) (showing (λ _. Done) (alone {X = Unit {0}} link
      (◌>>=◌ {A = Unit {0} × SenderState} (if bad then Err BadCount else if beyond then Err BeyondBook else Ok (tt, after)) (λ requested. Ok (tt, record link { sender = requested.1; told = 0 })))))
  asked link after w start count true beyond counted within shut stay opens shows = (tt, stay, (refl, refl))
  asked link after w start count false true counted within shut stay opens shows = (tt, stay, (refl, refl))
  asked link after w start zero false false counted within shut stay opens shows = cc
  asked link after w start (suc count) false false counted within shut stay opens shows =
      ((shut, search (rules, tests)), opens (opening (chosen start (suc count) (search (rules, tests)))), (refl, shows))

  -- any call of the twelve; where it is turned down, or answers STILL, the link stays
  moves : (call : Call) (heard : Heard) {link : LinkState T} {w : Watch T} → Phase book repeats link w → Phase book repeats link w
      → Next link w call (made book heard call link)
  moves (call.Request start count) heard (idle shut sync on) stay = asked _ _ _ start count _ _ refl refl shut stay (λ message. begun message sync on) refl
  moves (call.Request start count) heard (apart (closed shut) on) stay = asked _ _ _ start count _ _ refl refl shut stay (λ message. apart message on) refl
  moves (call.Request start count) heard (parting (closed shut)) stay = asked _ _ _ start count _ _ refl refl shut stay (λ message. parting message) refl
  moves (call.Request start count) heard (breaking (closed shut)) stay = asked _ _ _ start count _ _ refl refl shut stay (λ message. breaking message) refl
  moves call.Send heard (ready load rest sync on ahead tries few) stay = rw load (tt, going load rest sync on (once_more tries few) few, (refl, refl))
  moves call.Carry Lost (going load rest sync on tries few) stay = (tt, missing load rest sync on (has_tried _ tries) (omega (tries, arith)) (omega (few, arith)), (refl, refl))
  moves call.Carry Arrived (going load rest loose on tries few) stay = (tt, hearing load rest loose tries few, (refl, refl))
  moves call.Carry Arrived (going load rest level_on on tries few) stay = (tt, hearing load rest level_on tries few, (refl, refl))
  moves call.Carry Arrived (going load rest level_off on tries few) stay = (tt, hearing load rest level_off tries few, (refl, refl))
  moves call.Carry Arrived (going load rest ahead_on on tries few) stay = (tt, again load rest ahead_on on tries few, (refl, refl))
  moves call.Carry Arrived (going load rest ahead_off on tries few) stay = (tt, again load rest ahead_off on tries few, (refl, refl))
  moves call.Tell heard (hearing load none sync tries few) stay = (refl, telling load none (ahead_of _) tries few, (refl, refl))
  moves call.Tell heard (hearing load (next more rest) sync tries few) stay = (refl, telling load (next more rest) (ahead_of _) tries few, (refl, refl))
  moves call.Reply heard (telling load rest ahead_on tries few) stay = (tt, coming load rest ahead_on timed tries few, (refl, refl))
  moves call.Reply heard (telling load rest ahead_off tries few) stay = (tt, coming load rest ahead_off timed tries few, (refl, refl))
  moves call.Reply heard (again load rest sync on tries few) stay = (tt, coming load rest sync on tries few, (refl, refl))
  moves call.Return Lost (coming load rest sync on tries few) stay = (tt, missing load rest sync on (has_tried _ tries) (omega (tries, arith)) (omega (few, arith)), (refl, refl))
  moves call.Return Arrived (coming load none sync on tries few) stay = ((few, omega arith), over (level sync) on, (refl, refl))
  moves call.Return Arrived (coming load (next more rest) sync on tries few) stay = ((few, omega arith), ready more rest (level sync) on unsent refl (omega arith), (refl, refl))
  moves call.Retry heard (missing load rest sync on ahead tries few) stay = (tt, retry_to _ refl load rest sync on ahead tries few, (refl, refl))
  moves call.Abandon heard (ready load rest sync on ahead tries few) stay = (tt, failed load rest sync on ahead refl, (refl, refl))
  moves call.Confirm heard (over sync on) stay = ((refl, (refl, refl, refl)), idle refl sync on, (refl, refl))
  moves call.Confirm heard (failed {tries = zero} load none sync on unsent why) stay = ((refl, (omega arith, (omega arith, why))), apart (closed refl) on, (refl, refl))
  moves call.Confirm heard (failed {tries = suc tries} load none sync on unsent why) stay = rw (sent_once tries) ((refl, (omega arith, (omega arith, why))), apart (closed refl) on, (refl, refl))
  moves call.Confirm heard (failed load none sync on (tried {tries = tries}) why) stay = rw (sent_once tries) ((refl, (omega arith, (omega arith, why))), apart (closed refl) on, (refl, refl))
  moves call.Confirm heard (failed load (next {loads = loads} more rest) sync on unsent why) stay = ((refl, (omega arith, (omega arith, why))), apart (closed refl) on, (refl, refl))
  moves call.Confirm heard (failed load (next {loads = []} more rest) sync on tried why) stay = ((refl, (omega arith, (omega arith, why))), apart (closed refl) on, (refl, refl))
  moves call.Confirm heard (failed load (next {loads = third ∷ loads} more rest) sync on tried why) stay = ((refl, (omega arith, (omega arith, why))), apart (closed refl) on, (refl, refl))
  moves call.Part heard (apart {timer = false} message untimed) stay = (tt, parting message, (refl, refl))
  moves call.Part heard (apart {fresh = true} {timer = true} message untimed) stay = (tt, parting message, (refl, refl))
  moves call.Part heard (apart {fresh = false} {timer = true} message untimed) stay = (tt, breaking message, (refl, refl))
  moves call.Part heard (apart {fresh = true} message timed) stay = (tt, parting message, (refl, refl))
  moves call.Part heard (apart {fresh = false} message timed) stay = (tt, breaking message, (refl, refl))
  moves call.Break heard (breaking message) stay = (tt, parting message, (refl, refl))
  moves call.Meet heard (parting (closed shut)) stay = (tt, idle shut loose untimed, (refl, refl))
  moves call.Meet heard (parting (opened load rest)) stay = (tt, begun (opened load rest) loose untimed, (refl, refl))
  -- one phase by itself, so that the last line is taken phase by phase
  moves call heard (idle _ _ _) stay = (tt, stay, (refl, refl))
  moves call heard phase stay = (tt, stay, (refl, refl))

  -- an event that leads to a link leads to a phase
  next_event : (before after : LinkState T) (event : Event T) (w : Watch T) → Phase book repeats before w → EventLeads book before event after
      → Right repeats w (turn event.call event.answer) × Phase book repeats after (advance book w (turn event.call event.answer)) × Kept (turn event.call event.answer) before after
  next_event before after event w phase leads =
      let effect = effect_of book event before in
      let moved = moves event.call (choice event.answer) phase phase in
      let told = subst (λ answer. Right repeats w (turn event.call answer) × Phase book repeats effect.after (advance book w (turn event.call answer)) × Kept (turn event.call answer) before effect.after) (sym leads.answers) moved in
      subst (λ after. Right repeats w (turn event.call event.answer) × Phase book repeats after (advance book w (turn event.call event.answer)) × Kept (turn event.call event.answer) before after) (sym leads.leaves) told

  -- a history from a phase is as it should be, turn by turn
  leads_rightly : (before after : LinkState T) (events : List (Event T)) (w : Watch T) → Phase book repeats before w → EventsLead book before events after
      → Rightly book repeats w (turns events)
  leads_rightly before after [] w phase leads = tt
  leads_rightly before after (event ∷ events) w phase (between, first, leads) =
      let moved = next_event before between event w phase first in
      (moved.0, leads_rightly between after events (advance book w (turn event.call event.answer)) moved.1 leads)

  -- what is told and what is left to tell are few, so the count does not wrap
  abbrev Few : LinkState T → Watch T → Type 0
  Few link w = link.told + length w.left ≤ 4096

  -- a turn leaves few, and changes the outcome as the history says
  tally_turn : (turn : Turn T) (w : Watch T) (before after : LinkState T) (rest : List (Turn T)) → Right repeats w turn → Kept turn before after → Few before w
      → Few after (advance book w turn) × (tally (outcome before) before.told (turn ∷ rest) ≡ tally (outcome after) after.told rest)
  tally_turn (asks start count) w before after rest right (told, answer) few =
      let loads = take count (drop start book) in
      (omega (told, right.1, positioned_length true loads, length-take count (drop start book), arith), rw (answer, told) refl)
  tally_turn (tells position load) w before after rest right (told, answer) few =
      let shorter : length w.left ≡ suc (length (drop 1 w.left)) = ap length right in
      let once : more before.told ≡ before.told + 1 = omega (few, shorter, arith) in
      (omega (told, once, few, shorter, arith), rw (answer, told, once) refl)
  tally_turn (ends word) w before after rest right (told, answer) few = (omega (told, few, arith), rw (answer, told) refl)
  tally_turn turn w before after rest right (told, answer) few = (omega (told, few, arith), rw (answer, told) refl)

  tallied : (before after : LinkState T) (events : List (Event T)) (w : Watch T) → Phase book repeats before w → Few before w → EventsLead book before events after
      → tally (outcome before) before.told (turns events) ≡ outcome after
  tallied before after [] w phase few leads = ap outcome (sym leads)
  tallied before after (event ∷ events) w phase few (between, first, leads) =
      let moved = next_event before between event w phase first in
      let turned = turn event.call event.answer in
      let tally = tally_turn turned w before between (turns events) moved.0 moved.2 few in
      tally.1 ∙ tallied between after events (advance book w turned) moved.1 tally.0 leads

module _ {T : Type 0} (book : List T) (repeats : ℕ) (history : List (Event T)) (link : LinkState T) (leads : HistoryLeads book repeats history link) where
  -- the watch before the first request
  abbrev unwatched : Watch T
  unwatched = record { «open» = false; left = []; count = 0; loss = 0; given = false }

  rightly : Rightly book repeats unwatched (turns history)
  rightly = leads_rightly book repeats leads.0 (started repeats) link history unwatched (idle refl loose untimed) leads.1

  pub history_lawful : IsLawful book repeats history
  history_lawful = rightly_truthful book repeats unwatched (turns history) rightly

  pub history_outcome : outcome link ≡ outcome_of history
  history_outcome =
      let closed = tally_right book repeats false unwatched (Err NoneConfirmed) 0 (turns history) refl rightly in
      sym (tallied book repeats leads.0 (started repeats) link history unwatched (idle refl loose untimed) (omega arith) leads.1)
      ∙ closed ∙ last_is None (messages (turns history))
