-- Calls on a link over two rains are decided by the marks.
use Rattle.std.proofs.Common.{◌≡◌, ℕ, List, [], ◌∷◌, map, Ok, Err, Result, refl, ap, ◌∙◌}
use Rattle.loads.specs.declared.frames.Frame.{Frame}
use Rattle.loads.specs.declared.empties.EmptyLoad.{EmptyLoad}
use Rattle.channel.specs.declared.polls.Poll.{Poll}
use Rattle.channel.specs.declared.rows.Used.{Used}
use Rattle.channel.specs.declared.rules.Channel.{Ghosts}
use Rattle.channel.specs.Rows.{RowLeads}
use Rattle.channels.specs.Rains.{RainState, rains}
use Rattle.channels.specs.Singles.{singles}
use Rattle.link.specs.declared.calls.Call.{Call}
use Rattle.link.specs.declared.calls.Call.TheVariants as call
use Rattle.link.specs.declared.events.Answer.{Answer}
use Rattle.link.specs.declared.events.Answer.TheVariants.{Polled}
use Rattle.link.specs.declared.events.Event.{Event}
use Rattle.link.specs.declared.refusals.LinkRefusal.{LinkRefusal}
use Rattle.link.specs.declared.words.Heard.{Heard}
use Rattle.link.specs.Calls.{joined, showing, made, carried, returned}
use Rattle.link.specs.Changes.{◌>>=◌}
use Rattle.link.specs.Effects.{Effect, polled, polls}
use Rattle.link.specs.Histories.{choice}
use Rattle.link.specs.Runs.{Steps, Runs, call_of}
use Rattle.link.specs.States.{LinkParts, plain}
use Rattle.sheetrun.specs.CallsByMarks.{MarkedLink, heard_by_mark, heard_by, marked_after, call_by_marks, logged, calls_by_marks, marked_link_of}
use Rattle.sheetrun.proofs.RainsByMarks.{row_marks, polled_marked}

-- a call's event and what it leaves, by what it comes to
abbrev called : {T : Type 0} → Call → MarkedLink T → Effect T (Answer T) → Event T × MarkedLink T
called call before effect = (record { call = call; answer = effect.answer }, marked_after before effect)

-- a carry and a return hear what the marks say, if the link is joined: `side` is how it uses the channel that it polls
polled_alike : {T X C : Type 0} (waits : C → List (Frame X)) (side : Effect T Heard → List (Used X))
    (by : Result (Poll X) LinkRefusal → Effect T Heard) → ((answer : Result (Poll X) LinkRefusal) → side (by answer) ≡ polls answer)
    → (joined : Result ℕ LinkRefusal) (heard : Heard) (before after : RainState C)
    → RowLeads (rains (singles waits)) before (side (by (joined >>= λ _. Ok (polled heard (waits before.below))))) after
    → by (joined >>= λ _. Ok (polled heard (waits before.below)))
    ≡ by (joined >>= λ _. Ok (polled (heard_by_mark before.mark) (waits before.below)))
polled_alike waits side by uses (Err why) heard before after row = refl
polled_alike waits side by uses (Ok repeats) heard before after row =
    ap (λ answer. by (Ok answer))
    (polled_marked waits (waits before.below) heard before after refl (rw (uses (Ok (polled heard (waits before.below)))) at row))

module _ {T C D : Type 0} (to_hut : C → List (Frame T)) (back : D → List (Frame EmptyLoad)) (book : List T) where
  abbrev k : Ghosts (RainState C) T
  k = rains (singles to_hut)

  abbrev l : Ghosts (RainState D) EmptyLoad
  l = rains (singles back)

  -- what a call comes to by what the channel chose, and by the marks
  alike : (call : Call) (heard : Heard) (before after : LinkParts T (RainState C) (RainState D))
      → RowLeads k before.to_hut (made book heard call (plain k l before)).to_hut after.to_hut
      → RowLeads l before.back (made book heard call (plain k l before)).back after.back
      → made book heard call (plain k l before) ≡ made book (heard_by call (marked_link_of k l before)) call (plain k l before)
  alike call.Carry heard before after one other =
      let link = plain k l before in
      ap (showing Polled) (polled_alike to_hut (λ (effect : Effect T Heard). effect.to_hut) (λ answer. carried answer link) (λ answer. refl) (joined link) heard before.to_hut after.to_hut one)
  alike call.Return heard before after one other =
      let link = plain k l before in
      ap (showing Polled) (polled_alike back (λ (effect : Effect T Heard). effect.back) (λ answer. returned answer link) (λ answer. refl) (joined link) heard before.back after.back other)
  alike call heard before after one other = refl

  -- one call
  decided : (call : Call) (answer : Result (Answer T) LinkRefusal) (before after : LinkParts T (RainState C) (RainState D))
      → Steps k l book before (record { call = call; answer = answer }) after
      → (record { call = call; answer = answer }, marked_link_of k l after) ≡ call_by_marks book call (marked_link_of k l before)
  decided call answer before after steps =
      let one = row_marks to_hut before.to_hut after.to_hut _ steps.to_hut in
      let other = row_marks back before.back after.back _ steps.back in
      (λ i. (record { call = call; answer = steps.leads.answers i }, record { link = steps.leads.leaves i; to_hut = one i; back = other i }))
      ∙ ap (called call (marked_link_of k l before)) (alike call (choice answer) before after steps.to_hut steps.back)

  -- calls one after another: what is logged and left is what the marks decide
  pub runs_decided : (before after : LinkParts T (RainState C) (RainState D)) (events : List (Event T)) → Runs k l book before events after
      → (events, marked_link_of k l after) ≡ calls_by_marks book (map call_of events) (marked_link_of k l before)
  runs_decided before after [] runs = ap (λ link. ([], marked_link_of k l link)) runs
  runs_decided before after (event ∷ events) (between, steps, runs) =
      let first = decided event.call event.answer before between steps in
      let others = runs_decided between after events runs in
      ap (logged event) others ∙ ap (λ step. logged step.0 (calls_by_marks book (map call_of events) step.1)) first
