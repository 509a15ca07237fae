-- A call of a link over rains, counted.
use Rattle.std.proofs.Common.{◌≡◌, ℕ, List, ◌∷◌, [], Ok, Err, Result, Some, None, refl, ap, sym, ◌∙◌, rules}
use Rattle.std.specs.Prelude.{fold}
use Rattle.std.specs.Option.{unwrap_or}
use Rattle.std.specs.Result.{result_ok}
use Rattle.loads.specs.declared.readings.Reading.{Reading}
use Rattle.loads.specs.declared.frames.Frame.{Frame}
use Rattle.loads.specs.declared.empties.EmptyLoad.{EmptyLoad}
use Rattle.loads.specs.Readings.{readings}
use Rattle.channels.specs.declared.wires.Wire.{Wire}
use Rattle.channels.specs.Rains.{RainState, rains}
use Rattle.channels.specs.Singles.{stores}
use Rattle.channels.specs.Wires.{wires, wire_waits}
use Rattle.link.specs.declared.calls.Call.{Call}
use Rattle.link.specs.declared.events.Answer.{Answer}
use Rattle.link.specs.declared.events.Answer.TheVariants.{Done, Polled}
use Rattle.link.specs.declared.refusals.LinkRefusal.{LinkRefusal}
use Rattle.link.specs.declared.words.Heard.{Heard}
use Rattle.link.specs.Calls.{shown}
use Rattle.link.specs.Runs.{Steps}
use Rattle.link.specs.States.{LinkParts}
use Rattle.sheetrun.specs.CallsByMarks.{marked_link}
use Rattle.sheetrun.proofs.RunsByMarks.{runs_decided}
use Rattle.pace.specs.declared.tallies.Tally.{Tally}
use Rattle.pace.specs.Tallies.{added, one_more, taken, counted}
use Rattle.pace.specs.Links.{CountedState, counts}

-- a link over the two rains
abbrev pub Rained : Type 0
Rained = LinkParts Reading (RainState (Wire Reading)) (RainState (List (Frame EmptyLoad)))

-- a step of the link is the call by the marks, and the tally is that of its answer
pub step_counts : {book : List Reading} {before after : Rained} {tally later : Tally} {state : CountedState}
    (call : Call) (answer : Result (Answer Reading) LinkRefusal)
    → Steps (rains (wires readings)) (rains stores) book before (record { call = call; answer = answer }) after
    → later ≡ counted answer tally
    → record { book = book; link = marked_link readings before; tally = tally } ≡ state
    → record { book = book; link = marked_link readings after; tally = later } ≡ counts state call
unfolding counts
step_counts {book} {before} {after} {tally} call answer steps tallied is =
    ap (λ later. record { book = book; link = marked_link readings after; tally = later }) tallied
    ∙ ap (λ run. record { book = book; link = run.1; tally = fold (λ tally event. counted event.answer tally) tally run.0 })
    (runs_decided (wire_waits readings) (λ frames. frames) book before after (record { call = call; answer = answer } ∷ []) (after, steps, refl))
    ∙ ap (λ state. counts state call) is

-- by what the tally takes: of a call that shows nothing
pub done_taken : (answer : Result (Unit {0}) LinkRefusal) (tally : Tally) → taken answer tally ≡ counted (shown (λ _. Done) answer) tally
done_taken (Ok done) tally = refl
done_taken (Err why) tally = refl

-- of one that polls
pub polled_taken : (answer : Result Heard LinkRefusal) (tally : Tally) → taken answer tally ≡ counted (shown Polled answer) tally
polled_taken (Ok heard) tally = refl
polled_taken (Err why) tally = refl

-- of one that tells a load, and of one that says a word
pub value_taken : {X : Type 0} (show : X → Answer Reading) (value : X → ℕ) → ((x : X) (tally : Tally) → counted (Ok (show x)) tally ≡ added (value x) (taken (Ok x) tally))
    → (answer : Result X LinkRefusal) (x : X) (tally : Tally) → result_ok answer ≡ Some x
    → added (value x) (taken answer tally) ≡ counted (shown show answer) tally
value_taken show value adds (Ok given) x tally is = ap (λ found. added (value (unwrap_or found given)) (one_more tally)) (sym is) ∙ sym (adds given tally)
value_taken show value adds (Err why) x tally is = search rules

pub none_taken : {X : Type 0} (show : X → Answer Reading) (answer : Result X LinkRefusal) (tally : Tally) → result_ok answer ≡ None
    → taken answer tally ≡ counted (shown show answer) tally
none_taken show (Ok given) tally is = search rules
none_taken show (Err why) tally is = refl
