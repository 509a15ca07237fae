-- What a rain over a channel that neither delays nor loses does, by its mark.
use Rattle.std.proofs.Common.{◌≡◌, Bool, true, false, List, [], ◌∷◌, Result, refl, ap, ◌∙◌, rules}
use Rattle.std.specs.Prelude.{fold}
use Rattle.loads.specs.declared.frames.Frame.{Frame}
use Rattle.channel.specs.declared.polls.Poll.{Poll}
use Rattle.channel.specs.declared.polls.Poll.TheVariants as poll
use Rattle.channel.specs.declared.refusals.Full.{Full}
use Rattle.channel.specs.declared.rows.Used.{Used}
use Rattle.channel.specs.declared.rows.Used.TheVariants as used
use Rattle.channel.specs.Rows.{UseLeads, RowLeads}
use Rattle.channel.specs.Rules.{held, put_answer}
use Rattle.channels.specs.declared.marks.Mark.{Mark}
use Rattle.channels.specs.declared.marks.Mark.TheVariants.{Pass, Lose, Delay}
use Rattle.channels.specs.Rains.{RainState, RainPolls, RainPuts, rains}
use Rattle.channels.specs.Singles.{singles}
use Rattle.link.specs.declared.words.Heard.{Heard}
use Rattle.link.specs.declared.words.Heard.TheVariants.{Still, Arrived, Lost}
use Rattle.link.specs.Effects.{polled}
use Rattle.sheetrun.specs.CallsByMarks.{heard_by_mark, marks_after, rain_marks}

module _ {T C : Type 0} (waits : C → List (Frame T)) where
  -- a put: refused where a frame waits
  put_marks : (waiting : List (Frame T)) (frame : Frame T) (answer : Result (Unit {0}) Full) (before after : RainState C)
      → answer ≡ put_answer waiting → RainPuts (singles waits) (held waiting) before frame after
      → rain_marks after ≡ marks_after (rain_marks before) (used.Put frame answer)
  put_marks [] frame answer before after says (puts, left) = rw says (ap rain_marks left)
  put_marks (oldest ∷ others) frame answer before after says (puts, left) = rw says (ap rain_marks left)

  -- a poll, by the mark and by whether a frame waits
  poll_marks : (mark : Mark) (holding : Bool) (answer : Poll T) (before after : RainState C) → before.mark ≡ mark
      → RainPolls (singles waits) mark holding before answer after → rain_marks after ≡ marks_after (rain_marks before) (used.Poll answer)
  poll_marks Pass holding poll.Empty before after is (polls, left) = ap rain_marks left ∙ rw is refl
  poll_marks Pass holding answer before after is (polls, left) = ap rain_marks left ∙ rw is refl
  poll_marks Lose holding poll.Empty before after is (polls, left) = ap rain_marks left ∙ rw is refl
  poll_marks Lose holding answer before after is (polls, left) = ap rain_marks left ∙ rw is refl
  poll_marks Delay true answer before after is (says, left) = rw says (ap rain_marks left ∙ rw is refl)
  poll_marks Delay false answer before after is (says, left) = rw says (ap rain_marks left)

  use_marks : (before after : RainState C) (used : Used T) → UseLeads (rains (singles waits)) before used after
      → rain_marks after ≡ marks_after (rain_marks before) used
  use_marks before after (used.Put frame answer) (says, puts) = put_marks (waits before.below) frame answer before after says puts.1
  use_marks before after (used.Poll answer) polls = poll_marks before.mark (held (waits before.below)) answer before after refl polls.2

  -- a row of uses
  pub row_marks : (before after : RainState C) (uses : List (Used T)) → RowLeads (rains (singles waits)) before uses after
      → rain_marks after ≡ fold marks_after (rain_marks before) uses
  row_marks before after [] row = ap rain_marks row
  row_marks before after (first ∷ uses) (between, step, row) =
      row_marks between after uses row ∙ ap (λ marks. fold marks_after marks uses) (use_marks before between first step)

  -- what a poll hears, where a frame waits, is what the mark says
  heard_marked : (mark : Mark) (heard : Heard) (oldest : Frame T) (others : List (Frame T)) (before after : RainState C)
      → waits before.below ≡ oldest ∷ others → RainPolls (singles waits) mark true before (polled heard (oldest ∷ others)) after
      → heard ≡ heard_by_mark mark
  heard_marked Pass Arrived oldest others before after waiting polls = refl
  heard_marked Lose Lost oldest others before after waiting polls = refl
  heard_marked Delay Still oldest others before after waiting polls = refl
  heard_marked Pass heard oldest others before after waiting ((allowed, leaves, says), left) = search rules
  heard_marked Lose heard oldest others before after waiting ((heard', (allowed, leaves, says), lost), left) = search rules
  heard_marked Delay heard oldest others before after waiting (says, left) = search rules

  pub polled_marked : (waiting : List (Frame T)) (heard : Heard) (before after : RainState C) → waits before.below ≡ waiting
      → RowLeads (rains (singles waits)) before (used.Poll (polled heard waiting) ∷ []) after
      → polled heard waiting ≡ polled (heard_by_mark before.mark) waiting
  polled_marked [] heard before after some row = refl
  polled_marked (oldest ∷ others) heard before after some (between, step, row) =
      ap (λ heard. polled heard (oldest ∷ others)) (heard_marked before.mark heard oldest others before between some (rw some at step.2))
