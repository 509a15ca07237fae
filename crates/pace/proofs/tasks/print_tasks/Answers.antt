use Rattle.std.proofs.Common.{◌≡◌, true, All, ◌∙◌, ap}
use Rattle.std.specs.Str.Lines.{lines}
use Rattle.std.proofs.lemmas.Iterator.Consumers.{YieldsList-at, YieldsList-end}
use Rattle.std.proofs.lemmas.Iterator.Splits.{YieldsList-from_lines}
use Rattle.std.specs.Io.KnownBytes.{Appends}
use Rattle.pace.specs.Tasks.{is_task, tasks_printed}
use Rattle.pace.proofs.Prints.{printed_more, named_more, known_lines}
use Rattle.pace.proofs.tasks.print_tasks.Goals as goal

pub loop-task-preserved : goal.loop-task-preserved
loop-task-preserved g c =
    record {
      printed = printed_more _ _ _ c.loop-task.yielded c.in-Some.task c.loop-task.invariant.printed c.in_ok-print_task.ensures.printed;
      named = named_more c.loop-task.yielded c.in-Some.task c.loop-task.invariant.named c.in_ok-print_task.ensures.named;
    }

pub returns : goal.returns
returns g c =
    let road = YieldsList-at c.into_iter-task-iterator.ensures.into_iter_gives (YieldsList-from_lines c.deref.result.now c.lines-task-items.ensures.rest) in
    let all = (YieldsList-end road c.loop-task.yielded _ c.loop-task.yielded_by _ _ c.in-None.is c.next.ensures.steps).0 ∙ ap lines c.deref.ensures in
    record {
      printed = known_lines (λ tasks. Appends (g.W.Write.contents c.args.output.now) (g.W.Write.contents c.loop-task.output) (tasks_printed tasks)) _ _ _ _ c.in_ok-read_to_string.ensures.bytes c.new-text.ensures.bytes all c.loop-task.invariant.printed;
      named = known_lines (λ tasks. All (λ task. is_task task ≡ true) tasks) _ _ _ _ c.in_ok-read_to_string.ensures.bytes c.new-text.ensures.bytes all c.loop-task.invariant.named;
    }
