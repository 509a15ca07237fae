use Rattle.std.proofs.Common.{◌≡◌, true, map, All}
use Rattle.std.specs.Io.KnownBytes.{Appends}
use Rattle.pace.specs.Tasks.{is_task, tasks_printed}
use Rattle.pace.proofs.tasks.print_tasks.Given as goal

abbrev pub invariant-loop-task : goal.invariant-loop-task
invariant-loop-task g l =
    record {
      printed : Appends (g.W.Write.contents l.fn.output) (g.W.Write.contents l.output) (tasks_printed (map (λ task. task.now) l.yielded));
      named : All (λ task. is_task task ≡ true) (map (λ task. task.now) l.yielded);
    }
