-- What is printed of the tasks so far, and of all of them.
use Rattle.std.proofs.Common.{◌≡◌, ℕ, true, List, [], ◌∷◌, ◌++◌, map, All, Some, None, Option, subst, sym, ap, ◌∙◌}
use Rattle.std.proofs.KnownBytes.{Appends-trans}
use Rattle.std.proofs.lemmas.List.Elements.{All-push}
use denote.Ref.{Bor}
use Rattle.std.specs.Io.KnownBytes.{Appends}
use Rattle.std.specs.Option.{IfSome}
use Rattle.std.specs.Str.Lines.{lines}
use Rattle.std.proofs.lemmas.List.{map-append}
use Rattle.frametext.specs.Lines.{line}
use Rattle.pace.specs.Tasks.{is_task, task_text, tasks_printed}
use Rattle.pace.proofs.Rounds.{flat_push}

-- a task more is printed
pub printed_more : (old between new : Option (List ℕ)) (tasks : List (Bor (List ℕ))) (task : Bor (List ℕ))
    → Appends old between (tasks_printed (map (λ (task : Bor (List ℕ)). task.now) tasks)) → Appends between new (line (task_text task.now))
    → Appends old new (tasks_printed (map (λ (task : Bor (List ℕ)). task.now) (tasks ++ task ∷ [])))
printed_more old between new tasks task first then =
    let texts = map (λ (task : Bor (List ℕ)). task.now) tasks in
    let more = ap tasks_printed (map-append (λ (task : Bor (List ℕ)). task.now) tasks (task ∷ [])) ∙ flat_push (λ task. line (task_text task)) texts task.now in
    subst (λ printed. Appends old new printed) (sym more) (Appends-trans old between new (tasks_printed texts) (line (task_text task.now)) first then)

-- and named
pub named_more : (tasks : List (Bor (List ℕ))) (task : Bor (List ℕ)) → All (λ task. is_task task ≡ true) (map (λ (task : Bor (List ℕ)). task.now) tasks)
    → is_task task.now ≡ true → All (λ task. is_task task ≡ true) (map (λ (task : Bor (List ℕ)). task.now) (tasks ++ task ∷ []))
named_more tasks task named is =
    rw (map-append (λ (task : Bor (List ℕ)). task.now) tasks (task ∷ [])) (All-push (λ task. is_task task ≡ true) (map (λ (task : Bor (List ℕ)). task.now) tasks) task.now named is)

-- what is true of the lines of a text that was read is true of those of what is known of the input
pub known_lines : (Holds : List (List ℕ) → Type 0) (left : Option (List ℕ)) (tasks : List (List ℕ)) (before text : List ℕ)
    → IfSome left (λ octets. text ≡ before ++ octets) → before ≡ [] → tasks ≡ lines text → Holds tasks → IfSome left (λ octets. Holds (lines octets))
known_lines Holds None tasks before text reads none are holds = tt
known_lines Holds (Some octets) tasks before text reads none are holds =
    subst Holds (are ∙ ap lines (reads ∙ ap (λ before. before ++ octets) none)) holds
