-- The tasks of an input, and all that they print.
use Rattle.std.specs.Prelude.{◌≡◌, ℕ, if◌then◌else◌, Bool, true, ◌||◌, All, List, codes, ◌==◌}
use Rattle.std.specs.List.{flat_map, before_first, after_first}
use Rattle.std.specs.Str.{byte, bytes_eq}
use Rattle.std.specs.Str.Lines.{lines}
use Rattle.std.specs.Str.Parse.{digits_value, without_leading_plus}
use Rattle.frametext.specs.Lines.{line}
use Rattle.pace.specs.Frames.{frames_text}
use Rattle.pace.specs.Repeats.{calls_text, requests_text}

-- the words of a task stand between spaces
abbrev pub is_space : ℕ → Bool
is_space octet = octet == byte " "

abbrev pub first_word : List ℕ → List ℕ
first_word text = before_first is_space text

abbrev pub other_words : List ℕ → List ℕ
other_words text = after_first is_space text

-- the number that a word spells
abbrev pub spelled_number : List ℕ → ℕ
spelled_number word = digits_value 10 (without_leading_plus word)

-- a task is calls, frames or requests, by its first word
abbrev pub is_task : List ℕ → Bool
is_task task =
    let name = first_word task in
    bytes_eq name (codes "calls") || bytes_eq name (codes "frames") || bytes_eq name (codes "requests")

-- what a task comes to: what is repeated, on how many loads for requests, and how often
abbrev pub task_text : List ℕ → List ℕ
task_text task =
    let counts = other_words task in
    if bytes_eq (first_word task) (codes "calls") then calls_text (spelled_number counts)
    else if bytes_eq (first_word task) (codes "frames") then frames_text (spelled_number counts)
    else requests_text (spelled_number (first_word counts)) (spelled_number (other_words counts))

-- what tasks print, in order
abbrev pub tasks_printed : List (List ℕ) → List ℕ
tasks_printed tasks = flat_map (λ task. line (task_text task)) tasks

-- an input has a task on each of its lines
abbrev pub HasTasks : List ℕ → Type 0
HasTasks octets = All (λ task. is_task task ≡ true) (lines octets)

-- what the tasks of an input print, one on each of its lines
abbrev pub tasks_text : List ℕ → List ℕ
tasks_text octets = tasks_printed (lines octets)
