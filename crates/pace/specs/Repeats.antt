-- What is repeated in each round, and the text that it comes to.
use Rattle.std.specs.Prelude.{ℕ, ◌+◌, ◌*◌, ◌/◌, ◌%◌, ◌^◌, if◌then◌else◌, List, [], ◌∷◌, ◌++◌, Ok, Err, Result, codes, decimal, ◌==◌, max, min}
use Rattle.std.specs.Fn.{iterate}
use Rattle.std.specs.List.{flat_map, range_with_len}
use Rattle.link.specs.declared.calls.Call.{Call}
use Rattle.link.specs.declared.calls.Call.TheVariants.{Request, Abandon, Confirm, Part, Meet}
use Rattle.link.specs.declared.refusals.LinkRefusal.{LinkRefusal}
use Rattle.link.specs.declared.words.Word.{Word}
use Rattle.link.specs.Calls as rule
use Rattle.link.specs.Refusals.{number_of}
use Rattle.link.specs.Words.{word_text}
use Rattle.pace.specs.Links.{most_loads, readings_of, at_start, counts_all, delivery}

-- where in the book the message of a round begins; three loads are always there from its place on
abbrev pub message_start : ℕ → ℕ
message_start round = round * 7 % 2 ^ 64 % 4093

-- the 17 calls of that message, which has three loads
abbrev pub message_calls : ℕ → List Call
message_calls round = Request (message_start round) 3 ∷ (delivery ++ (delivery ++ (delivery ++ (Confirm ∷ []))))

-- the calls of so many rounds
abbrev pub calls_made : ℕ → List Call
calls_made rounds = flat_map message_calls (range_with_len 0 rounds)

-- how the last message ended
abbrev pub outcome_text : Result (Word × ℕ) LinkRefusal → List ℕ
outcome_text (Ok (word, told)) = codes "word " ++ (word_text word ++ (codes " told " ++ decimal told))
outcome_text (Err why) = codes "refused " ++ decimal (number_of why)

-- all that is printed of the calls of so many rounds
unfoldable pub calls_text : ℕ → List ℕ
calls_text rounds =
    let after = counts_all (calls_made rounds) (at_start (readings_of most_loads)) in
    codes "calls " ++ (decimal after.tally.calls ++ (codes " sum " ++ (decimal after.tally.sum
    ++ (codes " " ++ outcome_text (rule.outcome after.link.link)))))

-- the next number of a row that looks random
abbrev pub next : ℕ → ℕ
next number = (number * 6364136223846793005 % 2 ^ 64 + 1442695040888963407) % 2 ^ 64

-- the calls of a message of one load, from a place that its number of the row decides; where the number's highest bit is on,
-- the message is given up
abbrev pub request_calls : ℕ → ℕ → List Call
request_calls loads chance =
    Request (chance / 2 ^ 33 % loads) 1 ∷
    (if chance / 2 ^ 63 == 1 then Abandon ∷ Confirm ∷ Part ∷ Meet ∷ [] else delivery ++ (Confirm ∷ []))

-- the calls of so many rounds, with the numbers of the row behind 1
abbrev pub requests_made : ℕ → ℕ → List Call
requests_made loads rounds = flat_map (λ round. request_calls loads (iterate next (round + 1) 1)) (range_with_len 0 rounds)

-- how many loads of the last message were told
abbrev pub told_text : Result (Word × ℕ) LinkRefusal → List ℕ
told_text (Ok (word, told)) = codes "told " ++ decimal told
told_text (Err why) = codes "refused " ++ decimal (number_of why)

-- all that is printed of the requests of so many rounds, on a book of so many loads, within its limits
unfoldable pub requests_text : ℕ → ℕ → List ℕ
requests_text loads rounds =
    let held = max 1 (min loads most_loads) in
    let after = counts_all (requests_made held rounds) (at_start (readings_of held)) in
    codes "requests " ++ (decimal rounds ++ (codes " sum " ++ (decimal after.tally.sum
    ++ (codes " " ++ told_text (rule.outcome after.link.link)))))
