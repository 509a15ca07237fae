-- A log that is as long as the calls.
use Rattle.std.proofs.Common.{◌≡◌, ℕ, List, length, take, nat_lt, false, refl, ap, ◌∙◌, arith, le-ltb, take_all}
use Rattle.link.specs.declared.calls.Call.{Call}
use Rattle.link.specs.declared.events.Event.{Event}
use Rattle.link.specs.Runs.{run_count, written}

-- all the calls are made
pub count_whole : (calls log : ℕ) → calls ≡ log → run_count calls log ≡ calls
count_whole calls log same =
    let no : nat_lt log calls ≡ false = le-ltb log calls (omega (arith, same)) in
    rw no refl

-- and all the log is written
pub written_whole : {T : Type 0} (calls : List Call) (before after : List (Event T)) → length calls ≡ length before → length after ≡ length before → written calls before after ≡ after
written_whole calls before after same kept =
    ap (λ count. take count after) (count_whole (length calls) (length before) same) ∙ take_all (length calls) after (omega (arith, same, kept))
