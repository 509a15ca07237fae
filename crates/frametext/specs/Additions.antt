-- What becomes of a text to which octets are added.
use Rattle.std.specs.Prelude.{◌≡◌, ◌+◌, ◌<◌, ◌≤◌, ℕ, List, ◌++◌, Result, length, take, OnOk, OnErr, String, string_bytes, string_len, string_capacity}

module _ {A : Type 0} where
  -- memory was wanting: behind what it had the text has a front of what was to be added, which is
  -- not all of it, and its room was too small for all
  pub record IsCutShort (old new : String A) (added : List ℕ) : Type 0 where
    pub count : ℕ
    pub front : string_bytes new ≡ string_bytes old ++ take count added
    pub short : count < length added
    pub full : string_capacity old < string_len old + length added

  -- behind what it had the text has all that was to be added, or memory was wanting; its room does
  -- not shrink
  pub record Adds {X E : Type 0} (old new : String A) (added : List ℕ) (result : Result X E) : Type 0 where
    pub made : OnOk result (string_bytes new ≡ string_bytes old ++ added)
    pub memory : OnErr result (IsCutShort old new added)
    pub room : string_capacity old ≤ string_capacity new
