-- Texts that are added to, a part after another.
use Rattle.std.proofs.Common.{◌≡◌, ◌+◌, ◌-◌, ◌<◌, ◌≤◌, ℕ, List, [], ◌++◌, if◌then◌else◌, is_ok, Result, Ok, Err, IsOk, IsErr, OnErr, length, take, drop, String, string_bytes, string_len, string_capacity, arith, ap, refl, length-append, append_assoc, append-nil}
use Rattle.std.proofs.lemmas.List.{take-append-drop, length-drop}
use Rattle.std.proofs.Math.Seq.{take-append_seam, take-append-add}
use Rattle.frametext.specs.Additions.{Adds, IsCutShort}

module _ {A : Type 0} where
  -- where something is missing behind a text that has at least what the old one had
  cut_short : (old new : String A) (added missing : List ℕ) → string_bytes new ++ missing ≡ string_bytes old ++ added → string_len old ≤ string_len new → 0 < length missing → string_capacity old < string_len old + length added → IsCutShort old new added
  cut_short old new added missing same kept some full =
      let count : ℕ = string_len new - string_len old in
      let all : length (string_bytes old) + count ≡ length (string_bytes new) = omega (arith, old.bytes.ok.0, new.bytes.ok.0) in
      record {
        count = count;
        front = rw (← take-append-add (string_bytes old) added count, all, ← same, take-append_seam);
        short = omega (arith, simp length-append at (ap length same));
        full = full;
      }

  -- a text that was left as it was, for want of room
  pub cut_at_once : (old new : String A) (added : List ℕ) → string_bytes new ≡ string_bytes old → string_capacity old < string_len old + length added → IsCutShort old new added
  cut_at_once old new added same full = cut_short old new added added (rw same) (omega (arith, old.bytes.ok.0, new.bytes.ok.0, ap length same)) (omega (arith, old.bytes.ok.1)) full

  -- a part is cut short, with more to come behind it: so is the whole
  pub cut_within : (old mid new : String A) (added part more : List ℕ) → string_bytes mid ++ (part ++ more) ≡ string_bytes old ++ added → string_len old ≤ string_len mid → string_capacity old ≤ string_capacity mid → IsCutShort mid new part → IsCutShort old new added
  cut_within old mid new added part more same kept room cut =
      let missing = drop cut.count part ++ more in
      let lengths = simp length-append at (ap length same) in
      let of_new = ap length cut.front in
      cut_short old new added missing
      (rw (cut.front, append_assoc, ← append_assoc (take cut.count part), take-append-drop) same)
      (omega (arith, of_new, length-append (string_bytes mid) (take cut.count part), mid.bytes.ok.0, new.bytes.ok.0))
      (omega (arith, length-append (drop cut.count part) more, length-drop cut.count part, cut.short))
      (omega (arith, cut.full, lengths, mid.bytes.ok.0, old.bytes.ok.0))

  -- what is cut short is an addition that fails
  pub refused : {X E : Type 0} {r : Result X E} {old new : String A} {added : List ℕ} → IsErr r → string_capacity old ≤ string_capacity new → IsCutShort old new added → Adds old new added r
  refused {r = Ok x} fails room cut = absurd (cc fails)
  refused {r = Err e} fails room cut = record {
    made = tt;
    memory = cut;
    room = room;
  }

  module _ {X E : Type 0} where
    -- what a push does, in these words
    pub pushed : {r : Result X E} {old : String A} (new : String A) {added : List ℕ} → string_bytes new ≡ (if is_ok r then string_bytes old ++ added else string_bytes old) → string_capacity old ≤ string_capacity new → OnErr r (string_capacity old < string_len old + length added) → Adds old new added r
    pushed {r = Ok x} new same room full = record {
      made = same;
      memory = tt;
      room = room;
    }
    pushed {r = Err e} {old} new {added} same room full = refused refl room (cut_at_once old new added same full)

    -- an addition behind one that was made
    pub continued : {Y F : Type 0} {r : Result X E} {s : Result Y F} {old mid new : String A} {added done part : List ℕ} → IsOk r → added ≡ done ++ part → Adds old mid done r → Adds mid new part s → Adds old new added s
    continued {r = Err e} made whole first next = absurd (cc made)
    continued {r = Ok x} {s = Ok y} {old} {mid} {new} {added} {done} {part} made whole first next = record {
      made = cc (append_assoc (string_bytes old) done part);
      memory = tt;
      room = omega (arith, first.room, next.room);
    }
    continued {r = Ok x} {s = Err f} {old} {mid} {new} {added} {done} {part} made whole first next = record {
      made = tt;
      memory = cut_within old mid new added part [] (rw append-nil (cc (append_assoc (string_bytes old) done part))) (omega (arith, ap length first.made, length-append (string_bytes old) done, old.bytes.ok.0, mid.bytes.ok.0)) first.room next.memory;
      room = omega (arith, first.room, next.room);
    }

    -- an addition that fails, with more to come behind it
    pub stopped : {Y F : Type 0} {r : Result X E} {s : Result Y F} {old new : String A} {added part : List ℕ} (more : List ℕ) → IsErr r → IsErr s → added ≡ part ++ more → Adds old new part r → Adds old new added s
    stopped {r = Ok x} more fails ends whole first = absurd (cc fails)
    stopped {r = Err e} {old} {new} {added} {part} more fails ends whole first =
        refused ends first.room (cut_within old old new added part more (rw whole) (omega arith) (omega arith) first.memory)
