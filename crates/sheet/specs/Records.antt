-- The record at the front of a list's octets, with the octets behind it; or why the sheet is turned down there.
use Rattle.std.specs.Prelude.{ℕ, if◌then◌else◌, ◌==◌, nat_le, List, [], ◌∷◌, length, take, drop, Ok, Err, Result, Some, None, Option}
use Rattle.std.specs.List.{find}
use Rattle.std.specs.Option.{option_map}
use Rattle.std.specs.Result.{result_ok}
use Rattle.loads.specs.declared.kinds.Load.{Ghosts}
use Rattle.loads.specs.Octets.{field}
use Rattle.channels.specs.declared.marks.Mark.{Mark}
use Rattle.channels.specs.Marks.{mark_read}
use Rattle.link.specs.declared.calls.Call.{Call}
use Rattle.link.specs.declared.calls.Call.TheVariants.{Request, Send, Carry, Tell, Reply, Return, Retry, Abandon, Confirm, Part, Break, Meet}
use Rattle.link.specs.Words.{letter}
use Rattle.sheet.specs.declared.faults.SheetFault.{SheetFault}
use Rattle.sheet.specs.declared.faults.SheetRefusal.{SheetRefusal}
use Rattle.sheet.specs.declared.faults.SheetRefusal.TheVariants.{NoLoad, BadMark, BadCall}
use Rattle.sheet.specs.declared.sections.SectionKind.{SectionKind}
use Rattle.sheet.specs.declared.sections.SectionKind.TheVariants as section
use Rattle.sheet.specs.Faults.{fault_at}
use Rattle.sheet.specs.Parts.{Meaning, a_load, a_mark, a_call, PartState}

-- what a record that cannot be read, or one too many, is turned down for
abbrev pub refusal_of : SectionKind → SheetRefusal
refusal_of section.Book = NoLoad
refusal_of (section.Marks way) = BadMark
refusal_of section.Calls = BadCall

-- the mark at the front of octets
abbrev pub first_mark : List ℕ → Option Mark
first_mark [] = None
first_mark (octet ∷ octets) = result_ok (mark_read octet)

-- the calls that have no operands
abbrev pub plain_calls : List Call
plain_calls =
    Send ∷ Carry ∷ Tell ∷ Reply ∷ Return ∷ Retry ∷ Abandon ∷ Confirm ∷ Part ∷ Break ∷ Meet ∷ []

-- the one of them that has this letter
abbrev pub plain_call : ℕ → Option Call
plain_call octet = find (λ call. letter call == octet) plain_calls

-- the letter of a request, whatever its operands
abbrev pub request_letter : ℕ
request_letter = letter (Request 0 0)

-- the octets of a request: its letter and two operands of two octets
abbrev pub request_size : ℕ
request_size = 5

-- the request at the front
abbrev pub first_request : List ℕ → Option Call
first_request octets =
    if nat_le request_size (length octets) then Some (Request (field 1 2 octets) (field 3 2 octets))
    else None

-- the call at the front
abbrev pub first_call : List ℕ → Option Call
first_call [] = None
first_call (octet ∷ octets) =
    if octet == request_letter then first_request (octet ∷ octets) else plain_call octet

-- a record and the octets behind it, or a refusal
abbrev pub Front : Type 0 → Type 0
Front T = Result (PartState T × List ℕ) SheetFault

module _ {T : Type 0} where
  -- what the record at the front of a section means, if it can be read
  abbrev pub first_meaning : Ghosts T → SectionKind → List ℕ → Option (Meaning T)
  first_meaning kind section.Book octets =
      option_map a_load (result_ok (kind.reads (take kind.SIZE octets)))
  first_meaning kind (section.Marks way) octets = option_map (a_mark way) (first_mark octets)
  first_meaning kind section.Calls octets = option_map a_call (first_call octets)

  -- how many octets a record with a meaning has
  abbrev pub record_size : Ghosts T → Meaning T → ℕ
  record_size kind (a_load load) = kind.SIZE
  record_size kind (a_call (Request start count)) = request_size
  record_size kind meaning = 1

  -- the record at the front with this meaning; or, if it has none, the refusal
  abbrev pub record_with : Ghosts T → SectionKind → ℕ → List ℕ → Option (Meaning T) → Front T
  record_with kind section place octets (Some meaning) = Ok (
    record { place = place; octets = take (record_size kind meaning) octets; meaning = meaning },
    drop (record_size kind meaning) octets,
  )
  record_with kind section place octets None = Err (fault_at (refusal_of section) place)

  -- the record at the front of a section
  abbrev pub record_of : Ghosts T → SectionKind → ℕ → List ℕ → Front T
  record_of kind section place octets =
      record_with kind section place octets (first_meaning kind section octets)
