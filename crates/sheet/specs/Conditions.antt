-- What turns a sheet down, by number and place, and which of several is said.
use Rattle.std.specs.Prelude.{◌≡◌, ◌≢◌, ◌⊎◌, ℕ, ◌+◌, ◌*◌, ◌<◌, ◌≤◌, List, [], ◌∷◌, ◌++◌, length, take, drop, slice_index, IsErr}
use Rattle.std.specs.List.{flat_map}
use Rattle.std.specs.Str.{byte}
use Rattle.loads.specs.declared.kinds.Load.{Ghosts}
use Rattle.loads.specs.Pieces.{piece_kind, pieces}
use Rattle.loads.specs.Readings.{reading_kind, readings}
use Rattle.channels.specs.Marks.{most_marks}
use Rattle.link.specs.declared.calls.Call.{Call}
use Rattle.link.specs.Timers.{most_repeats}
use Rattle.link.specs.Words.{letter}
use Rattle.sheet.specs.declared.faults.ReadError.{ReadError}
use Rattle.sheet.specs.declared.faults.ReadError.TheVariants.{Refused, NoMemory}
use Rattle.sheet.specs.declared.faults.SheetFault.{SheetFault}
use Rattle.sheet.specs.declared.faults.SheetRefusal.{SheetRefusal}
use Rattle.sheet.specs.declared.faults.SheetRefusal.TheVariants.{WrongSize, BadSetting, BadDistances, NoLoad, BadMark, BadCall}
use Rattle.sheet.specs.declared.layouts.LoadKind.{LoadKind}
use Rattle.sheet.specs.declared.layouts.LoadKind.TheVariants.{Reading, Piece}
use Rattle.sheet.specs.Faults.{number_of}
use Rattle.sheet.specs.Layouts.{trailer_size, most_octets, lists_of, trailer_of, distance, start_of, kind_at, repeats_at, book_octets, to_hut_octets, back_octets, calls_octets}
use Rattle.sheet.specs.Sections.{most_calls}
use Rattle.sheet.specs.Spellings.{call_spelled}

-- a book that starts at a place has at another, behind others, a record that spells no load: the end of the book cuts
-- it short, or the kind refuses it
abbrev pub HasNoLoad : {T : Type 0} → Ghosts T → ℕ → List ℕ → ℕ → Type 0
HasNoLoad kind start book place =
    (others : ℕ) × (place ≡ start + kind.SIZE * others) × (kind.SIZE * others < length book)
    × IsErr (kind.reads (take kind.SIZE (drop (kind.SIZE * others) book)))

-- the octet of a kind of load
abbrev pub octet_of : LoadKind → ℕ
octet_of Reading = reading_kind
octet_of Piece = piece_kind

-- a sheet's book of a kind has a record that spells no load
abbrev pub HasNoLoadOf : LoadKind → List ℕ → ℕ → Type 0
HasNoLoadOf Reading book place = HasNoLoad readings 0 book place
HasNoLoadOf Piece book place = HasNoLoad pieces 0 book place

-- marks that start at a place have at another, behind others, one that is above 2, or one too many
abbrev pub HasBadMark : ℕ → ℕ → List ℕ → ℕ → Type 0
HasBadMark most start marks place =
    (others : ℕ) × (place ≡ start + others) × (others < length marks)
    × ((2 < slice_index marks others) ⊎ (others ≡ most))

-- octets begin with no call: with the letter of none, or with Q and fewer than four octets behind
abbrev pub BeginWithNoCall : List ℕ → Type 0
BeginWithNoCall [] = ⊥
BeginWithNoCall (octet ∷ octets) =
    ((call : Call) → letter call ≢ octet) ⊎ ((octet ≡ byte "Q") × (length octets < 4))

-- calls that start at a place have at another, behind others, octets that begin with no call, or with one too many
abbrev pub HasBadCall : ℕ → ℕ → List ℕ → ℕ → Type 0
HasBadCall most start calls place =
    (others : List Call) × (rest : List ℕ) × (calls ≡ flat_map call_spelled others ++ rest)
    × (place ≡ start + length (flat_map call_spelled others)) × (0 < length rest)
    × (BeginWithNoCall rest ⊎ (length others ≡ most))

-- the condition of a refusal holds at a place of octets, which are lists and a trailer behind them
abbrev pub Applies : SheetRefusal → ℕ → List ℕ → List ℕ → List ℕ → Type 0
Applies WrongSize place octets lists trailer =
    (place ≡ length octets) × ((length octets < trailer_size) ⊎ (most_octets < length octets))
Applies BadSetting place octets lists trailer =
    ((place ≡ length lists + kind_at)
    × ((kind : LoadKind) → slice_index trailer kind_at ≢ octet_of kind))
    ⊎ ((place ≡ length lists + repeats_at) × (most_repeats < slice_index trailer repeats_at))
Applies BadDistances place octets lists trailer =
    (place ≡ length lists)
    × ((distance 0 trailer ≢ length lists)
    ⊎ ((list : ℕ) × (list < 3) × (distance list trailer < distance (list + 1) trailer)))
Applies NoLoad place octets lists trailer =
    (kind : LoadKind) × (slice_index trailer kind_at ≡ octet_of kind)
    × HasNoLoadOf kind (book_octets lists trailer) place
Applies BadMark place octets lists trailer =
    HasBadMark most_marks (start_of 1 lists trailer) (to_hut_octets lists trailer) place
    ⊎ HasBadMark most_marks (start_of 2 lists trailer) (back_octets lists trailer) place
Applies BadCall place octets lists trailer =
    HasBadCall most_calls (start_of 3 lists trailer) (calls_octets lists trailer) place

-- a fault of octets: the condition of its refusal holds at its place
abbrev pub IsFaultOf : List ℕ → SheetFault → Type 0
IsFaultOf octets fault =
    Applies fault.refusal fault.place octets (lists_of octets) (trailer_of octets)

-- a fault is before another, or as early: by number, and of one number by place
abbrev pub IsNotAfter : SheetFault → SheetFault → Type 0
IsNotAfter fault other =
    (number_of fault.refusal < number_of other.refusal)
    ⊎ ((number_of fault.refusal ≡ number_of other.refusal) × (fault.place ≤ other.place))

-- octets without a fault
abbrev pub HasNoFault : List ℕ → Type 0
HasNoFault octets = (fault : SheetFault) → IsFaultOf octets fault → ⊥

-- the first fault of octets: theirs, and no other is before it
abbrev pub IsFirstFault : List ℕ → SheetFault → Type 0
IsFirstFault octets fault =
    IsFaultOf octets fault
    × ((other : SheetFault) → IsFaultOf octets other → IsNotAfter fault other)

-- why there is no sheet of octets: their first fault; or they have none, and memory is wanting
abbrev pub IsReason : List ℕ → ReadError → Type 0
IsReason octets (Refused fault) = IsFirstFault octets fault
IsReason octets NoMemory = HasNoFault octets
