-- A frame of whichever kind its first octet names, and its text.
use Rattle.std.specs.Prelude.{ℕ, Bool, if◌then◌else◌, List, [], ◌∷◌, ◌++◌, length, nat_le, Ok, Err, Result, codes, decimal, ◌==◌}
use Rattle.loads.specs.declared.faults.Fault.{Fault}
use Rattle.loads.specs.declared.faults.Fault.TheVariants.{WrongLength, WrongKind}
use Rattle.loads.specs.declared.frames.Frame.{Frame}
use Rattle.loads.specs.Empties.{empty_kind, empties}
use Rattle.loads.specs.Readings.{reading_kind, readings}
use Rattle.loads.specs.Pieces.{piece_kind, pieces}
use Rattle.loads.specs.Frames.{kind_of, frame_reads}
use Rattle.frametext.specs.declared.anyframes.AnyFrame.{AnyFrame}
use Rattle.frametext.specs.declared.anyframes.AnyFrame.TheVariants.{Empty, Reading, Piece}

-- what was read, as a frame of any kind
abbrev pub any_of : {X : Type 0} → (X → AnyFrame) → Result X Fault → Result AnyFrame Fault
any_of of (Ok frame) = Ok (of frame)
any_of of (Err fault) = Err fault

-- the frame of a kind, refused where no load has that kind
abbrev pub of_kind : ℕ → List ℕ → Result AnyFrame Fault
of_kind kind octets =
    if kind == empty_kind then any_of Empty (frame_reads empties octets)
    else if kind == reading_kind then any_of Reading (frame_reads readings octets)
    else if kind == piece_kind then any_of Piece (frame_reads pieces octets)
    else Err WrongKind

-- the most octets that a frame of any kind has
abbrev pub longest_frame : ℕ
longest_frame = 32

-- the frame that octets spell; none at all are too few for every kind, and more than the longest
-- frame has are too many
abbrev pub any_reads : List ℕ → Result AnyFrame Fault
any_reads [] = Err WrongLength
any_reads (first ∷ others) =
    if nat_le (length (first ∷ others)) longest_frame then of_kind (kind_of first) (first ∷ others)
    else Err WrongLength

-- a bit as a word
abbrev pub on_off : Bool → List ℕ
on_off bit = if bit then codes "on" else codes "off"

-- the three bits of a frame
abbrev pub bits_text : {T : Type 0} → Frame T → List ℕ
bits_text f =
    codes "first " ++ (on_off f.first
    ++ (codes ", last " ++ (on_off f.last
    ++ (codes ", toggle " ++ on_off f.toggle))))

-- the bits and the load of a frame, its numbers in decimal
abbrev pub frame_text : AnyFrame → List ℕ
frame_text (Empty f) = bits_text f ++ codes ", empty load"
frame_text (Reading f) = bits_text f ++ (codes ", reading " ++ decimal f.load.value)
frame_text (Piece f) =
    bits_text f
    ++ (codes ", piece zoom " ++ (decimal f.load.zoom
    ++ (codes " column " ++ (decimal f.load.column
    ++ (codes " row " ++ (decimal f.load.row
    ++ (codes " number " ++ (decimal f.load.number
    ++ (codes " body " ++ decimal f.load.body)))))))))
