-- The printed line of a frame's octets.
use Rattle.std.specs.Prelude.{ℕ, List, ◌++◌, Ok, Err, codes, Result, slice_set}
use Rattle.loads.specs.declared.faults.Fault.{Fault}
use Rattle.loads.specs.Faults.{number_of}
use Rattle.loads.specs.Refusals.{refused_text}
use Rattle.frametext.specs.declared.anyframes.AnyFrame.{AnyFrame}
use Rattle.frametext.specs.AnyFrames.{any_reads, frame_text}
use Rattle.frametext.specs.Hexadecimals.{hexadecimal}

-- a text on a line of its own
abbrev pub line : List ℕ → List ℕ
line text = text ++ codes "\n"

-- a frame's text, or the number that turns octets down
abbrev pub answer_text : Result AnyFrame Fault → List ℕ
answer_text (Ok frame) = frame_text frame
answer_text (Err fault) = refused_text (number_of fault)

-- what octets spell, in words
abbrev pub spelled_text : List ℕ → List ℕ
spelled_text octets = answer_text (any_reads octets)

-- a label, the octets, and what they spell
abbrev pub frame_line : List ℕ → List ℕ → List ℕ
frame_line label octets =
    label ++ (codes " " ++ (hexadecimal octets ++ (codes ": " ++ spelled_text octets)))

-- two lines: octets as written, and with the octet at one place changed
abbrev pub changed_lines : List ℕ → ℕ → ℕ → List ℕ
changed_lines octets place octet =
    frame_line (codes "wrote") octets
    ++ (codes "\n" ++ frame_line (codes "damaged") (slice_set octets place octet))
