-- All that the program prints: the lines of three worked frames, and the line of an input.
use Rattle.std.specs.Prelude.{ℕ, ◌+◌, List, [], ◌∷◌, ◌++◌, take, codes}
use Rattle.frametext.specs.AnyFrames.{longest_frame}
use Rattle.frametext.specs.Lines.{line, frame_line, changed_lines}

-- the first piece of a message, and a copy with a zoom that no map has
abbrev pub piece_lines : List ℕ
piece_lines = changed_lines
    (0x82 ∷ 0x14 ∷ 0x00 ∷ 0x0F ∷ 0xFF ∷ 0xFF ∷ 0x00 ∷ 0x05 ∷ 0x55 ∷ 0x55 ∷ 0x00 ∷ 0x03
    ∷ 0x01 ∷ 0x23 ∷ 0x45 ∷ 0x67 ∷ 0x89 ∷ 0xAB ∷ 0xCD ∷ 0xEF ∷ []) 1 21

-- the first reading of a message, and a copy of a kind that no load has
abbrev pub reading_lines : List ℕ
reading_lines = changed_lines (0x81 ∷ 0 ∷ 0 ∷ 0 ∷ 7 ∷ []) 0 0x9F

-- the reply to the last load of a message, and a copy that has become a reading without its octets
abbrev pub reply_lines : List ℕ
reply_lines = changed_lines (0x60 ∷ []) 0 0x61

-- the lines of the worked frames
abbrev pub worked_lines : List ℕ
worked_lines = line piece_lines ++ (line reading_lines ++ line reply_lines)

-- the octets of an input that are shown: one more than the longest frame has, so that a longer
-- input is seen to be too long
abbrev pub shown_octets : List ℕ → List ℕ
shown_octets input = take (longest_frame + 1) input

-- the line of an input
abbrev pub input_line : List ℕ → List ℕ
input_line input = line (frame_line (codes "input") (shown_octets input))
