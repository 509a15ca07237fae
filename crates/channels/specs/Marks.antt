-- The marks of a rain, as octets and in the order in which frames take them.
use Rattle.std.specs.Prelude.{⊤, ◌≡◌, ℕ, Bool, true, if◌then◌else◌, ◌&&◌, List, [], ◌∷◌, map, length, Ok, Err, Result, Some, None, Option, ◌==◌, nat_le}
use Rattle.std.specs.List.{list_all}
use Rattle.channels.specs.declared.marks.Mark.{Mark}
use Rattle.channels.specs.declared.marks.Mark.TheVariants.{Pass, Lose, Delay}
use Rattle.channels.specs.declared.marks.NotAMark.{NotAMark}
use Rattle.channels.specs.declared.marks.Source.{Source}
use Rattle.channels.specs.declared.marks.Source.TheVariants as source

-- the number of the refusal of marks
abbrev pub bad_marks_number : ℕ
bad_marks_number = 21

-- the most marks that a rain takes
abbrev pub most_marks : ℕ
most_marks = 64

-- each octet is at most 2
abbrev pub known : List ℕ → Bool
known octets = list_all (λ octet. nat_le octet 2) octets

-- octets that are marks: at most `most_marks`, each at most 2
abbrev pub good_marks : List ℕ → Bool
good_marks octets = known octets && nat_le (length octets) most_marks

-- the mark of an octet of at most 2
abbrev pub mark_of : ℕ → Mark
mark_of octet = if octet == 0 then Pass else (if octet == 1 then Lose else Delay)

-- the mark that an octet is read as, refused above 2
abbrev pub mark_read : ℕ → Result Mark NotAMark
mark_read octet = if nat_le octet 2 then Ok (mark_of octet) else Err (record {})

-- the marks of octets, in order
abbrev pub marks_of : List ℕ → List Mark
marks_of octets = map mark_of octets

-- the marks that octets are read as, if they are marks
abbrev pub marks_read : List ℕ → Option (List Mark)
marks_read octets = if good_marks octets then Some (marks_of octets) else None

-- the marks that are kept as marks, if there are not too many
abbrev pub marks_kept : List Mark → Option (List Mark)
marks_kept marks = if nat_le (length marks) most_marks then Some marks else None

-- the mark that the next accepted put takes: the first, or Pass after the last
abbrev pub next_mark : List Mark → Mark
next_mark [] = Pass
next_mark (mark ∷ marks) = mark

-- the marks after that
abbrev pub later_marks : List Mark → List Mark
later_marks [] = []
later_marks (mark ∷ marks) = marks

-- the marks that are left of a source
abbrev pub marks_left : Source → List Mark
marks_left (source.Octets octets) = marks_of octets.now
marks_left (source.Marks marks) = marks.now

-- each octet of a source is a mark
abbrev pub IsOfMarks : Source → Type 0
IsOfMarks (source.Octets octets) = known octets.now ≡ true
IsOfMarks (source.Marks marks) = ⊤
