-- All that the program prints: a line for each use of the pile.
use Rattle.std.specs.Prelude.{ℕ, true, false, List}
use Rattle.std.specs.List.{flat_map}
use Rattle.loads.specs.declared.frames.Frame.{Frame}
use Rattle.loads.specs.declared.kinds.Load.{Ghosts}
use Rattle.loads.specs.declared.readings.Reading.{Reading}
use Rattle.loads.specs.Readings.{readings}
use Rattle.channel.specs.declared.rows.Used.{Used}
use Rattle.frametext.specs.Lines.{line}
use Rattle.frametext.specs.Uses.{use_text}
use Rattle.showpile.specs.Crossings.{lost_once}

-- a line for each use
abbrev pub use_lines : {T : Type 0} → Ghosts T → List (Used T) → List ℕ
use_lines kind uses = flat_map (λ used. line (use_text kind used)) uses

-- the frame that crosses: the first of a message, with a reading of 7
abbrev pub first_frame : Frame Reading
first_frame = record { first = true; last = false; toggle = false; load = record { value = 7 } }

-- the lines of its uses
abbrev pub pile_lines : List ℕ
pile_lines = use_lines readings (lost_once first_frame)
