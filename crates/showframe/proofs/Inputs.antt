-- What is read of an input up to a limit, and written.
use Rattle.std.proofs.Common.{◌≡◌, ◌++◌, ℕ, List, take, Option, None, Some, IfSome, option_map, codes}
use Rattle.std.proofs.KnownBytes.{Appends-trans}
use Rattle.std.specs.Io.KnownBytes.{Appends}
use Rattle.frametext.specs.Lines.{frame_line}
use Rattle.frametext.specs.Lines.{line}
use Rattle.showframe.specs.Prints.{shown_octets, input_line}

-- what is known up to a limit, of an input that is known
pub read_limited : (known : Option (List ℕ)) (limit : ℕ) (octets : List ℕ) → IfSome (option_map (take limit) known) (λ all. octets ≡ all) → IfSome known (λ all. octets ≡ take limit all)
read_limited None limit octets read = tt
read_limited (Some all) limit octets read = read

-- lines, and then the line of an input
pub input_appended : (known before between after : Option (List ℕ)) (lines octets : List ℕ) → IfSome known (λ all. octets ≡ shown_octets all)
    → Appends before between lines → Appends between after (line (frame_line (codes "input") octets)) → IfSome known (λ all. Appends before after (lines ++ input_line all))
input_appended None before between after lines octets read first then = tt
input_appended (Some all) before between after lines octets read first then =
    Appends-trans before between after lines (input_line all) first (rw read at then)
