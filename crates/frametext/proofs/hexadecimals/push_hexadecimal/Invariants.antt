use Rattle.std.proofs.Common.{◌≡◌, ◌≤◌, ◌++◌, drop, string_bytes, string_len, string_capacity}
use Rattle.frametext.specs.Hexadecimals.{hexadecimal as hexadecimal_of}
use Rattle.frametext.proofs.hexadecimals.push_hexadecimal.Given as goal

abbrev pub invariant-loop-octet : goal.invariant-loop-octet
invariant-loop-octet l =
    (string_bytes l.text ++ hexadecimal_of (drop l.octet-index l.octets)
    ≡ string_bytes l.fn.text ++ hexadecimal_of l.octets)
    × (string_len l.fn.text ≤ string_len l.text)
    × (string_capacity l.fn.text ≤ string_capacity l.text)
