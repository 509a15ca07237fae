-- Which tiles a map has.
use Rattle.std.specs.Prelude.{ℕ, ◌^◌, Bool, ◌&&◌, nat_le, nat_lt}

-- the highest zoom that a map is drawn at
abbrev pub zoom_limit : ℕ
zoom_limit = 20

-- whether a map has the tile of this zoom, column and row: they are counted from 0
abbrev pub on_map : ℕ → ℕ → ℕ → Bool
on_map zoom column row =
    nat_le zoom zoom_limit && nat_lt column (2 ^ zoom) && nat_lt row (2 ^ zoom)
