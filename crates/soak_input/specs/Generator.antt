-- The generator of the soak: the linear congruential one of Knuth's MMIX, of which a draw is the upper 31 bits: docs/FORMATS.md.
use Rattle.std.specs.Prelude.{◌+◌, ◌*◌, ◌/◌, ◌%◌, ◌^◌, ℕ}

-- the number that the generator makes of a number
unfoldable pub next : ℕ → ℕ
next x = (x * 6364136223846793005 + 1442695040888963407) % 2 ^ 64

-- the draw that ends in this number
abbrev pub draw_at : ℕ → ℕ
draw_at x = x / 2 ^ 33
