-- Numbers in hexadecimal, in lower case, with as many digits as are asked for.
use Rattle.std.specs.Prelude.{◌+◌, ◌/◌, ◌%◌, ℕ, zero, suc, List, [], ◌∷◌, ◌++◌, if◌then◌else◌, nat_lt, codes}

-- the character of a number below 16: `0` to `9`, and then `a` to `f`
abbrev pub hex_digit : ℕ → ℕ
hex_digit n = if nat_lt n 10 then 48 + n else 87 + n

-- the last n digits of a number
abbrev pub last_hex : ℕ → ℕ → List ℕ
last_hex zero n = []
last_hex (suc digits) n = last_hex digits (n / 16) ++ hex_digit (n % 16) ∷ []

-- `0x` and n digits, as codes of events and bits of states are written
abbrev pub hex_text : ℕ → ℕ → List ℕ
hex_text digits n = codes "0x" ++ last_hex digits n
