-- What one byte is in a field: this project's own stream format, docs/FORMATS.md.
use Rattle.std.specs.Prelude.{◌==◌, ℕ, if◌then◌else◌}
use Rattle.std.specs.Char.{digit_value}
use Rattle.papi_base.specs.Numerals.{is_digit, is_hex_digit}

-- the value of a hexadecimal digit, and 256 for another byte
abbrev pub digit_or_256 : ℕ → ℕ
digit_or_256 b = if is_hex_digit b then digit_value b else 256

-- the value of a decimal digit, and 256 for another byte
abbrev pub decimal_or_256 : ℕ → ℕ
decimal_or_256 b = if is_digit b then digit_value b else 256

-- 0 for `u`, 1 for `k`, and 256 for another byte
abbrev pub mode_or_256 : ℕ → ℕ
mode_or_256 b = if b == 117 then 0 else if b == 107 then 1 else 256
