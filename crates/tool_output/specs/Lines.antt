-- What the texts of listings are made of: this project's own format, docs/FORMATS.md.
use Rattle.std.specs.Prelude.{◌-◌, ℕ, List, [], ◌∷◌, ◌++◌, false, codes, length, replicate}
use Rattle.std.specs.Fmt.{digits}

-- the bytes of what is printed
abbrev pub Text : Type 0
Text = List ℕ

-- spaces that fill a column
abbrev pub spaces : ℕ → Text
spaces count = replicate count 32

-- a text to the left of a column, filled with spaces up to the width; a longer one stands whole
abbrev pub column : ℕ → Text → Text
column width text = text ++ spaces (width - length text)

-- `0x` and hexadecimal digits in lower case, without leading zeros
abbrev pub hex_text : ℕ → Text
hex_text number = codes "0x" ++ digits 16 false number

-- what an event is called: a symbol, a user event's name, or a canonical name
abbrev pub name_line : Text → Text
name_line name = codes "Name: " ++ (name ++ 10 ∷ [])

-- an event's code: of a preset or user event 32 bits, of a native event the 64 bits of its encoding
abbrev pub code_line : ℕ → Text
code_line code = codes "Code: " ++ (hex_text code ++ 10 ∷ [])
