-- What `papi_encode` comes to: a line for each name. Names, causes and codes are libpfm4's, and the text is this project's own
-- (docs/FORMATS.md).
use Rattle.std.specs.Prelude.{ℕ, List, [], ◌∷◌, ◌++◌, false, codes, is_ok, Result, Ok, Err}
use Rattle.std.specs.Fmt.{digits}
use Rattle.std.specs.List.{list_all}
use Rattle.papi_base.specs.declared.native.Native.{Native}
use Rattle.event_tables.specs.Tables.{ComponentText}
use Rattle.name_encoder.specs.Canonical.{canonical, code64}
use Rattle.name_encoder.specs.Names.{names, word_of}
use Rattle.name_encoder.specs.declared.fault.NameFault.{NameFault}
use Rattle.tool_words.specs.declared.encode.EncodeWords.{EncodeWords}
use Rattle.papi_tools.specs.Openings.{Openings, and_then}
use Rattle.papi_tools.specs.Texts.{text_said}
use Rattle.papi_tools.specs.Contents.{unit_under}
use Rattle.papi_tools.specs.declared.refusal.Refusal.{Refusal}
use Rattle.papi_tools.specs.declared.said.Said.{Said}

-- the code of a native event: `0x` and hexadecimal digits without leading zeros
abbrev pub code_text : Native → List ℕ
code_text native = codes "0x" ++ digits 16 false (code64 native)

-- the line of a name: the canonical name and the code of its native event, or why there is not one, and the name as it was given
abbrev pub answer_line : List ComponentText → List ℕ → Result Native NameFault → List ℕ
answer_line tables name (Ok native) = canonical tables native ++ (codes " " ++ (code_text native ++ codes "\n"))
answer_line tables name (Err fault) = word_of fault ++ (codes " " ++ (name ++ codes "\n"))

-- the lines of names, in their order
abbrev pub encoding_lines : List ComponentText → List (List ℕ) → List ℕ
encoding_lines tables [] = []
encoding_lines tables (n ∷ ns) = answer_line tables n (names tables n) ++ encoding_lines tables ns

-- a name that names no native event is a no
unfoldable pub encoded_said : List ComponentText → List (List ℕ) → Said
encoded_said tables ns = text_said (list_all (λ n. is_ok (names tables n)) ns) (encoding_lines tables ns)

-- the unit, then the names
unfoldable pub encode_verdict : Openings → EncodeWords → Result Said Refusal
encode_verdict openings words = and_then (unit_under openings words.unit) (λ tables. Ok (encoded_said tables words.names))
