-- What one line of a stream says: this project's own stream format, docs/FORMATS.md.
use Rattle.std.specs.Prelude.{◌-◌, ◌==◌, ◌+◌, ◌&&◌, ℕ, Bool, true, false, List, [], ◌∷◌, length, slice_get, unwrap_or, Option, Some, None}
use Rattle.std.specs.Prelude.{if◌then◌else◌, nat_le, nat_lt, codes, bytes_eq}
use Rattle.std.specs.List.{slice_split}
use Rattle.std.specs.Option.{option_map_or}
use Rattle.papi_base.specs.Numerals.{decimal_in, flag_bit, hex_in}
use Rattle.papi_base.specs.declared.occurrence.Occ.{Occ}
use Rattle.papi_base.specs.declared.occurrence.LineCause.TheVariants as cause
use Rattle.papi_base.specs.declared.limits.TheConstants.{LARGEST_AMOUNT, LAST_STAMP, MOST_COMPONENTS}
use Rattle.stream_reader.specs.declared.limits.TheConstants.{LARGEST_STREAM, LONGEST_LINE}
use Rattle.stream_reader.specs.declared.line.LineStart.{LineStart}
use Rattle.stream_reader.specs.declared.line.Judgement.{Judgement}
use Rattle.stream_reader.specs.declared.line.Judgement.TheVariants.{Bad, Skipped, Version, Occurs}
use Rattle.stream_reader.specs.Lines.{Line}

-- a text without a carriage return at its end
unfoldable pub without_return : List ℕ → List ℕ
without_return [] = []
without_return (b ∷ []) = if b == 13 then [] else b ∷ []
without_return (b ∷ c ∷ rest) = b ∷ without_return (c ∷ rest)

-- a line as it is read
abbrev pub line_text : Line → List ℕ
line_text line = if line.ended then without_return line.bytes else line.bytes

-- an empty line or a comment
abbrev pub is_skipped : List ℕ → Bool
is_skipped [] = true
is_skipped (b ∷ rest) = b == 35

-- whether an occurrence fell in kernel mode: `k` if it did, `u` if it fell in user mode
unfoldable pub mode_of : List ℕ → Option Bool
mode_of t = if bytes_eq t (codes "u") then Some false else if bytes_eq t (codes "k") then Some true else None

-- what goes on from a value, if there is one
abbrev pub given : {X Y : Type 0} → Option X → (X → Option Y) → Option Y
given None next = None
given (Some x) next = next x

-- a field by its place from 0, empty if the line has fewer
abbrev pub field : List (List ℕ) → ℕ → List ℕ
field fields i = unwrap_or (slice_get fields i) []

-- the stamp: in version 2 the seventh field, in version 1 the number of occurrences before
abbrev pub stamp_of : Bool → ℕ → List (List ℕ) → Option ℕ
stamp_of stamped count fields = if stamped then decimal_in 0 LAST_STAMP (field fields 6) else Some count

-- the occurrence that some fields write
unfoldable pub occ_of : Bool → ℕ → List (List ℕ) → Option Occ
occ_of stamped count fields =
    given (decimal_in 0 (MOST_COMPONENTS - 1) (field fields 0)) (λ comp.
    given (hex_in 2 2 (field fields 1)) (λ select.
    given (hex_in 2 2 (field fields 2)) (λ umask.
    given (mode_of (field fields 3)) (λ kernel.
    given (decimal_in 1 LARGEST_AMOUNT (field fields 4)) (λ amount.
    given (hex_in 1 16 (field fields 5)) (λ pc.
    given (stamp_of stamped count fields) (λ stamp.
    Some (record { comp = comp; select = select; umask = umask; kernel = kernel; amount = amount; pc = pc; stamp = stamp }))))))))

-- the stamp is above the last one
abbrev pub is_above : Option ℕ → ℕ → Bool
is_above None stamp = true
is_above (Some last) stamp = nat_lt last stamp

-- a single space ends a field, so that two in a row have an empty one between them
abbrev pub fields_of : List ℕ → List (List ℕ)
fields_of text = slice_split (λ b. b == 32) text

-- six fields in version 1, seven in version 2
abbrev pub has_fields : Bool → List (List ℕ) → Bool
has_fields stamped fields = length fields == (6 + flag_bit stamped)

-- a stamp of version 2 is above the last one; version 1 numbers its occurrences as long as there are stamps
abbrev pub is_next_stamp : LineStart → ℕ → Bool
is_next_stamp start stamp = if start.stamped then is_above start.last stamp else nat_le stamp LAST_STAMP

-- the fields write an occurrence, and it can have its stamp
abbrev pub occurrence_judged : LineStart → Occ → Judgement
occurrence_judged start o = if is_next_stamp start o.stamp then Occurs o else Bad cause.Stamp

-- a line with too few or too many fields is bad for that alone; else the fields must write an occurrence
unfoldable pub fields_judged : LineStart → List (List ℕ) → Judgement
fields_judged start fields =
    if has_fields start.stamped fields then
    option_map_or (occurrence_judged start) (occ_of start.stamped start.given fields) (Bad cause.Field)
    else Bad cause.Fields

-- only the first line can give the version; empty lines and comments are skipped
unfoldable pub text_judged : LineStart → List ℕ → Judgement
text_judged start text =
    if (start.number == 1) && bytes_eq text (codes "version 2") then Version
    else if is_skipped text then Skipped
    else fields_judged start (fields_of text)

-- a line by itself: the limits of its length and of the stream take precedence over what its text says
unfoldable pub judged : LineStart → Line → Judgement
judged start line =
    if nat_lt LONGEST_LINE (length line.bytes) then Bad cause.Long
    else if nat_lt LARGEST_STREAM (start.passed + length line.bytes) then Bad cause.Size
    else text_judged start (line_text line)
