-- Lines of the common form: this project's own stream format, docs/FORMATS.md.
use Rattle.std.specs.Prelude.{◌-◌, ◌≡◌, ◌≤◌, ◌<◌, ◌+◌, ◌⊎◌, ◌++◌, ◌==◌, ◌||◌, ℕ, Bool, true, not, List, [], ◌∷◌, length, take, slice_index, Some}
use Rattle.std.specs.List.{list_all}
use Rattle.std.specs.Str.Parse.{digits_value}
use Rattle.papi_base.specs.Numerals.{decimal_in, hex_in, is_digit}
use Rattle.papi_base.specs.declared.occurrence.Occ.{Occ}
use Rattle.papi_base.specs.declared.limits.TheConstants.{LARGEST_AMOUNT, LAST_STAMP, MOST_COMPONENTS}
use Rattle.stream_reader.specs.declared.common_line.CommonLine.{CommonLine}
use Rattle.stream_reader.specs.declared.common_line.Front.{Front}
use Rattle.stream_reader.specs.declared.common_line.Head.{Head}
use Rattle.stream_reader.specs.declared.common_line.TheConstants.{HEAD, LONGEST_NUMBERED, LONGEST_STAMP}
use Rattle.stream_reader.specs.declared.field.Field.{Field}
use Rattle.stream_reader.specs.declared.line.Judgement.{Judgement}
use Rattle.stream_reader.specs.declared.line.LineStart.{LineStart}
use Rattle.stream_reader.specs.declared.limits.TheConstants.{LONGEST_LINE}
use Rattle.stream_reader.specs.Digits.{piece}
use Rattle.stream_reader.specs.Judged.{judged, mode_of, without_return}
use Rattle.stream_reader.specs.Lines.{IsOneLine}
use Rattle.stream_reader.specs.Fields.{after_field, first_field, occurrence_on, stamp_after}
use Rattle.stream_reader.specs.Inside.{FindsNewline, line_at}
use Rattle.stream_reader.specs.Reader.{ReaderView}

-- a byte that neither ends a line nor is a carriage return
abbrev pub is_plain : ℕ → Bool
is_plain b = not ((b == 10) || (b == 13))

-- such a byte that ends no field either
abbrev pub is_inner : ℕ → Bool
is_inner b = not ((b == 32) || ((b == 10) || (b == 13)))

-- all bytes of a text are such bytes
pub record IsInner (t : List ℕ) : Type 0 where
  pub each : list_all is_inner t ≡ true

-- a text begins with a component
pub record BeginsWithComponent (t : List ℕ) (comp : Field) : Type 0 where
  pub some : 1 ≤ comp.size
  pub few : comp.size ≤ 2
  pub most : comp.value ≤ MOST_COMPONENTS - 1
  pub digit : is_digit (slice_index t 0) ≡ true
  pub value : decimal_in 0 (MOST_COMPONENTS - 1) (take comp.size t) ≡ Some comp.value
  pub inner : IsInner (take comp.size t)

-- a space stands before and after each of the three fields between the component and the amount
pub record HasHeadSpaces (t : List ℕ) : Type 0 where
  pub first : slice_index t 0 ≡ 32
  pub second : slice_index t 3 ≡ 32
  pub third : slice_index t 6 ≡ 32
  pub fourth : slice_index t 8 ≡ 32

-- the bytes after the component and before the amount
pub record IsHead (t : List ℕ) (head : Head) : Type 0 where
  pub select : hex_in 2 2 (slice_index t 1 ∷ slice_index t 2 ∷ []) ≡ Some head.select
  pub umask : hex_in 2 2 (slice_index t 4 ∷ slice_index t 5 ∷ []) ≡ Some head.umask
  pub kernel : mode_of (slice_index t 7 ∷ []) ≡ Some head.kernel
  pub select_inner : IsInner (slice_index t 1 ∷ slice_index t 2 ∷ [])
  pub umask_inner : IsInner (slice_index t 4 ∷ slice_index t 5 ∷ [])
  pub kernel_inner : IsInner (slice_index t 7 ∷ [])
  pub spaces : HasHeadSpaces t

-- the amount after the head, and the space that ends it
pub record IsAmount (t : List ℕ) (amount : Field) : Type 0 where
  pub some : 1 ≤ amount.size
  pub few : amount.size ≤ 3
  pub most : amount.value ≤ LARGEST_AMOUNT
  pub value : decimal_in 1 LARGEST_AMOUNT (piece HEAD amount.size t) ≡ Some amount.value
  pub inner : IsInner (piece HEAD amount.size t)
  pub space : slice_index t (HEAD + amount.size) ≡ 32

-- a number with this value and n digits, from the least one to LARGEST_AMOUNT
pub record IsAmountOf (n digits least : ℕ) (amount : Field) : Type 0 where
  pub value : amount.value ≡ n
  pub size : amount.size ≡ digits
  pub above : least ≤ n
  pub within : n ≤ LARGEST_AMOUNT

-- the occurrence of these fields with this stamp
abbrev pub occ_with : Front → ℕ → Occ
occ_with front stamp =
    record { comp = front.comp; select = front.head.select; umask = front.head.umask; kernel = front.head.kernel; amount = front.amount; pc = front.pc; stamp = stamp }

-- a text begins with the fields before the stamp: with any ending that gives a stamp they write the occurrence
pub record IsFront (t : List ℕ) (front : Front) : Type 0 where
  pub some : 0 < front.size
  pub few : front.size < LONGEST_NUMBERED
  pub within : front.size < length t
  pub digit : is_digit (slice_index t 0) ≡ true
  pub plain : list_all is_plain (take front.size t) ≡ true
  pub occurs : (stamped : Bool) (count stamp : ℕ) (ending : List ℕ) → first_field ending ≡ [] → stamp_after stamped count (after_field ending) ≡ Some stamp →
      occurrence_on stamped count (take front.size t ++ ending) ≡ Some (occ_with front stamp)

-- a text begins with decimal digits, at most as many as the longest stamp has, and their number
pub record IsDigits (t : List ℕ) (digits : Field) : Type 0 where
  pub few : digits.size ≤ LONGEST_STAMP
  pub each : list_all is_digit (take digits.size t) ≡ true
  pub value : digits.value ≡ digits_value 10 (take digits.size t)

-- a space and a stamp
pub record IsStamp (t : List ℕ) (stamp : Field) : Type 0 where
  pub few : stamp.size ≤ LONGEST_STAMP
  pub within : 1 + stamp.size < length t
  pub space : slice_index t 0 ≡ 32
  pub value : decimal_in 0 LAST_STAMP (piece 1 stamp.size t) ≡ Some stamp.value
  pub inner : IsInner (piece 1 stamp.size t)

-- the line whose fields end at this place has this length: a carriage return may stand after them, and then comes the newline
pub record EndsAt (t : List ℕ) (place size : ℕ) : Type 0 where
  pub newline : slice_index t size ≡ 10
  pub fields : (size ≡ place) ⊎ ((size ≡ place + 1) × (slice_index t place ≡ 13))

-- a text begins with a line whose fields write an occurrence, and then the newline
pub record BeginsWith (start : LineStart) (t : List ℕ) (line : CommonLine) : Type 0 where
  pub within : line.size < length t
  pub short : line.size ≤ LONGEST_LINE
  pub newline : slice_index t line.size ≡ 10
  pub one : IsOneLine (take line.size t)
  -- the length of the fields, with no carriage return
  pub fields : ℕ
  pub some : 0 < fields
  pub few : fields ≤ line.size
  pub digit : is_digit (slice_index t 0) ≡ true
  pub whole : without_return (take line.size t) ≡ take fields t
  pub occurs : occurrence_on start.stamped start.given (take fields t) ≡ Some line.occ

-- a text begins as a comment does, or with a newline
abbrev pub BeginsSkipped : List ℕ → Type 0
BeginsSkipped t = (slice_index t 0 ≡ 35) ⊎ (slice_index t 0 ≡ 10)

-- the bytes held begin with a line of this length, which is judged so
pub record HoldsLine (v : ReaderView) (n : ℕ) (j : Judgement) : Type 0 where
  pub found : FindsNewline v.held (Some n)
  pub judged : j ≡ judged v.start (line_at v n true)
