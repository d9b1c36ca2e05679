-- What a reader of rows has left.
use Rattle.std.specs.Prelude.{⊤, ◌≡◌, ◌+◌, ◌∷◌, ℕ, Bool, true, false, List, [], length, Option, Some, None, is_some}
use Rattle.std.specs.Borrow.{Bor}
use Rattle.csv.specs.Reading.{Ready, reader_config, reader_state, reader_trim, records_from, source_of}
use Rattle.csv.specs.declared.parser.State.{State}
use Rattle.csv.specs.declared.parser.State.TheVariants as st
use Rattle.csv.specs.declared.reader.Reader.{Reader}
use Rattle.csv.specs.declared.reader.Trim.TheVariants as trim
use Rattle.table_rows.specs.Rows.{table_config}

-- the reader stands between two records
abbrev pub is_between : State → Bool
is_between st.StartRecord = true
is_between st.AfterCr = true
is_between s = false

-- the bytes that a reader over bytes in memory has left
abbrev pub source : Reader (Bor (List ℕ)) → Option (List ℕ)
source r = source_of (λ s. Some s.now) r

-- the rows of these bytes, from a state of the reader
abbrev pub rows_from : State → Option (List ℕ) → List (List (List ℕ))
rows_from s None = []
rows_from s (Some bytes) = records_from table_config (length bytes + 1) s bytes

-- the rows that a reader still gives, from its state and the bytes that it has not taken yet
abbrev pub bytes_left : Reader (Bor (List ℕ)) → List (List (List ℕ))
bytes_left r = rows_from (reader_state r) (source r)

-- a reader of a table that stands between two rows
pub record IsBetweenRows (r : Reader (Bor (List ℕ))) : Type 0 where
  pub trim : reader_trim r ≡ trim.None
  pub ready : Ready r
  pub config : reader_config r ≡ table_config
  pub between : is_between (reader_state r) ≡ true
  pub known : is_some (source r) ≡ true

-- the rows that are left, of which there are none once the reader has ended
abbrev pub rows_left : Bool → Reader (Bor (List ℕ)) → List (List (List ℕ))
rows_left true r = []
rows_left false r = bytes_left r

-- a reader that has not ended stands between two rows; nothing is asked of one that has ended
abbrev pub IsAtRow : Bool → Reader (Bor (List ℕ)) → Type 0
IsAtRow true r = ⊤
IsAtRow false r = IsBetweenRows r

-- a row is taken from those that are left, or none is left
abbrev pub ReadsRow : Bool → List (List (List ℕ)) → List (List ℕ) → List (List (List ℕ)) → Type 0
ReadsRow true rows fields left = rows ≡ fields ∷ left
ReadsRow false rows fields left = (rows ≡ []) × (left ≡ [])
