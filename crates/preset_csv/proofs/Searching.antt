-- The row of a symbol: the first row that has it.
use Rattle.preset_csv.proofs.Words.{rules, ◌≡◌, ◌<◌, ◌+◌, ℕ, Bool, true, false, List, [], None, Some, length, get_or, refl, arith, ltb-true}
use Rattle.preset_csv.proofs.Words.{ltb-false, position_or_len_is, slice_get-get_or, option_map_or, bytes_eq, PRESETS}
use Rattle.std.specs.Prelude.{nat_lt, position, slice_get}
use Rattle.preset_csv.specs.Symbols.{PresetRow, preset, preset_rows}

-- no row before this one has the symbol
abbrev pub NoneBefore : List ℕ → List PresetRow → ℕ → Type 0
NoneBefore symbol rows row = (i : ℕ) → i < row → bytes_eq (get_or rows i (preset [] 0 [])).symbol symbol ≡ false

-- the symbol in a row, or an empty one
abbrev pub symbol_in : List PresetRow → ℕ → List ℕ
symbol_in rows row = option_map_or (λ r. r.symbol) (slice_get rows row) []

same_symbol : (rows : List PresetRow) (row : ℕ) → row < length rows → symbol_in rows row ≡ (get_or rows row (preset [] 0 [])).symbol
same_symbol rows row h = search (rules, slice_get-get_or rows row (preset [] 0 []) h)

pub passes_over : (symbol : List ℕ) (rows : List PresetRow) (row : ℕ) → NoneBefore symbol rows row → row < length rows → bytes_eq (symbol_in rows row) symbol ≡ false
    → NoneBefore symbol rows (row + 1)
passes_over symbol rows row h inside other i below = go (nat_lt i row) refl
  where
    go : (b : Bool) → nat_lt i row ≡ b → bytes_eq (get_or rows i (preset [] 0 [])).symbol symbol ≡ false
    go true e = h i (ltb-true _ _ e)
    go false e = search (rules, other, same_symbol rows row inside, ltb-false _ _ e, below)

pub stops_at : (symbol : List ℕ) (rows : List PresetRow) (row : ℕ) → NoneBefore symbol rows row → row < length rows → bytes_eq (symbol_in rows row) symbol ≡ true
    → position (λ r. bytes_eq r.symbol symbol) rows ≡ Some row
stops_at symbol rows row h inside same =
    search (rules, position_or_len_is (λ r. bytes_eq r.symbol symbol) rows row (preset [] 0 []) (omega (arith, inside)) h (λ _. search (rules, same, same_symbol rows row inside)), inside)

pub finds_none : (symbol : List ℕ) (rows : List PresetRow) → NoneBefore symbol rows (length rows) → position (λ r. bytes_eq r.symbol symbol) rows ≡ None
finds_none symbol rows h =
    search (rules, position_or_len_is (λ r. bytes_eq r.symbol symbol) rows (length rows) (preset [] 0 []) (omega (arith)) h (λ l. absurd (omega (arith, l))))

pub rows_counted : length preset_rows ≡ PRESETS
unfolding preset_rows
rows_counted = refl
