-- What reading a table row by row gives: what its rows give, or its first faulty row.
use Rattle.std.specs.Prelude.{⊤, ◌≡◌, ◌+◌, ℕ, Bool, false, List, [], ◌∷◌, ◌++◌, length, Option, Some, None, Result, Ok, Err}
use Rattle.std.specs.List.{AllByRecursion}
use Rattle.std.specs.Option.{option_map_or}
use Rattle.table_rows.specs.declared.fault.RowRefusal.{RowRefusal}
use Rattle.table_rows.specs.declared.fault.RowRefusal.TheVariants as refusal
use Rattle.table_rows.specs.declared.fault.RowFault.{RowFault}
use Rattle.table_rows.specs.declared.fault.RowFault.TheVariants as fault

-- no two items are together, each taken with those after it
abbrev pub NoTwo : {X : Type 0} → (X → X → Bool) → List X → Type 0
NoTwo together [] = ⊤
NoTwo together (x ∷ xs) = AllByRecursion (λ y. together x y ≡ false) xs × NoTwo together xs

-- the first row below `above` that has a cause in view of the rows above it, counted from 1, and its cause
unfoldable pub first_fault : {L C : Type 0} → (List L → L → Option C) → List L → List L → Option (ℕ × C)
first_fault cause above [] = None
first_fault cause above (line ∷ rest) =
    option_map_or (λ why. Some (length above + 1, why)) (cause above line) (first_fault cause (above ++ line ∷ []) rest)

-- a row is refused for its cause, or out of memory
abbrev pub RefusesRow : {C : Type 0} → Option C → RowRefusal C → Type 0
RefusesRow cause (refusal.Cause why) = cause ≡ Some why
RefusesRow cause refusal.Memory = ⊤

-- a row without a cause is taken
abbrev pub TakesRow : {C : Type 0} → Option C → Type 0 → Result Unit (RowRefusal C) → Type 0
TakesRow cause Given (Ok u) = (cause ≡ None) × Given
TakesRow cause Given (Err refused) = RefusesRow cause refused

-- a table is refused for its first fault, or out of memory
abbrev pub RefusesTable : {C : Type 0} → Option (ℕ × C) → RowFault C → Type 0
RefusesTable first (fault.Row row why) = first ≡ Some (row, why)
RefusesTable first fault.Memory = ⊤

-- a table without a fault is read
abbrev pub ReadsTable : {R C : Type 0} → Option (ℕ × C) → (R → Type 0) → Result R (RowFault C) → Type 0
ReadsTable first Gives (Ok read) = (first ≡ None) × Gives read
ReadsTable first Gives (Err refused) = RefusesTable first refused

-- the fault of a refused row, whose place is from 0
abbrev pub fault_at : {C : Type 0} → ℕ → RowRefusal C → RowFault C
fault_at place (refusal.Cause why) = fault.Row (place + 1) why
fault_at place refusal.Memory = fault.Memory
