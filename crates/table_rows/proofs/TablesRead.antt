-- The rows of a table that were taken, and those that are left.
use Rattle.table_rows.proofs.Words.{◌≡◌, ◌∙◌, ◌+◌, ◌∷◌, ◌++◌, ℕ, List, [], Option, None, length, map, refl, sym, subst, arith, append_assoc}
use Rattle.table_rows.proofs.Words.{append-nil, length-append, Result, Ok, Err, RefusesTable, TakesRow, fault_at, first_fault, RowRefusal}
use Rattle.table_rows.specs.declared.fault.RowRefusal.TheVariants as refusal

-- what a loop over rows keeps, with as many rows taken and these left
pub record Taken {L R C : Type 0} (cause : List L → L → Option C) (Gives : List L → R → Type 0) (lines : List L) (place : ℕ) (left : List L) (read : R) : Type 0 where
  pub above : List L
  pub count : length above ≡ place
  pub whole : above ++ left ≡ lines
  pub fault : first_fault cause [] lines ≡ first_fault cause above left
  pub given : Gives above read

pub none-taken : {L R C : Type 0} (cause : List L → L → Option C) (Gives : List L → R → Type 0) (lines : List L) (read : R) → Gives [] read → Taken cause Gives lines 0 lines read
none-taken cause Gives lines read given = record { above = []; count = refl; whole = refl; fault = refl; given = given }

-- what a loop over rows has once its table was given one more
abbrev pub AfterRow : {L R C : Type 0} (cause : List L → L → Option C) (Gives : List L → R → Type 0) (lines : List L) (place : ℕ) (left : List L) (new : R) → Result Unit (RowRefusal C) → Type 0
AfterRow cause Gives lines place left new (Ok u) = Taken cause Gives lines (place + 1) left new
AfterRow cause Gives lines place left new (Err why) = RefusesTable (first_fault cause [] lines) (fault_at place why)

one-more : {L R C : Type 0} (cause : List L → L → Option C) (Gives : List L → R → Type 0) (lines : List L) (place : ℕ) (line : L) (left : List L) (old new : R) (result : Result Unit (RowRefusal C))
    → (t : Taken cause Gives lines place (line ∷ left) old) → TakesRow (cause t.above line) (Gives (t.above ++ line ∷ []) new) result → AfterRow cause Gives lines place left new result
unfolding first_fault
one-more cause Gives lines place line left old new (Ok u) t took = record {
  above = t.above ++ line ∷ [];
  count = omega (arith, t.count, length-append t.above (line ∷ []));
  whole = append_assoc t.above (line ∷ []) left ∙ t.whole;
  fault = t.fault ∙ rw took.0 refl;
  given = took.1;
}
one-more cause Gives lines place line left old new (Err (refusal.Cause why)) t took = t.fault ∙ rw (took, t.count) refl
one-more cause Gives lines place line left old new (Err refusal.Memory) t took = tt

pub after-row : {F L R C : Type 0} (line_of : F → L) (cause : List L → L → Option C) (Gives : List L → R → Type 0) (lines : List L) (place : ℕ) (rows left : List F) (fields : F) (old new : R)
    (result : Result Unit (RowRefusal C)) → rows ≡ fields ∷ left → Taken cause Gives lines place (map line_of rows) old
    → ((above : List L) → Gives above old → TakesRow (cause above (line_of fields)) (Gives (above ++ line_of fields ∷ []) new) result)
    → AfterRow cause Gives lines place (map line_of left) new result
after-row line_of cause Gives lines place rows left fields old new result e t takes =
    let u = rw e at t in one-more cause Gives lines place (line_of fields) (map line_of left) old new result u (takes u.above u.given)

pub all-taken : {L R C : Type 0} (cause : List L → L → Option C) (Gives : List L → R → Type 0) (lines : List L) (place : ℕ) (read : R)
    → Taken cause Gives lines place [] read → (first_fault cause [] lines ≡ None) × Gives lines read
unfolding first_fault
all-taken cause Gives lines place read t = (t.fault, subst (λ above. Gives above read) (sym (append-nil t.above) ∙ t.whole) t.given)

-- what one row gives, said otherwise
pub takes-as : {C : Type 0} (cause same : Option C) (Given Gives : Type 0) (result : Result Unit (RowRefusal C)) → cause ≡ same → (cause ≡ None → Given → Gives)
    → TakesRow cause Given result → TakesRow same Gives result
takes-as cause same Given Gives (Ok u) is gives takes = (sym is ∙ takes.0, gives takes.0 takes.1)
takes-as cause same Given Gives (Err (refusal.Cause why)) is gives takes = sym is ∙ takes
takes-as cause same Given Gives (Err refusal.Memory) is gives takes = tt
