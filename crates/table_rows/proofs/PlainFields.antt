-- The fields that `csv` reads with no quotes have no commas, and no bytes that end a row.
use Rattle.table_rows.proofs.Words.{◌≡◌, ◌+◌, ◌==◌, ◌∷◌, ◌++◌, ℕ, zero, suc, List, [], Option, Some, None, length, refl, ⊤, AllByRecursion, cond_both}
use Rattle.table_rows.proofs.Words.{or_parts, Read, after_end, ends_at_end, ends_with, field_after, fields_after, in_field, is_byte, is_end}
use Rattle.table_rows.proofs.Words.{next_record, start_record, step, records_from, records_next, strip_bom, Action, State, IsInner, IsPlainField}
use Rattle.table_rows.proofs.Words.{IsReadRow, rows_of, table_config}
use Rattle.csv.specs.declared.parser.Action.TheVariants as act
use Rattle.csv.specs.declared.parser.State.TheVariants as st
use Rattle.table_rows.proofs.Texts.{all-append, given}

-- the states that a reader with no quotes has
abbrev IsOpen : State → Type 0
IsOpen st.InQuoted = ⊥
IsOpen st.AfterQuote = ⊥
IsOpen st.InEscape = ⊥
IsOpen s = ⊤

record Fine (c : ℕ) (p : State × Action) : Type 0 where
  open_after : IsOpen p.0
  copies : p.1 ≡ act.Copy → IsInner c

after-open : (c : ℕ) → IsOpen (after_end table_config.terminator c)
after-open c = cond_both (c == 13) st.AfterCr st.StartRecord IsOpen (λ b. tt) (λ b. tt)

in_field-fine : (c : ℕ) → Fine c (in_field table_config c)
in_field-fine c =
    cond_both (c == 44) (st.StartField, act.EndField) _ (Fine c) (λ b. record { open_after = tt; copies = λ e. cc e })
    (λ no_comma. cond_both (ends_with table_config.terminator c) (after_end table_config.terminator c, act.EndRecord) (st.InField, act.Copy) (Fine c) (λ b. record { open_after = after-open c; copies = λ e. cc e })
    (λ stays. record { open_after = tt; copies = λ e. let ends = or_parts (c == 13) (c == 10) stays in (no_comma, ends.0, ends.1) }))

start-fine : (c : ℕ) → Fine c (start_record table_config c)
start-fine c =
    cond_both (ends_with table_config.terminator c) (st.StartRecord, act.Skip) _ (Fine c) (λ b. record { open_after = tt; copies = λ e. cc e })
    (λ stays. cond_both (is_byte table_config.comment c) (st.InComment, act.Skip) (in_field table_config c) (Fine c) (λ b. record { open_after = tt; copies = λ e. cc e }) (λ no_mark. in_field-fine c))

step-fine : (s : State) (c : ℕ) → IsOpen s → Fine c (step table_config s c)
step-fine st.StartRecord c o = start-fine c
step-fine st.StartField c o = in_field-fine c
step-fine st.InField c o = in_field-fine c
step-fine st.InComment c o = cond_both (c == 10) (st.StartRecord, act.Skip) (st.InComment, act.Skip) (Fine c) (λ b. record { open_after = tt; copies = λ e. cc e }) (λ b. record { open_after = tt; copies = λ e. cc e })
step-fine st.AfterCr c o = cond_both (c == 10) (st.StartRecord, act.Skip) (start_record table_config c) (Fine c) (λ b. record { open_after = tt; copies = λ e. cc e }) (λ b. start-fine c)
step-fine s c o = absurd o

fields-fine : (a : Action) (fields : List (List ℕ)) (field : List ℕ) → AllByRecursion IsPlainField fields → IsPlainField field → AllByRecursion IsPlainField (fields_after a fields field)
fields-fine act.Skip fields field h k = h
fields-fine act.Copy fields field h k = h
fields-fine a fields field h k = all-append IsPlainField fields (field ∷ []) h (k, tt)

field-fine : (a : Action) (c : ℕ) (field : List ℕ) → (a ≡ act.Copy → IsInner c) → IsPlainField field → IsPlainField (field_after a c field)
field-fine act.Copy c field e k = all-append IsInner field (c ∷ []) k (e refl, tt)
field-fine act.Skip c field e k = k
field-fine a c field e k = tt

abbrev IsRead : Read → Type 0
IsRead q = AllByRecursion IsPlainField q.0 × IsOpen q.1

next-fine : (s : State) (fields : List (List ℕ)) (field xs : List ℕ) (q : Read) → IsOpen s → AllByRecursion IsPlainField fields → IsPlainField field
    → next_record table_config s fields field xs ≡ Some q → IsRead q
unfolding next_record
next-fine s fields field [] q o h k e = given IsRead (ends_at_end s) (fields ++ (field ∷ []), st.StartRecord, []) None e (λ b. (all-append IsPlainField fields (field ∷ []) h (k, tt), tt)) (λ n. cc n)
next-fine s fields field (c ∷ rest) q o h k e =
    let fine = step-fine s c o in
    let fs = fields_after (step table_config s c).1 fields field in
    let more : AllByRecursion IsPlainField fs = fields-fine (step table_config s c).1 fields field h k in
    given IsRead (is_end (step table_config s c).1) (fs, (step table_config s c).0, rest) (next_record table_config (step table_config s c).0 fs (field_after (step table_config s c).1 c field) rest) e
    (λ b. (more, fine.open_after)) (next-fine (step table_config s c).0 fs _ rest q fine.open_after more (field-fine (step table_config s c).1 c field fine.copies k))

rows-fine : (n : ℕ) (s : State) (xs : List ℕ) → IsOpen s → AllByRecursion (AllByRecursion IsPlainField) (records_from table_config n s xs)
unfolding records_from
rows-fine zero s xs o = tt
rows-fine (suc n) s xs o = go (next_record table_config s [] [] xs) refl (λ t ys p. rows-fine n t ys p)
  where
    go : (r : Option Read) → next_record table_config s [] [] xs ≡ r → ((t : State) (ys : List ℕ) → IsOpen t → AllByRecursion (AllByRecursion IsPlainField) (records_from table_config n t ys))
        → AllByRecursion (AllByRecursion IsPlainField) (records_next (records_from table_config n) r)
    go None e more = tt
    go (Some q) e more = let f = next-fine s [] [] xs q o tt tt e in (f.0, more q.1 q.2 f.1)

pub rows-plain : (bytes : List ℕ) → AllByRecursion IsReadRow (rows_of bytes)
unfolding rows_of
rows-plain bytes = rows-fine (length (strip_bom bytes) + 1) st.StartRecord (strip_bom bytes) tt
