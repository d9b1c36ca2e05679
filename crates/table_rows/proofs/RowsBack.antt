-- Rows that were written by ourselves, with no quotes, are the rows that `csv` reads.
use Rattle.table_rows.proofs.Words.{◌≡◌, ◌∙◌, ◌+◌, ◌<◌, ◌≤◌, ◌==◌, ◌∷◌, ◌++◌, ℕ, zero, suc, false, List, [], Some, length, refl, ap, arith}
use Rattle.table_rows.proofs.Words.{append_assoc, append-nil, AllByRecursion, join_with_byte, next_record, records_from, strip_bom, IsPlainField}
use Rattle.table_rows.proofs.Words.{IsPlainRow, rows_of, rows_text, table_config}
use Rattle.std.proofs.lemmas.List.{length-append}
use Rattle.csv.specs.declared.parser.State.TheVariants as st

-- the bytes of a field
field-run : (fields : List (List ℕ)) (field x tail : List ℕ) → IsPlainField x
    → next_record table_config st.InField fields field (x ++ tail) ≡ next_record table_config st.InField fields (field ++ x) tail
unfolding next_record
field-run fields field [] tail h = rw (append-nil field) refl
field-run fields field (b ∷ x) tail h =
    rw (h.0.0, h.0.1, h.0.2) (field-run fields (field ++ (b ∷ [])) x tail h.1
    ∙ ap (λ (f : List ℕ). next_record table_config st.InField fields f tail) (append_assoc field (b ∷ []) x))

-- with no quotes a field begins as it goes on
start-same : (fields : List (List ℕ)) (xs : List ℕ) → next_record table_config st.StartField fields [] xs ≡ next_record table_config st.InField fields [] xs
unfolding next_record
start-same fields [] = refl
start-same fields (c ∷ xs) = refl

-- and so does a record that begins with no mark
record-same : (b : ℕ) (xs : List ℕ) → (35 == b) ≡ false → (b == 13) ≡ false → (b == 10) ≡ false
    → next_record table_config st.StartRecord [] [] (b ∷ xs) ≡ next_record table_config st.InField [] [] (b ∷ xs)
unfolding next_record
record-same b xs c r n = rw (r, n, c) refl

-- a comma ends the field
end-field : (fields : List (List ℕ)) (x u : List ℕ) → next_record table_config st.InField fields x (44 ∷ u) ≡ next_record table_config st.StartField (fields ++ (x ∷ [])) [] u
unfolding next_record
end-field fields x u = refl

end-row : (fields : List (List ℕ)) (x u : List ℕ) → next_record table_config st.InField fields x (10 ∷ u) ≡ Some (fields ++ (x ∷ []), st.StartRecord, u)
unfolding next_record
end-row fields x u = refl

row-run : (fields : List (List ℕ)) (x : List ℕ) (ys : List (List ℕ)) (tail : List ℕ) → AllByRecursion IsPlainField (x ∷ ys)
    → next_record table_config st.InField fields [] (join_with_byte 44 (x ∷ ys) ++ (10 ∷ tail)) ≡ Some (fields ++ (x ∷ ys), st.StartRecord, tail)
row-run fields x [] tail h = field-run fields [] x (10 ∷ tail) h.0 ∙ end-row fields x tail
row-run fields x (y ∷ ys) tail h =
    let a = append_assoc x (44 ∷ join_with_byte 44 (y ∷ ys)) (10 ∷ tail) in
    let more = row-run (fields ++ (x ∷ [])) y ys tail h.1 in
    rw a (field-run fields [] x (44 ∷ (join_with_byte 44 (y ∷ ys) ++ (10 ∷ tail))) h.0
    ∙ end-field fields x (join_with_byte 44 (y ∷ ys) ++ (10 ∷ tail))
    ∙ start-same (fields ++ (x ∷ [])) (join_with_byte 44 (y ∷ ys) ++ (10 ∷ tail))
    ∙ more ∙ rw (append_assoc fields (x ∷ []) (y ∷ ys)) refl)

row-read : (row : List (List ℕ)) (tail : List ℕ) → IsPlainRow row → next_record table_config st.StartRecord [] [] (join_with_byte 44 row ++ (10 ∷ tail)) ≡ Some (row, st.StartRecord, tail)
row-read ((b ∷ x) ∷ []) tail h = record-same b (x ++ (10 ∷ tail)) h.1.0 h.0.0.0.1 h.0.0.0.2 ∙ row-run [] (b ∷ x) [] tail h.0
row-read ((b ∷ x) ∷ y ∷ ys) tail h = record-same b ((x ++ (44 ∷ join_with_byte 44 (y ∷ ys))) ++ (10 ∷ tail)) h.1.0 h.0.0.0.1 h.0.0.0.2 ∙ row-run [] (b ∷ x) (y ∷ ys) tail h.0
row-read row tail h = absurd h.1

rows-read : (rows : List (List (List ℕ))) (n : ℕ) → AllByRecursion IsPlainRow rows → length rows < n → records_from table_config n st.StartRecord (rows_text rows) ≡ rows
unfolding records_from rows_text next_record
rows-read rows zero h lt = absurd (omega arith)
rows-read [] (suc n) h lt = refl
rows-read (row ∷ rows) (suc n) h lt = rw (row-read row (rows_text rows) h.0) (ap (λ (t : List (List (List ℕ))). row ∷ t) (rows-read rows n h.1 (omega arith)))

-- each row has a byte
few-rows : (rows : List (List (List ℕ))) → length rows ≤ length (rows_text rows)
unfolding rows_text
few-rows [] = omega arith
few-rows (row ∷ rows) = let more = few-rows rows in omega (arith, more, length-append (join_with_byte 44 row) (10 ∷ rows_text rows))

strip-same : (b : ℕ) (xs : List ℕ) → (b == 0xEF) ≡ false → strip_bom (b ∷ xs) ≡ b ∷ xs
unfolding strip_bom
strip-same b (c ∷ d ∷ xs) e = rw e refl
strip-same b xs e = refl

strip-rows : (rows : List (List (List ℕ))) → AllByRecursion IsPlainRow rows → strip_bom (rows_text rows) ≡ rows_text rows
unfolding rows_text strip_bom
strip-rows [] h = refl
strip-rows (((b ∷ x) ∷ []) ∷ rows) h = strip-same b (x ++ (10 ∷ rows_text rows)) h.0.1.1
strip-rows (((b ∷ x) ∷ y ∷ ys) ∷ rows) h = strip-same b ((x ++ (44 ∷ join_with_byte 44 (y ∷ ys))) ++ (10 ∷ rows_text rows)) h.0.1.1
strip-rows rows h = absurd h.0.1

-- the rows of a text that was written from plain rows are these rows
pub rows-back : (rows : List (List (List ℕ))) → AllByRecursion IsPlainRow rows → rows_of (rows_text rows) ≡ rows
unfolding rows_of
rows-back rows h =
    rw (strip-rows rows h) (rows-read rows (length (rows_text rows) + 1) h (let f = few-rows rows in omega (arith, f)))
