-- What a read of one row leaves of the rows.
use Rattle.table_rows.proofs.Words.{Bor, ◌≡◌, ◌∙◌, ◌+◌, ◌≤◌, ◌<◌, ◌∷◌, ℕ, zero, suc, List, [], Option, Some, None, Bool, true, false, length, refl}
use Rattle.table_rows.proofs.Words.{ap, subst, inl, arith, is_some, not, cond_both, Read, next_record, Reached, ReadRecord, is_bom, records_from}
use Rattle.table_rows.proofs.Words.{records_next, strip_bom, took_first, State, Reader, rows-end, rows-more, IsAtRow, IsBetweenRows, ReadsRow}
use Rattle.table_rows.proofs.Words.{bytes_left, is_between, rows_from, rows_left, source, rows_of, table_config}
use Rattle.csv.specs.declared.parser.State.TheVariants as st
use Rattle.table_rows.proofs.Records.{next-leaves, next-takes}

abbrev Row : Type 0
Row = List (List ℕ)

abbrev Bytes : Type 0
Bytes = Bor (List ℕ)

-- ---- records from a state between two records

-- any bound above the number of bytes gives all of them
records-enough : (n m : ℕ) (s : State) (xs : List ℕ) → is_between s ≡ true → length xs < n → length xs < m → records_from table_config n s xs ≡ records_from table_config m s xs
unfolding records_from
records-enough zero m s xs b p q = absurd (omega arith)
records-enough (suc n) zero s xs b p q = absurd (omega arith)
records-enough (suc n) (suc m) s xs b p q = go (next_record table_config s [] [] xs)
    (λ r e.
    let l = next-leaves table_config s [] [] xs r e in
    let t = next-takes table_config s xs r b e in
    records-enough n m r.1 r.2 l.between (omega arith) (omega arith))
  where
    go : (o : Option Read) → ((r : Read) → o ≡ Some r → records_from table_config n r.1 r.2 ≡ records_from table_config m r.1 r.2)
        → records_next (records_from table_config n) o ≡ records_next (records_from table_config m) o
    go None more = refl
    go (Some r) more = ap (λ (t : List Row). r.0 ∷ t) (more r refl)

records-step : (n : ℕ) (s : State) (xs : List ℕ) (r : Read) → is_between s ≡ true → length xs < n → next_record table_config s [] [] xs ≡ Some r
    → records_from table_config n s xs ≡ r.0 ∷ records_from table_config (length r.2 + 1) r.1 r.2
unfolding records_from
records-step zero s xs r b lt e = absurd (omega arith)
records-step (suc n) s xs r b lt e =
    let l = next-leaves table_config s [] [] xs r e in
    let t = next-takes table_config s xs r b e in
    let more = records-enough n (length r.2 + 1) r.1 r.2 l.between (omega arith) (omega arith) in
    rw e (ap (λ (t : List Row). r.0 ∷ t) more)

records-none : (n : ℕ) (s : State) (xs : List ℕ) → next_record table_config s [] [] xs ≡ None → records_from table_config n s xs ≡ []
unfolding records_from
records-none zero s xs e = refl
records-none (suc n) s xs e = rw e refl

records-few : (n : ℕ) (s : State) (xs : List ℕ) → is_between s ≡ true → length (records_from table_config n s xs) ≤ length xs
unfolding records_from
records-few zero s xs b = omega arith
records-few (suc n) s xs b = go (next_record table_config s [] [] xs)
    (λ r e.
    let l = next-leaves table_config s [] [] xs r e in
    let t = next-takes table_config s xs r b e in
    let more = records-few n r.1 r.2 l.between in
    omega (arith, t, more))
  where
    go : (o : Option Read) → ((r : Read) → o ≡ Some r → length (records_from table_config n r.1 r.2) < length xs)
        → length (records_next (records_from table_config n) o) ≤ length xs
    go None more = omega arith
    go (Some r) more = let h = more r refl in omega (arith, h)

strip-few : (xs : List ℕ) → length (strip_bom xs) ≤ length xs
unfolding strip_bom
strip-few (a ∷ b ∷ c ∷ rest) = cond_both (is_bom a b c) rest (a ∷ b ∷ c ∷ rest) (λ (t : List ℕ). length t ≤ length (a ∷ b ∷ c ∷ rest)) (λ e. omega arith) (λ e. omega arith)
strip-few xs = omega arith

pub rows-few : (bytes : List ℕ) → length (rows_of bytes) ≤ length bytes
unfolding rows_of
rows-few bytes =
    let h = records-few (length (strip_bom bytes) + 1) st.StartRecord (strip_bom bytes) refl in
    let s = strip-few bytes in
    omega (arith, h, s)

-- ---- one read

after : (f p : Row) (s t : State) (xs z : List ℕ) (o : Option (List ℕ)) → f ≡ p → s ≡ t → xs ≡ z → o ≡ Some z → p ∷ rows_from s (Some xs) ≡ f ∷ rows_from t o
after f p s t xs z o a b c d = rw (a, b, c, d) refl

record OneRead (a b : Reader Bytes) (f : Row) : Type 0 where
  place : IsBetweenRows b
  rows : bytes_left a ≡ f ∷ bytes_left b

row-read : (a b : Reader Bytes) (f : Row) → IsBetweenRows a → ReadRecord (λ s. Some s.now) a b true f → took_first b ≡ true → OneRead a b f
unfolding Reached
row-read a b f h r first = go (source a) refl h.known
  where
    go : (o : Option (List ℕ)) → source a ≡ o → is_some o ≡ true → OneRead a b f
    go None e k = cc k
    go (Some y) e k =
        let m = rows-more (λ (s : Bytes). Some s.now) a b f table_config a.state y y [] h.config e (refl, refl) r in
        let p = m.2.0 in
        let next = m.2.1 in
        let l = next-leaves table_config a.state [] [] y p next in
        let step = records-step (length y + 1) a.state y p h.between (omega arith) next in
        record {
          place = record {
            trim = r.3 ∙ h.trim;
            ready = inl first;
            config = r.2 ∙ h.config;
            between = subst (λ (s : State). is_between s ≡ true) m.2.3.0 l.between;
            known = rw m.1 refl;
          };
          rows = ap (rows_from a.state) e ∙ step ∙ after f p.0 p.1 b.state p.2 m.0 (source b) m.2.2 m.2.3.0 m.2.3.1 m.1;
        }

none-read : (a b : Reader Bytes) (f : Row) → IsBetweenRows a → ReadRecord (λ s. Some s.now) a b false f → bytes_left a ≡ []
none-read a b f h r = go (source a) refl h.known
  where
    go : (o : Option (List ℕ)) → source a ≡ o → is_some o ≡ true → bytes_left a ≡ []
    go None e k = cc k
    go (Some y) e k =
        let none = rows-end (λ (s : Bytes). Some s.now) a b f table_config y h.config e r in
        ap (rows_from a.state) e ∙ records-none (length y + 1) a.state y none

pub reads : (found : Bool) (a b : Reader Bytes) (f : Row) → IsBetweenRows a → ReadRecord (λ s. Some s.now) a b found f → took_first b ≡ true
    → ReadsRow found (bytes_left a) f (rows_left (not found) b)
reads true a b f h r first = (row-read a b f h r first).rows
reads false a b f h r first = (none-read a b f h r, refl)

pub at-row : (found : Bool) (a b : Reader Bytes) (f : Row) → IsBetweenRows a → ReadRecord (λ s. Some s.now) a b found f → took_first b ≡ true → IsAtRow (not found) b
at-row true a b f h r first = (row-read a b f h r first).place
at-row false a b f h r first = tt
