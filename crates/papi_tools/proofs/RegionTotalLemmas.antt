-- A total is the wrapped sum of what the lines that end its region show: by induction on the lines.
use Rattle.papi_tools.proofs.Words.{◌≡◌, ◌+ℤ◌, ℕ, ℤ, pos, Bool, true, false, List, [], ◌∷◌, ◌++◌, zero, suc, All, FitsSigned, filter, map, refl, ap}
use Rattle.papi_tools.proofs.Words.{ap₂, ◌∙◌, arith, int_wrap, int_wrapping_add, w64, SFits-int_wrap, int_wrap-add_left, int_wrap_fits, ints}
use Rattle.papi_tools.proofs.Words.{wrapping_add_is, All-append, All-cons, All-head, All-nil, All-tail, Coming, EventRef, Occ, Book, wrapped}
use Rattle.papi_tools.proofs.Words.{before_reading, region_span, region_spans, spans_after, spans_at, column_sums, plus, wrapped_sums, is_reading}
use Rattle.papi_tools.proofs.Words.{ends, total, with_end, Span, pairwise, RegionLine, TotalsAreSums, ended_values}
use Rattle.std.specs.Prelude.{fold, if◌then◌else◌, replicate}
use Rattle.papi_base.specs.declared.native.EventRef.TheVariants as event
use Rattle.call_laws.specs.Positions.{position, stream_of, value_between}

-- ---- sums

-- the values of a line are of signed 64 bits
abbrev AreFit : Span → Type 0
AreFit s = All (FitsSigned w64) s.values

added : (y x : ℤ) → FitsSigned w64 x → int_wrapping_add w64 (wrapped y) x ≡ wrapped (x +ℤ y)
added y x fits =
    wrapping_add_is w64 (wrapped y) x (SFits-int_wrap w64 y) fits
    ∙ int_wrap-add_left w64 y x
    ∙ ap (int_wrap w64) (let e : y +ℤ x ≡ x +ℤ y = omega (arith, ints) in e)

-- one line more, wrapped
row_added : (ys xs : List ℤ) → All (FitsSigned w64) xs → pairwise (int_wrapping_add w64) (map wrapped ys) xs ≡ map wrapped (plus xs ys)
unfolding pairwise
row_added [] [] fits = refl
row_added [] (x ∷ xs) fits = refl
row_added (y ∷ ys) [] fits = refl
row_added (y ∷ ys) (x ∷ xs) fits =
    ap₂ (λ (v : ℤ) (vs : List ℤ). v ∷ vs) (added y x (All-head (FitsSigned w64) x xs fits)) (row_added ys xs (All-tail (FitsSigned w64) x xs fits))

-- two rows are added in either order
exchanged : (a b ys : List ℤ) → plus a (plus b ys) ≡ plus b (plus a ys)
exchanged [] [] ys = refl
exchanged [] (y ∷ b) [] = refl
exchanged [] (y ∷ b) (z ∷ ys) = refl
exchanged (x ∷ a) [] [] = refl
exchanged (x ∷ a) [] (z ∷ ys) = refl
exchanged (x ∷ a) (y ∷ b) [] = refl
exchanged (x ∷ a) (y ∷ b) (z ∷ ys) =
    ap₂ (λ (v : ℤ) (vs : List ℤ). v ∷ vs) (let e : x +ℤ (y +ℤ z) ≡ y +ℤ (x +ℤ z) = omega (arith, ints) in e) (exchanged a b ys)

-- the sum of each column, onto these
abbrev sums_onto : List (List ℤ) → List ℤ → List ℤ
sums_onto [] ys = ys
sums_onto (row ∷ rows) ys = plus row (sums_onto rows ys)

onto_zeros : (n : ℕ) (rows : List (List ℤ)) → sums_onto rows (replicate n (pos 0)) ≡ column_sums n rows
onto_zeros n [] = refl
onto_zeros n (row ∷ rows) = ap (plus row) (onto_zeros n rows)

-- a row that is there before the others is one more
first_row : (row : List ℤ) (rows : List (List ℤ)) (ys : List ℤ) → sums_onto rows (plus row ys) ≡ plus row (sums_onto rows ys)
first_row row [] ys = refl
first_row row (r ∷ rows) ys = ap (plus r) (first_row row rows ys) ∙ exchanged r row (sums_onto rows ys)

total_from : (thread : ℕ) (name : List ℕ) (ys : List ℤ) (spans : List Span) → All AreFit spans
    → fold (with_end thread name) (map wrapped ys) spans ≡ map wrapped (sums_onto (ended_values thread name spans) ys)
total_from thread name ys [] fits = refl
total_from thread name ys (s ∷ spans) fits =
    go (ends thread name s) (total_from thread name ys spans (All-tail AreFit s spans fits)) (total_from thread name (plus s.values ys) spans (All-tail AreFit s spans fits)) where
      go : (b : Bool) → fold (with_end thread name) (map wrapped ys) spans ≡ map wrapped (sums_onto (ended_values thread name spans) ys)
          → fold (with_end thread name) (map wrapped (plus s.values ys)) spans ≡ map wrapped (sums_onto (ended_values thread name spans) (plus s.values ys))
          → fold (with_end thread name) (if b then pairwise (int_wrapping_add w64) (map wrapped ys) s.values else map wrapped ys) spans
          ≡ map wrapped (sums_onto (map (λ (k : Span). k.values) (if b then s ∷ filter (ends thread name) spans else filter (ends thread name) spans)) ys)
      go true same more =
          ap (λ zs. fold (with_end thread name) zs spans) (row_added ys s.values (All-head AreFit s spans fits))
          ∙ more ∙ ap (map wrapped) (first_row s.values (ended_values thread name spans) ys)
      go false same more = same

zeros : (n : ℕ) → replicate n (pos 0) ≡ map wrapped (replicate n (pos 0))
unfolding int_wrap
zeros zero = refl
zeros (suc n) = ap (λ zs. pos 0 ∷ zs) (zeros n)

wraps : (n thread : ℕ) (name : List ℕ) (spans : List Span) → All AreFit spans → total n thread name spans ≡ wrapped_sums n (ended_values thread name spans)
wraps n thread name spans fits =
    ap (λ zs. fold (with_end thread name) zs spans) (zeros n)
    ∙ total_from thread name (replicate n (pos 0)) spans fits
    ∙ ap (map wrapped) (onto_zeros n (ended_values thread name spans))

-- what has 64 bits is not changed
as_it_is : (zs : List ℤ) → All (FitsSigned w64) zs → map wrapped zs ≡ zs
as_it_is [] fits = refl
as_it_is (z ∷ zs) fits =
    ap₂ (λ (v : ℤ) (vs : List ℤ). v ∷ vs) (int_wrap_fits w64 z (All-head (FitsSigned w64) z zs fits)) (as_it_is zs (All-tail (FitsSigned w64) z zs fits))

-- ---- what regions count by positions

value_fits : (book : Book) (tape : List Occ) (p q : ℕ) (e : EventRef) → FitsSigned w64 (value_between book tape p q e)
value_fits book tape p q (event.Native native) = SFits-int_wrap w64 _
value_fits book tape p q (event.Preset row) = SFits-int_wrap w64 _

values_fit : (book : Book) (tape : List Occ) (p q : ℕ) (events : List EventRef) → All (FitsSigned w64) (map (value_between book tape p q) events)
values_fit book tape p q [] = All-nil (FitsSigned w64)
values_fit book tape p q (e ∷ events) = All-cons (FitsSigned w64) (value_between book tape p q e) (map (value_between book tape p q) events) (value_fits book tape p q e) (values_fit book tape p q events)

line_fits : (book : Book) (streams : List Coming) (events : List EventRef) (lines before : List RegionLine) (line : RegionLine) → All AreFit (spans_at book streams events lines before line)
line_fits book streams events lines before line = go (is_reading line) where
  values : AreFit (region_span book streams events lines before line)
  values =
      let tape : List Occ = stream_of streams line.thread in
      values_fit book tape (position tape line.thread (before_reading lines line.begun)) (position tape line.thread before) events

  go : (b : Bool) → All AreFit (if b then region_span book streams events lines before line ∷ [] else [])
  go true = All-cons AreFit (region_span book streams events lines before line) [] values (All-nil AreFit)
  go false = All-nil AreFit

lines_fit : (book : Book) (streams : List Coming) (events : List EventRef) (lines before further : List RegionLine) → All AreFit (spans_after book streams events lines before further)
lines_fit book streams events lines before [] = All-nil AreFit
lines_fit book streams events lines before (line ∷ further) =
    All-append AreFit (spans_at book streams events lines before line) (spans_after book streams events lines (before ++ line ∷ []) further)
    (line_fits book streams events lines before line) (lines_fit book streams events lines (before ++ line ∷ []) further)

pub totals_are_sums : TotalsAreSums
totals_are_sums book streams events lines n thread name =
    let spans : List Span = region_spans book streams events lines in
    let sum = wraps n thread name spans (lines_fit book streams events lines [] lines) in
    record { wraps = sum; exact = λ fits. sum ∙ as_it_is (column_sums n (ended_values thread name spans)) fits }
