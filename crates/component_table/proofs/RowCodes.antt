-- The codes of a catalog's rows.
use Rattle.component_table.proofs.Words.{◌≡◌, ◌∙◌, ◌<◌, ◌≤◌, ◌==◌, ℕ, true, false, cond, None, Some, length, ap, arith, refl, get_or, slice_get}
use Rattle.component_table.proofs.Words.{eq-eqb, le-ltb, lt-ltb, ne_eqb, get_or-map-range_with_len, length-map-range_with_len, position_or_len_is}
use Rattle.component_table.proofs.Words.{slice_get_past, unwrap_or-slice_get, position_or_len, CatalogView, code_of_row, row_count, row_codes}
use Rattle.std.specs.Prelude.{nat_lt, position, unwrap_or}

how_many : (c : CatalogView) → length (row_codes c) ≡ row_count c
unfolding row_codes
how_many c = length-map-range_with_len code_of_row 0 (row_count c)

code_got : (c : CatalogView) (row : ℕ) → row < row_count c → get_or (row_codes c) row 0 ≡ code_of_row row
unfolding row_codes
code_got c row small = get_or-map-range_with_len code_of_row 0 (row_count c) row row 0 small (omega arith)

pub code-here : (c : CatalogView) (row : ℕ) → row < row_count c → unwrap_or (slice_get (row_codes c) row) 0 ≡ code_of_row row
code-here c row small = unwrap_or-slice_get (row_codes c) row 0 ∙ code_got c row small

pub code-past : (c : CatalogView) (row : ℕ) → row_count c ≤ row → unwrap_or (slice_get (row_codes c) row) 0 ≡ 0
code-past c row past = ap (λ o. unwrap_or o 0) (slice_get_past (row_codes c) row (omega (arith, past, how_many c)))

-- the rows below this one have other codes
abbrev pub NoneBelow : ℕ → ℕ → Type 0
NoneBelow row code = (k : ℕ) → k < row → code_of_row k ≡ code → ⊥

fails_below : (c : CatalogView) (row code : ℕ) → row ≤ row_count c → NoneBelow row code → (k : ℕ) → k < row → (get_or (row_codes c) k 0 == code) ≡ false
fails_below c row code few h k small = ap (λ n. n == code) (code_got c k (omega (arith, few, small))) ∙ ne_eqb (code_of_row k) code (h k small)

pub code-found : (c : CatalogView) (row code : ℕ) → row < row_count c → NoneBelow row code → code_of_row row ≡ code → position (λ x. x == code) (row_codes c) ≡ Some row
code-found c row code small none same =
    let size = length (row_codes c) in
    let many : size ≡ row_count c = how_many c in
    let place : position_or_len (λ x. x == code) (row_codes c) ≡ row =
    position_or_len_is (λ x. x == code) (row_codes c) row 0 (omega (arith, many, small)) (fails_below c row code (omega (arith, small)) none)
    (λ _. ap (λ n. n == code) (code_got c row small ∙ same) ∙ eq-eqb code code refl) in
    let within : nat_lt row size ≡ true = lt-ltb row size (omega (arith, many, small)) in
    ap (λ k. cond (nat_lt k size) (Some k) None) place ∙ ap (λ b. cond b (Some row) None) within

pub code-missing : (c : CatalogView) (row code : ℕ) → row_count c ≤ row → NoneBelow row code → position (λ x. x == code) (row_codes c) ≡ None
code-missing c row code all none =
    let size = length (row_codes c) in
    let many : size ≡ row_count c = how_many c in
    let below : NoneBelow size code = λ k small. none k (omega (arith, many, all, small)) in
    let place : position_or_len (λ x. x == code) (row_codes c) ≡ size =
    position_or_len_is (λ x. x == code) (row_codes c) size 0 (omega arith) (λ k small. fails_below c size code (omega (arith, many)) below k small) (λ small. absurd (omega (arith, small))) in
    let past : nat_lt size size ≡ false = le-ltb size size (omega arith) in
    ap (λ k. cond (nat_lt k size) (Some k) None) place ∙ ap (λ b. cond b (Some size) None) past
