-- Components of one and of two digits.
use Rattle.stream_reader.proofs.Words.{◌≡◌, ◌∙◌, ◌+◌, ◌-◌, ◌≤◌, ℕ, true, List, Some, length, take, get_or, refl, sym, ap, arith, list_all}
use Rattle.stream_reader.proofs.Words.{digits_value, is_digit, has_form, BeginsWithComponent}
use Rattle.stream_reader.proofs.DecimalBytes.{decimal-of, digit, digits-inner, not-zero}
use Rattle.stream_reader.proofs.FirstItems.{taken}

component-is : (t : List ℕ) (n size : ℕ) → 1 ≤ size → size ≤ 2 → is_digit (get_or t 0 0) ≡ true → list_all is_digit (take size t) ≡ true → has_form (length (take size t)) (get_or (take size t) 0 0) ≡ true
    → n ≡ digits_value 10 (take size t) → n ≤ 15 → BeginsWithComponent t (record { value = n; size = size })
component-is t n size some few first each form is most = record {
  some = some;
  few = few;
  most = most;
  digit = first;
  value = decimal-of 0 15 (take size t) each form (omega arith) (omega (arith, is)) ∙ ap Some (sym is);
  inner = record { each = digits-inner (take size t) each };
}

pub component-1 : (t : List ℕ) (n : ℕ) → 1 ≤ length t → 48 ≤ get_or t 0 0 → get_or t 0 0 ≤ 57 → n ≡ get_or t 0 0 - 48 → BeginsWithComponent t (record { value = n; size = 1 })
component-1 t n long low high e =
    let x = digit (get_or t 0 0) low high in
    let bytes = taken 0 1 0 t long in
    component-is t n 1 (omega arith) (omega arith) x.test (rw (bytes, x.test) refl) (rw bytes refl) (rw bytes (omega (arith, x.value))) (omega arith)

pub component-2 : (t : List ℕ) (n : ℕ) → 2 ≤ length t → get_or t 0 0 ≡ 49 → 48 ≤ get_or t 1 0 → get_or t 1 0 ≤ 53 → n ≡ 10 + (get_or t 1 0 - 48) → BeginsWithComponent t (record { value = n; size = 2 })
component-2 t n long one low high e =
    let x = digit (get_or t 0 0) (omega arith) (omega arith) in
    let y = digit (get_or t 1 0) low (omega arith) in
    let bytes = taken 0 2 0 t long in
    component-is t n 2 (omega arith) (omega arith) x.test (rw (bytes, x.test, y.test) refl) (rw (bytes, not-zero (get_or t 0 0) (omega arith)) refl) (rw bytes (omega (arith, x.value, y.value))) (omega arith)
