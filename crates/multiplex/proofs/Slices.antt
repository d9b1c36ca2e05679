-- A slice of the time has one group at each of its ticks.
use Rattle.multiplex.proofs.Words.{◌≡◌, ℕ, ◌+◌, ◌-◌, ◌*◌, ◌/◌, ◌%◌, ◌≤◌, ◌<◌, List, ap, sym, subst, ◌∙◌, arith, div-mul-add, mul-div_cancel}
use Rattle.multiplex.proofs.Words.{IsSliceOf, IsSpanOf}

pub in_slice : (numbers : List ℕ) (slice count begin first end time : ℕ) → IsSliceOf numbers slice count begin first end → begin ≤ time → time - begin < slice → IsSpanOf numbers (time / slice % count) first end
in_slice numbers slice count begin first end time s from below =
    let b = s.begins in
    let e : time ≡ begin / slice * slice + (time - begin) = omega arith in
    let same : begin / slice ≡ time / slice = sym (ap (λ t. t / slice) e ∙ div-mul-add (begin / slice) slice (time - begin) below) in
    subst (λ k. IsSpanOf numbers (k % count) first end) same s.runs

pub slice_is : (numbers : List ℕ) (slice count time first end : ℕ) → 0 < slice → IsSpanOf numbers (time / slice % count) first end → IsSliceOf numbers slice count (time / slice * slice) first end
slice_is numbers slice count time first end some runs =
    let same : time / slice ≡ time / slice * slice / slice = sym (mul-div_cancel (time / slice) some) in
    record {
      begins = ap (λ k. k * slice) same;
      runs = subst (λ k. IsSpanOf numbers (k % count) first end) same runs;
    }
