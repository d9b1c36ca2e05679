-- The open regions as they are kept.
use Rattle.region_report.proofs.Words.{OnOk, Result, Ok, Err, true, false, drop, eq-eqb, slice_set, ◌≡◌, ◌∙◌, ◌<◌, ◌≤◌, ◌+◌, ℕ, List, [], length, sym}
use Rattle.region_report.proofs.Words.{ap, refl, arith, get_or, Vec, Global, drop_all, length-map, map-set, ne_eqb, drop_item, after_call, after_line}
use Rattle.region_report.proofs.Words.{open_text, stack_text, stacks_text, all_ended, RegionLine, OpenRegion}
use Rattle.region_report.proofs.Pieces.{at_place}

-- the regions of one thread more
pub ended_on : (threads : List (Vec OpenRegion Global)) (i : ℕ) (x : Vec OpenRegion Global) → i < length threads → x ≡ get_or threads i x → length x.items ≡ 0 →
    all_ended (stacks_text (drop i threads)) ≡ all_ended (stacks_text (drop (i + 1) threads))
ended_on threads i x small is none =
    ap (λ ts. all_ended (stacks_text ts)) (drop_item threads i x small is) ∙ rw (eq-eqb (length (stack_text x.items)) 0 (length-map x.items open_text ∙ none)) refl

pub not_ended : (threads : List (Vec OpenRegion Global)) (i : ℕ) (x : Vec OpenRegion Global) → i < length threads → x ≡ get_or threads i x → 0 < length x.items → all_ended (stacks_text (drop i threads)) ≡ false
not_ended threads i x small is some =
    ap (λ ts. all_ended (stacks_text ts)) (drop_item threads i x small is)
    ∙ rw (ne_eqb (length (stack_text x.items)) 0 (λ (q : length (stack_text x.items) ≡ 0). omega (arith, q, length-map x.items open_text))) refl

pub all_done : (threads : List (Vec OpenRegion Global)) (i : ℕ) → length threads ≤ i → all_ended (stacks_text (drop i threads)) ≡ true
all_done threads i past = ap (λ ts. all_ended (stacks_text ts)) (drop_all i threads past)

-- the regions of one thread after a line
pub set_one : {T E : Type 0} (answer : Result T E) (threads : List (Vec OpenRegion Global)) (line : RegionLine) (old new : Vec OpenRegion Global) → line.thread < length threads → old ≡ get_or threads line.thread old →
    OnOk answer (stack_text new.items ≡ after_call (stack_text old.items) line line.call) → OnOk answer (stacks_text (slice_set threads line.thread new) ≡ after_line (stacks_text threads) line)
set_one (Ok value) threads line old new small is e =
    map-set (λ (v : Vec OpenRegion Global). stack_text v.items) threads line.thread new
    ∙ ap (λ s. slice_set (stacks_text threads) line.thread s)
    (e ∙ ap (λ o. after_call o line line.call) (sym (at_place (λ (v : Vec OpenRegion Global). stack_text v.items) threads line.thread old [] small is)))
set_one (Err error) threads line old new small is e = tt
