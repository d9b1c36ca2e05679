-- A line of the common form is judged to be its occurrence, and one that is empty or a comment to be skipped.
use Rattle.stream_reader.proofs.Words.{◌≡◌, ◌∙◌, ◌+◌, ◌<◌, ◌≤◌, ◌++◌, ◌∷◌, ◌==◌, ◌&&◌, ℕ, zero, suc, Bool, true, false, List, [], Some, length, take}
use Rattle.stream_reader.proofs.Words.{get_or, refl, sym, ap, subst, arith, add-one, eq-eqb, inl, inr, drop-cons, length-take-le, take-append-drop}
use Rattle.stream_reader.proofs.Words.{le-ltb, nat_tests, is_digit, Occ, LineStart, Judgement, Bad, Occurs, Skipped, CommonLine, fields_judged}
use Rattle.stream_reader.proofs.Words.{fields_of, is_next_stamp, is_skipped, judged, occurrence_judged, text_judged, without_return, occurrence_on}
use Rattle.stream_reader.proofs.Words.{BeginsSkipped, BeginsWith, HoldsLine, FindsNewline, IsOneLine, ReaderView}
use Rattle.std.specs.Prelude.{codes, bytes_eq, if◌then◌else◌}
use Rattle.papi_base.specs.declared.occurrence.LineCause.TheVariants as cause
use Rattle.stream_reader.proofs.Judging.{judged-some}

record IsLine (t : List ℕ) : Type 0 where
  version : bytes_eq t (codes "version 2") ≡ false
  skipped : is_skipped t ≡ false

not-v : (b : ℕ) → is_digit b ≡ true → (b == 118) ≡ false
not-v b h = grind (arith, nat_tests)

not-comment : (b : ℕ) → is_digit b ≡ true → (b == 35) ≡ false
not-comment b h = grind (arith, nat_tests)

a-line : (t : List ℕ) (n : ℕ) → 0 < n → n < length t → is_digit (get_or t 0 0) ≡ true → IsLine (take n t)
a-line [] n some less h = absurd (omega arith)
a-line (b ∷ t) zero some less h = absurd (omega arith)
a-line (b ∷ t) (suc n) some less h = record { version = rw (not-v b h) refl; skipped = not-comment b h }

and-false : (x : Bool) → (x && false) ≡ false
and-false true = refl
and-false false = refl

-- an occurrence that can have its stamp is not refused for it
is-occurrence : (start : LineStart) (o : Occ) → is_next_stamp start o.stamp ≡ true → occurrence_judged start o ≡ Occurs o
is-occurrence start o next = rw next refl

text-is : (start : LineStart) (t : List ℕ) (o : Occ) → IsLine t → occurrence_on start.stamped start.given t ≡ Some o → is_next_stamp start o.stamp ≡ true → text_judged start t ≡ Occurs o
unfolding text_judged
text-is start t o l e above =
    let fields : fields_judged start (fields_of t) ≡ Occurs o = judged-some start t o (sym e) ∙ is-occurrence start o above in
    rw (l.version, and-false (start.number == 1), l.skipped, fields) refl

line-is : (start : LineStart) (t : List ℕ) (j : Judgement) → length t ≤ 128 → start.passed + length t ≤ 67108864 → text_judged start (without_return t) ≡ j
    → judged start (record { bytes = t; ended = true }) ≡ j
unfolding judged
line-is start t j short small e = rw (le-ltb 128 (length t) short, le-ltb 67108864 (start.passed + length t) small, e) refl

pub holds-line : (v : ReaderView) (r : CommonLine) → BeginsWith v.start v.held r → is_next_stamp v.start r.occ.stamp ≡ true → v.start.passed + r.size ≤ 67108864 → HoldsLine v r.size (Occurs r.occ)
holds-line v r b above small =
    let t = take r.size v.held in
    let within : r.size < length v.held = b.within in
    let few : b.fields ≤ r.size = b.few in
    let long : length t ≡ r.size = length-take-le r.size v.held (omega arith) in
    record {
      found = (b.within, b.one, sym (take-append-drop r.size v.held) ∙ ap (λ u. t ++ u) (rw (add-one, ← b.newline) (drop-cons v.held r.size 0 b.within)));
      judged = sym (line-is v.start t (Occurs r.occ) (let s = b.short in omega (arith, long)) (omega (arith, long))
          (ap (text_judged v.start) b.whole ∙ text-is v.start (take b.fields v.held) r.occ (a-line v.held b.fields b.some (omega arith) b.digit) b.occurs above));
    }

-- ---- lines that are skipped

comment-text : (start : LineStart) (t : List ℕ) → text_judged start (without_return (35 ∷ t)) ≡ Skipped
unfolding text_judged without_return
comment-text start [] = rw (and-false (start.number == 1)) refl
comment-text start (b ∷ t) = rw (and-false (start.number == 1)) refl

skipped-text : (start : LineStart) (t : List ℕ) (n : ℕ) → IsOneLine (take n t) → BeginsSkipped t → text_judged start (without_return (take n t)) ≡ Skipped
unfolding text_judged without_return
skipped-text start t zero one begins = rw (and-false (start.number == 1)) refl
skipped-text start [] (suc n) one begins = rw (and-false (start.number == 1)) refl
skipped-text start (b ∷ t) (suc n) one (inl comment) = subst (λ first. text_judged start (without_return (first ∷ take n t)) ≡ Skipped) (sym comment) (comment-text start (take n t))
skipped-text start (b ∷ t) (suc n) one (inr newline) = let first : b ≡ 10 = newline in absurd (cc (eq-eqb b 10 first, one.each.0))

pub holds-skipped : (v : ReaderView) (n : ℕ) → FindsNewline v.held (Some n) → n ≤ 128 → v.start.passed + n ≤ 67108864 → BeginsSkipped v.held → HoldsLine v n Skipped
holds-skipped v n found short small begins =
    let within : n < length v.held = found.0 in
    let long : length (take n v.held) ≡ n = length-take-le n v.held (omega arith) in
    record {
      found = found;
      judged = sym (line-is v.start (take n v.held) Skipped (omega (arith, long)) (omega (arith, long)) (skipped-text v.start v.held n found.1 begins));
    }
