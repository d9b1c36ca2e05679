-- How many values are shown, and their sums with the caller's in an array.
use Rattle.thread_core.proofs.Words.{◌≡◌, ◌≤◌, ℕ, ℤ, List, [], ◌∷◌, ◌++◌, length, take, drop, ap, sym, ◌∙◌, refl, arith, Some, at, Book, CoreView, Slot, AgreesWith, sums, values_shown}
use Rattle.thread_core.proofs.Words.{length-map, event_value, number_in, numbers_shown}
use Rattle.std.proofs.lemmas.List.{length-append, length-drop, take_all}
use Rattle.std.proofs.Math.Seq.{drop-append_seam, take-append_seam}
use Rattle.thread_core.proofs.Words.{Bool, true, false, None, Code, Plain, Enoevst, if◌then◌else◌}
use Rattle.std.specs.Int.{int_wrapping_add, w64}
use Rattle.thread_core.proofs.Looking.{fit_of, under}

-- there are at most as many as a set has events
pub few_shown : {book : Book} {core : CoreView} (k now : ℕ) {slot : Slot} → AgreesWith book core → at core.slots k ≡ Some slot → length (values_shown book core.units now slot) ≤ 32
few_shown {book} {core} k now {slot} agrees here =
    let u = under book core agrees.account k slot agrees.stands here in
    let few = (fit_of book core agrees.account k u.set agrees.stands u.at_set).sound.few_events in
    omega (arith, few, ap (λ (x : Slot). length x.set.rest.events) u.is, length-map slot.set.rest.events (event_value book (number_in slot.set.natives (numbers_shown core.units now slot))))

-- the one code of a refusal where there is no set
pub absent_code : (a : Bool) (c : Code) → Some (Plain c) ≡ (if a then Some (Plain Enoevst) else None) → c ≡ Enoevst
absent_code true c e = cc
absent_code false c e = absurd cc

-- what stands past the caller's values is not added
sums-front : (vs xs ys : List ℤ) → length vs ≤ length xs → sums vs (xs ++ ys) ≡ sums vs xs
sums-front [] xs ys h = refl
sums-front (v ∷ vs) [] ys h = absurd (omega (arith, h))
sums-front (v ∷ vs) (x ∷ xs) ys h = ap (λ ws. int_wrapping_add w64 v x ∷ ws) (sums-front vs xs ys (omega (arith, h)))

length-sums : (vs xs : List ℤ) → length vs ≤ length xs → length (sums vs xs) ≡ length vs
length-sums [] xs h = refl
length-sums (v ∷ vs) [] h = absurd (omega (arith, h))
length-sums (v ∷ vs) (x ∷ xs) h = omega (arith, length-sums vs xs (omega (arith, h)))

-- an array with the values in its first places, and the same with the sums in theirs
pub record Added (vs shown before read after : List ℤ) (n : ℕ) : Type 0 where
  pub all : sums vs read ≡ sums vs shown
  pub first : take n after ≡ sums vs shown
  pub past : drop n after ≡ drop n before
  pub long : length after ≡ length before

pub added : (vs shown before read after : List ℤ) (n : ℕ) → length shown ≡ length vs → length shown ≤ length before → read ≡ take (length before) shown ++ drop (length shown) before
    → after ≡ sums vs read ++ drop (length vs) read → n ≡ length vs → Added vs shown before read after n
added vs shown before read after n same room reads adds count =
    let front : read ≡ shown ++ drop (length shown) before = reads ∙ ap (λ xs. xs ++ drop (length shown) before) (take_all (length before) shown room) in
    let all : sums vs read ≡ sums vs shown = ap (sums vs) front ∙ sums-front vs shown (drop (length shown) before) (omega (arith, same)) in
    let long : n ≡ length (sums vs read) = count ∙ sym (ap length all ∙ length-sums vs shown (omega (arith, same))) in
    let rest : drop (length vs) read ≡ drop n before = ap (λ i. drop i read) (sym same) ∙ ap (drop (length shown)) front ∙ drop-append_seam shown (drop (length shown) before) ∙ ap (λ i. drop i before) (same ∙ sym count) in
    record {
      all = all;
      first = ap (take n) adds ∙ ap (λ i. take i (sums vs read ++ drop (length vs) read)) long ∙ take-append_seam (sums vs read) (drop (length vs) read) ∙ all;
      past = ap (drop n) adds ∙ ap (λ i. drop i (sums vs read ++ drop (length vs) read)) long ∙ drop-append_seam (sums vs read) (drop (length vs) read) ∙ rest;
      long = ap length adds ∙ omega (arith, length-append (sums vs read) (drop (length vs) read), ap length rest, length-drop n before, long, same, room, count);
    }
