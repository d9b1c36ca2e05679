-- One turn of the loop that counts the natives of the group that runs.
use Rattle.thread_slots.proofs.Words.{◌≡◌, ℕ, zero, suc, ◌+◌, List, [], ◌∷◌, ◌++◌, length, get_or, set, take, drop, refl, ap, sym, ◌∙◌, arith, Option}
use Rattle.thread_slots.proofs.Words.{Some, slice_get, ◌==◌, if◌then◌else◌, cond-true, cond-false, eq-eqb, ne_eqb, in_place_put, in_place_skip}
use Rattle.thread_slots.proofs.Words.{in_place_number, inl, inr, subst, ◌≤◌, number_at, Occ, Native, Domain, weight_of, with_turn, ◌<◌, Bool, true}
use Rattle.thread_slots.proofs.Words.{false, ◌&&◌, ◌||◌, cases_order, holds, in_mode, share}
use Rattle.thread_slots.proofs.Lists.{get_at}

unheld : (event umask mode reaches code : Bool) → code ≡ false → ((event && code && umask && mode) && reaches) ≡ false
unheld true umask mode reaches code other = rw other refl
unheld false umask mode reaches code other = refl

-- an occurrence with another select code adds nothing
weight_of_another : (n : Native) (d : Domain) (before : Option Occ) (o : Occ) → (n.select ≡ o.select → ⊥) → weight_of n d before o ≡ 0
weight_of_another n d before o other =
    cond-false (holds n d o) _ 0 (unheld (n.comp == o.comp) ((n.umask == 0) || share n.umask o.umask) (in_mode n d o) _ (n.select == o.select) (ne_eqb n.select o.select other))

pub length-with_turn : (d : Domain) (before : Option Occ) (o : Occ) (g : ℕ) (ns : List Native) (gs ks : List ℕ) → length gs ≡ length ns → length ks ≡ length ns → length (with_turn d before o g ns gs ks) ≡ length ks
length-with_turn d before o g [] gs [] e f = refl
length-with_turn d before o g [] gs (k ∷ ks) e f = absurd (omega arith)
length-with_turn d before o g (n ∷ ns) [] ks e f = absurd (omega arith)
length-with_turn d before o g (n ∷ ns) (h ∷ gs) [] e f = refl
length-with_turn d before o g (n ∷ ns) (h ∷ gs) (k ∷ ks) e f = ap suc (length-with_turn d before o g ns gs ks (omega arith) (omega arith))

get-with_turn : (d : Domain) (before : Option Occ) (o : Occ) (g : ℕ) (ns : List Native) (gs ks : List ℕ) (i : ℕ) (n : Native) → length gs ≡ length ns → length ks ≡ length ns → slice_get ns i ≡ Some n
    → slice_get (with_turn d before o g ns gs ks) i ≡ Some (get_or ks i 0 + (if g == get_or gs i 0 then weight_of n d before o else 0))
get-with_turn d before o g [] gs ks i n e f at = cc
get-with_turn d before o g (m ∷ ns) [] ks i n e f at = absurd (omega arith)
get-with_turn d before o g (m ∷ ns) (h ∷ gs) [] i n e f at = absurd (omega arith)
get-with_turn d before o g (m ∷ ns) (h ∷ gs) (k ∷ ks) zero n e f at = let same : m ≡ n = cc in ap (λ (x : Native). Some (k + (if g == h then weight_of x d before o else 0))) same
get-with_turn d before o g (m ∷ ns) (h ∷ gs) (k ∷ ks) (suc i) n e f at = get-with_turn d before o g ns gs ks i n (omega arith) (omega arith) at

-- one turn of the loop
pub turn_put : (d : Domain) (before : Option Occ) (o : Occ) (g : ℕ) (ns : List Native) (gs old counts : List ℕ) (i : ℕ) (n : Native) → length gs ≡ length ns → length old ≡ length ns → slice_get ns i ≡ Some n → i < length old → get_or gs i 0 ≡ g
    → counts ≡ take i (with_turn d before o g ns gs old) ++ drop i old → set counts i (get_or counts i 0 + weight_of n d before o) ≡ take (i + 1) (with_turn d before o g ns gs old) ++ drop (i + 1) old
turn_put d before o g ns gs old counts i n e f at below is done =
    let new = with_turn d before o g ns gs old in
    let same = length-with_turn d before o g ns gs old e f in
    let read = in_place_number new old counts i same below done in
    let value = get-with_turn d before o g ns gs old i n e f at ∙ ap (λ (x : ℕ). Some (get_or old i 0 + x)) (cond-true (g == get_or gs i 0) (weight_of n d before o) 0 (eq-eqb g (get_or gs i 0) (sym is))) in
    in_place_put new old counts i (get_or counts i 0 + weight_of n d before o) same below done (value ∙ ap (λ (x : ℕ). Some (x + weight_of n d before o)) (sym read))

-- a native of another group, or with another select code, adds nothing
adds_none : (d : Domain) (before : Option Occ) (o : Occ) (g h : ℕ) (n : Native) → (h ≡ g → n.select ≡ o.select → ⊥) → (if g == h then weight_of n d before o else 0) ≡ 0
adds_none d before o g h n isnt = elim (cases_order g h) [
  | inl e ↦ cond-true (g == h) (weight_of n d before o) 0 (eq-eqb g h e) ∙ weight_of_another n d before o (isnt (sym e))
  | inr other ↦ cond-false (g == h) (weight_of n d before o) 0 (ne_eqb g h (λ e. elim other [ inl lt ↦ omega arith | inr lt ↦ omega arith ]))
]

turn_skip : (d : Domain) (before : Option Occ) (o : Occ) (g : ℕ) (ns : List Native) (gs old counts : List ℕ) (i : ℕ) (n : Native) → length gs ≡ length ns → length old ≡ length ns → slice_get ns i ≡ Some n → i < length old → (get_or gs i 0 ≡ g → n.select ≡ o.select → ⊥)
    → counts ≡ take i (with_turn d before o g ns gs old) ++ drop i old → counts ≡ take (i + 1) (with_turn d before o g ns gs old) ++ drop (i + 1) old
turn_skip d before o g ns gs old counts i n e f at below isnt done =
    let value = get-with_turn d before o g ns gs old i n e f at ∙ ap (λ (x : ℕ). Some (get_or old i 0 + x)) (adds_none d before o g (get_or gs i 0) n isnt) in
    let plain : Some (get_or old i 0 + 0) ≡ Some (get_or old i 0) = ap Some (omega arith) in
    in_place_skip (with_turn d before o g ns gs old) old counts i (get_or old i 0) (length-with_turn d before o g ns gs old e f) below done (value ∙ plain) (number_at old i below)

-- several places that are not looked at
pub turns_skip : (d : Domain) (before : Option Occ) (o : Occ) (g : ℕ) (ns : List Native) (gs old counts : List ℕ) (i len j : ℕ) → length gs ≡ length ns → length old ≡ length ns → i + len ≡ j → j ≤ length old
    → ((k : ℕ) (n : Native) → i ≤ k → k < j → slice_get ns k ≡ Some n → get_or gs k 0 ≡ g → n.select ≡ o.select → ⊥)
    → counts ≡ take i (with_turn d before o g ns gs old) ++ drop i old → counts ≡ take j (with_turn d before o g ns gs old) ++ drop j old
turns_skip d before o g ns gs old counts i zero j e f to short isnt done = let same : i ≡ j = omega arith in subst (λ k. counts ≡ take k (with_turn d before o g ns gs old) ++ drop k old) same done
turns_skip d before o g ns gs old counts i (suc len) j e f to short isnt done =
    let n = get_at ns i (omega arith) in
    let one = turn_skip d before o g ns gs old counts i n.0 e f n.1 (omega arith) (isnt i n.0 (omega arith) (omega arith) n.1) done in
    turns_skip d before o g ns gs old counts (i + 1) len j e f (omega arith) short (λ k m from below. isnt k m (omega arith) below) one
