-- What is programmed, pin by pin.
use Rattle.thread_slots.proofs.Words.{◌≡◌, ℕ, zero, suc, ◌+◌, ◌≤◌, List, [], ◌∷◌, length, get_or, set, replicate, refl, ap, subst, sym, ◌∙◌, arith, Option}
use Rattle.thread_slots.proofs.Words.{Some, None, slice_get, get_or-set_same, Occ, Native, Domain, weight_of, AreWidths, weight_of-le, Register}
use Rattle.thread_slots.proofs.Words.{at_place, moved_place, register_at, added, Pin, programs, ArePinned, get_or-set_other, length-set, all_moved, set-set, set_comm}

pub pinned-tail : (widths : List ℕ) (p : Pin) (ps : List Pin) → ArePinned widths (p ∷ ps) → ArePinned widths ps
pinned-tail widths p ps h = record {
  exist = λ k q e. h.exist (suc k) q e;
  fit = λ k q e. h.fit (suc k) q e;
  apart = λ j k q r e f same. let next = h.apart (suc j) (suc k) q r e f same in omega arith;
}

all_moved-set : (before : Option Occ) (o : Occ) (ws : List ℕ) (rs : List (Option Register)) (c : ℕ) (x : Option Register) → length rs ≡ length ws
    → all_moved before o ws (set rs c x) ≡ set (all_moved before o ws rs) c (moved_place before o (get_or ws c 0) x).place
all_moved-set before o [] [] c x e = refl
all_moved-set before o [] (r ∷ rs) c x e = absurd (omega arith)
all_moved-set before o (w ∷ ws) [] c x e = refl
all_moved-set before o (w ∷ ws) (r ∷ rs) zero x e = refl
all_moved-set before o (w ∷ ws) (r ∷ rs) (suc c) x e = ap (λ ys. (moved_place before o w r).place ∷ ys) (all_moved-set before o ws rs c x (omega arith))

pub all_moved-none : (before : Option Occ) (o : Occ) (ws : List ℕ) → all_moved before o ws (replicate (length ws) None) ≡ replicate (length ws) None
all_moved-none before o [] = refl
all_moved-none before o (w ∷ ws) = ap (λ rs. None ∷ rs) (all_moved-none before o ws)

-- an occurrence moves each pin's register as its count
pub all_moved-programs : (before : Option Occ) (o : Occ) (ws : List ℕ) (d : Domain) (counts : Native → ℕ) (pins : List Pin) (rs : List (Option Register))
    → AreWidths ws → ArePinned ws pins → o.amount ≤ 255 → length rs ≡ length ws
    → all_moved before o ws (programs ws d counts pins rs) ≡ programs ws d (λ n. counts n + weight_of n d before o) pins (all_moved before o ws rs)
all_moved-programs before o ws d counts [] rs widths h small e = refl
all_moved-programs before o ws d counts (p ∷ ps) rs widths h small e =
    let w = get_or ws p.counter 0 in
    let more = weight_of p.native d before o in
    let a = added w p.native d p.threshold (counts p.native) more (widths.low p.counter (h.exist 0 p refl)) (h.fit 0 p refl) (weight_of-le p.native d before o small) in
    all_moved-programs before o ws d counts ps (set rs p.counter (Some (register_at w p.native d p.threshold (counts p.native)))) widths (pinned-tail ws p ps h) small (length-set rs p.counter (Some (register_at w p.native d p.threshold (counts p.native))) ∙ e)
    ∙ ap (programs ws d (λ n. counts n + weight_of n d before o) ps) (all_moved-set before o ws rs p.counter (Some (register_at w p.native d p.threshold (counts p.native))) e ∙ ap (λ (r : Register). set (all_moved before o ws rs) p.counter (Some r)) a.register)

pub programs-same : (ws : List ℕ) (d : Domain) (f g : Native → ℕ) → ((n : Native) → f n ≡ g n) → (pins : List Pin) (rs : List (Option Register)) → programs ws d f pins rs ≡ programs ws d g pins rs
programs-same ws d f g h [] rs = refl
programs-same ws d f g h (p ∷ ps) rs =
    programs-same ws d f g h ps (set rs p.counter (Some (register_at (get_or ws p.counter 0) p.native d p.threshold (f p.native))))
    ∙ ap (λ k. programs ws d g ps (set rs p.counter (Some (register_at (get_or ws p.counter 0) p.native d p.threshold k)))) (h p.native)

pub length-programs : (ws : List ℕ) (d : Domain) (counts : Native → ℕ) (pins : List Pin) (rs : List (Option Register)) → length (programs ws d counts pins rs) ≡ length rs
length-programs ws d counts [] rs = refl
length-programs ws d counts (p ∷ ps) rs = let r = Some (register_at (get_or ws p.counter 0) p.native d p.threshold (counts p.native)) in length-programs ws d counts ps (set rs p.counter r) ∙ length-set rs p.counter r

-- a counter that no pin is on keeps what it has
pub programs-other : (ws : List ℕ) (d : Domain) (counts : Native → ℕ) (c : ℕ) (pins : List Pin) (rs : List (Option Register)) → ((k : ℕ) (q : Pin) → slice_get pins k ≡ Some q → c ≡ q.counter → ⊥) → at_place (programs ws d counts pins rs) c ≡ at_place rs c
programs-other ws d counts c [] rs h = refl
programs-other ws d counts c (p ∷ ps) rs h =
    let r = Some (register_at (get_or ws p.counter 0) p.native d p.threshold (counts p.native)) in
    programs-other ws d counts c ps (set rs p.counter r) (λ k q e. h (suc k) q e) ∙ get_or-set_other rs p.counter c r None (h 0 p refl)

-- each pin's register is on its counter
pub programs-at : (ws : List ℕ) (d : Domain) (counts : Native → ℕ) (pins : List Pin) (rs : List (Option Register)) (k : ℕ) (p : Pin) → ArePinned ws pins → length rs ≡ length ws → slice_get pins k ≡ Some p
    → at_place (programs ws d counts pins rs) p.counter ≡ Some (register_at (get_or ws p.counter 0) p.native d p.threshold (counts p.native))
programs-at ws d counts [] rs k p h e g = cc
programs-at ws d counts (q ∷ ps) rs zero p h e g =
    let same : q ≡ p = cc in
    let r = Some (register_at (get_or ws q.counter 0) q.native d q.threshold (counts q.native)) in
    let P : Pin → Type 0 = λ x. at_place (programs ws d counts (q ∷ ps) rs) x.counter ≡ Some (register_at (get_or ws x.counter 0) x.native d x.threshold (counts x.native)) in
    subst P same (programs-other ws d counts q.counter ps (set rs q.counter r) (λ j x f is. let none = h.apart 0 (suc j) q x refl f is in absurd (omega arith)) ∙ get_or-set_same rs q.counter r None (let below = h.exist 0 q refl in omega arith))
programs-at ws d counts (q ∷ ps) rs (suc k) p h e g =
    let r = Some (register_at (get_or ws q.counter 0) q.native d q.threshold (counts q.native)) in
    programs-at ws d counts ps (set rs q.counter r) k p (pinned-tail ws q ps h) (length-set rs q.counter r ∙ e) g

-- what is put on a counter that no pin is on stays
pub programs-set : (ws : List ℕ) (d : Domain) (counts : Native → ℕ) (pins : List Pin) (rs : List (Option Register)) (c : ℕ) (x : Option Register) → ((k : ℕ) (q : Pin) → slice_get pins k ≡ Some q → c ≡ q.counter → ⊥)
    → programs ws d counts pins (set rs c x) ≡ set (programs ws d counts pins rs) c x
programs-set ws d counts [] rs c x h = refl
programs-set ws d counts (p ∷ ps) rs c x h =
    let r = Some (register_at (get_or ws p.counter 0) p.native d p.threshold (counts p.native)) in
    ap (programs ws d counts ps) (set_comm rs c p.counter x r (h 0 p refl)) ∙ programs-set ws d counts ps (set rs p.counter r) c x (λ k q e. h (suc k) q e)

-- pins that are programmed again leave nothing of what they were before
pub programs-again : (ws : List ℕ) (d : Domain) (f g : Native → ℕ) (pins : List Pin) (rs : List (Option Register)) → ArePinned ws pins → programs ws d f pins (programs ws d g pins rs) ≡ programs ws d f pins rs
programs-again ws d f g [] rs h = refl
programs-again ws d f g (p ∷ ps) rs h =
    let w = get_or ws p.counter 0 in
    let a = Some (register_at w p.native d p.threshold (f p.native)) in
    let b = Some (register_at w p.native d p.threshold (g p.native)) in
    let apart : (k : ℕ) (q : Pin) → slice_get ps k ≡ Some q → p.counter ≡ q.counter → ⊥ = λ k q e is. (let none = h.apart 0 (suc k) p q refl e is in absurd (omega arith)) in
    ap (programs ws d f ps) (sym (programs-set ws d g ps (set rs p.counter b) p.counter a apart) ∙ ap (programs ws d g ps) (set-set rs p.counter b a))
    ∙ programs-again ws d f g ps (set rs p.counter a) (pinned-tail ws p ps h)
