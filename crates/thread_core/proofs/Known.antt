-- What is known of the sets that run stays true.
use Rattle.thread_core.proofs.Words.{MOST_OCCURRENCES, StepOutcome, List, Option, ℕ, Slot, ◌≡◌, replicate, None, sym, ap, slice_get, ◌∙◌, Some, zero}
use Rattle.thread_core.proofs.Words.{suc, Book, CoreView, Account, CoreStands, faces_of, owner_from, Occ, CountedAll, ◌≤◌, time_after, AgreesWith}
use Rattle.thread_core.proofs.Words.{counted_all, consumed, refl, slot_faces, ◌<◌, length, arith, Kept, face_of, change, [], ◌∷◌, option_map, Call}
use Rattle.thread_core.proofs.Words.{Reply, is_on_sets, true, sets_after, new_kept, kept_after, Follows, step, subst, ◌⊎◌, inl, inr, get_or, set, map}
use Rattle.thread_core.proofs.Words.{option_map_or, ne_eqb, AreKnown, told_by}
use Rattle.thread_core.proofs.Following.{faces_stand, Goes, step_is}
use Rattle.thread_core.proofs.Taking.{after_taking, taken_stands, countable}
use Rattle.thread_core.proofs.Owners.{length-units}

-- if nothing is known
pub forgotten : (known : List (Option (Option ℕ))) (slots : List (Option Slot)) → known ≡ replicate 16 None → AreKnown known slots
forgotten known slots is = record { owner = λ comp found e. absurd (none 16 comp found (sym (ap (λ ks. slice_get ks comp) is) ∙ e)) } where
  none : (n i : ℕ) (found : Option ℕ) → slice_get (replicate n None) i ≡ Some (Some found) → ⊥
  none zero i found e = cc
  none (suc n) zero found e = cc
  none (suc n) (suc i) found e = none n i found e

-- a number of a set is kept as itself
pub told_number : (k : ℕ) → k < 64 → told_by k ≡ Some (Some k)
told_number k small = rw (ne_eqb k 255 (λ e. omega arith), ne_eqb k 254 (λ e. omega arith)) refl

same_inside : {A : Type 0} (a b : A) → Some a ≡ Some b → a ≡ b
same_inside {A} a b e = ap (λ (o : Option A). option_map_or (λ x. x) o a) e

told_at : (known : List ℕ) (comp : ℕ) → comp < length known → slice_get (map told_by known) comp ≡ Some (told_by (get_or known comp 0))
told_at [] comp below = absurd (omega arith)
told_at (k ∷ known) zero below = refl
told_at (k ∷ known) (suc comp) below = told_at known comp (omega arith)

pub told_is : (v : List (Option (Option ℕ))) (slots : List (Option Slot)) (known : List ℕ) (comp : ℕ) (found : Option ℕ) → map told_by known ≡ v → comp < length known
    → told_by (get_or known comp 0) ≡ Some found → AreKnown v slots → owner_from comp 0 (slot_faces slots) ≡ found
told_is v slots known comp found view below is are = are.owner comp found (sym (ap (λ ks. slice_get ks comp) view) ∙ told_at known comp below ∙ ap Some is)

told_put : (known : List ℕ) (comp kept i : ℕ) (x : Option (Option ℕ)) → comp < length known → slice_get (map told_by (set known comp kept)) i ≡ Some x
    → ((i ≡ comp) × (x ≡ told_by kept)) ⊎ (slice_get (map told_by known) i ≡ Some x)
told_put [] comp kept i x below e = absurd (omega arith)
told_put (k ∷ known) zero kept zero x below e = inl (refl, sym (same_inside (told_by kept) x e))
told_put (k ∷ known) zero kept (suc i) x below e = inr e
told_put (k ∷ known) (suc comp) kept zero x below e = inr e
told_put (k ∷ known) (suc comp) kept (suc i) x below e = elim (told_put known comp kept i x (omega arith) e) [
  | inl here ↦ inl (ap suc here.0, here.1)
  | inr there ↦ inr there
]

-- if a component is looked up, and what is found is kept
pub known_put : (v : List (Option (Option ℕ))) (slots : List (Option Slot)) (known : List ℕ) (comp kept : ℕ) → map told_by known ≡ v → comp < length known
    → told_by kept ≡ Some (owner_from comp 0 (slot_faces slots)) → AreKnown v slots → AreKnown (map told_by (set known comp kept)) slots
known_put v slots known comp kept view below is are = record {
  owner = λ i other e. elim (told_put known comp kept i (Some other) below e) [
    | inl here ↦ rw here.0 (same_inside (owner_from comp 0 (slot_faces slots)) other (sym is ∙ sym here.1))
    | inr there ↦ are.owner i other (sym (ap (λ ks. slice_get ks i) view) ∙ there)
  ];
}

-- if the core stands for an account whose sets have the same faces
known_with : (book : Book) (old new : CoreView) (a b : Account) (known : List (Option (Option ℕ))) → CoreStands book old a → CoreStands book new b → faces_of b.sets ≡ faces_of a.sets → AreKnown known old.slots → AreKnown known new.slots
known_with book old new a b known h g same are = record { owner = λ comp found e. ap (owner_from comp 0) (faces_stand book new b g ∙ same ∙ sym (faces_stand book old a h)) ∙ are.owner comp found e }

-- an occurrence changes no face
pub counted_known : (book : Book) (core : CoreView) (o : Occ) (known : List (Option (Option ℕ))) (c : CountedAll) → o.amount ≤ 255 → time_after core.last ≤ o.stamp → core.taken < MOST_OCCURRENCES → AgreesWith book core → c ≡ counted_all core.last o core.units core.slots → AreKnown known core.slots → AreKnown known c.slots
counted_known book core o known c small rises few h is = known_with book core (after_taking core o c) h.account (consumed h.account o) known h.stands (taken_stands book core h.account o c is small rises few h.stands) refl

-- a set runs on a component that there is
pub runner_below : (book : Book) (core : CoreView) (comp k : ℕ) → AgreesWith book core → owner_from comp 0 (slot_faces core.slots) ≡ Some k → comp < 16
runner_below book core comp k h e =
    let below = (countable book core comp k h e).has_unit in
    let units : length core.units ≡ length core.shape = ap length h.stands.units ∙ length-units book h.account.past h.account.sets 0 core.shape in
    omega (arith, below, units, h.stands.shape.few_components)

-- a call that changes the counts of a set alone
change_faces : (f : Kept → Kept) (sets : List (Option Kept)) (k : ℕ) → ((s : Kept) → face_of (f s) ≡ face_of s) → faces_of (change f sets k) ≡ faces_of sets
change_faces f [] k same = refl
change_faces f (None ∷ sets) zero same = refl
change_faces f (Some s ∷ sets) zero same = ap (λ x. Some x ∷ faces_of sets) (same s)
change_faces f (place ∷ sets) (suc k) same = ap (λ fs. option_map face_of place ∷ fs) (change_faces f sets k same)

pub counts_known : {book : Book} {core now new : CoreView} {made : Call} {given : Reply} {known : List (Option (Option ℕ))} (k : ℕ) → core ≡ now
    → Goes book core made → is_on_sets made ≡ true
    → ((a : Account) → sets_after new_kept (kept_after book a.past) made a.sets ≡ change (kept_after book a.past made) a.sets k)
    → ((a : Account) (s : Kept) → face_of (kept_after book a.past made s) ≡ face_of s)
    → Follows book now new made given → AreKnown known core.slots → AreKnown known new.slots
counts_known {book} {core} {now} {new} {made} {given} {known} k is g on one same f h =
    let a = g.agrees.account in
    let follows = subst (λ (v : CoreView). Follows book v new made given) (sym is) f in
    let faces = ap (λ (x : StepOutcome). faces_of x.account.sets) (step_is book core a made on g.allowed g.agrees.stands) ∙ ap faces_of (one a)
    ∙ change_faces (kept_after book a.past made) a.sets k (same a) in
    known_with book core new a (step book core.shape a made).account known g.agrees.stands (follows.account a g.agrees.stands) faces h
