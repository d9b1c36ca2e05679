-- A set without one of its events.
use Rattle.event_sets.proofs.Words.{◌≡◌, ◌≢◌, ℕ, zero, suc, ◌+◌, ◌<◌, ◌≤◌, ◌^◌, true, List, [], ◌∷◌, ◌++◌, length, remove, take, refl, ap, sym, ◌∙◌}
use Rattle.event_sets.proofs.Words.{arith, slice_get, Some, None, All, Native, EventRef, Assignable, masks_of, among, joined_by, Book, natives_after}
use Rattle.event_sets.proofs.Words.{natives_of, natives_of_event, each_is_among, is_among, none_twice, set_natives, IsSound, SetView, take_at}
use Rattle.event_sets.proofs.Agreeing.{by_number, length-remove, natives_all, numbered}
use Rattle.event_sets.proofs.JoinedNatives.{joined_grows}
use Rattle.event_sets.proofs.Removing.{get_removed, stood, stood_apart}
use Rattle.event_sets.proofs.Sublists.{no_more, of_among, sub_assignable}

-- ---- a list without an item, as a loop goes through it

removed_push : {X : Type 0} (xs : List X) (x : X) (p : ℕ) → p ≢ length xs → remove (xs ++ x ∷ []) p ≡ remove xs p ++ x ∷ []
removed_push [] x zero apart = absurd (apart refl)
removed_push [] x (suc zero) apart = refl
removed_push [] x (suc (suc p)) apart = refl
removed_push (y ∷ xs) x zero apart = refl
removed_push (y ∷ xs) x (suc p) apart = ap (λ zs. y ∷ zs) (removed_push xs x p (λ e. apart (ap suc e)))

removed_last : {X : Type 0} (xs : List X) (x : X) (p : ℕ) → p ≡ length xs → remove (xs ++ x ∷ []) p ≡ remove xs p
removed_last [] x zero e = refl
removed_last [] x (suc p) e = absurd (omega arith)
removed_last (y ∷ xs) x zero e = absurd (omega arith)
removed_last (y ∷ xs) x (suc p) e = ap (λ zs. y ∷ zs) (removed_last xs x p (omega arith))

-- ---- the natives of events, as a loop goes through them

-- they do not become fewer
pub after_grows : (book : Book) (seen : List Native) (es : List EventRef) → length seen ≤ length (natives_after book seen es)
after_grows book seen [] = omega arith
after_grows book seen (e ∷ es) = omega (arith, joined_grows seen (natives_of_event book e), after_grows book (joined_by seen (natives_of_event book e)) es)

-- ---- a set without an event

pub removed_all : {X : Type 0} (P : X → Type 0) (xs : List X) (p : ℕ) → All P xs → All P (remove xs p)
removed_all P xs p h = by_number P (remove xs p) (λ i x e. numbered P xs h (stood p i) x (sym (get_removed xs p i) ∙ e))

pub length-removed : {X : Type 0} (xs : List X) (p : ℕ) → length (remove xs p) ≤ length xs
length-removed [] zero = omega arith
length-removed [] (suc p) = omega arith
length-removed (x ∷ xs) zero = omega arith
length-removed (x ∷ xs) (suc p) = omega (arith, length-removed xs p)

-- the set without the event at p, whose natives are these
abbrev pub removed : ℕ → List Native → SetView → SetView
removed p after s = record s { rest = record (s.rest) { events = remove s.rest.events p; thresholds = remove s.rest.thresholds p }; natives = after }

module _ (book : Book) (p : ℕ) (s : SetView) (natives : s.natives ≡ set_natives book s.rest) (h : IsSound s) where
  -- the natives of the events that are left
  abbrev pub left : List Native
  left = natives_of book (remove s.rest.events p)

  left_among : (i : ℕ) (n : Native) → slice_get left i ≡ Some n → among n s.natives ≡ true
  left_among i n e = ap (among n) natives ∙ numbered (λ m. among m (set_natives book s.rest) ≡ true) left (natives_all (λ m. among m (set_natives book s.rest) ≡ true) book (remove s.rest.events p)
      (λ k f q. by_number (λ m. among m (set_natives book s.rest) ≡ true) (natives_of_event book f)
      (λ j m r. each_is_among book s.rest.events (stood p k) f m (sym (get_removed s.rest.events p k) ∙ q) (is_among m (natives_of_event book f) j r)))) i n e

  left_all : (P : Native → Type 0) → All P s.natives → All P left
  left_all P all = by_number P left (λ i n e. of_among P s.natives n all (left_among i n e))

  pub left_few : length left ≤ 32
  left_few = let few = h.few_natives in omega (arith, few, no_more left s.natives (none_twice book (remove s.rest.events p)) left_among)

  pub left_in_range : All (λ n. n.allowed < 2 ^ s.counters) left
  left_in_range = left_all (λ n. n.allowed < 2 ^ s.counters) h.in_range

  pub left_assignable : s.rest.slice ≡ None → Assignable (masks_of left)
  left_assignable unshared = sub_assignable left s.natives (none_twice book (remove s.rest.events p)) left_among (h.assignable unshared)

  pub removed_sound : IsSound (removed p left s)
  removed_sound = record {
    few_events = let few = h.few_events in omega (arith, few, length-removed s.rest.events p);
    few_natives = left_few;
    few_counters = h.few_counters;
    one_threshold_each = omega (arith, length-remove s.rest.thresholds p, length-remove s.rest.events p, h.one_threshold_each);
    distinct = λ i j e a b. stood_apart p i j (h.distinct (stood p i) (stood p j) e (sym (get_removed s.rest.events p i) ∙ a) (sym (get_removed s.rest.events p j) ∙ b));
    owned = left_all (λ n. s.rest.component ≡ Some n.comp) h.owned;
    in_range = left_in_range;
    good_domain = h.good_domain;
    assignable = left_assignable;
    shared = λ slice is. let old = h.shared slice is in record {
      good_slice = old.good_slice;
      some_counter = left_all (λ n. 0 < n.allowed) old.some_counter;
      no_thresholds = removed_all (λ t. t ≡ 0) s.rest.thresholds p old.no_thresholds;
    };
  }

-- an item that stays, and the one that goes
pub stays_at : {X : Type 0} (xs left : List X) (p i : ℕ) (x : X) → slice_get xs i ≡ Some x → length (take i xs) ≡ i → i ≢ p → left ≡ remove (take i xs) p → left ++ x ∷ [] ≡ remove (take (i + 1) xs) p
stays_at xs left p i x e count apart h =
    ap (λ ys. ys ++ x ∷ []) h ∙ (sym (removed_push (take i xs) x p (λ q. apart (omega (arith, q, count)))) ∙ ap (λ ys. remove ys p) (sym (take_at xs i x e)))

pub goes_at : {X : Type 0} (xs left : List X) (p i : ℕ) (x : X) → slice_get xs i ≡ Some x → length (take i xs) ≡ i → i ≡ p → left ≡ remove (take i xs) p → left ≡ remove (take (i + 1) xs) p
goes_at xs left p i x e count same h =
    h ∙ (sym (removed_last (take i xs) x p (omega (arith, same, count))) ∙ ap (λ ys. remove ys p) (sym (take_at xs i x e)))
