-- An event that is added to a set.
use Rattle.event_sets.proofs.Words.{◌≡◌, ◌⊎◌, inl, inr, ℕ, ◌<◌, ◌≤◌, ◌^◌, Bool, true, false, ◌||◌, ◌==◌, List, [], ◌∷◌, ◌++◌, length, take, drop}
use Rattle.event_sets.proofs.Words.{refl, ap, ap₂, sym, subst, ◌∙◌, arith, slice_get, Option, Some, None, length-append, get_or, All, find, is_some}
use Rattle.event_sets.proofs.Words.{if◌then◌else◌, nat_le, nat_lt, option_map, lt-ltb, le-ltb, nat_tests, take-append-drop, All-append, All-push}
use Rattle.event_sets.proofs.Words.{Native, EventRef, Ecount, Assignable, masks_of, MatchingView, Book, component_of_event, natives_of_event}
use Rattle.event_sets.proofs.Words.{joined_by, earlier_stay, one_more_joins, get_pushed, Clash, Plain, Conflict, add_refusal, Fits, IsHeld, alone}
use Rattle.event_sets.proofs.Words.{clash_of, Widths, cannot_take, clash_with, has_event, is_full, is_other, natives_with, set_natives, widths_at}
use Rattle.event_sets.proofs.Words.{with_event, IsMatched, IsSound, SetView, set_view}
use Rattle.event_sets.proofs.Agreeing.{by_number, event_owned, found, not_other}
use Rattle.event_sets.proofs.Kept.{no_natives}
use Rattle.event_sets.proofs.JoinedNatives.{joined_all}

-- the natives of an event that the book holds are of one component
pub one_component : (book : Book) (e : EventRef) (n : Native) → IsHeld book e → slice_get (natives_of_event book e) 0 ≡ Some n → All (λ m. m.comp ≡ n.comp) (natives_of_event book e)
one_component book e n held first = by_number (λ m. m.comp ≡ n.comp) (natives_of_event book e) (λ i m q.
    let same : Some m.comp ≡ Some n.comp = sym (event_owned book e held i m q) ∙ event_owned book e held 0 n first in cc)

-- natives among which none is found that is allowed no counter
none_without : (ns : List Native) → option_map alone (find (λ m. m.allowed == 0) ns) ≡ None → All (λ m. 0 < m.allowed) ns
none_without [] h = λ k m below. absurd (omega arith)
none_without (x ∷ ns) h = grind (arith, nat_tests, none_without ns)

-- a set with one more event, its natives and its component
abbrev pub pushed : SetView → EventRef → ℕ → List Native → ℕ → SetView
pushed s e comp all counters = record {
  rest = record (s.rest) { events = s.rest.events ++ e ∷ []; thresholds = s.rest.thresholds ++ 0 ∷ []; component = Some comp };
  natives = all;
  counters = counters;
}

-- what is known of a set and of an event that is of its component and not in it, whose first native is n
pub record Ready (book : Book) (shape : Widths) (e : EventRef) (s : SetView) (n : Native) : Type 0 where
  pub held : IsHeld book e
  pub fits : All (Fits shape) (natives_of_event book e)
  pub natives : s.natives ≡ set_natives book s.rest
  pub known : s.counters ≡ length (widths_at shape s.rest.component)
  pub sound : IsSound s
  pub first : slice_get (natives_of_event book e) 0 ≡ Some n
  pub own : is_other s.rest.component (Some n.comp) ≡ false
  pub absent : has_event e s.rest ≡ false

module _ (book : Book) (shape : Widths) (e : EventRef) (s : SetView) (n : Native) (ready : Ready book shape e s n) where
  pub component_is : component_of_event book e ≡ Some n.comp
  component_is = ap (option_map (λ (m : Native). m.comp)) ready.first

  pub can_take : cannot_take book e s.rest ≡ false
  can_take = ap₂ (λ a b. a || b) (ap (is_other s.rest.component) component_is ∙ ready.own) ready.absent

  fixed : (s.rest.component ≡ None) ⊎ (s.rest.component ≡ Some n.comp)
  fixed = not_other s.rest.component n.comp ready.own

  module _ (all : List Native) (joins : all ≡ joined_by s.natives (natives_of_event book e)) where
    pub all_is : all ≡ natives_with book e s.rest
    all_is = joins ∙ (ap (λ ns. joined_by ns (natives_of_event book e)) ready.natives ∙ sym (one_more_joins book s.rest.events e))

    pub begins : take (length s.natives) all ≡ s.natives
    begins = ap₂ (λ ns xs. take (length ns) xs) ready.natives all_is ∙ (earlier_stay book s.rest.events e ∙ sym ready.natives)

    -- natives or events would be too many
    pub full_of_natives : 32 < length all → is_full book e s.rest ≡ true
    full_of_natives over = go (nat_le 32 (length s.rest.events)) (ap (λ ns. nat_lt 32 (length ns)) (sym all_is) ∙ lt-ltb 32 (length all) over) where
      go : (a : Bool) → {b : Bool} → b ≡ true → (a || b) ≡ true
      go true h = refl
      go false h = h

    pub not_full : length s.rest.events < 32 → length all ≤ 32 → is_full book e s.rest ≡ false
    not_full few_events few =
        let events : nat_le 32 (length s.rest.events) ≡ false = grind (arith, nat_tests, few_events) in
        ap₂ (λ a b. a || b) events (ap (λ ns. nat_lt 32 (length ns)) (sym all_is) ∙ le-ltb 32 (length all) few)

    pub clash_is : clash_with book e s.rest ≡ clash_of s.rest.slice (length s.natives) all
    clash_is = ap₂ (λ ns xs. clash_of s.rest.slice (length ns) xs) (sym ready.natives) (sym all_is)

    -- the refusals that come after the first
    pub refused_full : is_full book e s.rest ≡ true → add_refusal book e s.rest ≡ Some (Plain Ecount)
    refused_full full = rw (can_take, full) refl

    pub refused_clash : (clash : Clash) → is_full book e s.rest ≡ false → clash_of s.rest.slice (length s.natives) all ≡ Some clash → add_refusal book e s.rest ≡ Some (Conflict clash)
    refused_clash clash room is = rw (can_take, room) (ap (option_map Conflict) (clash_is ∙ is))

    pub taken : is_full book e s.rest ≡ false → clash_of s.rest.slice (length s.natives) all ≡ None → add_refusal book e s.rest ≡ None
    taken room is = rw (can_take, room) (ap (option_map Conflict) (clash_is ∙ is))

    module _ (counters : ℕ) (counted : counters ≡ length (widths_at shape (Some n.comp))) where
      same_counters : s.rest.component ≡ Some n.comp → s.counters ≡ counters
      same_counters is = ready.known ∙ (ap (λ c. length (widths_at shape c)) is ∙ sym counted)

      given_in_range : All (λ m. m.allowed < 2 ^ counters) (natives_of_event book e)
      given_in_range k m below =
          let fits = ready.fits k m below in
          let comp = one_component book e n ready.held ready.first k m below in
          let size = ap (λ c. length (widths_at shape (Some c))) comp ∙ sym counted in
          subst (λ c. (get_or (natives_of_event book e) k m).allowed < 2 ^ c) size fits.has_counters

      pub all_in_range : All (λ m. m.allowed < 2 ^ counters) all
      all_in_range = subst (All (λ m. m.allowed < 2 ^ counters)) (sym joins) (joined_all (λ m. m.allowed < 2 ^ counters) s.natives (natives_of_event book e) (before fixed) given_in_range) where
        before : (s.rest.component ≡ None) ⊎ (s.rest.component ≡ Some n.comp) → All (λ m. m.allowed < 2 ^ counters) s.natives
        before (inl none) = subst (All (λ m. m.allowed < 2 ^ counters)) (sym (no_natives s ready.sound none)) (λ k m below. absurd (omega arith))
        before (inr some) = subst (λ c. All (λ m. m.allowed < 2 ^ c) s.natives) (same_counters some) ready.sound.in_range

      all_owned : All (λ m. Some n.comp ≡ Some m.comp) all
      all_owned = subst (All (λ m. Some n.comp ≡ Some m.comp)) (sym joins)
          (joined_all (λ m. Some n.comp ≡ Some m.comp) s.natives (natives_of_event book e) (before fixed) (λ k m below. ap Some (sym (one_component book e n ready.held ready.first k m below)))) where
            before : (s.rest.component ≡ None) ⊎ (s.rest.component ≡ Some n.comp) → All (λ m. Some n.comp ≡ Some m.comp) s.natives
            before (inl none) = subst (All (λ m. Some n.comp ≡ Some m.comp)) (sym (no_natives s ready.sound none)) (λ k m below. absurd (omega arith))
            before (inr some) = λ k m below. sym some ∙ ready.sound.owned k m below

      pub begun_counters : (kept : MatchingView) → IsMatched s kept → (if is_some s.rest.component then kept else record { counters = counters; allowed = [] }).counters ≡ counters
      begun_counters kept matched = go s.rest.component refl where
        go : (o : Option ℕ) → s.rest.component ≡ o → (let m : MatchingView = if is_some o then kept else record { counters = counters; allowed = [] } in m.counters) ≡ counters
        go None is = refl
        go (Some c) is = matched.counters ∙ same_counters (elim fixed [ inl none ↦ let both : Some c ≡ None = sym is ∙ none in cc | inr some ↦ some ])

      pub begun_allowed : (kept : MatchingView) → IsMatched s kept → s.rest.slice ≡ None
          → (if is_some s.rest.component then kept else record { counters = counters; allowed = [] }).allowed ≡ masks_of s.natives
      begun_allowed kept matched unshared = go s.rest.component refl where
        go : (o : Option ℕ) → s.rest.component ≡ o → (let m : MatchingView = if is_some o then kept else record { counters = counters; allowed = [] } in m.allowed) ≡ masks_of s.natives
        go None is = ap masks_of (sym (no_natives s ready.sound is))
        go (Some c) is = matched.natives unshared

      -- each has an allowed counter if no new one is without
      some_counters : (slice : ℕ) → s.rest.slice ≡ Some slice → clash_of s.rest.slice (length s.natives) all ≡ None → All (λ m. 0 < m.allowed) all
      some_counters slice is none =
          let found_none : option_map alone (find (λ m. m.allowed == 0) (drop (length s.natives) all)) ≡ None = ap (λ o. clash_of o (length s.natives) all) (sym is) ∙ none in
          subst (All (λ m. 0 < m.allowed)) (take-append-drop (length s.natives) all)
          (All-append (λ m. 0 < m.allowed) (take (length s.natives) all) (drop (length s.natives) all)
          (subst (All (λ m. 0 < m.allowed)) (sym begins) (ready.sound.shared slice is).some_counter)
          (none_without (drop (length s.natives) all) found_none))

      fresh : (i : ℕ) (f : EventRef) → slice_get s.rest.events i ≡ Some f → e ≡ f → ⊥
      fresh i f a q = let is : has_event e s.rest ≡ true = found e s.rest.events i (a ∙ ap Some (sym q)) in let isnt = ready.absent in cc

      -- the set with the event is sound
      pub added_sound : length s.rest.events < 32 → length all ≤ 32 → counters ≤ 32 → (s.rest.slice ≡ None → Assignable (masks_of all)) → clash_of s.rest.slice (length s.natives) all ≡ None
          → IsSound (pushed s e n.comp all counters)
      added_sound few_events few few_counters assignable none = record {
        few_events = omega (arith, length-append s.rest.events (e ∷ []));
        few_natives = few;
        few_counters = few_counters;
        one_threshold_each = omega (arith, length-append s.rest.events (e ∷ []), length-append s.rest.thresholds (0 ∷ []), ready.sound.one_threshold_each);
        distinct = λ i j f a b. elim (get_pushed s.rest.events e i f a) [
          | inl a' ↦ elim (get_pushed s.rest.events e j f b) [ inl b' ↦ ready.sound.distinct i j f a' b' | inr b' ↦ absurd (fresh i f a' b'.1) ]
          | inr a' ↦ elim (get_pushed s.rest.events e j f b) [ inl b' ↦ absurd (fresh j f b' a'.1) | inr b' ↦ a'.0 ∙ sym b'.0 ]
        ];
        owned = all_owned;
        in_range = all_in_range;
        good_domain = ready.sound.good_domain;
        assignable = assignable;
        shared = λ slice is. record {
          good_slice = (ready.sound.shared slice is).good_slice;
          some_counter = some_counters slice is none;
          no_thresholds = All-push (λ t. t ≡ 0) s.rest.thresholds 0 (ready.sound.shared slice is).no_thresholds refl;
        };
      }

      -- and is the view of the set with the event
      pub added_view : pushed s e n.comp all counters ≡ set_view book shape (with_event book e s.rest)
      added_view = let comp = sym component_is in λ i. record {
        rest = record (s.rest) { events = s.rest.events ++ e ∷ []; thresholds = s.rest.thresholds ++ 0 ∷ []; component = comp i };
        natives = all_is i;
        counters = (counted ∙ ap (λ c. length (widths_at shape c)) (sym component_is)) i;
      }
