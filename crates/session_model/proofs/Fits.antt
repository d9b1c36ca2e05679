-- A set goes on to fit, whichever way a call changes it.
use Rattle.session_model.proofs.Words.{rules, ◌≡◌, ◌∙◌, ◌∷◌, ◌^◌, ◌<◌, ◌≤◌, ◌==◌, ◌⊎◌, inl, not, ℕ, zero, suc, true, false, List, [], length, refl}
use Rattle.session_model.proofs.Words.{sym, ap, subst, arith, slice_get, unwrap_or, Option, Some, None, is_some, All, IsSomeAnd, ForSome, option_map}
use Rattle.session_model.proofs.Words.{option_map_or, All-push, nat_tests, or_parts, EventRef, Native, none_of, DerivedView, IsDerived, Book}
use Rattle.session_model.proofs.Words.{component_of_event, entry, natives_of_event, rule_of_event, Conflict, add_refusal, AtRest, Widths, cannot_take}
use Rattle.session_model.proofs.Words.{clash_with, emptied, has_event, is_armed, is_bad_domain, is_bad_slice, is_bad_threshold, is_full, is_other}
use Rattle.session_model.proofs.Words.{is_plain, least_width, new_set, shares_native, widths_at, with_event, with_threshold, without_event, Agrees}
use Rattle.session_model.proofs.Words.{BookFits, EventFits, Fits, IsHeld, set_view, added_agrees, armed_agrees, assigned_agrees, by_number}
use Rattle.session_model.proofs.Words.{emptied_agrees, event_owned, held_component, held_have_natives, numbered, removed_agrees, armed_sound}
use Rattle.session_model.proofs.Words.{assigned_sound, sliced_sound, removed_all, added_is_sound, emptied_is_sound, few_counters, new_is_sound}
use Rattle.session_model.proofs.Words.{removed_is_sound, with_domain_is_sound, IsFit, IsShape}
use Rattle.papi_base.specs.declared.native.EventRef.TheVariants as event

abbrev Fitting : Widths → Option ℕ → ℕ → Type 0
Fitting shape component t = (t ≡ 0) ⊎ ((256 ≤ t) × (t < 2 ^ least_width (widths_at shape component)))

few_each : (shape : Widths) → IsShape shape → All (λ widths. length widths ≤ 32) shape
few_each shape h = by_number (λ (widths : List ℕ). length widths ≤ 32) shape h.few_counters

-- ---- a set without events

pub new_fit : (book : Book) (shape : Widths) → IsFit book shape new_set
new_fit book shape = grind (arith, nat_tests, emptied_agrees, new_is_sound)

pub emptied_fit : (book : Book) (shape : Widths) (s : AtRest) → IsFit book shape s → IsFit book shape (emptied s)
emptied_fit book shape s h = grind (arith, nat_tests, emptied_agrees, emptied_is_sound)

-- ---- a component is fixed

-- a set without a component has no events
no_events : (book : Book) (s : AtRest) → Agrees book s → s.component ≡ None → s.events ≡ []
no_events book s h none = go s.events refl where
  go : (es : List EventRef) → s.events ≡ es → es ≡ []
  go [] q = refl
  go (e ∷ es) q =
      let first : slice_get s.events 0 ≡ Some e = ap (λ xs. slice_get xs 0) q in
      let lead = held_have_natives book e (numbered (IsHeld book) s.events h.held 0 e first) in
      let owned = numbered (λ n. s.component ≡ Some n.comp) (natives_of_event book e) (numbered (λ x. All (λ n. s.component ≡ Some n.comp) (natives_of_event book x)) s.events h.owned 0 e first) 0 lead.0 lead.1 in
      let clash : None ≡ Some lead.0.comp = sym none ∙ owned in
      cc clash

no_length : {X Y : Type 0} (xs : List X) (ys : List Y) → length xs ≡ length ys → ys ≡ [] → xs ≡ []
no_length [] ys e f = refl
no_length (x ∷ xs) ys e f = absurd (omega (arith, e, ap length f))

same_test : (f g : ℕ) → not (f == g) ≡ false → f ≡ g
same_test f g h = grind (arith, nat_tests)

pub assigned_fit : (book : Book) (shape : Widths) (g : ℕ) (s : AtRest) → IsShape shape → g < length shape → is_other s.component (Some g) ≡ false → IsFit book shape s → IsFit book shape (record s { component = Some g })
assigned_fit book shape g s is_shape below same h = grind (arith, nat_tests, assigned_agrees, assigned_sound, few_counters, few_each, same_test, no_length, no_events)

-- ---- one event more

pub get_some : {X : Type 0} (o : Option (Option X)) (x : X) → unwrap_or o None ≡ Some x → o ≡ Some (Some x)
get_some = grind (arith, nat_tests)

-- the natives of an event that the book holds fit
pub event_fits : (book : Book) (shape : Widths) (e : EventRef) → BookFits shape book → IsHeld book e → EventFits shape e → (i : ℕ) (n : Native) → slice_get (natives_of_event book e) i ≡ Some n → Fits shape n
event_fits book shape (event.Native m) book_fits held fits zero n q = let same : m ≡ n = cc in subst (Fits shape) same fits
event_fits book shape (event.Native m) book_fits held fits (suc i) n q = cc
event_fits book shape (event.Preset row) book_fits held fits i n q = go (entry book row) refl held q where
  go : (o : Option DerivedView) → entry book row ≡ o → IsSomeAnd o IsDerived → slice_get (option_map_or (λ d. d.natives) o []) i ≡ Some n → Fits shape n
  go None e k r = absurd k
  go (Some d) e k r =
      let there : slice_get book row ≡ Some (Some d) = get_some (slice_get book row) d e in
      numbered (Fits shape) d.natives (numbered (λ place. ForSome place (λ x. All (Fits shape) x.natives)) book book_fits.each row (Some d) there d refl) i n r

pub added_fit : (book : Book) (shape : Widths) (e : EventRef) (s : AtRest) → IsShape shape → BookFits shape book → IsHeld book e → EventFits shape e → cannot_take book e s ≡ false → is_full book e s ≡ false → clash_with book e s ≡ None
    → IsFit book shape s → IsFit book shape (with_event book e s)
added_fit book shape e s is_shape book_fits held fits takes full clash h = record {
  agrees = added_agrees book e s held takes h.agrees;
  sound = added_is_sound book shape e s held (by_number (Fits shape) (natives_of_event book e) (event_fits book shape e book_fits held fits)) (few_each shape is_shape) taken h.sound;
  has_component = to.has_component;
  thresholds = All-push (Fitting shape (component_of_event book e)) s.thresholds 0 to.thresholds (inl refl);
} where
  taken : add_refusal book e s ≡ None
  taken = rw (takes, full) (ap (option_map Conflict) clash)

  comp : (g : ℕ) × (component_of_event book e ≡ Some g)
  comp = held_component book e held

  lead : (n : Native) × (slice_get (natives_of_event book e) 0 ≡ Some n)
  lead = held_have_natives book e held

  there : comp.0 < length shape
  there =
      let is : Some comp.0 ≡ Some lead.0.comp = sym comp.1 ∙ event_owned book e held 0 lead.0 lead.1 in
      let same : lead.0.comp ≡ comp.0 = cc is in
      subst (λ c. c < length shape) same (event_fits book shape e book_fits held fits 0 lead.0 lead.1).has_component

  -- the set with the event's component
  to : IsFit book shape (record s { component = component_of_event book e })
  to =
      let other : is_other s.component (Some comp.0) ≡ false = subst (λ o. is_other s.component o ≡ false) comp.1 (or_parts (is_other s.component (component_of_event book e)) (has_event e s) takes).0 in
      subst (λ o. IsFit book shape (record s { component = o })) (sym comp.1) (assigned_fit book shape comp.0 s is_shape there other h)

-- ---- an event is gone

pub removed_fit : (book : Book) (shape : Widths) (e : EventRef) (s : AtRest) → IsFit book shape s → IsFit book shape (without_event e s)
removed_fit book shape e s h = search (rules, removed_agrees, removed_is_sound, removed_all)

-- ---- a threshold, a domain, a slice

threshold_of : (shape : Widths) (t : ℕ) (s : AtRest) → is_bad_threshold shape t s ≡ false → Fitting shape s.component t
threshold_of shape t s h = grind (arith, nat_tests)

pub armed_fit : (book : Book) (shape : Widths) (e : EventRef) (t : ℕ) (s : AtRest) → has_event e s ≡ true → is_plain (rule_of_event book e) ≡ true → is_bad_threshold shape t s ≡ false → shares_native book e t s ≡ false → is_some s.slice ≡ false
    → IsFit book shape s → IsFit book shape (with_threshold e t s)
armed_fit book shape e t s has plain good alone whole h = search (rules, armed_agrees, armed_sound, none_of, threshold_of)

pub domain_fit : (book : Book) (shape : Widths) (bits : ℕ) (s : AtRest) → is_bad_domain bits ≡ false → IsFit book shape s → IsFit book shape (record s { domain = record { 0 = bits } })
domain_fit book shape bits s good h = grind (arith, nat_tests, with_domain_is_sound)

pub multiplexed_fit : (book : Book) (shape : Widths) (slice : ℕ) (s : AtRest) → is_bad_slice slice ≡ false → is_armed s ≡ false → IsFit book shape s → IsFit book shape (record s { slice = Some slice })
multiplexed_fit book shape slice s good unarmed h = record {
  agrees = record { held = h.agrees.held; owned = h.agrees.owned; one_each = h.agrees.one_each; distinct = h.agrees.distinct; plain = h.agrees.plain; apart = h.agrees.apart };
  sound = sliced_sound slice (set_view book shape s) good unarmed h.sound;
  has_component = h.has_component;
  thresholds = h.thresholds;
}
