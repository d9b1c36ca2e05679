-- What each set keeps, from the definitions alone.
use Rattle.event_sets.proofs.Words.{◌≡◌, ℕ, zero, suc, ◌<◌, ◌≤◌, Bool, true, false, List, [], ◌∷◌, length, refl, ap, sym, subst, ◌∙◌, arith, rules}
use Rattle.event_sets.proofs.Words.{slice_get, Option, Some, None, IsSomeAnd, get_or, All, if◌then◌else◌, nat_le, nat_lt, unwrap_or, option_map}
use Rattle.event_sets.proofs.Words.{option_map_or, ForSome, nat_tests, or_parts, none_of, passed_over, Domain, Native, Einval, Ecombo, Ecount}
use Rattle.event_sets.proofs.Words.{Assignable, is_assignable, masks_of, assignable_of, Book, DerivedView, IsDerived, one_more_joins, Clash, Plain}
use Rattle.event_sets.proofs.Words.{Conflict, Fits, blamed_unless, clash_of, Widths, cannot_take, clash_with, has_event, is_armed, is_bad_domain}
use Rattle.event_sets.proofs.Words.{is_bad_slice, is_full, is_other, natives_with, new_set, place_of, widths_at, IsSound, set_view, AddedIsSound}
use Rattle.event_sets.proofs.Words.{ArmedIsSound, AssignedIsSound, EmptiedIsSound, HeldFit, NewIsSound, RemovedIsSound, WithDomainIsSound}
use Rattle.event_sets.proofs.Words.{WithSliceIsSound}
use Rattle.papi_base.specs.declared.native.EventRef.TheVariants as event
use Rattle.event_sets.proofs.Agreeing.{held_have_natives, numbered}
use Rattle.event_sets.proofs.Clashing.{are_masks}
use Rattle.event_sets.proofs.Kept.{armed_sound, assigned_sound, domain_sound, sliced_sound}
use Rattle.event_sets.proofs.Removed.{removed_sound}
use Rattle.event_sets.proofs.Adding.{Ready, added_sound, added_view, all_in_range, clash_is}

pub few_counters : (shape : Widths) (comp : ℕ) → All (λ widths. length widths ≤ 32) shape → length (widths_at shape (Some comp)) ≤ 32
few_counters shape comp few = go (slice_get shape comp) refl where
  go : (o : Option (List ℕ)) → slice_get shape comp ≡ o → length (unwrap_or o []) ≤ 32
  go None e = omega arith
  go (Some widths) e = numbered (λ (ws : List ℕ). length ws ≤ 32) shape few comp widths e

-- a set without events, component or slice
bare_sound : (book : Book) (shape : Widths) (d : Domain) → is_bad_domain d.0 ≡ false → IsSound (set_view book shape (record new_set { domain = d }))
bare_sound book shape d good = search rules

pub new_is_sound : NewIsSound
new_is_sound book shape = bare_sound book shape (record { 0 = 1 }) refl

pub emptied_is_sound : EmptiedIsSound
emptied_is_sound book shape s h = bare_sound book shape s.domain h.good_domain

pub removed_is_sound : RemovedIsSound
removed_is_sound book shape e s h = removed_sound book (place_of e s) (set_view book shape s) refl h

pub with_domain_is_sound : WithDomainIsSound
with_domain_is_sound book shape bits s good h = domain_sound bits (set_view book shape s) good h

pub with_slice_is_sound : WithSliceIsSound
with_slice_is_sound book shape slice s taken h =
    let first = passed_over (is_bad_slice slice) Einval (if is_armed s then Some Ecombo else None) taken in
    sliced_sound slice (set_view book shape s) first.0 (passed_over (is_armed s) Ecombo None first.1).0 h

pub assigned_is_sound : AssignedIsSound
assigned_is_sound book shape comp s few taken h = grind (arith, nat_tests, passed_over, assigned_sound, few_counters)

pub armed_is_sound : ArmedIsSound
armed_is_sound book shape e t s taken h = search (rules, passed_over, armed_sound, none_of)

-- no clash is refused
no_conflict : (c : Option Clash) → option_map Conflict c ≡ None → c ≡ None
no_conflict = grind (arith, nat_tests)

-- natives without a clash have an assignment
fits_of : (b : Bool) (natives : List Native) → blamed_unless b natives ≡ None → b ≡ true
fits_of fits natives h = grind (arith, nat_tests)

pub added_is_sound : AddedIsSound
added_is_sound book shape e s held fits few taken sound =
    let takes = passed_over (cannot_take book e s) (Plain Einval) _ taken in
    let rows = passed_over (is_full book e s) (Plain Ecount) (option_map Conflict (clash_with book e s)) takes.1 in
    let lead = held_have_natives book e held in
    let n = lead.0 in
    let view = set_view book shape s in
    let owner : is_other s.component (Some n.comp) ≡ false = ap (is_other s.component) (sym (ap (option_map (λ (m : Native). m.comp)) lead.1))
    ∙ (or_parts (is_other s.component _) (has_event e s) takes.0).0 in
    let ready : Ready book shape e view n = record {
      held = held;
      fits = fits;
      natives = refl;
      known = refl;
      sound = sound;
      first = lead.1;
      own = owner;
      absent = (or_parts (is_other s.component _) (has_event e s) takes.0).1;
    } in
    let all = natives_with book e s in
    let joins = one_more_joins book s.events e in
    let counters = length (widths_at shape (Some n.comp)) in
    let size = few_counters shape n.comp few in
    let room = or_parts (nat_le 32 (length s.events)) (nat_lt 32 (length all)) rows.0 in
    let few_events : length s.events < 32 = grind (arith, nat_tests, room.0) in
    let few_natives : length all ≤ 32 = grind (arith, nat_tests, room.1) in
    let clear : clash_of s.slice (length view.natives) all ≡ None = sym (clash_is book shape e view n ready all joins) ∙ no_conflict (clash_with book e s) rows.1 in
    let assignable : s.slice ≡ None → Assignable (masks_of all) = λ unshared.
    assignable_of (masks_of all) (are_masks counters all size (all_in_range book shape e view n ready all joins counters refl))
    (fits_of (is_assignable (masks_of all)) all (ap (λ o. clash_of o (length view.natives) all) (sym unshared) ∙ clear)) in
    subst IsSound (added_view book shape e view n ready all joins counters refl) (added_sound book shape e view n ready all joins counters refl few_events few_natives size assignable clear)

pub held_fit : HeldFit
held_fit book shape (event.Native n) fit held own = λ k d below. one k d below where
  one : (k : ℕ) (d : Native) → k < 1 → Fits shape (get_or (n ∷ []) k d)
  one zero d below = own
  one (suc k) d below = absurd (omega arith)
held_fit book shape (event.Preset row) fit held own = go (slice_get book row) refl held where
  go : (o : Option (Option DerivedView)) → slice_get book row ≡ o → IsSomeAnd (unwrap_or o None) IsDerived → All (Fits shape) (option_map_or (λ d. d.natives) (unwrap_or o None) [])
  go (Some (Some d)) e held = numbered (λ (place : Option DerivedView). ForSome place (λ x. All (Fits shape) x.natives)) book fit.each row (Some d) e d refl
  go o e held = absurd held
