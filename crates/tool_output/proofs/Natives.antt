-- The native events of an event, and that they fit the unit.
use Rattle.tool_output.proofs.Words.{◌≡◌, ◌∙◌, ◌<◌, ◌≤◌, ◌^◌, ◌∷◌, ℕ, true, false, List, [], Option, Some, None, filter, length, map, slice_get, refl}
use Rattle.tool_output.proofs.Words.{sym, ap, subst, arith, range_with_len, option_and_then, length-map, slice_get-map, slice_get_within, CatalogView}
use Rattle.tool_output.proofs.Words.{shape_of, Fits, AtRest, is_other, widths_at, IsComponent, IsEvent, IsTables, ComponentText, EventText, MaskText}
use Rattle.tool_output.proofs.Words.{event_at, widths_of, Found, native_of, Native, all_at, takes}
use Rattle.std.specs.Prelude.{option_map, unwrap_or}
use Rattle.papi_base.specs.declared.native.EventRef.TheVariants as event
use Rattle.tool_output.specs.Candidates.{alone, found, natives_by, natives_in_row, natives_of_component, natives_of_event, no_modifiers, with_umask}
use Rattle.tool_output.proofs.Rows.{none_of_each, none_of_rows}

-- ---- an event in its row

-- the component that has it, and what is kept of it
pub record Kept (tables : List ComponentText) (comp : ℕ) (e : EventText) : Type 0 where
  pub component : ComponentText
  pub here : slice_get tables comp ≡ Some component
  pub event : IsEvent (length component.counters) e

pub event_kept : (tables : List ComponentText) (comp row : ℕ) (e : EventText) → IsTables tables → event_at tables comp row ≡ Some e → Kept tables comp e
event_kept tables comp row e t at = go (slice_get tables comp) refl at
  where
    go : (o : Option ComponentText) → slice_get tables comp ≡ o → option_and_then (λ (c : ComponentText). slice_get c.events row) o ≡ Some e → Kept tables comp e
    go None here h = cc h
    go (Some c) here h =
        let kept = all_at IsComponent tables comp c t.each here in
        record { component = c; here = here; event = all_at (IsEvent (length c.counters)) c.events row e kept.events h }

pub component_events : (tables : List ComponentText) (comp : ℕ) (c : ComponentText) → IsTables tables → slice_get tables comp ≡ Some c → length c.events ≤ 1024
component_events tables comp c t here = let kept = all_at IsComponent tables comp c t.each here in kept.few_events

-- a native of the event fits
pub native_fits : (tables : List ComponentText) (comp row : ℕ) (e : EventText) (n : Native) → IsTables tables → event_at tables comp row ≡ Some e
    → n.comp ≡ comp → n.allowed ≤ e.allowed → Fits (shape_of tables) n
native_fits tables comp row e n t at own allowed =
    let kept = event_kept tables comp row e t at in
    let inside = slice_get_within tables comp kept.component kept.here in
    let widths : slice_get (shape_of tables) comp ≡ Some (widths_of kept.component) = slice_get-map widths_of tables comp ∙ ap (option_map widths_of) kept.here in
    let long : length (widths_of kept.component) ≡ length kept.component.counters = length-map kept.component.counters _ in
    let size : length (widths_at (shape_of tables) (Some n.comp)) ≡ length kept.component.counters =
    ap (λ k. length (unwrap_or (slice_get (shape_of tables) k) [])) own ∙ ap (λ o. length (unwrap_or o [])) widths ∙ long in
    record {
      has_component = omega (arith, inside, own, length-map tables widths_of);
      has_counters = subst (λ k. n.allowed < 2 ^ k) (sym size) (omega (arith, allowed, kept.event.within));
    }

-- ---- with its umasks or without

pub without_masks : (f : Found) → length f.event.masks ≡ 0 → natives_of_event f ≡ event.Native (native_of f [] no_modifiers) ∷ []
without_masks f none = go f.event.masks none
  where
    go : (masks : List MaskText) → length masks ≡ 0 → natives_by f masks ≡ event.Native (native_of f [] no_modifiers) ∷ []
    go [] e = refl
    go (m ∷ masks) e = absurd (omega (arith, e))

pub with_masks : (f : Found) (n : ℕ) → 0 < n → length f.event.masks ≡ n → natives_of_event f ≡ map (with_umask f) (range_with_len 0 n)
with_masks f n some is = go f.event.masks is
  where
    go : (masks : List MaskText) → length masks ≡ n → natives_by f masks ≡ map (with_umask f) (range_with_len 0 n)
    go [] e = absurd (omega (arith, e, some))
    go (m ∷ masks) e = ap (λ k. map (with_umask f) (range_with_len 0 k)) e

-- ---- of another component

module _ (catalog : CatalogView) (s : AtRest) (comp : ℕ) (other : is_other s.component (Some comp) ≡ true) where
  -- none of its natives is taken
  native_not_taken : (n : Native) → n.comp ≡ comp → takes catalog s (event.Native n) ≡ false
  native_not_taken n own = let is : is_other s.component (Some n.comp) ≡ true = ap (λ k. is_other s.component (Some k)) own ∙ other in rw is refl

  event_not_taken : (c : ComponentText) (row : ℕ) (e : EventText) (masks : List MaskText) → filter (takes catalog s) (natives_by (found comp row c e) masks) ≡ []
  event_not_taken c row e [] = rw (native_not_taken (native_of (found comp row c e) [] no_modifiers) refl) refl
  event_not_taken c row e (m ∷ masks) =
      let f = found comp row c e in
      none_of_each (takes catalog s) (with_umask f) (λ k. native_not_taken (native_of f (alone k e.masks) no_modifiers) refl) (range_with_len 0 (length (m ∷ masks)))

  row_not_taken : (c : ComponentText) (row : ℕ) → filter (takes catalog s) (natives_in_row comp c row) ≡ []
  row_not_taken c row = go (slice_get c.events row) refl
    where
      go : (o : Option EventText) → slice_get c.events row ≡ o → filter (takes catalog s) (natives_in_row comp c row) ≡ []
      go None is = rw is refl
      go (Some e) is = rw is (event_not_taken c row e e.masks)

  pub component_not_taken : (c : ComponentText) → filter (takes catalog s) (natives_of_component comp c) ≡ []
  unfolding natives_of_component
  component_not_taken c = none_of_rows (takes catalog s) (natives_in_row comp c) (row_not_taken c) (range_with_len 0 (length c.events))
