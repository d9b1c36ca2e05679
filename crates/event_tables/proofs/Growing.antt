-- A list whose last item is changed in place.
use Rattle.event_tables.proofs.Words.{◌≡◌, ◌∙◌, ◌+◌, ◌-◌, ◌<◌, ◌∷◌, ℕ, zero, suc, List, [], Option, Some, None, Bor, map, length, get_or, refl, sym}
use Rattle.event_tables.proofs.Words.{ap, subst, arith, set, length-map, slice_get-get_or, slice_get-map, ⊤, ◌&&◌, IfSome, if◌then◌else◌, is_some}
use Rattle.event_tables.proofs.Words.{nat_le, option_map, slice_get, AllByRecursion, list_all, list_any, option_map_or, passed_over, Text}
use Rattle.event_tables.proofs.Words.{ComponentText, EventText, MaskText, same_name, Line, component, event, umask, umask_counters, umask_modifiers}
use Rattle.event_tables.proofs.Words.{row_line, bits_of, cause_in, counter_place, inner_cause, last_of, mask_cause, on_last, within, CanGrow, HasMask}
use Rattle.event_tables.proofs.Words.{grown, with_line, component_text, Component, Row, RowCause, MOST_COMPONENT_EVENTS}
use Rattle.event_tables.specs.declared.row.Row.TheVariants as row
use Rattle.event_tables.specs.declared.fault.RowCause.TheVariants as cause

pub on_last-set : {X Y : Type 0} (view : X → Y) (f : Y → Y) (xs : List X) (i : ℕ) (new d : X) → i + 1 ≡ length xs → view new ≡ f (view (get_or xs i d))
    → map view (set xs i new) ≡ on_last f (map view xs)
unfolding on_last
on_last-set view f [] i new d e h = absurd (omega arith)
on_last-set view f (x ∷ []) zero new d e h = ap (λ t. t ∷ []) h
on_last-set view f (x ∷ []) (suc i) new d e h = absurd (omega arith)
on_last-set view f (x ∷ y ∷ rest) zero new d e h = absurd (omega arith)
on_last-set view f (x ∷ y ∷ rest) (suc i) new d e h = ap (λ t. view x ∷ t) (on_last-set view f (y ∷ rest) i new d (omega arith) h)

-- ---- a row that is not a component

abbrev pub IsInner : Line → Type 0
IsInner (component name pmu) = ⊥
IsInner line = ⊤

pub inner-row : (r : Row) → ((n p : Bor Text) → r ≡ row.Component n p → ⊥) → IsInner (row_line r)
inner-row (row.Component n p) k = absurd (k n p refl)
inner-row r k = tt

events-filled : (events : List EventText) (o : EventText → Option RowCause) → option_map_or o (last_of events) (Some cause.BadRow) ≡ None → 0 < length events
events-filled [] o e = cc e
events-filled (x ∷ xs) o e = omega arith

masks-filled : (masks : List MaskText) (o : MaskText → Option RowCause) → option_map_or o (last_of masks) (Some cause.BadRow) ≡ None → 0 < length masks
masks-filled [] o e = cc e
masks-filled (x ∷ xs) o e = omega arith

-- a row of a umask has a umask above it
has-mask : (c : ComponentText) (o : EventText → MaskText → Option RowCause)
    → option_map_or (λ (e : EventText). option_map_or (o e) (last_of e.masks) (Some cause.BadRow)) (last_of c.events) (Some cause.BadRow) ≡ None → HasMask c
has-mask c o e = (events-filled c.events (λ (x : EventText). option_map_or (o x) (last_of x.masks) (Some cause.BadRow)) e, go (last_of c.events) e)
  where
    go : (l : Option EventText) → option_map_or (λ (e : EventText). option_map_or (o e) (last_of e.masks) (Some cause.BadRow)) l (Some cause.BadRow) ≡ None → IfSome l (λ x. 0 < length x.masks)
    go None q = cc q
    go (Some x) q = masks-filled x.masks (o x) q

pub inner-grows : (above : List ComponentText) (line : Line) (c : ComponentText) → last_of above ≡ Some c → cause_in above line ≡ None → CanGrow line c
unfolding cause_in
inner-grows above (event n s ns t) c l e =
    let few = passed_over (nat_le MOST_COMPONENT_EVENTS (length c.events)) cause.OverLimit _ (rw l at e) in
    (passed_over (list_any (λ (x : EventText). same_name x.name n) c.events) cause.RepeatedName _ few.1).0
inner-grows above (umask m) c l e = events-filled c.events (λ x. mask_cause x.masks m.name m.preset_choice) (rw l at e)
inner-grows above (umask_counters names) c l e =
    has-mask c (λ x m. if is_some m.counters then Some cause.BadRow
    else if list_all (λ n. is_some (counter_place c.counters n)) names && within (bits_of c.counters names) x.allowed then None
    else Some cause.UnknownCounter) (rw l at e)
inner-grows above (umask_modifiers f) c l e = has-mask c (λ x m. if is_some m.fixed then Some cause.BadRow else None) (rw l at e)
inner-grows above line c l e = tt

pub inner-with : (above : List ComponentText) (line : Line) → IsInner line → with_line above line ≡ on_last (grown line) above
inner-with above (component n p) i = absurd i
inner-with above line i = refl

-- its cause is that in the last component
pub cause-inner : (above : List ComponentText) (r : Row) (c : ComponentText) → (r ≡ row.Skipped → ⊥) → (r ≡ row.Bad → ⊥) → ((n p : Bor Text) → r ≡ row.Component n p → ⊥)
    → last_of above ≡ Some c → inner_cause c (row_line r) ≡ cause_in above (row_line r)
unfolding cause_in
cause-inner above row.Skipped c s b k l = absurd (s refl)
cause-inner above row.Bad c s b k l = absurd (b refl)
cause-inner above (row.Component n p) c s b k l = absurd (k n p refl)
cause-inner above r c s b k l = rw l refl

-- and it has one if there is no component
pub cause-alone : (above : List ComponentText) (r : Row) → (r ≡ row.Skipped → ⊥) → (r ≡ row.Bad → ⊥) → ((n p : Bor Text) → r ≡ row.Component n p → ⊥)
    → last_of above ≡ None → Some cause.BadRow ≡ cause_in above (row_line r)
unfolding cause_in
cause-alone above row.Skipped s b k l = absurd (s refl)
cause-alone above row.Bad s b k l = absurd (b refl)
cause-alone above (row.Component n p) s b k l = absurd (k n p refl)
cause-alone above r s b k l = rw l refl

-- and adds nothing if no component stands above it
pub none-above : (xs : List Component) (line : Line) → IsInner line → (0 < length xs → ⊥) → map component_text xs ≡ with_line (map component_text xs) line
unfolding on_last
none-above [] line i e = sym (inner-with [] line i)
none-above (x ∷ xs) line i e = absurd (e (omega arith))

pub last_of-at : {X Y : Type 0} (view : X → Y) (xs : List X) (i : ℕ) (d : X) → i + 1 ≡ length xs → last_of (map view xs) ≡ Some (view (get_or xs i d))
last_of-at view xs i d e =
    let n : length (map view xs) - 1 ≡ i = omega (arith, length-map xs view) in
    rw (n, slice_get-map view xs i, slice_get-get_or xs i d (omega arith)) refl

pub last_of-map : {X Y : Type 0} (view : X → Y) (xs : List X) (o : Option X) → o ≡ slice_get xs (length xs - 1) → last_of (map view xs) ≡ option_map view o
last_of-map view xs o e = ap (λ n. slice_get (map view xs) (n - 1)) (length-map xs view) ∙ slice_get-map view xs (length xs - 1) ∙ ap (option_map view) (sym e)

pub last_of-later : {X : Type 0} (y z : X) (rest : List X) → last_of (y ∷ z ∷ rest) ≡ last_of (z ∷ rest)
last_of-later y z rest =
    let n : length (y ∷ z ∷ rest) - 1 ≡ suc (length (z ∷ rest) - 1) = omega arith in
    rw n refl

pub all-at : {X : Type 0} (P : X → Type 0) (xs : List X) (x : X) → AllByRecursion P xs → last_of xs ≡ Some x → P x
all-at P [] x h e = cc e
all-at P (y ∷ []) x h e = let same : y ≡ x = cc e in subst P same h.0
all-at P (y ∷ z ∷ rest) x h e = all-at P (z ∷ rest) x h.1 (sym (last_of-later y z rest) ∙ e)

-- the component to which a row with no cause belongs
pub record Owner (xs : List Component) (i : ℕ) (x : Component) (line : Line) : Type 0 where
  pub at_last : i + 1 ≡ length xs
  pub last : last_of (map component_text xs) ≡ Some (component_text x)
  pub grows : CanGrow line (component_text x)

pub owner : (xs : List Component) (line : Line) (i : ℕ) (x : Component) → cause_in (map component_text xs) line ≡ None → 0 < length xs → i ≡ length xs - 1
    → x ≡ get_or xs i x → Owner xs i x line
owner xs line i x e lt n is =
    let at : i + 1 ≡ length xs = omega (arith, lt, n) in
    let last : last_of (map component_text xs) ≡ Some (component_text x) = last_of-at component_text xs i x at ∙ ap (λ (t : Component). Some (component_text t)) (sym is) in
    record { at_last = at; last = last; grows = inner-grows (map component_text xs) line (component_text x) last e }
