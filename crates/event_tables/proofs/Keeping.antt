-- A row with no cause keeps what the tables keep.
use Rattle.event_tables.proofs.Words.{◌≡◌, ◌∙◌, ◌<◌, ◌∷◌, ◌++◌, ℕ, List, [], Option, Some, None, Bool, true, false, length, refl, ap, sym, subst}
use Rattle.event_tables.proofs.Words.{arith, length-append, pow-lt, and_parts, leb-false, or_parts, ◌&&◌, ◌||◌, IfSome, is_some, if◌then◌else◌}
use Rattle.event_tables.proofs.Words.{nat_le, unwrap_or, AllByRecursion, list_all, list_any, bytes_eq, passed_over, NoTwo, Text, is_empty, is_name}
use Rattle.event_tables.proofs.Words.{all-append, all-map, no_two-more, ComponentText, CounterText, EventText, MaskText, same_name, Line, skipped}
use Rattle.event_tables.proofs.Words.{bad, component, counter, event, umask, umask_counters, umask_modifiers, bits_of, cause_in, component_cause}
use Rattle.event_tables.proofs.Words.{component_of, counter_cause, counter_place, counter_row, counters_in, event_cause, event_row, events_in, fixing}
use Rattle.event_tables.proofs.Words.{inner_counters_cause, inner_mask_cause, is_modifier, last_of, mask_cause, modifier_words, on_last, restricted}
use Rattle.event_tables.proofs.Words.{within, grown, on_last_mask, with_counter, with_event, with_inner_mask, with_last_mask, with_line, with_mask}
use Rattle.event_tables.proofs.Words.{HasCounters, IsComponent, IsCounter, IsEvent, IsEventLine, IsLine, IsMask, IsMaskLine, IsTables, IsWidth}
use Rattle.event_tables.proofs.Words.{MOST_COMPONENTS, MOST_COMPONENT_EVENTS, MOST_COUNTERS, MOST_UMASKS}
use Rattle.event_tables.specs.declared.fault.RowCause.TheVariants as cause
use Rattle.event_tables.proofs.Bits.{bits_of-lt, bits_of-some}
use Rattle.event_tables.proofs.Growing.{last_of-later}

-- ---- tests

none-each : {X : Type 0} (p : X → Bool) (xs : List X) → list_any p xs ≡ false → AllByRecursion (λ x. p x ≡ false) xs
none-each p [] e = tt
none-each p (x ∷ xs) e = let h = or_parts (p x) (list_any p xs) e in (h.0, none-each p xs h.1)

either-none : {X : Type 0} (p q : X → Bool) (xs : List X) → list_any (λ x. p x || q x) xs ≡ false → (list_any p xs ≡ false) × (list_any q xs ≡ false)
either-none p q [] e = (refl, refl)
either-none p q (x ∷ xs) e =
    let h = or_parts (p x || q x) (list_any (λ y. p y || q y) xs) e in
    let here = or_parts (p x) (q x) h.0 in
    let more = either-none p q xs h.1 in
    (rw (here.0, more.0) refl, rw (here.1, more.1) refl)

-- ---- lists with one item more, and with the last one changed

all-on_last : {X : Type 0} (P : X → Type 0) (f : X → X) (xs : List X) → AllByRecursion P xs → ((x : X) → last_of xs ≡ Some x → P x → P (f x)) → AllByRecursion P (on_last f xs)
unfolding on_last
all-on_last P f [] h g = tt
all-on_last P f (x ∷ []) h g = (g x refl h.0, tt)
all-on_last P f (x ∷ y ∷ rest) h g = (h.0, all-on_last P f (y ∷ rest) h.1 (λ z e. g z (last_of-later x y rest ∙ e)))

length-on_last : {X : Type 0} (f : X → X) (xs : List X) → length (on_last f xs) ≡ length xs
unfolding on_last
length-on_last f (x ∷ y ∷ rest) = let more = length-on_last f (y ∷ rest) in omega (arith, more)
length-on_last f xs = refl

no_two-on_last : {X : Type 0} (same : X → X → Bool) (f : X → X) (xs : List X) → ((x y : X) → same x (f y) ≡ same x y) → NoTwo same xs → NoTwo same (on_last f xs)
unfolding on_last
no_two-on_last same f [] e h = tt
no_two-on_last same f (x ∷ []) e h = (tt, tt)
no_two-on_last same f (x ∷ y ∷ rest) e h =
    (all-on_last (λ z. same x z ≡ false) f (y ∷ rest) h.0 (λ z l k. e x z ∙ k), no_two-on_last same f (y ∷ rest) e h.1)

-- ---- a component

component-kept : (above : List ComponentText) (name pmu : Text) → is_name name ≡ true → is_name pmu ≡ true → component_cause above name pmu ≡ None
    → IsTables above → IsTables (above ++ component_of name pmu [] ∷ [])
unfolding counters_in events_in
component-kept above name pmu n p e h =
    let few = passed_over (nat_le MOST_COMPONENTS (length above)) cause.OverLimit _ e in
    let fresh = passed_over (list_any (λ (c : ComponentText). same_name c.name name || same_name c.pmu pmu) above) cause.RepeatedName None few.1 in
    let distinct = either-none (λ (c : ComponentText). same_name c.name name) (λ (c : ComponentText). same_name c.pmu pmu) above fresh.0 in
    let new : ComponentText = component_of name pmu [] in
    let is : IsComponent new = record {
      named = n;
      pmu_named = p;
      few_counters = omega arith;
      few_events = omega arith;
      counters = tt;
      counters_distinct = tt;
      events = tt;
      events_distinct = tt;
    } in
    let low = leb-false MOST_COMPONENTS (length above) few.0 in
    record {
      few = omega (arith, length-append above (new ∷ []), low);
      each = all-append IsComponent above (new ∷ []) h.each (is, tt);
      names_distinct = no_two-more (λ (a b : ComponentText). same_name a.name b.name) above new h.names_distinct distinct.0;
      pmus_distinct = no_two-more (λ (a b : ComponentText). same_name a.pmu b.pmu) above new h.pmus_distinct distinct.1;
    }

-- ---- a counter

wide : (w : Option ℕ) → IfSome w IsWidth → is_some w ≡ true → IsWidth (unwrap_or w 0)
wide (Some n) h e = h
wide None h e = cc e

some-width : (w : Option ℕ) → (if is_some w then None else Some cause.BadWidth) ≡ None → is_some w ≡ true
some-width (Some n) e = refl
some-width None e = cc e

-- an event has the counters that it had
event-wider : (n m : ℕ) → n < m → (e : EventText) → IsEvent n e → IsEvent m e
event-wider n m lt e h =
    let up = pow-lt lt in
    record {
      named = h.named;
      byte = h.byte;
      counted = h.counted;
      within = omega (arith, h.within, up);
      few = h.few;
      each = h.each;
      distinct = h.distinct;
      one_default = h.one_default;
      mask_counters = h.mask_counters;
    }

counter-kept : (c : ComponentText) (name : Text) (width : Option ℕ) (fixed : Bool) → is_name name ≡ true → IfSome width IsWidth → counter_cause c.counters name width ≡ None
    → IsComponent c → IsComponent (with_counter (counter_row name width fixed) c)
counter-kept c name width fixed n w e h =
    let few = passed_over (nat_le MOST_COUNTERS (length c.counters)) cause.OverLimit _ e in
    let fresh = passed_over (list_any (λ (k : CounterText). bytes_eq k.name name) c.counters) cause.RepeatedName _ few.1 in
    let range = wide width w (some-width width fresh.1) in
    let low = leb-false MOST_COUNTERS (length c.counters) few.0 in
    let more = length-append c.counters (counter_row name width fixed ∷ []) in
    record {
      named = h.named;
      pmu_named = h.pmu_named;
      few_counters = omega (arith, low, more);
      few_events = h.few_events;
      counters = all-append IsCounter c.counters (counter_row name width fixed ∷ []) h.counters (record { named = n; narrow = range.0; wide = range.1 }, tt);
      counters_distinct = no_two-more (λ (a b : CounterText). bytes_eq a.name b.name) c.counters (counter_row name width fixed) h.counters_distinct fresh.0;
      events = all-map (IsEvent (length c.counters)) (IsEvent (length (c.counters ++ counter_row name width fixed ∷ []))) c.events (event-wider _ _ (omega (arith, more))) h.events;
      events_distinct = h.events_distinct;
    }

-- ---- an event

some-known : (counters : List CounterText) (names : List Text) → is_empty names ≡ false → list_all (λ n. is_some (counter_place counters n)) names ≡ true → 0 < bits_of counters names
some-known counters [] e h = cc e
some-known counters (n ∷ names) e h = bits_of-some counters n names (and_parts (is_some (counter_place counters n)) (list_all (λ n. is_some (counter_place counters n)) names) h).0

all-known : (b : Bool) → (if b then None else Some cause.UnknownCounter) ≡ None → b ≡ true
all-known true e = refl
all-known false e = cc e

event-kept : (c : ComponentText) (name : Text) (select : ℕ) (names : List Text) (text : Text) → IsEventLine name select names → event_cause c name names ≡ None
    → IsComponent c → IsComponent (with_event (event_row c.counters name select names text []) c)
event-kept c name select names text i e h =
    let few = passed_over (nat_le MOST_COMPONENT_EVENTS (length c.events)) cause.OverLimit _ e in
    let fresh = passed_over (list_any (λ (x : EventText). same_name x.name name) c.events) cause.RepeatedName _ few.1 in
    let known = all-known (list_all (λ n. is_some (counter_place c.counters n)) names) fresh.1 in
    let new : EventText = event_row c.counters name select names text [] in
    let is : IsEvent (length c.counters) new = record {
      named = i.named;
      byte = i.byte;
      counted = some-known c.counters names i.some known;
      within = bits_of-lt c.counters names;
      few = omega arith;
      each = tt;
      distinct = tt;
      one_default = tt;
      mask_counters = tt;
    } in
    let low = leb-false MOST_COMPONENT_EVENTS (length c.events) few.0 in
    record {
      named = h.named;
      pmu_named = h.pmu_named;
      few_counters = h.few_counters;
      few_events = omega (arith, low, length-append c.events (new ∷ []));
      counters = h.counters;
      counters_distinct = h.counters_distinct;
      events = all-append (IsEvent (length c.counters)) c.events (new ∷ []) h.events (is, tt);
      events_distinct = no_two-more (λ (a b : EventText). same_name a.name b.name) c.events new h.events_distinct fresh.0;
    }

-- ---- a umask

no-default : (m : MaskText) (masks : List MaskText) → (m.preset_choice && list_any (λ (o : MaskText). o.preset_choice) masks) ≡ false
    → list_any (λ (o : MaskText). o.preset_choice && m.preset_choice) masks ≡ false
no-default m masks e = go m.preset_choice masks e
  where
    none : (o : Bool) → (o && false) ≡ false
    none true = refl
    none false = refl

    same : (o : Bool) → (o && true) ≡ o
    same true = refl
    same false = refl

    go : (b : Bool) (xs : List MaskText) → (b && list_any (λ (o : MaskText). o.preset_choice) xs) ≡ false → list_any (λ (o : MaskText). o.preset_choice && b) xs ≡ false
    go b [] q = refl
    go false (x ∷ xs) q = rw (none x.preset_choice) (go false xs refl)
    go true (x ∷ xs) q = let p = or_parts x.preset_choice _ q in rw (same x.preset_choice, p.0) (go true xs p.1)

no-counters : (allowed : ℕ) (m : MaskText) → m.counters ≡ None → HasCounters allowed m
no-counters allowed m e = rw e tt

mask-kept : (n : ℕ) (e : EventText) (m : MaskText) → IsMaskLine m → mask_cause e.masks m.name m.preset_choice ≡ None → IsEvent n e → IsEvent n (with_mask m e)
mask-kept n e m is none h =
    let one = passed_over (m.preset_choice && list_any (λ (o : MaskText). o.preset_choice) e.masks) cause.BadRow _ none in
    let few = passed_over (nat_le MOST_UMASKS (length e.masks)) cause.OverLimit _ one.1 in
    let fresh = passed_over (is_modifier m.name || list_any (λ (o : MaskText). same_name o.name m.name) e.masks) cause.RepeatedName None few.1 in
    let names = or_parts (is_modifier m.name) _ fresh.0 in
    let low = leb-false MOST_UMASKS (length e.masks) few.0 in
    record {
      named = h.named;
      byte = h.byte;
      counted = h.counted;
      within = h.within;
      few = omega (arith, low, length-append e.masks (m ∷ []));
      each = all-append IsMask e.masks (m ∷ []) h.each (record { named = is.named; no_modifier = none-each (λ w. same_name m.name w) modifier_words names.0; byte = is.byte }, tt);
      distinct = no_two-more (λ (a b : MaskText). same_name a.name b.name) e.masks m h.distinct names.1;
      one_default = no_two-more (λ (a b : MaskText). a.preset_choice && b.preset_choice) e.masks m h.one_default (no-default m e.masks one.0);
      mask_counters = all-append (HasCounters e.allowed) e.masks (m ∷ []) h.mask_counters (no-counters e.allowed m is.free, tt);
    }

inner_mask-kept : (c : ComponentText) (m : MaskText) → IsMaskLine m → inner_mask_cause c m.name m.preset_choice ≡ None
    → IsComponent c → IsComponent (with_inner_mask m c)
inner_mask-kept c m is none h = record {
  named = h.named;
  pmu_named = h.pmu_named;
  few_counters = h.few_counters;
  few_events = let l = length-on_last (with_mask m) c.events in omega (arith, h.few_events, l);
  counters = h.counters;
  counters_distinct = h.counters_distinct;
  events = all-on_last (IsEvent (length c.counters)) (with_mask m) c.events h.events (λ e l k. mask-kept (length c.counters) e m is (rw l at none) k);
  events_distinct = no_two-on_last (λ (a b : EventText). same_name a.name b.name) (with_mask m) c.events (λ x y. refl) h.events_distinct;
}

-- ---- the counters and the modifiers of a umask

-- what is kept of a umask stays
record Same (f : MaskText → MaskText) : Type 0 where
  name : (m : MaskText) → (f m).name ≡ m.name
  bits : (m : MaskText) → (f m).bits ≡ m.bits
  choice : (m : MaskText) → (f m).preset_choice ≡ m.preset_choice

mask-same : (f : MaskText → MaskText) (m : MaskText) → Same f → IsMask m → IsMask (f m)
mask-same f m s h = record {
  named = rw (s.name m) h.named;
  no_modifier = subst (λ (n : Text). AllByRecursion (λ w. same_name n w ≡ false) modifier_words) (sym (s.name m)) h.no_modifier;
  byte = rw (s.bits m) h.byte;
}

-- and its counters are some of the event's
abbrev Counted : (MaskText → MaskText) → EventText → Type 0
Counted f e = (m : MaskText) → last_of e.masks ≡ Some m → HasCounters e.allowed m → HasCounters e.allowed (f m)

changed-kept : (n : ℕ) (f : MaskText → MaskText) (e : EventText) → Same f → Counted f e → IsEvent n e → IsEvent n (on_last_mask f e)
changed-kept n f e s counted h = record {
  named = h.named;
  byte = h.byte;
  counted = h.counted;
  within = h.within;
  few = let l = length-on_last f e.masks in omega (arith, h.few, l);
  each = all-on_last IsMask f e.masks h.each (λ m l k. mask-same f m s k);
  distinct = no_two-on_last (λ (a b : MaskText). same_name a.name b.name) f e.masks (λ x y. ap (same_name x.name) (s.name y)) h.distinct;
  one_default = no_two-on_last (λ (a b : MaskText). a.preset_choice && b.preset_choice) f e.masks (λ x y. ap (λ (b : Bool). x.preset_choice && b) (s.choice y)) h.one_default;
  mask_counters = all-on_last (HasCounters e.allowed) f e.masks h.mask_counters counted;
}

last_mask-kept : (c : ComponentText) (f : MaskText → MaskText) → Same f → ((e : EventText) → last_of c.events ≡ Some e → Counted f e) → IsComponent c → IsComponent (with_last_mask f c)
last_mask-kept c f s counted h = record {
  named = h.named;
  pmu_named = h.pmu_named;
  few_counters = h.few_counters;
  few_events = let l = length-on_last (on_last_mask f) c.events in omega (arith, h.few_events, l);
  counters = h.counters;
  counters_distinct = h.counters_distinct;
  events = all-on_last (IsEvent (length c.counters)) (on_last_mask f) c.events h.events (λ e l k. changed-kept (length c.counters) f e s (counted e l) k);
  events_distinct = no_two-on_last (λ (a b : EventText). same_name a.name b.name) (on_last_mask f) c.events (λ x y. refl) h.events_distinct;
}

-- the counters of a row with no cause are some of its event's
counters-counted : (c : ComponentText) (names : List Text) → is_empty names ≡ false → inner_counters_cause c names ≡ None
    → (e : EventText) → last_of c.events ≡ Some e → Counted (restricted (bits_of c.counters names)) e
counters-counted c names some none e l m q h =
    let free = passed_over (is_some m.counters) cause.BadRow _ (rw (l, q) at none) in
    let both = and_parts (list_all (λ n. is_some (counter_place c.counters n)) names) _ (all-known (list_all (λ n. is_some (counter_place c.counters n)) names && within (bits_of c.counters names) e.allowed) free.1) in
    (some-known c.counters names some both.0, both.1)

-- ---- any row

grown-kept : (above : List ComponentText) (line : Line) (c : ComponentText) → IsLine line → cause_in above line ≡ None → last_of above ≡ Some c → IsComponent c → IsComponent (grown line c)
unfolding cause_in
grown-kept above (counter n w f) c i e l h = counter-kept c n w f i.0 i.1 (rw l at e) h
grown-kept above (event n s ns t) c i e l h = event-kept c n s ns t i (rw l at e) h
grown-kept above (umask m) c i e l h = inner_mask-kept c m i (rw l at e) h
grown-kept above (umask_counters ns) c i e l h = last_mask-kept c (restricted (bits_of c.counters ns)) (record { name = λ m. refl; bits = λ m. refl; choice = λ m. refl }) (counters-counted c ns i (rw l at e)) h
grown-kept above (umask_modifiers f) c i e l h = last_mask-kept c (fixing f) (record { name = λ m. refl; bits = λ m. refl; choice = λ m. refl }) (λ x q m p k. k) h
grown-kept above line c i e l h = h

grown-name : (line : Line) (c : ComponentText) → (grown line c).name ≡ c.name
grown-name skipped c = refl
grown-name line c = refl

grown-pmu : (line : Line) (c : ComponentText) → (grown line c).pmu ≡ c.pmu
grown-pmu skipped c = refl
grown-pmu line c = refl

inner-kept : (above : List ComponentText) (line : Line) → IsLine line → cause_in above line ≡ None → IsTables above → IsTables (on_last (grown line) above)
inner-kept above line i e h = record {
  few = let l = length-on_last (grown line) above in omega (arith, h.few, l);
  each = all-on_last IsComponent (grown line) above h.each (λ c l k. grown-kept above line c i e l k);
  names_distinct = no_two-on_last (λ (a b : ComponentText). same_name a.name b.name) (grown line) above (λ x y. ap (same_name x.name) (grown-name line y)) h.names_distinct;
  pmus_distinct = no_two-on_last (λ (a b : ComponentText). same_name a.pmu b.pmu) (grown line) above (λ x y. ap (same_name x.pmu) (grown-pmu line y)) h.pmus_distinct;
}

pub kept : (above : List ComponentText) (line : Line) → IsLine line → cause_in above line ≡ None → IsTables above → IsTables (with_line above line)
unfolding cause_in
kept above bad i e h = cc e
kept above (component n p) i e h = component-kept above n p i.0 i.1 e h
kept above line i e h = inner-kept above line i e h
