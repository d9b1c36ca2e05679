-- What a text names, by its found event, and that it fits the tables' shape.
use Rattle.name_encoder.proofs.Words.{◌≡◌, ◌∙◌, ◌<◌, ◌≤◌, ◌^◌, ◌||◌, ℕ, Bool, List, [], Option, Some, None, Ok, Err, length, slice_get, refl, sym, ap}
use Rattle.name_encoder.proofs.Words.{subst, arith, nat_lt, length-map, and_le_l, slice_get-map, slice_get_within, cond_both, bit_and, Text, IsTables}
use Rattle.name_encoder.proofs.Words.{ComponentText, CounterText, shape_of, widths_of, Mods, Native, NameFault, Split, split, FitsShape, Found}
use Rattle.name_encoder.proofs.Words.{allowed_with, chosen, event_allowed, event_fixed, fault_from, found_from, mods_of, named_event, named_found}
use Rattle.name_encoder.proofs.Words.{named_from, names, native_of, native_or, native_unless, programmable, saids_of, SaidAttribute, umasks_fault}
use Rattle.name_encoder.proofs.Words.{wanted_of, with_fixed, Attributes, all_given, native_next, nothing}
use Rattle.std.specs.Prelude.{IfOk, Result, option_map}
use Rattle.name_encoder.specs.declared.fault.NameFault.TheVariants as name_fault
use Rattle.name_encoder.proofs.Fixing.{common-less}
use Rattle.name_encoder.proofs.Judging.{named-given}
use Rattle.name_encoder.proofs.Finds.{component-found, found-kept}

pub ok-of : {X E : Type 0} (r : Result X E) (P : X → Type 0) → ((x : X) → r ≡ Ok x → P x) → IfOk r P
ok-of (Ok x) P h = h x refl
ok-of (Err e) P h = tt

pub names-none : (tables : List ComponentText) (text : Text) (s : Split) → s ≡ split text → found_from s 0 tables ≡ None → names tables text ≡ Err name_fault.NotFound
unfolding names
names-none tables text s is e = rw (← is, e) refl

names-found : (tables : List ComponentText) (text : Text) (s : Split) (f : Found) → s ≡ split text → found_from s 0 tables ≡ Some f
    → names tables text ≡ named_event f (saids_of f.event.masks s.attributes)
unfolding names
names-found tables text s f is e = rw (← is, e) refl

-- the code's steps, one after another
pub encoded : (tables : List ComponentText) (text : Text) (s : Split) (f : Found) (r : Result Attributes NameFault) → s ≡ split text → found_from s 0 tables ≡ Some f → length f.event.masks ≤ 16
    → r ≡ all_given f.event.masks nothing (saids_of f.event.masks s.attributes) → native_next f r ≡ names tables text
encoded tables text s f r is found le e = ap (native_next f) e ∙ named-given f s.attributes le ∙ sym (names-found tables text s f is found)

allowed-less : (mods : Mods) (counters : List CounterText) (allowed : ℕ) → allowed_with mods counters allowed ≤ allowed
allowed-less mods counters allowed =
    cond_both (mods.edge || (mods.invert || nat_lt 0 mods.cmask)) (bit_and allowed (programmable counters)) allowed (λ k. k ≤ allowed) (λ b. and_le_l allowed (programmable counters)) (λ b. omega arith)

-- a native is allowed counters of its event
pub native-allowed : (f : Found) (flags : List Bool) (mods : Mods) → (native_of f flags mods).allowed ≤ f.event.allowed
native-allowed f flags mods =
    let less = allowed-less (with_fixed (event_fixed f.event flags) mods) f.component.counters (event_allowed f.event flags) in
    let common = common-less f.event.allowed flags f.event.masks in
    omega (arith, less, common)

event-fits : (tables : List ComponentText) (s : Split) (f : Found) (flags : List Bool) (mods : Mods) → IsTables tables → found_from s 0 tables ≡ Some f
    → FitsShape (shape_of tables) (native_of f flags mods)
event-fits tables s f flags mods t found =
    let kept = found-kept s 0 tables f found t.each in
    let places = component-found s 0 tables f found in
    let at : slice_get tables f.comp ≡ Some f.component = subst (λ (n : ℕ). slice_get tables n ≡ Some f.component) (sym (places.comp_is ∙ omega arith)) places.component_at in
    let inside = slice_get_within tables f.comp f.component at in
    let widths : slice_get (shape_of tables) f.comp ≡ Some (widths_of f.component) = slice_get-map widths_of tables f.comp ∙ ap (λ (o : Option ComponentText). option_map widths_of o) at in
    let within : (native_of f flags mods).allowed < 2 ^ length f.component.counters = omega (arith, native-allowed f flags mods, kept.1.within) in
    let long : length (widths_of f.component) ≡ length f.component.counters = length-map f.component.counters _ in
    record {
      has_component = omega (arith, inside, length-map tables widths_of);
      has_counters = rw (widths, long) within;
    }

-- what a text names fits the shape
pub names-fit : (tables : List ComponentText) (text : Text) (n : Native) → IsTables tables → names tables text ≡ Ok n → FitsShape (shape_of tables) n
unfolding names
names-fit tables text n t e = go (found_from (split text) 0 tables) refl e
  where
    go : (o : Option Found) → found_from (split text) 0 tables ≡ o → named_found (split text) o ≡ Ok n → FitsShape (shape_of tables) n
    go None found q = cc q
    go (Some f) found q = judge (fault_from f.event.masks [] said) (chosen f.event.masks (named_from said 0 f.event.masks)) q
      where
        said : List SaidAttribute
        said = saids_of f.event.masks (split text).attributes

        judge : (a : Option NameFault) (b : Option (List Bool)) → native_or f (wanted_of said) (mods_of said) a b ≡ Ok n → FitsShape (shape_of tables) n
        judge (Some x) b h = cc h
        judge None None h = cc h
        judge None (Some flags) h = together (umasks_fault f (wanted_of said) flags) h
          where
            together : (o : Option NameFault) → native_unless f (mods_of said) flags o ≡ Ok n → FitsShape (shape_of tables) n
            together (Some x) q = cc q
            together None q =
                let is : native_of f flags (mods_of said) ≡ n = cc q in
                subst (FitsShape (shape_of tables)) is (event-fits tables (split text) f flags (mods_of said) t found)
