-- What is at a place of the tables.
use Rattle.tool_output.proofs.Words.{◌≡◌, ◌∙◌, ◌<◌, ◌≤◌, ◌∷◌, ℕ, zero, suc, List, [], Option, Some, None, get_or, length, map, refl, sym, ap}
use Rattle.tool_output.proofs.Words.{string_bytes, arith, length-map, slice_get-map, slice_get-get_or, option_map, option_map_or, all_at, IsComponent}
use Rattle.tool_output.proofs.Words.{IsTables, ComponentText, CounterText, Component, Counter}
use Rattle.std.specs.Prelude.{slice_get}
use Rattle.event_tables.specs.Views.{component_text, counter_text}

-- the name of a counter
pub counter_named : (counters : List Counter) (k : ℕ) (d : Counter) → k < length counters
    → option_map_or (λ (c : CounterText). c.name) (slice_get (map counter_text counters) k) [] ≡ string_bytes (get_or counters k d).name
counter_named counters k d lt =
    ap (λ (o : Option CounterText). option_map_or (λ (c : CounterText). c.name) o []) (slice_get-map counter_text counters k ∙ ap (option_map counter_text) (slice_get-get_or counters k d lt))

absent : {X : Type 0} (xs : List X) (i : ℕ) → None ≡ slice_get xs i → i < length xs → ⊥
absent [] i e lt = omega arith
absent (x ∷ xs) zero e lt = cc e
absent (x ∷ xs) (suc i) e lt = absent xs i e (omega arith)

-- there is something at each place of a list
pub is_there : {X Y : Type 0} (f : X → Y) (o : Option X) (xs : List Y) (i : ℕ) → option_map f o ≡ slice_get xs i → ((x : X) → o ≡ Some x → ⊥) → i < length xs → ⊥
is_there f None xs i e other lt = absent xs i e lt
is_there f (Some x) xs i e other lt = other x refl

-- the limits of a component
pub few_counters : (tables : List ComponentText) (i : ℕ) (c : Component) → IsTables tables → Some (component_text c) ≡ slice_get tables i → length c.counters.items ≤ 32
few_counters tables i c h e =
    let kept = all_at IsComponent tables i (component_text c) h.each (sym e) in
    omega (arith, kept.few_counters, length-map c.counters.items counter_text)

pub few_events : (tables : List ComponentText) (i : ℕ) (c : Component) → IsTables tables → Some (component_text c) ≡ slice_get tables i → length (component_text c).events ≤ 1024
few_events tables i c h e = (all_at IsComponent tables i (component_text c) h.each (sym e)).few_events
