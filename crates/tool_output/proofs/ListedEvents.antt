-- The listed events of components, one more at a time.
use Rattle.tool_output.proofs.Words.{◌≡◌, ◌∙◌, ◌+◌, ◌*◌, ◌<◌, ◌≤◌, ◌∷◌, ◌++◌, ℕ, Bool, true, false, List, [], Option, Some, filter, get_or, length}
use Rattle.tool_output.proofs.Words.{map, sym, ap, take, arith, length-append, take_more, count_by-le-length, length-filter, get_or_from_slice_get}
use Rattle.tool_output.proofs.Words.{slice_get_within, flat_map, IsTables, ComponentText, EventText, component_text, event_text, Component, EventRow}
use Rattle.tool_output.proofs.Words.{Text, component_lines, event_lines, full_name, is_chosen, listed_count, listed_events}
use Rattle.std.specs.Prelude.{slice_get}
use Rattle.tool_output.proofs.Listed.{counted, kept, passed, pushed, taken_more, unmoved}
use Rattle.tool_output.proofs.Tables.{few_events}

-- ---- the events of a component

abbrev pub listed_of : Text → Option Text → Option Text → List EventRow → List EventText
listed_of pmu included excluded events = filter (λ event. is_chosen included excluded (full_name pmu event)) (map event_text events)

-- what a loop over the events keeps: their lines are pushed and counted as far as it has come
pub record AreListed (pmu : Text) (included excluded : Option Text) (umasks : Bool) (events : List EventRow) (i : ℕ) (start line : Text) (count : ℕ) : Type 0 where
  pub text : line ≡ start ++ flat_map (event_lines umasks pmu) (listed_of pmu included excluded (take i events))
  pub counted : count ≡ length (listed_of pmu included excluded (take i events))
  pub within : count ≤ i

pub one_listed : (pmu : Text) (included excluded : Option Text) (umasks : Bool) (events : List EventRow) (i : ℕ) (x : EventRow) (start line after : Text)
    (count : ℕ) → i < length events → x ≡ get_or events i x
    → is_chosen included excluded (full_name pmu (event_text x)) ≡ true → after ≡ line ++ event_lines umasks pmu (event_text x)
    → AreListed pmu included excluded umasks events i start line count → AreListed pmu included excluded umasks events (i + 1) start after (count + 1)
one_listed pmu included excluded umasks events i x start line after count lt at chosen more h =
    let p : EventText → Bool = λ event. is_chosen included excluded (full_name pmu event) in
    let e = kept p (map event_text (take i events)) (map event_text (take (i + 1) events)) (event_text x) (taken_more event_text events i x lt at) chosen in
    record {
      text = pushed (event_lines umasks pmu) _ _ (event_text x) start line after e h.text more;
      counted = omega (arith, h.counted, ap length e, length-append (listed_of pmu included excluded (take i events)) (event_text x ∷ []));
      within = omega (arith, h.within);
    }

pub none_listed : (pmu : Text) (included excluded : Option Text) (umasks : Bool) (events : List EventRow) (i : ℕ) (x : EventRow) (start line : Text)
    (count : ℕ) → i < length events → x ≡ get_or events i x
    → is_chosen included excluded (full_name pmu (event_text x)) ≡ false
    → AreListed pmu included excluded umasks events i start line count → AreListed pmu included excluded umasks events (i + 1) start line count
none_listed pmu included excluded umasks events i x start line count lt at other h =
    let p : EventText → Bool = λ event. is_chosen included excluded (full_name pmu event) in
    let e = passed p (map event_text (take i events)) (map event_text (take (i + 1) events)) (event_text x) (taken_more event_text events i x lt at) other in
    record {
      text = unmoved (event_lines umasks pmu) _ _ start line e h.text;
      counted = omega (arith, h.counted, ap length e);
      within = omega (arith, h.within);
    }

-- ---- the components of a unit

-- what a loop over the components keeps
pub record AreAllListed (included excluded : Option Text) (umasks : Bool) (tables : List ComponentText) (i : ℕ) (start text : Text) (total : ℕ) : Type 0 where
  pub text_is : text ≡ start ++ flat_map (component_lines included excluded umasks) (take i tables)
  pub counted_all : total ≡ listed_count included excluded (take i tables)
  pub few : total ≤ 1024 * i

pub few_listed : (included excluded : Option Text) (tables : List ComponentText) (i : ℕ) (c : Component) → IsTables tables → Some (component_text c) ≡ slice_get tables i
    → length (listed_events included excluded (component_text c)) ≤ 1024
few_listed included excluded tables i c h at =
    let p : EventText → Bool = λ event. is_chosen included excluded (full_name (component_text c).pmu event) in
    omega (arith, few_events tables i c h at, length-filter p (component_text c).events, count_by-le-length p (component_text c).events)

pub one_component : (included excluded : Option Text) (umasks : Bool) (tables : List ComponentText) (i : ℕ) (c : Component) (start line after : Text) (total count : ℕ) → IsTables tables
    → Some (component_text c) ≡ slice_get tables i → count ≡ length (listed_events included excluded (component_text c)) → after ≡ line ++ component_lines included excluded umasks (component_text c)
    → AreAllListed included excluded umasks tables i start line total → AreAllListed included excluded umasks tables (i + 1) start after (total + count)
one_component included excluded umasks tables i c start line after total count kept_tables at is more h =
    let x = component_text c in
    let taken : take (i + 1) tables ≡ take i tables ++ x ∷ [] =
    take_more tables i x (slice_get_within tables i x (sym at)) ∙ ap (λ y. take i tables ++ y ∷ []) (get_or_from_slice_get tables i x x (sym at)) in
    record {
      text_is = pushed (component_lines included excluded umasks) (take i tables) (take (i + 1) tables) x start line after taken h.text_is more;
      counted_all = omega (arith, h.counted_all, is, counted (λ component. length (listed_events included excluded component)) (take i tables) (take (i + 1) tables) x taken);
      few = omega (arith, h.few, is, few_listed included excluded tables i c kept_tables at);
    }
