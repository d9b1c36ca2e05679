-- An event that was found is found again by its component's pmu and its name.
use Rattle.name_encoder.proofs.Words.{◌≡◌, ◌∙◌, ◌+◌, ◌&&◌, ◌∷◌, ℕ, suc, true, false, List, [], Option, Some, None, slice_get, length, refl, sym, ap}
use Rattle.name_encoder.proofs.Words.{subst, arith, AllByRecursion, option_or, str_eq_ignore_ascii_case, str_to_ascii_lowercase, cond_both}
use Rattle.name_encoder.proofs.Words.{bytes_eq-Decides, given, IsComponent, IsEvent, NoTwo, ComponentText, EventText, Text, Split, Found, agrees}
use Rattle.name_encoder.proofs.Words.{choice, event_from, found_from}

pub same-self : (t : Text) → str_eq_ignore_ascii_case t t ≡ true
same-self t = (bytes_eq-Decides (str_to_ascii_lowercase t) (str_to_ascii_lowercase t)).1 refl

abbrev found_at : ℕ → ComponentText → ℕ → EventText → Found
found_at comp c row e = record { comp = comp; row = row; component = c; event = e }

-- ---- the event in its component

pub record EventFound (comp : ℕ) (c : ComponentText) (row : ℕ) (es : List EventText) (f : Found) : Type 0 where
  pub comp_is : f.comp ≡ comp
  pub component_is : f.component ≡ c
  pub place : ℕ
  pub row_is : f.row ≡ row + place
  pub event_at : slice_get es place ≡ Some f.event

event-found : (comp : ℕ) (c : ComponentText) (name : Text) (row : ℕ) (es : List EventText) (f : Found) → event_from comp c name row es ≡ Some f → EventFound comp c row es f
unfolding event_from
event-found comp c name row [] f e = cc e
event-found comp c name row (x ∷ es) f e =
    given (EventFound comp c row (x ∷ es)) (str_eq_ignore_ascii_case x.name name) (found_at comp c row x) (event_from comp c name (row + 1) es) e
    (λ b. record { comp_is = refl; component_is = refl; place = 0; row_is = omega arith; event_at = refl })
    (λ q.
    let m = event-found comp c name (row + 1) es f q in
    record { comp_is = m.comp_is; component_is = m.component_is; place = suc m.place; row_is = m.row_is ∙ omega arith; event_at = m.event_at })

event-all : (P : EventText → Type 0) (comp : ℕ) (c : ComponentText) (name : Text) (row : ℕ) (es : List EventText) (f : Found) → event_from comp c name row es ≡ Some f → AllByRecursion P es → P f.event
unfolding event_from
event-all P comp c name row [] f e h = cc e
event-all P comp c name row (x ∷ es) f e h =
    given (λ (g : Found). P g.event) (str_eq_ignore_ascii_case x.name name) (found_at comp c row x) (event_from comp c name (row + 1) es) e (λ b. h.0)
    (λ q. event-all P comp c name (row + 1) es f q h.1)

event-again : (comp : ℕ) (c : ComponentText) (name : Text) (row : ℕ) (es : List EventText) (f : Found) → event_from comp c name row es ≡ Some f
    → NoTwo (λ (a b : EventText). str_eq_ignore_ascii_case a.name b.name) es → event_from comp c f.event.name row es ≡ Some f
unfolding event_from
event-again comp c name row [] f e h = cc e
event-again comp c name row (x ∷ es) f e h =
    given (λ (g : Found). event_from comp c g.event.name row (x ∷ es) ≡ Some g) (str_eq_ignore_ascii_case x.name name) (found_at comp c row x) (event_from comp c name (row + 1) es) e
    (λ b. rw (same-self x.name) refl)
    (λ q. rw (event-all (λ y. str_eq_ignore_ascii_case x.name y.name ≡ false) comp c name (row + 1) es f q h.0) (event-again comp c name (row + 1) es f q h.1))

-- ---- the component

choice-event : (s : Split) (comp : ℕ) (c : ComponentText) (f : Found) → choice s comp c ≡ Some f → event_from comp c s.event 0 c.events ≡ Some f
choice-event s comp c f e =
    cond_both (agrees s.comp c.name && agrees s.pmu c.pmu) (event_from comp c s.event 0 c.events) None (λ (o : Option Found). o ≡ Some f → event_from comp c s.event 0 c.events ≡ Some f)
    (λ b q. q) (λ b q. cc q) e

-- it is found here or later
found-or : {R : Type 0} (o later : Option Found) (f : Found) → option_or o later ≡ Some f → (o ≡ Some f → R) → (later ≡ Some f → R) → R
found-or (Some g) later f e here more = here e
found-or None later f e here more = more e

pub record ComponentFound (comp : ℕ) (tables : List ComponentText) (f : Found) : Type 0 where
  pub place : ℕ
  pub comp_is : f.comp ≡ comp + place
  pub component_at : slice_get tables place ≡ Some f.component
  pub event_at : slice_get f.component.events f.row ≡ Some f.event

pub component-found : (s : Split) (comp : ℕ) (tables : List ComponentText) (f : Found) → found_from s comp tables ≡ Some f → ComponentFound comp tables f
unfolding found_from
component-found s comp [] f e = cc e
component-found s comp (c ∷ tables) f e =
    found-or (choice s comp c) (found_from s (comp + 1) tables) f e
    (λ is.
    let found = event-found comp c s.event 0 c.events f (choice-event s comp c f is) in
    record {
      place = 0;
      comp_is = found.comp_is ∙ omega arith;
      component_at = ap (λ (x : ComponentText). Some x) (sym found.component_is);
      event_at = rw (found.component_is, found.row_is) (subst (λ (n : ℕ). slice_get c.events n ≡ Some f.event) (omega arith) found.event_at);
    })
    (λ q.
    let m = component-found s (comp + 1) tables f q in
    record { place = suc m.place; comp_is = m.comp_is ∙ omega arith; component_at = m.component_at; event_at = m.event_at })

component-all : (P : ComponentText → Type 0) (s : Split) (comp : ℕ) (tables : List ComponentText) (f : Found) → found_from s comp tables ≡ Some f → AllByRecursion P tables → P f.component
unfolding found_from
component-all P s comp [] f e h = cc e
component-all P s comp (c ∷ tables) f e h =
    found-or (choice s comp c) (found_from s (comp + 1) tables) f e
    (λ is. let found = event-found comp c s.event 0 c.events f (choice-event s comp c f is) in subst P (sym found.component_is) h.0)
    (λ q. component-all P s (comp + 1) tables f q h.1)

-- what holds of each event of each component
pub found-kept : (s : Split) (comp : ℕ) (tables : List ComponentText) (f : Found) → found_from s comp tables ≡ Some f → AllByRecursion IsComponent tables
    → IsComponent f.component × IsEvent (length f.component.counters) f.event
unfolding found_from
found-kept s comp [] f e h = cc e
found-kept s comp (c ∷ tables) f e h =
    found-or (choice s comp c) (found_from s (comp + 1) tables) f e
    (λ is.
    let from = choice-event s comp c f is in
    let found = event-found comp c s.event 0 c.events f from in (
      subst IsComponent (sym found.component_is) h.0,
      subst (λ (k : ComponentText). IsEvent (length k.counters) f.event) (sym found.component_is) (event-all (IsEvent (length c.counters)) comp c s.event 0 c.events f from h.0.events),
    ))
    (λ q. found-kept s (comp + 1) tables f q h.1)

abbrev pub own_split : Found → List Text → Split
own_split f ws = record { comp = None; pmu = Some f.component.pmu; event = f.event.name; attributes = ws }

pub found-again : (s : Split) (ws : List Text) (comp : ℕ) (tables : List ComponentText) (f : Found) → found_from s comp tables ≡ Some f → AllByRecursion IsComponent tables
    → NoTwo (λ (a b : ComponentText). str_eq_ignore_ascii_case a.pmu b.pmu) tables → found_from (own_split f ws) comp tables ≡ Some f
unfolding found_from
found-again s ws comp [] f e h d = cc e
found-again s ws comp (c ∷ tables) f e h d =
    found-or (choice s comp c) (found_from s (comp + 1) tables) f e
    (λ is.
    let from = choice-event s comp c f is in
    let found = event-found comp c s.event 0 c.events f from in
    let pmu : str_eq_ignore_ascii_case c.pmu f.component.pmu ≡ true = rw found.component_is (same-self c.pmu) in
    rw (pmu, event-again comp c s.event 0 c.events f from h.0.events_distinct) refl)
    (λ q. rw (component-all (λ y. str_eq_ignore_ascii_case c.pmu y.pmu ≡ false) s (comp + 1) tables f q d.0) (found-again s ws (comp + 1) tables f q h.1 d.1))
