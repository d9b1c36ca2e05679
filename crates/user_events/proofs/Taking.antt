-- The presets and user events of some rows and of one row more, and what is kept.
use Rattle.user_events.proofs.Words.{◌≡◌, ◌∙◌, ◌+◌, ◌<◌, ◌≤◌, ◌∷◌, ◌++◌, ℕ, List, [], Some, None, true, false, Bool, not, length, ◌&&◌, if◌then◌else◌}
use Rattle.user_events.proofs.Words.{codes, AllByRecursion, bytes_eq, str_eq_ignore_ascii_case, cond_both, length-map, IsReadRow, TakesRow, Text}
use Rattle.user_events.proofs.Words.{text_at, RowRefusal, takes-as, Derivation, Line, cpu, derivation_of, event, gives, cause_if, has_cpu, holds}
use Rattle.user_events.proofs.Words.{presets, read_from, group_at, IsEntry, IsTable, is_field, Entry, PresetCause, Group, Keeps, judged-kept}
use Rattle.user_events.proofs.Words.{event_judged, infix_entry, Distinct, EventView, IsEvent, IsExtended, IsPresent, names_of, line_of, lines_of}
use Rattle.user_events.proofs.Words.{is_event_name, GivePresetsAndEvents, IsKept, among, event_read, events_of, events_read, extended_in, is_too_many}
use Rattle.user_events.proofs.Words.{line_cause, named_entry, names_in, IsMore, Taking, cause_more, events_more, events_with, put_event, put_judged}
use Rattle.user_events.proofs.Words.{MOST_USER_EVENTS, PRESETS}
use Rattle.std.proofs.Common.{replicate, refl, sym, ap, subst, arith, tests, Option, Result, nat_le}
use Rattle.preset_csv.specs.Lines as Presets
use Rattle.preset_csv.specs.declared.entry.Entry.TheVariants as entry
use Rattle.preset_csv.specs.declared.fault.PresetCause.TheVariants as cause
use Rattle.preset_csv.proofs.TableKept.{IsKept as IsRowKept, IsLine, derivation-kept, line-kept, lines-plain, none-read, presets-kept}
use Rattle.preset_csv.proofs.RowsTaken as PresetRows
use Rattle.user_events.proofs.Giving.{Gives, event-gives}
use Rattle.user_events.proofs.InfixKept.{infix-kept}
use Rattle.user_events.proofs.MoreRows.{events-more, events_more_cause, named-ok, names-are, names-distinct, no-cause}

-- ---- a row by itself

pub event-line-kept : (fields : List Text) → IsReadRow fields → IsLine (line_of fields)
unfolding line_of
event-line-kept fields h =
    cond_both (str_eq_ignore_ascii_case (text_at fields 0) (codes "EVENT")) (gives event (derivation_of fields)) (Presets.line_of fields) IsLine (λ b. derivation-kept fields h) (λ b. line-kept fields h)

-- ---- what is kept

all-put : (xs : List EventView) (name : Text) (e : Entry) → AllByRecursion IsEvent xs → is_event_name name ≡ true → IsEntry e × IsPresent e → AllByRecursion IsEvent (put_event xs name e)
all-put [] name e h n k = ((n, k.0, k.1), tt)
all-put (x ∷ xs) name e h n k =
    cond_both (bytes_eq name x.name) (record { name = x.name; entry = e } ∷ xs) (x ∷ put_event xs name e) (AllByRecursion IsEvent)
    (λ b. ((h.0.0, k.0, k.1), h.1)) (λ b. (h.0, all-put xs name e h.1 n k))

put-known : (xs : List EventView) (name : Text) (e : Entry) → among name (names_of xs) ≡ true → length (put_event xs name e) ≡ length xs
put-known [] name e h = cc h
put-known (x ∷ xs) name e h =
    cond_both (bytes_eq name x.name) (record { name = x.name; entry = e } ∷ xs) (x ∷ put_event xs name e) (λ (ys : List EventView). length ys ≡ length (x ∷ xs))
    (λ b. omega arith) (λ b. let r = put-known xs name e (rw b at h) in omega (arith, r))

put-longer : (xs : List EventView) (name : Text) (e : Entry) → length (put_event xs name e) ≤ length xs + 1
put-longer [] name e = omega arith
put-longer (x ∷ xs) name e =
    cond_both (bytes_eq name x.name) (record { name = x.name; entry = e } ∷ xs) (x ∷ put_event xs name e) (λ (ys : List EventView). length ys ≤ length (x ∷ xs) + 1)
    (λ b. omega arith) (λ b. let r = put-longer xs name e in omega (arith, r))

put-few : (xs : List EventView) (name : Text) (e : Entry) → length xs ≤ MOST_USER_EVENTS → is_too_many (names_of xs) name ≡ false → length (put_event xs name e) ≤ MOST_USER_EVENTS
put-few xs name e le m = go (among name (names_of xs)) (nat_le MOST_USER_EVENTS (length (names_of xs))) refl refl m
  where
    go : (b c : Bool) → among name (names_of xs) ≡ b → nat_le MOST_USER_EVENTS (length (names_of xs)) ≡ c → (not b && c) ≡ false → length (put_event xs name e) ≤ MOST_USER_EVENTS
    go true c p q h = omega (arith, put-known xs name e p)
    go false true p q h = cc h
    go false false p q h =
        let lt : length (names_of xs) < MOST_USER_EVENTS = grind (arith, tests, q) in
        omega (arith, lt, put-longer xs name e, length-map xs (λ (x : EventView). x.name))

event-put : (b : Bool) (xs : List EventView) (r : Derivation) → IsRowKept r → IsKept xs → cause_if b (named_entry (names_of xs) r) ≡ None → IsKept (events_with b xs r)
event-put false xs r k h e = h
event-put true xs r k h e =
    let x = no-cause (named_entry (names_of xs) r) e in
    let n = named-ok (names_of xs) r x.0 x.1 in
    let kept : IsEntry x.0 × IsPresent x.0 = (subst Keeps n.entry (judged-kept infix_entry infix-kept r k), subst Gives n.entry (event-gives r)) in
    subst IsKept (sym (ap (put_judged xs r.symbol) x.1)) (record { few = put-few xs r.symbol x.0 h.few n.few; each = all-put xs r.symbol x.0 h.each n.form kept })

begun-cause : (b : Bool) (o : Option PresetCause) → (if not b then Some cause.NoCpu else o) ≡ None → o ≡ None
begun-cause true o e = e
begun-cause false o e = cc e

kept-more : (g : Group) (xs : List EventView) (line : Line) → IsLine line → cause_more g xs line ≡ None → IsKept xs → IsKept (events_more g xs line)
kept-more g xs (gives event r) l e k = event-put g.holds xs r l k (begun-cause g.begun _ e)
kept-more g xs line l e k = k

-- ---- the rows of a file

cause-same : (name : Text) (above : List Line) (line : Line) → line_cause name above line ≡ cause_more (group_at name above) (events_of (events_read name above)) line
cause-same name above (gives event r) =
    ap (λ (ns : List Text). if not (has_cpu above) then Some cause.NoCpu else cause_if (holds name above) (named_entry ns r)) (sym (names-are (events_read name above)))
cause-same name above line = refl

read-cause : (name : Text) (above : List Line) (line : Line) → line_cause name above line ≡ None → events_more_cause name above line
read-cause name above (gives event r) e = begun-cause (has_cpu above) (cause_if (holds name above) (named_entry (names_in (events_read name above)) r)) e
read-cause name above line e = tt

pub none-taken : (name : Text) (s : Taking) → s.group ≡ record { begun = false; closed = false; holds = false } → s.entries ≡ replicate PRESETS entry.Missing → s.events ≡ [] → GivePresetsAndEvents name [] s
unfolding read_from names_in
none-taken name s g es none = record {
  presets = PresetRows.none-taken event_judged name s.group s.entries g es;
  events = none;
  kept = subst IsKept (sym none) (record { few = omega arith; each = tt });
}

more-taken : (name : Text) (above : List Line) (line : Line) (old new : Taking) → IsLine line → GivePresetsAndEvents name above old → cause_more old.group old.events line ≡ None → IsMore name line old new
    → GivePresetsAndEvents name (above ++ line ∷ []) new
more-taken name above line old new l t none m =
    let here : line_cause name above line ≡ None = cause-same name above line ∙ rw (← t.presets.group, ← t.events) none in
    record {
      presets = PresetRows.more-taken event_judged name above line old.group new.group old.entries new.entries t.presets m.0;
      events = m.1 ∙ ap (λ (g : Group). events_more g old.events line) t.presets.group ∙ ap (λ (es : List EventView). events_more (group_at name above) es line) t.events
          ∙ sym (events-more name above line (read-cause name above line here));
      kept = subst IsKept (sym m.1) (kept-more old.group old.events line l none t.kept);
    }

pub row-taken : (name : Text) (above : List Line) (line : Line) (old new : Taking) (result : Result Unit (RowRefusal PresetCause)) → IsLine line → GivePresetsAndEvents name above old
    → TakesRow (cause_more old.group old.events line) (IsMore name line old new) result → TakesRow (line_cause name above line) (GivePresetsAndEvents name (above ++ line ∷ []) new) result
row-taken name above line old new result l t takes =
    takes-as (cause_more old.group old.events line) (line_cause name above line) (IsMore name line old new) (GivePresetsAndEvents name (above ++ line ∷ []) new) result
    (ap (λ (g : Group). cause_more g old.events line) t.presets.group ∙ ap (λ (es : List EventView). cause_more (group_at name above) es line) t.events ∙ sym (cause-same name above line))
    (λ none m. more-taken name above line old new l t none m) takes

-- ---- the table

-- an EVENT row is read only if the group above it holds the cpu
pub no-events : (name : Text) (lines : List Line) → is_field name ≡ false → AllByRecursion IsLine lines → events_of (events_read name lines) ≡ []
unfolding names_in
no-events name lines e h = ap events_of (none-read (event_read name) name unheld [] lines e tt h)
  where
    unheld : (above : List Line) (line : Line) → holds name above ≡ false → event_read name above line ≡ []
    unheld above (gives event r) h = rw h refl
    unheld above line h = refl

pub extended-kept : (name : Text) (bytes : List ℕ) (s : Taking) → GivePresetsAndEvents name (lines_of bytes) s → IsExtended (record { presets = record { cpu = name; rows = s.entries }; events = s.events })
extended-kept name bytes s t =
    let rows = events_read name (lines_of bytes) in
    let lines = lines-plain line_of event-line-kept bytes in record {
      table = subst (λ (es : List Entry). IsTable (record { cpu = name; rows = es })) (sym t.presets.entries_are) (presets-kept event_judged (judged-kept infix_entry infix-kept) name (lines_of bytes) lines);
      few = t.kept.few;
      each = t.kept.each;
      distinct = subst Distinct (sym (ap names_of t.events ∙ names-are rows)) (names-distinct rows);
      named = λ f. t.events ∙ no-events name (lines_of bytes) f lines;
    }

pub extended-is : (name : Text) (bytes : List ℕ) (s : Taking) → GivePresetsAndEvents name (lines_of bytes) s → record { presets = record { cpu = name; rows = s.entries }; events = s.events } ≡ extended_in name bytes
unfolding extended_in
extended-is name bytes s t =
    ap (λ (es : List Entry). record { presets = record { cpu = name; rows = es }; events = s.events }) t.presets.entries_are
    ∙ ap (λ (xs : List EventView). record { presets = record { cpu = name; rows = presets event_judged name (lines_of bytes) }; events = xs }) t.events
