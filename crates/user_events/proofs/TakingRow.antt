-- What one row gives is taken, or the row refused.
use Rattle.user_events.proofs.Words.{◌≡◌, ◌∙◌, ◌∷◌, ℕ, Bool, true, false, not, List, [], Option, Some, None, map, length, refl, sym, ap, subst, arith}
use Rattle.user_events.proofs.Words.{tests, list_all, and_from, and_parts, length-map, RefusesRow, Text, is_printable, is_printable_byte, text_at}
use Rattle.user_events.proofs.Words.{derivation_of, Judges, Entry, PresetCause, RowRefusal, symbol-there, event_judged, EventView, event_view}
use Rattle.user_events.proofs.Words.{names_of, is_event_byte, is_event_name, is_too_many, limited, named_entry, cause_if, IsOverLimit, event_cause}
use Rattle.user_events.proofs.Words.{events_with, put_event, put_judged, MOST_USER_EVENTS, UserEvent}
use Rattle.std.specs.Prelude.{◌&&◌, is_some, position, Ok, Err, Result, nat_le}
use Rattle.preset_csv.specs.declared.fault.PresetCause.TheVariants as cause
use Rattle.table_rows.specs.declared.fault.RowRefusal.TheVariants as refusal
use Rattle.user_events.proofs.Putting.{is-among, is_named, not-among}

-- ---- the name of an EVENT row

event-printable : (b : ℕ) → is_event_byte b ≡ true → is_printable_byte b ≡ true
event-printable b h = grind (arith, tests, h)

all-printable : (t : Text) → list_all is_event_byte t ≡ true → is_printable t ≡ true
all-printable [] h = refl
all-printable (b ∷ t) h = let p = and_parts (is_event_byte b) (list_all is_event_byte t) h in and_from (is_printable_byte b) (is_printable t) (event-printable b p.0) (all-printable t p.1)

pub name-printable : (t : Text) → is_event_name t ≡ true → is_printable t ≡ true
unfolding is_event_name
name-printable t h =
    let a = and_parts (nat_le 1 (length t)) _ h in
    let b = and_parts (nat_le (length t) 32) _ a.1 in
    let c = and_parts (list_all is_event_byte t) _ b.1 in
    all-printable t c.0

pub too-many : (events : List UserEvent) (name : Text) (o : Option ℕ) (b : Bool) → o ≡ position (is_named name) (map event_view events) → is_some o ≡ not b
    → (b && nat_le MOST_USER_EVENTS (length events)) ≡ is_too_many (names_of (map event_view events)) name
too-many events name None true e h = rw (not-among (map event_view events) name (sym e), length-map (map event_view events) (λ (x : EventView). x.name), length-map events event_view) refl
too-many events name None false e h = cc h
too-many events name (Some p) true e h = cc h
too-many events name (Some p) false e h = rw (is-among (map event_view events) name p (sym e)) refl

abbrev row_name : List Text → Text
row_name fields = (derivation_of fields).symbol

pub bad-name : (fields : List Text) (holds : Bool) (names : List Text) → holds ≡ true → is_event_name (text_at fields 1) ≡ false
    → cause_if holds (named_entry names (derivation_of fields)) ≡ Some cause.BadField
bad-name fields true names h e = let s : is_event_name (row_name fields) ≡ false = ap is_event_name (symbol-there fields) ∙ e in rw s refl
bad-name fields false names h e = cc h

-- what the row is judged as
judged-by : (fields : List Text) (names : List Text) (b : Bool) → is_event_name (text_at fields 1) ≡ true → is_too_many names (text_at fields 1) ≡ b
    → named_entry names (derivation_of fields) ≡ limited b (event_judged (derivation_of fields))
judged-by fields names b e m =
    let s : is_event_name (row_name fields) ≡ true = ap is_event_name (symbol-there fields) ∙ e in
    let t : is_too_many names (row_name fields) ≡ b = ap (is_too_many names) (symbol-there fields) ∙ m in
    rw (s, t) refl

-- the refusal of one name too many
abbrev Refuses : Result Entry PresetCause → RowRefusal PresetCause → Type 0
Refuses j (refusal.Cause why) = j ≡ Err why
Refuses j refusal.Memory = Unit {0}

over : (j : Result Entry PresetCause) (judged : Result Entry (RowRefusal PresetCause)) (refused : RowRefusal PresetCause) → Judges j judged → IsOverLimit judged refused → Refuses (limited true j) refused
over j (Err refusal.Memory) refused h o = subst (Refuses (limited true j)) (sym o) tt
over j (Err (refusal.Cause cause.NoCpu)) refused h o = subst (Refuses (limited true j)) (sym o) (ap (limited true) h)
over j judged refused h o = subst (Refuses (limited true j)) (sym o) (ap (limited true) h)

refuses : (holds : Bool) (j : Result Entry PresetCause) (refused : RowRefusal PresetCause) (fields : List Text) (old : List EventView) → holds ≡ true
    → named_entry (names_of old) (derivation_of fields) ≡ j → Refuses j refused
    → RefusesRow (event_cause holds old (derivation_of fields)) refused
refuses true j (refusal.Cause why) fields old h is r = rw (is, r) refl
refuses true j refusal.Memory fields old h is r = tt
refuses false j refused fields old h is r = cc h

pub over-taken : (fields : List Text) (holds : Bool) (old : List EventView) (judged : Result Entry (RowRefusal PresetCause)) (refused : RowRefusal PresetCause) → holds ≡ true
    → is_event_name (text_at fields 1) ≡ true → is_too_many (names_of old) (text_at fields 1) ≡ true
    → Judges (event_judged (derivation_of fields)) judged → IsOverLimit judged refused → RefusesRow (event_cause holds old (derivation_of fields)) refused
over-taken fields holds old judged refused h e m j o =
    refuses holds (limited true (event_judged (derivation_of fields))) refused fields old h (judged-by fields (names_of old) true e m) (over (event_judged (derivation_of fields)) judged refused j o)

pub event-refused : (fields : List Text) (holds : Bool) (old : List EventView) (refused : RowRefusal PresetCause) → holds ≡ true
    → is_event_name (text_at fields 1) ≡ true → is_too_many (names_of old) (text_at fields 1) ≡ false
    → Judges (event_judged (derivation_of fields)) (Err refused) → RefusesRow (event_cause holds old (derivation_of fields)) refused
event-refused fields holds old (refusal.Cause why) h e m j = refuses holds (event_judged (derivation_of fields)) (refusal.Cause why) fields old h (judged-by fields (names_of old) false e m) j
event-refused fields holds old refusal.Memory h e m j = tt

pub event-taken : (fields : List Text) (holds : Bool) (old new : List EventView) (x : Entry) → holds ≡ true → is_event_name (text_at fields 1) ≡ true
    → is_too_many (names_of old) (text_at fields 1) ≡ false
    → event_judged (derivation_of fields) ≡ Ok x → new ≡ put_event old (text_at fields 1) x
    → (event_cause holds old (derivation_of fields) ≡ None) × (new ≡ events_with holds old (derivation_of fields))
event-taken fields true old new x h e m j is =
    let n : named_entry (names_of old) (derivation_of fields) ≡ Ok x = judged-by fields (names_of old) false e m ∙ j in
    (ap (cause_if true) n, is ∙ ap (λ (t : Text). put_event old t x) (sym (symbol-there fields)) ∙ sym (ap (put_judged old (row_name fields)) n))
event-taken fields false old new x h e m j is = cc h
