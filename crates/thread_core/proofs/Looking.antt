-- The set under a number, in the core and in the account, and calls that show something of it or put it anew.
use Rattle.thread_core.proofs.Words.{Book, CoreView, Account, ℕ, CoreStands, at, ◌≡◌, option_map, slot_of, ap, ◌∙◌, at_map, Kept, Some, IsFit}
use Rattle.thread_core.proofs.Words.{at-some, Call, option_map_or, slice_get, slot_faces, false, face_of, ◌<◌, length, is_absent, refl, Option, None}
use Rattle.thread_core.proofs.Words.{true, sym, Face, is_none, here, slice_get_within, runs, Slot, same_some, AgreesWith, arith, Widths, AtRest, List}
use Rattle.thread_core.proofs.Words.{widths_at, get_at, unwrap_or, [], unit_at, UnitView, registers_by, Reply, IsGood, is_on_sets, sets_after}
use Rattle.thread_core.proofs.Words.{new_kept, kept_after, reply_over, sight_of_kept, Follows, done, slice_set, AreApart, faces_of, units_of, change}
use Rattle.thread_core.proofs.Words.{map_put, subst, runner, ap₂, time_after, clock, face_of_slot, get_or, get-set_same, Refusal, refusal_of}
use Rattle.thread_core.proofs.Words.{if◌then◌else◌, Plain, Enoevst, plain, at_read, IsThere, rows, row_fails, Body, shown, clock_now}
use Rattle.session_model.specs.declared.reply.Body.TheVariants as body
use Rattle.thread_core.proofs.Following.{Allowed, faces_stand, done_follows, Goes, with_both, refused_follows}
use Rattle.thread_core.proofs.Owners.{length-units, get-units, unit_by-runner, units_same, unit_stays, units_put, runner_is, runs_there, IsQuiet, quiet_other}

pub slot_at : (book : Book) (core : CoreView) (a : Account) (k : ℕ) → CoreStands book core a
    → at core.slots k ≡ option_map (slot_of book core.shape a.past) (at a.sets k)
slot_at book core a k h = ap (λ (xs : List (Option Slot)). at xs k) h.slots ∙ at_map (slot_of book core.shape a.past) a.sets k

pub fit_of : (book : Book) (core : CoreView) (a : Account) (k : ℕ) (s : Kept) → CoreStands book core a → at a.sets k ≡ Some s → IsFit book core.shape s.set
fit_of book core a k s h e = h.fit.fit k s (at-some a.sets k s e)

-- a row of a call's table that does not come
pub row_off : (book : Book) (core : CoreView) (made : Call) (i : ℕ) → Allowed book core made → option_map_or (λ r. r.0) (slice_get (rows book core.shape core.registered (slot_faces core.slots) made) i) false ≡ false
row_off book core made i none = row_fails (rows book core.shape core.registered (slot_faces core.slots) made) i none

-- ---- the set that a call names

-- what refusals look at under a number
pub face_at : (slots : List (Option Slot)) (k : ℕ) (place : Option Slot) → at slots k ≡ place → at (slot_faces slots) k ≡ option_map face_of_slot place
face_at slots k place is = at_map face_of_slot slots k ∙ ap (option_map face_of_slot) is

-- under the number there is a set
pub record Has (slots : List (Option Slot)) (k : ℕ) : Type 0 where
  pub slot : Slot
  pub at_slot : at slots k ≡ Some slot

pub has_slot : (slots : List (Option Slot)) (k : ℕ) → is_absent (slot_faces slots) k ≡ false → Has slots k
has_slot slots k there = go (at slots k) refl where
  go : (o : Option Slot) → at slots k ≡ o → Has slots k
  go None e = let gone : true ≡ false = sym (ap (λ (o : Option Face). is_none o) (face_at slots k None e)) ∙ there in cc
  go (Some slot) e = record { slot = slot; at_slot = e }

-- so it is if a call is not refused whose table begins with that test
pub named : {book : Book} {core : CoreView} {made : Call} (k : ℕ) → Goes book core made
    → option_map_or (λ r. r.0) (slice_get (rows book core.shape core.registered (slot_faces core.slots) made) 0) false ≡ is_absent (slot_faces core.slots) k
    → Has core.slots k
named {book} {core} {made} k g first = has_slot core.slots k (sym first ∙ row_off book core made 0 g.allowed)

-- a call whose table begins with that test is refused if there is no set
pub absent_follows : {book : Book} {core : CoreView} {made : Call} (k : ℕ) (more : Option Refusal) → AgreesWith book core → at core.slots k ≡ None
    → refusal_of book core.shape core.registered (slot_faces core.slots) made ≡ (if is_absent (slot_faces core.slots) k then Some (Plain Enoevst) else more)
    → Follows book core core made (plain Enoevst)
absent_follows {book} {core} {made} k more agrees none table =
    refused_follows book core made (Plain Enoevst) _ agrees
    (table ∙ ap (λ (o : Option Face). if is_none o then Some (Plain Enoevst) else more) (face_at core.slots k None none)) refl

-- and goes on if there is one, if that test is all
pub goes_there : {book : Book} {core : CoreView} {made : Call} (k : ℕ) (slot : Slot) → AgreesWith book core → at core.slots k ≡ Some slot
    → refusal_of book core.shape core.registered (slot_faces core.slots) made ≡ (if is_absent (slot_faces core.slots) k then Some (Plain Enoevst) else None)
    → Goes book core made
goes_there {book} {core} {made} k slot agrees lent table = record {
  agrees = agrees;
  allowed = table ∙ ap (λ (o : Option Face). if is_none o then Some (Plain Enoevst) else None) (face_at core.slots k (Some slot) lent);
}

-- the set that the code reads under a number
pub reads : {core now : CoreView} {k : ℕ} {place : Option Slot} {slot : Slot} → core ≡ now → IsThere now.slots k → place ≡ get_or core.slots k place
    → place ≡ Some slot → at core.slots k ≡ Some slot
reads {core} {now} {k} {place} {slot} same there is some =
    at_read core.slots k place slot (subst (λ (v : CoreView). k < length v.slots) (sym same) there.0) is some

-- the set of the account that a slot is of
pub record Under (book : Book) (core : CoreView) (a : Account) (k : ℕ) (slot : Slot) : Type 0 where
  pub set : Kept
  pub at_set : at a.sets k ≡ Some set
  pub place : slice_get a.sets k ≡ Some (Some set)
  pub at_face : at (slot_faces core.slots) k ≡ Some (face_of set)
  pub is : slot_of book core.shape a.past set ≡ slot

pub under : (book : Book) (core : CoreView) (a : Account) (k : ℕ) (slot : Slot) → CoreStands book core a → at core.slots k ≡ Some slot
    → Under book core a k slot
under book core a k slot h here = go (at a.sets k) refl where
  go : (o : Option Kept) → at a.sets k ≡ o → Under book core a k slot
  go None e = let none : Some slot ≡ None = sym here ∙ slot_at book core a k h ∙ ap (option_map (slot_of book core.shape a.past)) e in cc
  go (Some s) e = record {
    set = s;
    at_set = e;
    place = at-some a.sets k s e;
    at_face = ap (λ (fs : List (Option Face)). at fs k) (faces_stand book core a h) ∙ at_map face_of a.sets k ∙ ap (option_map face_of) e;
    is = same_some (slot_of book core.shape a.past s) slot
        (sym (slot_at book core a k h ∙ ap (option_map (slot_of book core.shape a.past)) e) ∙ here);
  }

-- it runs if the table says so
pub runs_as : {book : Book} {core : CoreView} {a : Account} {k : ℕ} {slot : Slot} (u : Under book core a k slot)
    → u.set.running ≡ runs (slot_faces core.slots) k
runs_as u = sym (ap (λ (o : Option Face). option_map_or (λ f. f.running) o false) u.at_face)

-- the component of a set under a number is one of the shape's
pub comp_below : (book : Book) (core : CoreView) (k comp : ℕ) (slot : Slot) → AgreesWith book core → at core.slots k ≡ Some slot → slot.set.rest.component ≡ Some comp → (comp < length core.shape) × (comp < length core.units)
comp_below book core k comp slot agrees here is =
    let u = under book core agrees.account k slot agrees.stands here in
    let below = (fit_of book core agrees.account k u.set agrees.stands u.at_set).has_component comp (ap (λ (x : Slot). x.set.rest.component) u.is ∙ is) in
    (below, omega (arith, ap length agrees.stands.units, length-units book agrees.account.past agrees.account.sets 0 core.shape))

-- the widths of a component of a fit set
pub widths_on : (book : Book) (shape : Widths) (s : AtRest) (comp : ℕ) → IsFit book shape s → s.component ≡ Some comp → (ws : List ℕ) × (slice_get shape comp ≡ Some ws) × (ws ≡ widths_at shape s.component)
widths_on book shape s comp fit is =
    let ws = get_at shape comp (fit.has_component comp is) in
    (ws.0, ws.1, sym (ap (widths_at shape) is ∙ ap (λ (x : Option (List ℕ)). unwrap_or x []) ws.1))

-- the unit of a component, by the set that runs on it
pub unit_of : (book : Book) (core : CoreView) (a : Account) (comp : ℕ) (ws : List ℕ) → CoreStands book core a → slice_get core.shape comp ≡ Some ws → slice_get core.units comp ≡ Some (unit_at book a.past a.sets comp ws)
unit_of book core a comp ws h at_comp = ap (λ (us : List UnitView). slice_get us comp) h.units ∙ get-units book core.shape a.past a.sets comp ∙ ap (option_map (unit_at book a.past a.sets comp)) at_comp

pub unit_on : (book : Book) (core : CoreView) (a : Account) (k comp : ℕ) (s : Kept) (ws : List ℕ) → CoreStands book core a → at a.sets k ≡ Some s → s.running ≡ true → s.set.component ≡ Some comp → slice_get core.shape comp ≡ Some ws
    → slice_get core.units comp ≡ Some (record { widths = ws; registers = registers_by book ws a.past (Some s) })
unit_on book core a k comp s ws h e run is at_comp =
    unit_of book core a comp ws h at_comp ∙ ap Some (unit_by-runner book a.past a.sets comp ws (Some s) (runner_is a.sets k comp s h.apart (at-some a.sets k s e) (runs_there s comp run is)))

-- ---- calls

-- a call that changes nothing
pub looks_follows : (book : Book) (core : CoreView) (made : Call) (reply : Reply) → AgreesWith book core → IsGood book core.shape made → is_on_sets made ≡ true → Allowed book core made
    → ((a : Account) → sets_after new_kept (kept_after book a.past) made a.sets ≡ a.sets) → ((a : Account) → CoreStands book core a → reply ≡ reply_over book (sight_of_kept book core.shape a.past) a.sets made) → Follows book core core made reply
looks_follows book core made reply agrees good on none stay says = done_follows book core core.units core.slots made reply agrees good on none (λ a h apart. record { sets = a.sets; after = stay a; slots = h.slots; units = h.units; reply = says a h })

-- one that shows something of the set under a number
pub shows_follows : (book : Book) (core : CoreView) (made : Call) (k : ℕ) (slot : Slot) (f : Account → Kept → Body) (given : Body) → Goes book core made
    → IsGood book core.shape made → is_on_sets made ≡ true → at core.slots k ≡ Some slot
    → ((a : Account) → sets_after new_kept (kept_after book a.past) made a.sets ≡ a.sets)
    → ((a : Account) → reply_over book (sight_of_kept book core.shape a.past) a.sets made ≡ shown (f a) a.sets k)
    → ((a : Account) → CoreStands book core a → (u : Under book core a k slot) → given ≡ f a u.set) → Follows book core core made (done given)
shows_follows book core made k slot f given g good on here stay reply same = looks_follows book core made (done given) g.agrees good on g.allowed stay (λ a h.
    let u = under book core a k slot h here in
    ap done (same a h u) ∙ sym (ap (λ (o : Option Kept). done (option_map_or (f a) o body.Nothing)) u.at_set) ∙ sym (reply a))

-- what a call does that puts one set anew, for one account
pub record Puts (book : Book) (core : CoreView) (new_units : List UnitView) (new : Slot) (made : Call) (given : Reply) (a : Account) (k : ℕ) (s : Kept)
    : Type 0 where
  pub slot : new ≡ slot_of book core.shape a.past (kept_after book a.past made s)
  pub units : AreApart (faces_of (slice_set a.sets k (Some (kept_after book a.past made s))))
      → new_units ≡ units_of book core.shape a.past (slice_set a.sets k (Some (kept_after book a.past made s)))
  pub reply : given ≡ reply_over book (sight_of_kept book core.shape a.past) a.sets made

pub put_follows : (book : Book) (core : CoreView) (units : List UnitView) (slot new : Slot) (made : Call) (reply : Reply) (k : ℕ) → Goes book core made
    → IsGood book core.shape made → is_on_sets made ≡ true
    → ((a : Account) → sets_after new_kept (kept_after book a.past) made a.sets ≡ change (kept_after book a.past made) a.sets k)
    → at core.slots k ≡ Some slot
    → ((a : Account) → CoreStands book core a → (u : Under book core a k slot) → Puts book core units new made reply a k u.set)
    → Follows book core (with_both core units (slice_set core.slots k (Some new))) made reply
put_follows book core units slot new made reply k g good on one here puts =
    done_follows book core units (slice_set core.slots k (Some new)) made reply g.agrees good on g.allowed (λ a h apart.
    let u = under book core a k slot h here in
    let p = puts a h u in
    let t : Kept = kept_after book a.past made u.set in
    let after : sets_after new_kept (kept_after book a.past) made a.sets ≡ slice_set a.sets k (Some t) =
    one a ∙ ap (λ (x : Option Kept). slice_set a.sets k (option_map (kept_after book a.past made) x)) u.at_set in
    record {
      sets = slice_set a.sets k (Some t);
      after = after;
      slots = ap₂ (λ (xs : List (Option Slot)) (x : Slot). slice_set xs k (Some x)) h.slots p.slot
          ∙ map_put (option_map (slot_of book core.shape a.past)) a.sets k (Some t);
      units = p.units (subst (λ (xs : List (Option Kept)). AreApart (faces_of xs)) after apart);
      reply = p.reply;
    })

-- if neither the set that was in a place nor what comes there runs, the units stay
pub units_rest : (book : Book) (core : CoreView) (a : Account) (k : ℕ) (t place : Option Kept) → CoreStands book core a
    → AreApart (faces_of (slice_set a.sets k t)) → slice_get a.sets k ≡ Some place → ((c : ℕ) → IsQuiet c place) → ((c : ℕ) → IsQuiet c t)
    → core.units ≡ units_of book core.shape a.past (slice_set a.sets k t)
units_rest book core a k t place h apart e quiet new =
    h.units
    ∙ units_same book core.shape a.past a.past a.sets (slice_set a.sets k t) (λ c. unit_stays book a.past a.sets k c t place apart e (quiet c) (new c))

-- so they do if a set is put anew that has no component
pub units_without : (book : Book) (core : CoreView) (a : Account) (k : ℕ) (s t : Kept) → CoreStands book core a
    → AreApart (faces_of (slice_set a.sets k (Some t))) → slice_get a.sets k ≡ Some (Some s) → s.set.component ≡ None → t.set.component ≡ None
    → core.units ≡ units_of book core.shape a.past (slice_set a.sets k (Some t))
units_without book core a k s t h apart place none still = units_rest book core a k (Some t) (Some s) h apart place (quiet s none) (quiet t still) where
  quiet : (x : Kept) → x.set.component ≡ None → (c : ℕ) → IsQuiet c (Some x)
  quiet x is c = quiet_other x c (λ on. let both : None ≡ Some c = sym is ∙ on in cc)

-- a set is quiet on each component but its own
pub quiet_but : (s : Kept) (comp c : ℕ) → s.set.component ≡ Some comp → (c ≡ comp → ⊥) → IsQuiet c (Some s)
quiet_but s comp c is other = quiet_other s c (λ on. other (same_some c comp (sym on ∙ is)))

-- if a set is put that runs on no other component, and the one before it did not, the unit of this component alone changes
pub units_one : (book : Book) (core : CoreView) (a : Account) (k comp : ℕ) (ws : List ℕ) (s t : Kept) (unit : UnitView) (found : Option Kept)
    → CoreStands book core a → AreApart (faces_of (slice_set a.sets k (Some t))) → slice_get a.sets k ≡ Some (Some s) → slice_get core.shape comp ≡ Some ws
    → s.set.component ≡ Some comp → t.set.component ≡ Some comp → runner comp (slice_set a.sets k (Some t)) ≡ found
    → unit ≡ record { widths = ws; registers = registers_by book ws a.past found }
    → slice_set core.units comp unit ≡ units_of book core.shape a.past (slice_set a.sets k (Some t))
units_one book core a k comp ws s t unit found h apart place at_comp on still runs is =
    ap₂ (λ (us : List UnitView) (u : UnitView). slice_set us comp u) h.units
    (is ∙ sym (unit_by-runner book a.past (slice_set a.sets k (Some t)) comp ws found runs))
    ∙ units_put book core.shape a.past a.past a.sets (slice_set a.sets k (Some t)) comp ws at_comp
    (λ c other. unit_stays book a.past a.sets k c (Some t) (Some s) apart place (quiet_but s comp c on other) (quiet_but t comp c still other))

-- and it is the unit of the set that is put, if this one runs
pub units_run : (book : Book) (core : CoreView) (a : Account) (k comp : ℕ) (ws : List ℕ) (s t : Kept) (unit : UnitView) → CoreStands book core a
    → AreApart (faces_of (slice_set a.sets k (Some t))) → slice_get a.sets k ≡ Some (Some s) → slice_get core.shape comp ≡ Some ws
    → s.set.component ≡ Some comp → t.set.component ≡ Some comp → t.running ≡ true
    → unit ≡ record { widths = ws; registers = registers_by book ws a.past (Some t) }
    → slice_set core.units comp unit ≡ units_of book core.shape a.past (slice_set a.sets k (Some t))
units_run book core a k comp ws s t unit h apart place at_comp on still run is =
    let put = get-set_same a.sets k (Some t) (slice_get_within a.sets k (Some s) place) in
    units_one book core a k comp ws s t unit (Some t) h apart place at_comp on still
    (runner_is (slice_set a.sets k (Some t)) k comp t apart put (runs_there t comp run still)) is

-- the time is the clock after all occurrences
pub now_is : (book : Book) (core : CoreView) (a : Account) → CoreStands book core a → time_after core.last ≡ clock a.past (length a.past)
now_is book core a h = ap time_after h.last ∙ sym (clock_now a.past)
