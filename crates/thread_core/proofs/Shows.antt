-- The numbers and the values that a core shows are those of the account: PAPI_read(3).
use Rattle.thread_core.proofs.Words.{MOST_OCCURRENCES, Option, Occ, ℕ, List, Rises, time_after, ◌≤◌, last_after, take, zero, arith, suc, [], ◌∷◌}
use Rattle.thread_core.proofs.Words.{Some, Native, ◌≡◌, None, All, refl, all_at, sym, ◌∙◌, Book, CoreView, Slot, numbers_shown, Account, Kept}
use Rattle.thread_core.proofs.Words.{CoreStands, at, true, option_and_then, slice_get, map, count, set_natives, plain, ap, replicate, length}
use Rattle.thread_core.proofs.Words.{UnitView, registers_by, running_registers, pins_of, subst, ArePinned, pinned, Register, at_place, programs-at}
use Rattle.thread_core.proofs.Words.{length-replicate, counters_for, placed, ◌-◌, clock, total, ap₂, cond-true, slot_of, measured, false, inr}
use Rattle.thread_core.proofs.Words.{cond-false, inl, numbers_of, turns_of, rotation_of, turned, get_or, position_or_len, same_native, AtRest}
use Rattle.thread_core.proofs.Words.{EventRef, event_value, number_in, map_same_on, get_position, get_or_from_slice_get, get-map_some, values_shown}
use Rattle.thread_core.proofs.Words.{values_of, ◌*◌, estimate, cases_eq, ◌==◌, ◌/◌, eq-eqb, ne_eqb, ◌+◌, ◌<◌, ◌^◌, IsWithin, weight_of, groups}
use Rattle.thread_core.proofs.Words.{masks_of, weighed, weight_in_turn, active, Turns, AgreesWith, length-map, at-some, end, same_some, RotationView}
use Rattle.thread_core.proofs.Words.{subst₂, ℤ, Follows, done, Face, option_map_or, is_multiplexed, unit_numbers, turn_numbers, IsTellable, IsInTurns}
use Rattle.thread_core.proofs.Words.{position_is, rule_of_event, natives_of_event, pos, state_bits, assigned, face_of_slot, is_counting, AreOnUnit}
use Rattle.thread_core.proofs.Words.{HasUnit, AreWidths, IsFit, widths_at, get_at, unwrap_or, is_none, is_some, Refusal, if◌then◌else◌, Plain}
use Rattle.thread_core.proofs.Words.{Enoevst, Ecombo, Bool, refusal_of, slot_faces, rested, Widths, places_of, IsPlaced, pins_show, pins_natives}
use Rattle.thread_core.proofs.Words.{turns_show, rule_value, each_is_among, is_among, div-le_of_le-mul, counts_per_tick, All-map, Assigned}
use Rattle.thread_core.proofs.Words.{NUMBER_BITS, AreAlone, IsAlone, IsProgrammed}
use Rattle.session_model.specs.declared.reply.Body.TheVariants as body
use Rattle.call_type.specs.declared.call.Call.TheVariants as call
use Rattle.thread_core.proofs.Squares.{numbers-length, kept_as, kept_cases}
use Rattle.thread_core.proofs.Looking.{face_at, fit_of, widths_on, unit_on, unit_of, now_is, under, shows_follows}
use Rattle.thread_slots.specs.declared.slot.Counting.TheVariants as counting
use Rattle.thread_core.proofs.Weighing.{weighed-le, weight_small, within_at, count_fits}
use Rattle.thread_core.proofs.Taking.{past_short, by_turns, length-turned}
use Rattle.thread_core.proofs.Owners.{length-units, face_same}
use Rattle.thread_core.proofs.Following.{Goes, refused_follows}

-- no clock of the past is above that of now
clock_rises : (before : Option Occ) (k : ℕ) (past : List Occ) → Rises (time_after before) past
    → time_after (last_after before (take k past)) ≤ time_after (last_after before past)
clock_rises before zero [] r = omega arith
clock_rises before (suc k) [] r = omega arith
clock_rises before zero (p ∷ past) r = let first = r.0 in let later = clock_rises (Some p) zero past r.2 in omega arith
clock_rises before (suc k) (p ∷ past) r = clock_rises (Some p) k past r.2

-- without a component there are no natives
no_natives : (component : Option ℕ) (ns : List Native) → component ≡ None → All (λ n. component ≡ Some n.comp) ns → ns ≡ []
no_natives component [] e h = refl
no_natives component (n ∷ ns) e h = let first = all_at (λ (m : Native). component ≡ Some m.comp) (n ∷ ns) 0 n h refl in let both : None ≡ Some n.comp = sym e ∙ first in cc

abbrev the_numbers : Book → CoreView → Slot → List ℕ
the_numbers book core slot = numbers_shown core.units (time_after core.last) slot

-- what is shown of a set are its counts, or its estimates
plain_numbers : (book : Book) (core : CoreView) (a : Account) (k : ℕ) (s : Kept) (component : Option ℕ) → CoreStands book core a → at a.sets k ≡ Some s
    → s.running ≡ true → s.set.slice ≡ None → s.set.component ≡ component
    → unit_numbers (option_and_then (slice_get core.units) s.set.component) (pins_of book s.set) ≡ map (count a.past s) (set_natives book s.set)
plain_numbers book core a k s None h e run plain is =
    let fit = fit_of book core a k s h e in
    let none = no_natives s.set.component (set_natives book s.set) is fit.sound.owned in
    ap (λ (c : Option ℕ). unit_numbers (option_and_then (slice_get core.units) c) (pins_of book s.set)) is ∙ sym (ap (map (count a.past s)) none)
plain_numbers book core a k s (Some comp) h e run plain is =
    let fit = fit_of book core a k s h e in
    let ws = widths_on book core.shape s.set comp fit is in
    let unit : UnitView = record { widths = ws.0; registers = registers_by book ws.0 a.past (Some s) } in
    let registers = ap (λ (m : Option ℕ). running_registers book ws.0 a.past s m) plain in
    let found = ap (option_and_then (slice_get core.units)) is ∙ unit_on book core a k comp s ws.0 h e run is ws.1 in
    let pins = pins_of book s.set in
    let counts : Native → ℕ = count a.past s in
    let none : Option Register = None in
    let at_pins = subst (λ (w : List ℕ). ArePinned w (pins_of book s.set)) (sym ws.2) (pinned book core.shape s.set fit plain) in
    ap (λ (u : Option UnitView). unit_numbers u pins) found
    ∙ pins_show unit s.set.domain counts pins (count_fits book core a s h) (λ i p f.
    ap (λ (rs : List (Option Register)). at_place rs p.counter) registers
    ∙ programs-at ws.0 s.set.domain counts pins (replicate (length ws.0) none) i p at_pins (length-replicate (length ws.0) none) f)
    ∙ pins_natives book s.set (set_natives book s.set) (counters_for (set_natives book s.set)) counts (placed book core.shape s.set fit plain).one_each

-- the time in the window of a running set
total_now : (book : Book) (core : CoreView) (a : Account) (s : Kept) → CoreStands book core a → s.running ≡ true → time_after core.last - clock a.past s.from ≡ total a.past s
total_now book core a s h run = ap₂ ◌-◌ (now_is book core a h ∙ ap (clock a.past) (sym (cond-true s.running (length a.past) s.to run))) refl

pub numbers_are : (book : Book) (core : CoreView) (a : Account) (k : ℕ) → CoreStands book core a → (s : Kept) → at a.sets k ≡ Some s
    → the_numbers book core (slot_of book core.shape a.past s) ≡ map (measured s.set.slice book a.past s) (set_natives book s.set)
numbers_are book core a k h = kept_cases _
    (λ s e. refl)
    (λ s e. plain_numbers book core a k (kept_as s true None) s.set.component h e refl refl refl)
    (λ s slice e.
    let t = kept_as s true (Some slice) in
    let ns = set_natives book t.set in
    let gs = numbers_of book t.set in
    let u = turns_of slice gs a.past t in
    let r = rotation_of gs slice in
    ap (λ (lasts : ℕ). turn_numbers r.turns lasts gs (turned u a.past t ns gs)) (total_now book core a t h refl)
    ∙ turns_show a.past t r.turns u (λ n. get_or gs (position_or_len (same_native n) ns) 0) ns gs (λ g. refl) (numbers-length book t.set)
    (λ i n f. sym (ap (λ (p : ℕ). get_or gs p 0) (position_is book t.set i n f))))

-- the value of an event hangs on the numbers of its natives alone
value_same : (book : Book) (s : AtRest) (f : Native → ℕ) (numbers : List ℕ) (i : ℕ) (e : EventRef) → numbers ≡ map f (set_natives book s) → slice_get s.events i ≡ Some e → event_value book (number_in (set_natives book s) numbers) e ≡ event_value book f e
value_same book s f numbers i e are is =
    let ns = set_natives book s in
    ap (rule_value (rule_of_event book e)) (map_same_on (λ n. pos (number_in ns numbers n)) (λ n. pos (f n)) (natives_of_event book e) (λ j n g.
    let here = get_position n ns (each_is_among book s.events i e n is (is_among n (natives_of_event book e) j g)) in
    let place = position_or_len (same_native n) ns in
    ap pos (ap (λ (xs : List ℕ). get_or xs place 0) are ∙ get_or_from_slice_get (map f ns) place (f n) 0 (get-map_some f ns place n here))))

pub values_are : (book : Book) (core : CoreView) (a : Account) (k : ℕ) (s : Kept) → CoreStands book core a → at a.sets k ≡ Some s → values_shown book core.units (time_after core.last) (slot_of book core.shape a.past s) ≡ values_of book a.past s
values_are book core a k s h e =
    let numbers = the_numbers book core (slot_of book core.shape a.past s) in
    map_same_on (event_value book (number_in (set_natives book s.set) numbers)) (event_value book (measured s.set.slice book a.past s)) s.set.events
    (λ i x f. value_same book s.set (measured s.set.slice book a.past s) numbers i x (numbers_are book core a k h s e) f)

-- estimates are bounded if counts are
pub estimate_le : (c t act : ℕ) → c ≤ 255 * act → estimate c t act ≤ 255 * t
estimate_le c t act h = elim (cases_eq act 0) [
  | inl none ↦ (let zero_is : estimate c t act ≡ 0 = cond-true (act == 0) 0 (c * t / act) (eq-eqb act 0 none) in omega arith)
  | inr some ↦
      let is : estimate c t act ≡ c * t / act = cond-false (act == 0) 0 (c * t / act) (ne_eqb act 0 some) in
      let e : 255 * act ≡ c + (255 * act - c) = omega arith in
      let f : 255 * act * t ≡ (c + (255 * act - c)) * t = ap (λ k. k * t) e in
      let le : c * t / act ≤ 255 * t = div-le_of_le-mul act {m = c * t} {n = 255 * t} (omega arith) in
      omega arith
]

pub measured_small : (book : Book) (past : List Occ) (s : Kept) (m : Option ℕ) (n : Native) → length past ≤ MOST_OCCURRENCES → total past s < 2 ^ 32 → Rises 0 past → IsWithin (length past) s → measured m book past s n < 2 ^ NUMBER_BITS
measured_small book past s None n few short r w = let most = weighed-le (weight_of n s.set.domain) past s (weight_small n s.set.domain) r in omega arith
measured_small book past s (Some slice) n few short r w =
    let gs = groups (masks_of (set_natives book s.set)) in
    let g = get_or gs (position_or_len (same_native n) (set_natives book s.set)) 0 in
    let u = turns_of slice gs past s in
    let most = estimate_le (weighed (weight_in_turn u g n s.set.domain) past s) (total past s) (active u g (total past s)) (counts_per_tick past s slice gs g n r w) in
    omega arith

turned_le : (t : Turns) (past : List Occ) (s : Kept) (lasts : ℕ) (ns : List Native) (gs : List ℕ) → ((g : ℕ) (n : Native) → weighed (weight_in_turn t g n s.set.domain) past s ≤ 255 * active t g lasts)
    → (k : ℕ) → k < length (turned t past s ns gs) → get_or (turned t past s ns gs) k 0 ≤ 255 * active t (get_or gs k 0) lasts
turned_le t past s lasts [] gs h k below = absurd (omega arith)
turned_le t past s lasts (n ∷ ns) [] h k below = absurd (omega arith)
turned_le t past s lasts (n ∷ ns) (g ∷ gs) h zero below = h g n
turned_le t past s lasts (n ∷ ns) (g ∷ gs) h (suc k) below = turned_le t past s lasts ns gs h k (omega arith)

-- a running set whose natives take turns counted no more than its ticks allow
in_turns : (book : Book) (core : CoreView) (a : Account) → CoreStands book core a → time_after core.last ≤ 4294967295 → (s : Kept) → IsWithin (length a.past) s
    → (r : RotationView) (begun : ℕ) (kept : List ℕ) → (slot_of book core.shape a.past s).counting ≡ counting.InTurns r begun kept
    → IsInTurns (time_after core.last) r begun kept
in_turns book core a h in_time = kept_cases _
    (λ s within r begun kept is. cc)
    (λ s within r begun kept is. cc)
    (λ s slice within r begun kept is.
    let t = kept_as s true (Some slice) in
    let ns = set_natives book t.set in
    let gs = numbers_of book t.set in
    let u = turns_of slice gs a.past t in
    let last = ap time_after h.last in
    let began = clock_rises None t.from a.past h.rises in
    let lasts = total_now book core a t h refl in
    let counts = turned_le u a.past t (total a.past t) ns gs (λ g n. counts_per_tick a.past t slice gs g n h.rises within) in
    let new = turned u a.past t ns gs in
    by_turns (IsInTurns (time_after core.last)) (rotation_of gs slice) r (clock a.past t.from) begun new kept is (record {
      began = omega arith;
      short = omega arith;
      same_length = length-turned u a.past t ns gs (numbers-length book t.set) ∙ sym (numbers-length book t.set);
      counts = λ j below. subst (λ (x : ℕ). get_or (turned u a.past t ns gs) j 0 ≤ 255 * active u (get_or gs j 0) x) (sym lasts) (counts j below);
    }))

-- the pins of a set that is on its unit are on counters of it
on_counters : (book : Book) (core : CoreView) (a : Account) (s : Kept) → CoreStands book core a → IsFit book core.shape s.set → s.set.slice ≡ None
    → AreOnUnit core.units s.set.component (pins_of book s.set)
on_counters book core a s h fit plain = record {
  has_unit = λ comp is.
      let below = fit.has_component comp is in
      omega (arith, ap length h.units, length-units book a.past a.sets 0 core.shape);
  widths = λ comp unit is there. let ws = found comp unit is there in subst AreWidths ws.2 (h.shape.widths comp ws.0 ws.1);
  pinned = λ comp unit is there.
      let ws = found comp unit is there in
      let same = ap (widths_at core.shape) is ∙ ap (λ (o : Option (List ℕ)). unwrap_or o []) ws.1 ∙ ws.2 in
      subst (λ (w : List ℕ). ArePinned w (pins_of book s.set)) same (pinned book core.shape s.set fit plain);
} where
  found : (comp : ℕ) (unit : UnitView) → s.set.component ≡ Some comp → slice_get core.units comp ≡ Some unit
      → (ws : List ℕ) × (slice_get core.shape comp ≡ Some ws) × (ws ≡ unit.widths)
  found comp unit is there =
      let ws = get_at core.shape comp (fit.has_component comp is) in
      (ws.0, ws.1, ap (λ (x : UnitView). x.widths) (same_some _ unit (sym (unit_of book core a comp ws.0 h ws.1) ∙ there)))

slot_has_unit : (book : Book) (core : CoreView) (a : Account) → CoreStands book core a → (s : Kept) → IsFit book core.shape s.set
    → HasUnit core.units (slot_of book core.shape a.past s)
slot_has_unit book core a h = kept_cases _
    (λ s fit pins armed places is. cc)
    (λ s fit pins armed places is.
    let t = kept_as s true None in
    let same : pins_of book t.set ≡ pins = cc in
    subst (AreOnUnit core.units t.set.component) same (on_counters book core a t h fit refl))
    (λ s slice fit pins armed places is. cc)

-- the places that a set on its unit keeps are those of its events
slot_placed : (book : Book) (shape : Widths) (past : List Occ) (s : Kept) → IsPlaced book (slot_of book shape past s)
slot_placed book shape past = kept_cases _
    (λ s pins armed places is. cc)
    (λ s pins armed places is.
    let t = kept_as s true None in
    let same : places_of book (set_natives book t.set) t.set.events ≡ places = cc in
    sym same)
    (λ s slice pins armed places is. cc)

-- nothing but the pins of a set is programmed on the unit that it is on
slot_alone : (book : Book) (core : CoreView) (a : Account) (k : ℕ) → CoreStands book core a → (s : Kept) → at a.sets k ≡ Some s → IsFit book core.shape s.set
    → IsAlone core.units (slot_of book core.shape a.past s)
slot_alone book core a k h = kept_cases _
    (λ s e fit pins armed places is. cc)
    (λ s e fit pins armed places is.
    let t = kept_as s true None in
    let same : pins_of book t.set ≡ pins = cc in
    let programmed : (comp : ℕ) (unit : UnitView) → t.set.component ≡ Some comp → slice_get core.units comp ≡ Some unit → IsProgrammed t.set.domain (pins_of book t.set) unit =
    λ comp unit on there.
    let ws = get_at core.shape comp (fit.has_component comp on) in
    let unit_is = same_some _ unit (sym (unit_on book core a k comp t ws.0 h e refl on ws.1) ∙ there) in
    subst (IsProgrammed t.set.domain (pins_of book t.set)) unit_is (record { counts = count a.past t; registers = refl }) in
    subst (AreAlone core.units t.set.component t.set.domain) same (record { on_unit = on_counters book core a t h fit refl; programmed = programmed }))
    (λ s slice e fit pins armed places is. cc)

-- what the code asks for when it zeroes a set
pub has_unit : (book : Book) (core : CoreView) (k : ℕ) (slot : Slot) → AgreesWith book core → at core.slots k ≡ Some slot → IsAlone core.units slot
has_unit book core k slot agrees there =
    let u = under book core agrees.account k slot agrees.stands there in
    let fit = fit_of book core agrees.account k u.set agrees.stands u.at_set in
    subst (IsAlone core.units) u.is (slot_alone book core agrees.account k agrees.stands u.set u.at_set fit)

-- what it asks for when it tells of one
pub tellable : {book : Book} {core : CoreView} (k : ℕ) {now : ℕ} {slot : Slot} → now ≡ time_after core.last → AgreesWith book core → at core.slots k ≡ Some slot
    → IsTellable book core.units now slot
tellable {book} {core} k {slot = slot} time agrees given =
    let a = agrees.account in
    let h = agrees.stands in
    let u = under book core a k slot h given in
    let s = u.set in
    let fit = fit_of book core a k s h u.at_set in
    let within = within_at (length a.past) a.sets k s h.within (at-some a.sets k s u.at_set) in
    let numbers = numbers_are book core a k h s u.at_set in
    let few = past_short book core agrees in
    let last = ap time_after h.last in
    let ends = clock_rises None (end (length a.past) s) a.past h.rises in
    let in_time = agrees.in_time in
    let short : total a.past s < 2 ^ 32 = omega arith in
    subst₂ (IsTellable book core.units) (sym time) u.is (record {
      measurable = record {
        has_unit = slot_has_unit book core a h s fit;
        in_turns = in_turns book core a h agrees.in_time s within;
      };
      same_length = ap length numbers ∙ length-map (set_natives book s.set) (measured s.set.slice book a.past s);
      small = subst (All (λ t. t < 2 ^ NUMBER_BITS)) (sym numbers) (All-map (λ t. t < 2 ^ NUMBER_BITS) (measured s.set.slice book a.past s) (set_natives book s.set)
          (λ j d below. measured_small book a.past s s.set.slice (get_or (set_natives book s.set) j d) few short h.rises within));
      held = fit.agrees.held;
      placed = slot_placed book core.shape a.past s;
    })

-- a set that stopped tells of the numbers that it kept
pub rested_tellable : {book : Book} {units : List UnitView} {now : ℕ} {slot : Slot} (after : List UnitView) → IsTellable book units now slot
    → IsTellable book after now (rested (numbers_shown units now slot) slot)
rested_tellable after t = record {
  measurable = record { has_unit = λ pins armed places is. cc; in_turns = λ r begun kept is. cc };
  same_length = t.same_length;
  small = t.small;
  held = t.held;
  placed = λ pins armed places is. cc;
}

-- ---- calls that show something of a set

pub read_follows : (book : Book) (core : CoreView) (k : ℕ) (values : List ℤ) (slot : Slot) → Goes book core (call.Read k) → at core.slots k ≡ Some slot
    → values ≡ values_shown book core.units (time_after core.last) slot → Follows book core core (call.Read k) (done (body.Values values))
read_follows book core k values slot g here is =
    shows_follows book core (call.Read k) k slot (λ a s. body.Values (values_of book a.past s)) (body.Values values) g tt refl here (λ a. refl) (λ a. refl)
    (λ a h u. ap body.Values (is ∙ ap (values_shown book core.units (time_after core.last)) (sym u.is) ∙ values_are book core a k u.set h u.at_set))

pub list_follows : (book : Book) (core : CoreView) (k : ℕ) (events : List EventRef) (slot : Slot) → Goes book core (call.ListEvents k)
    → at core.slots k ≡ Some slot → events ≡ slot.set.rest.events → Follows book core core (call.ListEvents k) (done (body.Events events))
list_follows book core k events slot g here is =
    shows_follows book core (call.ListEvents k) k slot (λ a s. body.Events s.set.events) (body.Events events) g tt refl here (λ a. refl) (λ a. refl)
    (λ a h u. ap body.Events (is ∙ ap (λ (x : Slot). x.set.rest.events) (sym u.is)))

pub state_follows : (book : Book) (core : CoreView) (k bits : ℕ) (slot : Slot) → Goes book core (call.State k) → at core.slots k ≡ Some slot
    → bits ≡ state_bits (is_counting slot.counting) slot.set.rest → Follows book core core (call.State k) (done (body.State bits))
state_follows book core k bits slot g here is =
    shows_follows book core (call.State k) k slot (λ a s. body.State (state_bits s.running s.set)) (body.State bits) g tt refl here (λ a. refl) (λ a. refl)
    (λ a h u. ap body.State (is ∙ ap (λ (f : Face). state_bits f.running f.set) (ap face_of_slot (sym u.is) ∙ face_same book core.shape a.past u.set)))

-- what refuses `assign`, by what is under the number
abbrev assign_refusal : Option Face → Option Refusal
assign_refusal face = if is_none face then Some (Plain Enoevst) else if option_map_or (λ f. is_multiplexed f.set) face false then Some (Plain Ecombo) else None

assign_row : (book : Book) (core : CoreView) (k : ℕ) (slot : Slot) (slice : Option ℕ) → at core.slots k ≡ Some slot → slot.set.rest.slice ≡ slice
    → refusal_of book core.shape core.registered (slot_faces core.slots) (call.Assign k) ≡ (if is_some slice then Some (Plain Ecombo) else None)
assign_row book core k slot slice lent is =
    ap assign_refusal (face_at core.slots k (Some slot) lent) ∙ ap (λ (o : Option ℕ). if is_some o then Some (Plain Ecombo) else None) is

pub assign_refused : {book : Book} {core : CoreView} (k : ℕ) (slot : Slot) → AgreesWith book core → at core.slots k ≡ Some slot
    → is_some slot.set.rest.slice ≡ true → Follows book core core (call.Assign k) (plain Ecombo)
assign_refused {book} {core} k slot agrees lent is =
    refused_follows book core (call.Assign k) (Plain Ecombo) _ agrees
    (assign_row book core k slot slot.set.rest.slice lent refl ∙ ap (λ (b : Bool). if b then Some (Plain Ecombo) else None) is) refl

pub assign_follows : (book : Book) (core : CoreView) (k : ℕ) (given : Assigned) (slot : Slot) → AgreesWith book core → at core.slots k ≡ Some slot
    → slot.set.rest.slice ≡ None → given ≡ record { natives = slot.set.natives; counters = counters_for slot.set.natives }
    → Follows book core core (call.Assign k) (done (body.Assigned given))
assign_follows book core k given slot agrees here plain is =
    shows_follows book core (call.Assign k) k slot (λ a s. body.Assigned (assigned book s.set)) (body.Assigned given)
    (record { agrees = agrees; allowed = assign_row book core k slot None here plain }) tt refl here (λ a. refl) (λ a. refl)
    (λ a h u. ap body.Assigned (is ∙ ap (λ (x : Slot). record { natives = x.set.natives; counters = counters_for x.set.natives }) (sym u.is)))
