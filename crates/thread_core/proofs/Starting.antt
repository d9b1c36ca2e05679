-- A core that starts, stops or zeroes a set: PAPI_start(3), PAPI_stop(3), PAPI_reset(3), PAPI_accum(3).
use Rattle.thread_core.proofs.Words.{List, Occ, Kept, true, length, Option, ℕ, weighed, ◌≡◌, ap, sum, along, None, arith, length-along, Turns, Native}
use Rattle.thread_core.proofs.Words.{turned, replicate, [], refl, ◌∷◌, ap₂, weight_in_turn, Book, Widths, widths_at, AreWidths, clock, empty_unit}
use Rattle.thread_core.proofs.Words.{running_registers, plain, pins_of, count, weight_of, sym, programs-same, UnitView, Slot, Started, Some, turns_of}
use Rattle.thread_core.proofs.Words.{numbers_of, set_natives, begun, false, list_any, slice_get, zero, ◌∙◌, suc, CoreView, Account, here, at, runs_on}
use Rattle.thread_core.proofs.Words.{faces_of, ◌==◌, not, CoreStands, Face, option_map_or, slot_faces, ◌<◌, get_at, held_have_natives, all_at, IsHeld}
use Rattle.thread_core.proofs.Words.{get_position, lead_among, slice_get_within, subst, placed, pinned, ArePinned, same_some, time_after, slice_set}
use Rattle.thread_core.proofs.Words.{Follows, end, ◌≤◌, take, drop, runs, cond-true, ◌-◌, estimate, total, active, measured, groups, masks_of}
use Rattle.thread_core.proofs.Words.{slice_index, position_or_len, same_native, map, slot_of, map_same, AreApart, units_of, at-some, ℤ, values_shown}
use Rattle.thread_core.proofs.Words.{numbers_shown, done, values_of, Register, programs, AgreesWith}
use Rattle.thread_core.proofs.Words.{length-map, event_value, number_in, subst₂, Bool, drop_all, or_parts, not-true, not-false}
use Rattle.thread_core.proofs.Words.{eqb-false, slot_with, rotation_of, begun_by, IsStartable, has_events, take_all, length-drop, zeroed, programs-again}
use Rattle.thread_core.proofs.Words.{set-same, sums, accumulated, rested, ForSome, numbered, IsValued, armable, zeroed_slot, zeroed_on, zeroed_at}
use Rattle.thread_core.proofs.Words.{zeroed_units, slot_with_sums}
use Rattle.call_type.specs.declared.call.Call.TheVariants as call
use Rattle.papi_base.specs.declared.code.Code.TheVariants as code
use Rattle.thread_core.proofs.Squares.{stopped_slot, running_slot, numbers-length, slot_of-stopped, widths_are, kept_as, kept_cases}
use Rattle.thread_core.proofs.Looking.{Under, row_off, widths_on, unit_of, fit_of, put_follows, now_is, runs_as, units_one, units_rest, units_run, unit_on, under, units_without}
use Rattle.thread_core.proofs.Following.{Allowed, faces_stand, Goes, with_both}
use Rattle.thread_core.proofs.Owners.{unit_by-runner, runner-none, owner_from-none, runs_there, quiet_stopped, runner_gone}
use Rattle.session_model.specs.declared.reply.Body.TheVariants as body
use Rattle.thread_core.proofs.Weighing.{within_at}
use Rattle.thread_core.proofs.Shows.{numbers_are, values_are}
use Rattle.thread_slots.specs.declared.slot.Counting.TheVariants as counting
use Rattle.thread_core.proofs.Changing.{counted_none}

-- ---- start: what is held

-- a set that starts
abbrev pub started : List Occ → Kept → Kept
started past s = record s { running = true; from = length past; to = length past }

-- nothing has been counted
pub weighed-start : (weigh : Option Occ → Occ → ℕ) (past : List Occ) (s : Kept) → weighed weigh past (started past s) ≡ 0
weighed-start weigh past s = ap sum (drop_all (length past) (along weigh None past) (omega (arith, length-along weigh None past)))

pub turned-start : (t : Turns) (past : List Occ) (s : Kept) (ns : List Native) (gs : List ℕ) → length gs ≡ length ns
    → turned t past (started past s) ns gs ≡ replicate (length ns) 0
turned-start t past s [] gs e = refl
turned-start t past s (n ∷ ns) [] e = absurd (omega arith)
turned-start t past s (n ∷ ns) (g ∷ gs) e = ap₂ ◌∷◌ (weighed-start (weight_in_turn t g n s.set.domain) past s) (turned-start t past s ns gs (omega arith))

-- what begins is what the account says of a set that starts
begun_is : (book : Book) (shape : Widths) (past : List Occ) (s : Kept) (ws : List ℕ) (now : ℕ) (m : Option ℕ) → now ≡ clock past (length past)
    → begun_by book now (empty_unit ws) (stopped_slot book shape past s) m
    ≡ record {
      unit = record { widths = ws; registers = running_registers book ws past (started past s) m };
      slot = running_slot book shape past (started past s) m;
    }
begun_is book shape past s ws now None time =
    let pins = pins_of book s.set in
    let counts : Native → ℕ = count past (started past s) in
    let none : (n : Native) → count past (started past s) n ≡ 0 = λ n. weighed-start (weight_of n s.set.domain) past s in
    let k = running_slot book shape past (started past s) None in
    let same_registers = programs-same ws s.set.domain counts (λ n. 0) none pins (replicate (length ws) None) in
    λ i. record { unit = record { widths = ws; registers = (sym same_registers) i }; slot = k }
begun_is book shape past s ws now (Some slice) time =
    let u : UnitView = record { widths = ws; registers = replicate (length ws) None } in
    let k = running_slot book shape past (started past s) (Some slice) in
    let gs = numbers_of book s.set in
    let counts = turned-start (turns_of slice gs past (started past s)) past s (set_natives book s.set) gs (numbers-length book s.set) in
    λ i. record { unit = u; slot = record k { counting = counting.InTurns (rotation_of gs slice) (time i) ((sym counts) i) } }

-- ---- start: the set

-- if none of the list meets the test, no item does
pub none_any : {X : Type 0} (p : X → Bool) (xs : List X) (i : ℕ) (x : X) → list_any p xs ≡ false → slice_get xs i ≡ Some x → p x ≡ false
none_any p [] i x h e = cc
none_any p (y ∷ xs) zero x h e = let same : y ≡ x = cc in ap p (sym same) ∙ (or_parts (p y) (list_any p xs) h).0
none_any p (y ∷ xs) (suc i) x h e = none_any p xs i x (or_parts (p y) (list_any p xs) h).1 e

-- a stopped set with events, on the component of which no set runs, so that its unit is empty
record Ready (book : Book) (core : CoreView) (a : Account) (s : Kept) : Type 0 where
  pub stopped : s.running ≡ false
  pub some : 0 < length (set_natives book s.set)
  pub comp : ℕ
  pub is : s.set.component ≡ Some comp
  pub widths : List ℕ
  pub at_comp : slice_get core.shape comp ≡ Some widths
  pub same : widths ≡ widths_at core.shape s.set.component
  pub unit : slice_get core.units comp ≡ Some (empty_unit widths)

ready : (book : Book) (core : CoreView) (a : Account) (k : ℕ) (slot : Slot) → CoreStands book core a → Allowed book core (call.Start k)
    → (u : Under book core a k slot) → Ready book core a u.set
ready book core a k slot h none u =
    let s = u.set.set in
    let fit = fit_of book core a k u.set h u.at_set in
    let alone = ap (list_any (runs_on s.component)) (sym (faces_stand book core a h))
    ∙ sym (ap (λ (o : Option Face). option_map_or (λ f. list_any (runs_on f.set.component) (slot_faces core.slots)) o false) u.at_face)
    ∙ row_off book core (call.Start k) 2 none in
    let filled = not-false (has_events s) (sym (ap (λ (o : Option Face). option_map_or (λ f. not (has_events f.set)) o false) u.at_face)
    ∙ row_off book core (call.Start k) 3 none) in
    let some = eqb-false (length s.events) 0 (not-true (length s.events == 0) filled) in
    let e = get_at s.events 0 (omega arith) in
    let n = held_have_natives book e.0 (all_at (IsHeld book) s.events 0 e.0 fit.agrees.held e.1) in
    let place = get_position n.0 (set_natives book s) (lead_among book s 0 e.0 n.0 e.1 n.1) in
    let is = all_at (λ (m : Native). s.component ≡ Some m.comp) (set_natives book s) _ n.0 fit.sound.owned place in
    let ws = widths_on book core.shape s n.0.comp fit is in
    let below = slice_get_within (set_natives book s) _ n.0 place in
    let here = sym (ap (λ (c : Option ℕ). list_any (runs_on c) (faces_of a.sets)) is) ∙ alone in
    let owner = owner_from-none n.0.comp 0 (faces_of a.sets) (λ i f e. none_any (runs_on (Some n.0.comp)) (faces_of a.sets) i f here e) in
    record {
      stopped = runs_as u ∙ row_off book core (call.Start k) 1 none;
      some = omega arith;
      comp = n.0.comp;
      is = is;
      widths = ws.0;
      at_comp = ws.1;
      same = ws.2;
      unit = unit_of book core a n.0.comp ws.0 h ws.1 ∙ ap Some (unit_by-runner book a.past a.sets n.0.comp ws.0 None (runner-none a.sets n.0.comp owner));
    }

-- ---- start: the call

-- what the code asks for when it starts the set
pub start_ready : {book : Book} {core : CoreView} (k : ℕ) {slot : Slot} → Goes book core (call.Start k) → at core.slots k ≡ Some slot
    → (comp : ℕ) (unit : UnitView) → slot.set.rest.component ≡ Some comp → slice_get core.units comp ≡ Some unit → IsStartable book unit slot
start_ready {book} {core} k {slot} g here comp unit is at_comp =
    let a = g.agrees.account in
    let h = g.agrees.stands in
    let u = under book core a k slot h here in
    let r = ready book core a k slot h g.allowed u in
    let s = u.set in
    let fit = fit_of book core a k s h u.at_set in
    let comp_is : r.comp ≡ comp = same_some r.comp comp (sym r.is ∙ ap (λ (x : Slot). x.set.rest.component) u.is ∙ is) in
    subst₂ (IsStartable book) (same_some _ _ (sym r.unit ∙ ap (slice_get core.units) comp_is ∙ at_comp)) u.is (record {
      natives = refl;
      counters = sym (ap length r.same);
      some = r.some;
      few = let small = fit.sound.few_counters in omega (arith, ap length r.same);
      widths = subst AreWidths (sym r.same) (widths_are core.shape s.set.component h.shape);
      placed = λ plain. (placed book core.shape s.set fit plain).one_each;
      pinned = λ plain. subst (λ (w : List ℕ). ArePinned w (pins_of book s.set)) (sym r.same) (pinned book core.shape s.set fit plain);
      armable = λ plain. armable book core.shape s.set fit plain;
    })

pub start_follows : (book : Book) (core : CoreView) (k now : ℕ) (units : List UnitView) (slot new : Slot) → Goes book core (call.Start k)
    → now ≡ time_after core.last → at core.slots k ≡ Some slot
    → ((comp : ℕ) (unit : UnitView) → slot.set.rest.component ≡ Some comp → slice_get core.units comp ≡ Some unit
    → units ≡ slice_set core.units comp (begun book now unit slot).unit)
    → ((comp : ℕ) (unit : UnitView) → slot.set.rest.component ≡ Some comp → slice_get core.units comp ≡ Some unit → new ≡ (begun book now unit slot).slot)
    → Follows book core (with_both core units (slice_set core.slots k (Some new))) (call.Start k) (plain code.Ok)
start_follows book core k now units slot new g time here new_units new_slot =
    put_follows book core units slot new (call.Start k) (plain code.Ok) k g tt refl (λ a. refl) here (λ a h u.
    let r = ready book core a k slot h g.allowed u in
    let s = u.set in
    let on : slot.set.rest.component ≡ Some r.comp = ap (λ (x : Slot). x.set.rest.component) (sym u.is) ∙ r.is in
    let is = ap (begun book now (empty_unit r.widths)) (sym u.is ∙ slot_of-stopped book core.shape a.past s r.stopped)
    ∙ begun_is book core.shape a.past s r.widths now s.set.slice (time ∙ now_is book core a h) in
    record {
      slot = new_slot r.comp (empty_unit r.widths) on r.unit ∙ ap (λ (x : Started). x.slot) is;
      units = λ apart. new_units r.comp (empty_unit r.widths) on r.unit
          ∙ units_run book core a k r.comp r.widths s (started a.past s) _ h apart u.place r.at_comp r.is r.is refl (ap (λ (x : Started). x.unit) is);
      reply = refl;
    })

-- ---- stop: what is held

-- a set that stops
abbrev pub stopped : List Occ → Kept → Kept
stopped past s = record s { running = false; to = end (length past) s }

-- a set that stops keeps its window
weighed-stop : (weigh : Option Occ → Occ → ℕ) (past : List Occ) (s : Kept) → s.running ≡ true → s.from ≤ length past → weighed weigh past (stopped past s) ≡ weighed weigh past s
weighed-stop weigh past s runs inside =
    let xs = along weigh None past in
    let to : end (length past) s ≡ length past = cond-true s.running (length past) s.to runs in
    let all : take (end (length past) s - s.from) (drop s.from xs) ≡ drop s.from xs =
    take_all (end (length past) s - s.from) (drop s.from xs) (omega (arith, length-drop s.from xs, length-along weigh None past)) in
    ap sum (all ∙ sym (cond-true s.running (drop s.from xs) (take (s.to - s.from) (drop s.from xs)) runs))

measured-stop : (book : Book) (past : List Occ) (s : Kept) (m : Option ℕ) (n : Native) → s.running ≡ true → s.from ≤ length past
    → measured m book past (stopped past s) n ≡ measured m book past s n
measured-stop book past s None n runs inside = weighed-stop (weight_of n s.set.domain) past s runs inside
measured-stop book past s (Some slice) n runs inside =
    let numbers = groups (masks_of (set_natives book s.set)) in
    let t = turns_of slice numbers past s in
    let group = slice_index numbers (position_or_len (same_native n) (set_natives book s.set)) in
    ap (λ (c : ℕ). estimate c (total past s) (active t group (total past s))) (weighed-stop (weight_in_turn t group n s.set.domain) past s runs inside)

rested_is : (book : Book) (shape : Widths) (past : List Occ) (s : Kept) → s.running ≡ true → s.from ≤ length past
    → rested (map (measured s.set.slice book past s) (set_natives book s.set)) (slot_of book shape past s) ≡ slot_of book shape past (stopped past s)
rested_is book shape past s run inside =
    let t = stopped past s in
    let still = map_same (measured s.set.slice book past s) (measured s.set.slice book past t)
    (λ n. sym (measured-stop book past s s.set.slice n run inside)) in
    λ i. slot_with book shape t (counting.Stopped (still (set_natives book s.set) i))

-- ---- stop: the call

-- the units after it
units_stop : (book : Book) (core : CoreView) (a : Account) (k : ℕ) (s : Kept) (component : Option ℕ) (units : List UnitView) → CoreStands book core a
    → at a.sets k ≡ Some s → s.running ≡ true → s.set.component ≡ component
    → ((comp : ℕ) (ws : List ℕ) → s.set.component ≡ Some comp → slice_get core.shape comp ≡ Some ws → units ≡ slice_set core.units comp (empty_unit ws))
    → (s.set.component ≡ None → units ≡ core.units)
    → AreApart (faces_of (slice_set a.sets k (Some (stopped a.past s))))
    → units ≡ units_of book core.shape a.past (slice_set a.sets k (Some (stopped a.past s)))
units_stop book core a k s None units h e run is new same apart =
    same is ∙ units_without book core a k s (stopped a.past s) h apart (at-some a.sets k s e) is is
units_stop book core a k s (Some comp) units h e run is new same apart =
    let t : Kept = stopped a.past s in
    let ws = widths_on book core.shape s.set comp (fit_of book core a k s h e) is in
    let place = at-some a.sets k s e in
    let gone = runner_gone a.sets k comp s t h.apart place (runs_there s comp run is) (quiet_stopped t comp refl) in
    new comp ws.0 is ws.1 ∙ units_one book core a k comp ws.0 s t (empty_unit ws.0) None h apart place ws.1 is is gone refl

pub stop_follows : (book : Book) (core : CoreView) (k now : ℕ) (values : List ℤ) (units : List UnitView) (slot new : Slot) → Goes book core (call.Stop k)
    → now ≡ time_after core.last → at core.slots k ≡ Some slot → values ≡ values_shown book core.units now slot
    → ((comp : ℕ) (ws : List ℕ) → slot.set.rest.component ≡ Some comp → slice_get core.shape comp ≡ Some ws → units ≡ slice_set core.units comp (empty_unit ws))
    → (slot.set.rest.component ≡ None → units ≡ core.units)
    → new ≡ rested (numbers_shown core.units now slot) slot
    → Follows book core (with_both core units (slice_set core.slots k (Some new))) (call.Stop k) (done (body.Values values))
stop_follows book core k now values units slot new g time here says new_units same_units new_slot =
    put_follows book core units slot new (call.Stop k) (done (body.Values values)) k g tt refl (λ a. refl) here (λ a h u.
    let s = u.set in
    let run = runs_as u ∙ not-false (runs (slot_faces core.slots) k) (row_off book core (call.Stop k) 1 g.allowed) in
    let w = within_at (length a.past) a.sets k s h.within u.place in
    let first = w.in_order in let last = w.past in
    let was = sym u.is in
    let component = ap (λ (x : Slot). x.set.rest.component) was in
    let numbers = ap₂ (numbers_shown core.units) time was ∙ numbers_are book core a k h s u.at_set in
    let told = says ∙ ap₂ (values_shown book core.units) time was ∙ values_are book core a k s h u.at_set in
    record {
      slot = new_slot ∙ ap₂ rested numbers was ∙ rested_is book core.shape a.past s run (omega arith);
      units = λ apart. units_stop book core a k s s.set.component units h u.at_set run refl
          (λ comp ws c f. new_units comp ws (component ∙ c) f) (λ c. same_units (component ∙ c)) apart;
      reply = ap (λ (vs : List ℤ). done (body.Values vs)) told
          ∙ sym (ap (λ (o : Option Kept). done (option_map_or (λ x. body.Values (values_of book a.past x)) o body.Nothing)) u.at_set);
    })

-- ---- zero

-- what is kept of a set that is zeroed
pub slot_zeroed : (book : Book) (shape : Widths) (past : List Occ) (now : ℕ) → now ≡ clock past (length past) → (s : Kept)
    → zeroed_slot now (slot_of book shape past s) ≡ slot_of book shape past (zeroed (length past) s)
slot_zeroed book shape past now time = kept_cases _
    (λ s. let t = zeroed (length past) (record s { running = false }) in
    λ i. slot_with book shape t (counting.Stopped ((counted_none book past t refl refl) i)))
    (λ s. refl)
    (λ s slice.
    let t = started past (kept_as s true (Some slice)) in
    let gs = numbers_of book t.set in
    let counts = turned-start (turns_of slice gs past t) past t (set_natives book t.set) gs (numbers-length book t.set) in
    λ i. slot_with book shape t (counting.InTurns (rotation_of gs slice) (time i) ((sym counts) i)))

-- the same with other values of the caller
abbrev pub valued : List ℤ → Kept → Kept
valued values s = record s { values = values }

-- the set after it
abbrev anew : Account → List ℤ → Kept → Kept
anew a values s = zeroed (length a.past) (valued values s)

-- what is programmed of the pins of a set on its unit
registers_zeroed : (book : Book) (past : List Occ) (values : List ℤ) (ws : List ℕ) (s : Kept) → ArePinned ws (pins_of book s.set)
    → programs ws s.set.domain (λ n. 0) (pins_of book s.set) (running_registers book ws past s None)
    ≡ running_registers book ws past (started past (valued values s)) None
registers_zeroed book past values ws s at_pins =
    let d = s.set.domain in
    let none : List (Option Register) = replicate (length ws) None in
    let v = valued values s in
    programs-again ws d (λ n. 0) (count past s) (pins_of book s.set) none at_pins
    ∙ sym (programs-same ws d (count past (started past v)) (λ n. 0) (λ n. weighed-start (weight_of n d) past v) (pins_of book s.set) none)

-- the units after a set on its unit is zeroed
units_on : (book : Book) (core : CoreView) (a : Account) (k : ℕ) (s : Kept) (values : List ℤ) (component : Option ℕ) → CoreStands book core a
    → (let t = kept_as s true None in at a.sets k ≡ Some t → t.set.component ≡ component → AreApart (faces_of (slice_set a.sets k (Some (anew a values t))))
    → zeroed_on t.set.domain (pins_of book t.set) core.units component ≡ units_of book core.shape a.past (slice_set a.sets k (Some (anew a values t))))
units_on book core a k s values None h e is apart =
    let t = kept_as s true None in
    units_without book core a k t (anew a values t) h apart (at-some a.sets k t e) is is
units_on book core a k s values (Some comp) h e is apart =
    let t = kept_as s true None in
    let d = t.set.domain in
    let pins = pins_of book t.set in
    let fit = fit_of book core a k t h e in
    let ws = widths_on book core.shape t.set comp fit is in
    let at_pins = subst (λ (w : List ℕ). ArePinned w (pins_of book t.set)) (sym ws.2) (pinned book core.shape t.set fit refl) in
    let registers = registers_zeroed book a.past values ws.0 t at_pins in
    ap (zeroed_at d pins core.units comp) (unit_on book core a k comp t ws.0 h e refl is ws.1)
    ∙ units_run book core a k comp ws.0 t (anew a values t) _ h apart (at-some a.sets k t e) ws.1 is is refl
    (λ i. record { widths = ws.0; registers = registers i })

-- in turns nothing is programmed
units_turning : (book : Book) (core : CoreView) (a : Account) (k : ℕ) (s : Kept) (slice : ℕ) (values : List ℤ) (component : Option ℕ) → CoreStands book core a
    → (let t = kept_as s true (Some slice) in at a.sets k ≡ Some t → t.set.component ≡ component
    → AreApart (faces_of (slice_set a.sets k (Some (anew a values t))))
    → core.units ≡ units_of book core.shape a.past (slice_set a.sets k (Some (anew a values t))))
units_turning book core a k s slice values None h e is apart =
    let t = kept_as s true (Some slice) in
    units_without book core a k t (anew a values t) h apart (at-some a.sets k t e) is is
units_turning book core a k s slice values (Some comp) h e is apart =
    let t = kept_as s true (Some slice) in
    let ws = widths_on book core.shape t.set comp (fit_of book core a k t h e) is in
    sym (set-same core.units comp _ (unit_on book core a k comp t ws.0 h e refl is ws.1))
    ∙ units_run book core a k comp ws.0 t (anew a values t) _ h apart (at-some a.sets k t e) ws.1 is is refl refl

units_zeroed : (book : Book) (core : CoreView) (a : Account) (k : ℕ) (values : List ℤ) → CoreStands book core a → (s : Kept) → at a.sets k ≡ Some s
    → AreApart (faces_of (slice_set a.sets k (Some (anew a values s))))
    → zeroed_units (slot_of book core.shape a.past s) core.units ≡ units_of book core.shape a.past (slice_set a.sets k (Some (anew a values s)))
units_zeroed book core a k values h = kept_cases _
    (λ s e apart.
    let t = record s { running = false } in
    let new = anew a values t in
    units_rest book core a k (Some new) (Some t) h apart (at-some a.sets k t e) (λ c. quiet_stopped t c refl) (λ c. quiet_stopped new c refl))
    (λ s e apart. units_on book core a k s values s.set.component h e refl apart)
    (λ s slice e apart. units_turning book core a k s slice values s.set.component h e refl apart)

pub reset_follows : (book : Book) (core : CoreView) (k now : ℕ) (units : List UnitView) (slot new : Slot) → Goes book core (call.Reset k)
    → now ≡ time_after core.last → at core.slots k ≡ Some slot → units ≡ zeroed_units slot core.units → new ≡ zeroed_slot now slot
    → Follows book core (with_both core units (slice_set core.slots k (Some new))) (call.Reset k) (plain code.Ok)
reset_follows book core k now units slot new g time here new_units new_slot =
    put_follows book core units slot new (call.Reset k) (plain code.Ok) k g tt refl (λ a. refl) here (λ a h u.
    let was = sym u.is in
    record {
      slot = new_slot ∙ ap (zeroed_slot now) was ∙ slot_zeroed book core.shape a.past now (time ∙ now_is book core a h) u.set;
      units = λ apart. new_units ∙ ap (λ (x : Slot). zeroed_units x core.units) was ∙ units_zeroed book core a k u.set.values h u.set u.at_set apart;
      reply = refl;
    })

-- ---- accum

-- what is held of a set does not depend on the caller's values
slot_valued : (book : Book) (shape : Widths) (past : List Occ) (s : Kept) (values : List ℤ)
    → record (slot_of book shape past s) { values = values } ≡ slot_of book shape past (valued values s)
slot_valued book shape past s values = go s.running s.set.slice where
  go : (b : Bool) (m : Option ℕ) → record (slot_of book shape past (kept_as s b m)) { values = values }
      ≡ slot_of book shape past (valued values (kept_as s b m))
  go false None = refl
  go false (Some slice) = refl
  go true None = refl
  go true (Some slice) = refl

-- what the code asks for when it adds the values: there is one for each event
pub accum_lengths : {book : Book} {core : CoreView} (k now : ℕ) {more : List ℤ} {slot cleared : Slot} → AgreesWith book core → at core.slots k ≡ Some slot
    → more ≡ values_shown book core.units now slot → cleared ≡ zeroed_slot now slot
    → length more ≡ length cleared.values
accum_lengths {book} {core} k now {more} {slot} {cleared} agrees here says zeroes =
    let u = under book core agrees.account k slot agrees.stands here in
    ap length says
    ∙ length-map slot.set.rest.events (event_value book (number_in slot.set.natives (numbers_shown core.units now slot)))
    ∙ ap (λ (x : Slot). length x.set.rest.events) (sym u.is)
    ∙ sym (numbered (λ place. ForSome place IsValued) _ agrees.stands.fit.valued.each k (Some u.set) u.place u.set refl).one_each
    ∙ ap (λ (x : Slot). length x.values) u.is
    ∙ sym (ap (λ (x : Slot). length x.values) zeroes)

pub accum_follows : (book : Book) (core : CoreView) (k now : ℕ) (values more : List ℤ) (units : List UnitView) (slot cleared new : Slot)
    → Goes book core (call.Accum k) → now ≡ time_after core.last → at core.slots k ≡ Some slot → more ≡ values_shown book core.units now slot
    → units ≡ zeroed_units slot core.units → cleared ≡ zeroed_slot now slot → values ≡ sums cleared.values more → new ≡ slot_with_sums more cleared
    → Follows book core (with_both core units (slice_set core.slots k (Some new))) (call.Accum k) (done (body.Values values))
accum_follows book core k now values more units slot cleared new g time here says new_units zeroes adds new_slot =
    put_follows book core units slot new (call.Accum k) (done (body.Values values)) k g tt refl (λ a. refl) here (λ a h u.
    let s = u.set in
    let sum = accumulated book a.past s in
    let was = sym u.is in
    let is = zeroes ∙ ap (zeroed_slot now) was ∙ slot_zeroed book core.shape a.past now (time ∙ now_is book core a h) s in
    let told = says ∙ ap₂ (values_shown book core.units) time was ∙ values_are book core a k s h u.at_set in
    let added : sums cleared.values more ≡ sum = ap₂ (λ (x : Slot) (vs : List ℤ). sums x.values vs) is told in
    record {
      slot = new_slot ∙ ap₂ (λ (x : Slot) (vs : List ℤ). record x { values = vs }) is added
          ∙ slot_valued book core.shape a.past (zeroed (length a.past) s) sum;
      units = λ apart. new_units ∙ ap (λ (x : Slot). zeroed_units x core.units) was ∙ units_zeroed book core a k sum h s u.at_set apart;
      reply = ap (λ (vs : List ℤ). done (body.Values vs)) (adds ∙ added)
          ∙ sym (ap (λ (o : Option Kept). done (option_map_or (λ x. body.Values (accumulated book a.past x)) o body.Nothing)) u.at_set);
    })
