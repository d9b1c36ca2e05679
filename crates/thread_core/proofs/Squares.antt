-- What an occurrence does to what is kept of a set is what is kept after one occurrence more.
use Rattle.thread_core.proofs.Words.{Widths, Option, ℕ, IsShape, AreWidths, widths_at, None, arith, Some, slice_get, refl, List, ◌≡◌, unwrap_or, []}
use Rattle.thread_core.proofs.Words.{replicate, zero, suc, ◌+◌, Book, Native, Occ, Kept, EventRef, get_or, ◌==◌, passes, lead, ◌++◌, passed_from, ◌∷◌}
use Rattle.thread_core.proofs.Words.{cond-false, ne_eqb, ap, ◌∙◌, if◌then◌else◌, Bool, true, false, ◌≤◌, length, IsFit, last_after, count, pins_of}
use Rattle.thread_core.proofs.Words.{runs, plain, ◌-◌, set_natives, counters_for, held_have_natives, all_at, IsHeld, position_or_len, same_native}
use Rattle.thread_core.proofs.Words.{get_position, lead_among, slice_get_within, placed, get_at, option_map_or, get_or_from_slice_get, get-pins_from}
use Rattle.thread_core.proofs.Words.{Pin, period, weight_of, pinned, nat_lt, ◌/◌, sym, UnitView, running_registers, Counted, slot_of, Slot, slot_with}
use Rattle.thread_core.proofs.Words.{counting_by, ap₂, Register, Turns, turned, weighed_running, weight_in_turn, weighed, AtRest, numbers_of}
use Rattle.thread_core.proofs.Words.{masks_of, length-map, counted, length-replicate, programs, programs-same, clock, clock_stays, turns_of, IsWithin}
use Rattle.thread_core.proofs.Words.{map_same, measured, runs_on, face_of, ◌&&◌, eq-eqb, Domain, set, register_at, pin_made, place_of_lead}
use Rattle.thread_core.proofs.Words.{armed_from, armed_event, armed_of, threshold_is, period_some, with_turn, carry_of, group_at, all_moved}
use Rattle.thread_core.proofs.Words.{all_moved-programs, all_moved-none, le-ltb, rotation_of, carried_from, bit_at, AreTold, pin_passes, pin_carries}
use Rattle.thread_core.proofs.Words.{each_has_group}
use Rattle.thread_slots.specs.declared.slot.Counting.TheVariants as counting
use Rattle.thread_core.proofs.Weighing.{count_more, measured_stopped, weight_none, turn_none}

pub widths_are : (shape : Widths) (component : Option ℕ) → IsShape shape → AreWidths (widths_at shape component)
widths_are shape None h = record { low = λ k below. absurd (omega arith); high = λ k below. absurd (omega arith) }
widths_are shape (Some comp) h = go (slice_get shape comp) refl where
  go : (o : Option (List ℕ)) → slice_get shape comp ≡ o → AreWidths (unwrap_or (slice_get shape comp) [])
  go None e = rw e (record { low = λ k below. absurd (omega arith); high = λ k below. absurd (omega arith) })
  go (Some ws) e = rw e (h.widths comp ws e)

none_passed : (index carry n : ℕ) → carried_from index carry (replicate n None) ≡ []
none_passed index carry zero = refl
none_passed index carry (suc n) = none_passed (index + 1) carry n

-- what the carries say of the events, by index
passed_is : (book : Book) (ns : List Native) (counters : List ℕ) (carry : ℕ) (past : List Occ) (s : Kept) (o : Occ) (n index : ℕ) (events : List EventRef) (thresholds : List ℕ)
    → ((k t : ℕ) (e : EventRef) → slice_get events k ≡ Some e → slice_get thresholds k ≡ Some (suc t) → (bit_at carry (get_or counters (place_of_lead book ns e) 0) == 1) ≡ passes past s o (lead book e) (suc t))
    → carried_from index carry (armed_from book ns counters events thresholds ++ replicate n None) ≡ passed_from book past s o index events thresholds
passed_is book ns counters carry past s o n index [] ts h = none_passed index carry n
passed_is book ns counters carry past s o n index (e ∷ es) [] h = none_passed index carry n
passed_is book ns counters carry past s o n index (e ∷ es) (zero ∷ ts) h = passed_is book ns counters carry past s o n (index + 1) es ts (λ k t f g i. h (suc k) t f g i)
passed_is book ns counters carry past s o n index (e ∷ es) (suc t ∷ ts) h =
    let rest = passed_is book ns counters carry past s o n (index + 1) es ts (λ k u f g i. h (suc k) u f g i) in
    let armed : armed_event book ns counters e (suc t) ≡ Some (get_or counters (place_of_lead book ns e) 0) = cond-false (suc t == 0) None (Some (get_or counters (place_of_lead book ns e) 0)) (ne_eqb (suc t) 0 (λ z. absurd (omega arith))) in
    let tail = armed_from book ns counters es ts ++ replicate n None in
    ap (λ x. carried_from index carry (x ∷ tail)) armed
    ∙ ap (λ b. if b then index ∷ carried_from (index + 1) carry tail else carried_from (index + 1) carry tail) (h 0 t e refl refl)
    ∙ joined (passes past s o (lead book e) (suc t)) (carried_from (index + 1) carry tail)
    ∙ ap (λ xs. (if passes past s o (lead book e) (suc t) then index ∷ [] else []) ++ xs) rest where
      joined : (b : Bool) (xs : List ℕ) → (if b then index ∷ xs else xs) ≡ (if b then index ∷ [] else []) ++ xs
      joined true xs = refl
      joined false xs = refl

-- the passings of the events of a set that runs
events_passed : (book : Book) (shape : Widths) (past : List Occ) (o : Occ) (s : Kept) (carry : ℕ) → s.running ≡ true → s.from ≤ length past
    → IsShape shape → IsFit book shape s.set → s.set.slice ≡ None → o.amount ≤ 255
    → AreTold (last_after None past) o (widths_at shape s.set.component) s.set.domain (count past s) carry (pins_of book s.set)
    → carried_from 0 carry (armed_of book s.set) ≡ passed_from book past s o 0 s.set.events s.set.thresholds
events_passed book shape past o s carry runs inside shapely fit plain small told =
    passed_is book (set_natives book s.set) (counters_for (set_natives book s.set)) carry past s o (32 - length s.set.events) 0
    s.set.events s.set.thresholds (λ k t e is at.
    let ws = widths_at shape s.set.component in
    let natives = set_natives book s.set in
    let counters = counters_for natives in
    let led = held_have_natives book e (all_at (IsHeld book) s.set.events k e fit.agrees.held is) in
    let n = led.0 in
    let place = position_or_len (same_native n) natives in
    let native : slice_get natives place ≡ Some n = get_position n natives (lead_among book s.set k e n is led.1) in
    let below = slice_get_within natives place n native in
    let set = placed book shape s.set fit plain in
    let counter = get_at counters place (let same = set.one_each in omega arith) in
    let c : get_or counters (place_of_lead book natives e) 0 ≡ counter.0 =
    ap (λ (x : Option Native). get_or counters (option_map_or (λ m. position_or_len (same_native m) natives) x (length natives)) 0) led.1
    ∙ get_or_from_slice_get counters place counter.0 0 counter.1 in
    let w = get_or ws counter.0 0 in
    let pin = get-pins_from book s.set natives counters place n counter.0 native counter.1 in
    let t_is = threshold_is book shape s.set k e t n fit is at led.1 in
    let p : Pin = record { native = n; counter = counter.0; threshold = _ } in
    let period_is : period w p.threshold ≡ suc t = ap (period w) t_is ∙ period_some w (suc t) (omega arith) in
    let d = s.set.domain in
    let weight = weight_of n d (last_after None past) o in
    let passing = pin_passes (last_after None past) o ws d (count past s) carry (pins_of book s.set) place p
    (widths_are shape s.set.component shapely) (pinned book shape s.set fit plain) small told pin in
    ap (λ (x : ℕ). bit_at carry x == 1) c
    ∙ passing
    ∙ ap (λ (x : ℕ). nat_lt (count past s n / x) ((count past s n + weight) / x)) period_is
    ∙ ap (λ (x : ℕ). nat_lt (count past s n / suc t) (x / suc t)) (sym (count_more past o s n runs inside))
    ∙ sym (ap (λ (x : Option Native). passes past s o x (suc t)) led.1))

-- the unit of a running set
abbrev pub unit_by : Book → Widths → List Occ → Kept → UnitView
unit_by book shape past s = record { widths = widths_at shape s.set.component; registers = running_registers book (widths_at shape s.set.component) past s s.set.slice }

-- what the account says after an occurrence
abbrev pub after : Book → Widths → List Occ → Occ → Kept → Counted
after book shape past o s = record { unit = unit_by book shape (past ++ o ∷ []) s; slot = slot_of book shape (past ++ o ∷ []) s; passed = passed_from book past s o 0 s.set.events s.set.thresholds }

-- what is held of a running set, and of a stopped one
abbrev pub running_slot : Book → Widths → List Occ → Kept → Option ℕ → Slot
running_slot book shape past s m = slot_with book shape s (counting_by book past s true m)

abbrev pub stopped_slot : Book → Widths → List Occ → Kept → Slot
stopped_slot book shape past s = slot_with book shape s (counting_by book past s false s.set.slice)

pub slot_of-stopped : (book : Book) (shape : Widths) (past : List Occ) (s : Kept) → s.running ≡ false → slot_of book shape past s ≡ stopped_slot book shape past s
slot_of-stopped book shape past s stopped = ap (λ (b : Bool). slot_with book shape s (counting_by book past s b s.set.slice)) stopped

-- what holds of each stopped set, of each that runs on its unit, and of each whose natives take turns, holds of all
abbrev pub kept_as : Kept → Bool → Option ℕ → Kept
kept_as s running slice = record s { running = running; set = record (s.set) { slice = slice } }

pub kept_cases : (P : Kept → Type 0) → ((s : Kept) → P (record s { running = false })) → ((s : Kept) → P (kept_as s true None))
    → ((s : Kept) (slice : ℕ) → P (kept_as s true (Some slice))) → (s : Kept) → P s
kept_cases P stopped plain turns s = go s.running s.set.slice where
  go : (b : Bool) (m : Option ℕ) → P (kept_as s b m)
  go false m = stopped (kept_as s true m)
  go true None = plain s
  go true (Some slice) = turns s slice

-- each native's count in turns, one occurrence later
pub turned_more : (past : List Occ) (o : Occ) (s : Kept) (t u : Turns) (ns : List Native) (gs : List ℕ) → t ≡ u → s.running ≡ true → s.from ≤ length past
    → with_turn s.set.domain (last_after None past) o (group_at t (o.stamp - t.start)) ns gs (turned t past s ns gs) ≡ turned u (past ++ o ∷ []) s ns gs
turned_more past o s t u [] gs same runs inside = refl
turned_more past o s t u (n ∷ ns) [] same runs inside = refl
turned_more past o s t u (n ∷ ns) (g ∷ gs) same runs inside =
    ap₂ ◌∷◌ (sym (weighed_running (weight_in_turn t g n s.set.domain) past o s runs inside) ∙ ap (λ (x : Turns). weighed (weight_in_turn x g n s.set.domain) (past ++ o ∷ []) s) same)
    (turned_more past o s t u ns gs same runs inside)

pub numbers-length : (book : Book) (s : AtRest) → length (numbers_of book s) ≡ length (set_natives book s)
numbers-length book s = each_has_group (masks_of (set_natives book s)) ∙ length-map (set_natives book s) (λ (n : Native). n.allowed)

-- if none of them passes its threshold
pub none_passing : (book : Book) (past : List Occ) (s : Kept) (o : Occ) (index : ℕ) (events : List EventRef) (thresholds : List ℕ)
    → ((k t : ℕ) (e : EventRef) → slice_get events k ≡ Some e → slice_get thresholds k ≡ Some t → passes past s o (lead book e) t ≡ false)
    → passed_from book past s o index events thresholds ≡ []
none_passing book past s o index [] ts h = refl
none_passing book past s o index (e ∷ es) [] h = refl
none_passing book past s o index (e ∷ es) (t ∷ ts) h =
    ap (λ (b : Bool). (if b then index ∷ [] else []) ++ passed_from book past s o (index + 1) es ts) (h 0 t e refl refl)
    ∙ none_passing book past s o (index + 1) es ts (λ k u f is at. h (suc k) u f is at)

pub counted_follows : (book : Book) (shape : Widths) (past : List Occ) (o : Occ) (s : Kept) → IsShape shape → IsFit book shape s.set → s.running ≡ true
    → s.from ≤ length past → o.amount ≤ 255
    → counted (last_after None past) o (unit_by book shape past s) (slot_of book shape past s) ≡ after book shape past o s
counted_follows book shape past o s shapely = kept_cases (λ s. IsFit book shape s.set → s.running ≡ true → s.from ≤ length past → o.amount ≤ 255
    → counted (last_after None past) o (unit_by book shape past s) (slot_of book shape past s) ≡ after book shape past o s)
    (λ s fit runs inside small. cc)
    (λ s fit runs inside small.
    let t = kept_as s true None in
    let b = last_after None past in
    let more = past ++ o ∷ [] in
    let ws = widths_at shape t.set.component in
    let d = t.set.domain in
    let pins = pins_of book t.set in
    let none : List (Option Register) = replicate (length ws) None in
    let cnt : Native → ℕ = count past t in
    let widths = widths_are shape t.set.component shapely in
    let none_length : length none ≡ length ws = length-replicate (length ws) None in
    let carry = carry_of b o (unit_by book shape past t) in
    let are = pinned book shape t.set fit refl in
    let told : AreTold b o ws d cnt carry pins = record { each = λ k p e. pin_carries b o ws d cnt pins none k p are none_length e } in
    let counts : (n : Native) → cnt n + weight_of n d b o ≡ count more t n = λ n. sym (count_more past o t n runs inside) in
    let registers : all_moved b o ws (programs ws d cnt pins none) ≡ programs ws d (count more t) pins none =
    all_moved-programs b o ws d cnt pins none widths are small none_length
    ∙ ap (programs ws d (λ n. cnt n + weight_of n d b o) pins) (all_moved-none b o ws)
    ∙ programs-same ws d (λ n. cnt n + weight_of n d b o) (count more t) counts pins none in
    let passed = events_passed book shape past o t carry runs inside shapely fit refl small told in
    λ i. record { unit = record { widths = ws; registers = registers i }; slot = running_slot book shape past t None; passed = passed i })
    (λ s slice fit runs inside small.
    let t = kept_as s true (Some slice) in
    let more = past ++ o ∷ [] in
    let numbers = numbers_of book t.set in
    let begun : clock past t.from ≡ clock more t.from = sym (clock_stays past o t.from inside) in
    let turns = turns_of slice numbers past t in
    let later : turns ≡ turns_of slice numbers more t = ap (λ (c : ℕ). record turns { start = c }) begun in
    let kept = turned_more past o t turns (turns_of slice numbers more t) (set_natives book t.set) numbers later runs inside in
    let zeros = (fit.sound.shared slice refl).no_thresholds in
    let silent = none_passing book past t o 0 t.set.events t.set.thresholds (λ k x e is at.
    ap (passes past t o (lead book e)) (all_at (λ y. y ≡ 0) t.set.thresholds k x zeros at)) in
    λ i. record {
      unit = unit_by book shape past t;
      slot = slot_with book shape t (counting.InTurns (rotation_of numbers slice) (begun i) (kept i));
      passed = (sym silent) i;
    })
    s

-- a stopped set is kept as it is
pub stopped_stays : (book : Book) (shape : Widths) (past : List Occ) (o : Occ) (s : Kept) → s.running ≡ false → IsWithin (length past) s → slot_of book shape (past ++ o ∷ []) s ≡ slot_of book shape past s
stopped_stays book shape past o s stopped w =
    slot_of-stopped book shape (past ++ o ∷ []) s stopped
    ∙ ap (λ (ks : List ℕ). slot_with book shape s (counting.Stopped ks))
    (map_same (measured s.set.slice book (past ++ o ∷ []) s) (measured s.set.slice book past s)
    (λ n. measured_stopped book past o s s.set.slice n stopped w) (set_natives book s.set))
    ∙ sym (slot_of-stopped book shape past s stopped)

-- ---- a set that runs on another component is kept as it is, and notes nothing

-- the set runs, but not on the occurrence's component
pub record IsElsewhere (book : Book) (o : Occ) (s : Kept) : Type 0 where
  pub running : s.running ≡ true
  pub natives : (i : ℕ) (n : Native) → slice_get (set_natives book s.set) i ≡ Some n → n.comp ≡ o.comp → ⊥

pub elsewhere : (book : Book) (shape : Widths) (o : Occ) (s : Kept) → IsFit book shape s.set → s.running ≡ true → runs_on (Some o.comp) (Some (face_of s)) ≡ false → IsElsewhere book o s
elsewhere book shape o s fit runs not_here = record {
  running = runs;
  natives = λ i n e same.
      let own = all_at (λ (x : Native). s.set.component ≡ Some x.comp) (set_natives book s.set) i n fit.sound.owned e in
      let here : runs_on (Some o.comp) (Some (face_of s)) ≡ true = ap (λ b. b && option_map_or (λ c. c == o.comp) s.set.component false) runs ∙ ap (λ (x : Option ℕ). option_map_or (λ c. c == o.comp) x false) own ∙ eq-eqb n.comp o.comp same in
      cc;
}

pub count_elsewhere : (book : Book) (past : List Occ) (o : Occ) (s : Kept) (i : ℕ) (n : Native) → IsElsewhere book o s → s.from ≤ length past → slice_get (set_natives book s.set) i ≡ Some n → count (past ++ o ∷ []) s n ≡ count past s n
count_elsewhere book past o s i n h inside e = let none = weight_none n s.set.domain (last_after None past) o (h.natives i n e) in count_more past o s n h.running inside ∙ (let w = none in omega arith)

turned_elsewhere : (past : List Occ) (o : Occ) (s : Kept) (t u : Turns) (ns : List Native) (gs : List ℕ) → t ≡ u → s.running ≡ true → s.from ≤ length past → ((i : ℕ) (n : Native) → slice_get ns i ≡ Some n → n.comp ≡ o.comp → ⊥)
    → turned u (past ++ o ∷ []) s ns gs ≡ turned t past s ns gs
turned_elsewhere past o s t u [] gs same runs inside h = refl
turned_elsewhere past o s t u (n ∷ ns) [] same runs inside h = refl
turned_elsewhere past o s t u (n ∷ ns) (g ∷ gs) same runs inside h =
    let none = turn_none t g n s.set.domain (last_after None past) o (weight_none n s.set.domain (last_after None past) o (h 0 n refl)) in
    let first : weighed (weight_in_turn t g n s.set.domain) (past ++ o ∷ []) s ≡ weighed (weight_in_turn t g n s.set.domain) past s = weighed_running (weight_in_turn t g n s.set.domain) past o s runs inside ∙ (let w = none in omega arith) in
    ap₂ ◌∷◌ (ap (λ (x : Turns). weighed (weight_in_turn x g n s.set.domain) (past ++ o ∷ []) s) (sym same) ∙ first) (turned_elsewhere past o s t u ns gs same runs inside (λ i m e. h (suc i) m e))

programs-same_on : (ws : List ℕ) (d : Domain) (f g : Native → ℕ) (pins : List Pin) (rs : List (Option Register)) → ((k : ℕ) (p : Pin) → slice_get pins k ≡ Some p → f p.native ≡ g p.native) → programs ws d f pins rs ≡ programs ws d g pins rs
programs-same_on ws d f g [] rs h = refl
programs-same_on ws d f g (p ∷ ps) rs h =
    programs-same_on ws d f g ps (set rs p.counter (Some (register_at (get_or ws p.counter 0) p.native d p.threshold (f p.native)))) (λ k q e. h (suc k) q e)
    ∙ ap (λ k. programs ws d g ps (set rs p.counter (Some (register_at (get_or ws p.counter 0) p.native d p.threshold k)))) (h 0 p refl)

count_of_pin : (book : Book) (past : List Occ) (o : Occ) (s : Kept) → IsElsewhere book o s → s.from ≤ length past → (k : ℕ) (p : Pin) → slice_get (pins_of book s.set) k ≡ Some p → count (past ++ o ∷ []) s p.native ≡ count past s p.native
count_of_pin book past o s h inside k p e = count_elsewhere book past o s k p.native h inside (pin_made book s.set (set_natives book s.set) (counters_for (set_natives book s.set)) k p e).native

pub registers_elsewhere : (book : Book) (ws : List ℕ) (past : List Occ) (o : Occ) (s : Kept) (m : Option ℕ) → IsElsewhere book o s → s.from ≤ length past → running_registers book ws (past ++ o ∷ []) s m ≡ running_registers book ws past s m
registers_elsewhere book ws past o s None h inside = programs-same_on ws s.set.domain (count (past ++ o ∷ []) s) (count past s) (pins_of book s.set) (replicate (length ws) None) (count_of_pin book past o s h inside)
registers_elsewhere book ws past o s (Some slice) h inside = refl

pub slot_elsewhere : (book : Book) (shape : Widths) (past : List Occ) (o : Occ) (s : Kept) → IsElsewhere book o s → s.from ≤ length past
    → slot_of book shape (past ++ o ∷ []) s ≡ slot_of book shape past s
slot_elsewhere book shape past o = kept_cases _
    (λ s h inside. let runs = h.running in cc)
    (λ s h inside. refl)
    (λ s slice h inside.
    let t = kept_as s true (Some slice) in
    let numbers = numbers_of book t.set in
    let begun : clock (past ++ o ∷ []) t.from ≡ clock past t.from = clock_stays past o t.from inside in
    let turns = turns_of slice numbers past t in
    let same : turns ≡ turns_of slice numbers (past ++ o ∷ []) t = ap (λ (c : ℕ). record turns { start = c }) (sym begun) in
    let kept = turned_elsewhere past o t turns (turns_of slice numbers (past ++ o ∷ []) t) (set_natives book t.set) numbers same h.running inside h.natives in
    λ i. slot_with book shape t (counting.InTurns (rotation_of numbers slice) (begun i) (kept i)))

-- it passes no threshold
pub passing_elsewhere : (book : Book) (shape : Widths) (past : List Occ) (o : Occ) (s : Kept) → IsElsewhere book o s → s.from ≤ length past → passed_from book past s o 0 s.set.events s.set.thresholds ≡ []
passing_elsewhere book shape past o s h inside = none_passing book past s o 0 s.set.events s.set.thresholds (λ k t e is at. none (lead book e) t (λ n led.
    count_elsewhere book past o s _ n h inside (get_position n (set_natives book s.set) (lead_among book s.set k e n is led)))) where
      none : (x : Option Native) (t : ℕ) → ((n : Native) → x ≡ Some n → count (past ++ o ∷ []) s n ≡ count past s n) → passes past s o x t ≡ false
      none x zero g = refl
      none None (suc t) g = refl
      none (Some n) (suc t) g = ap (λ (c : ℕ). nat_lt (count past s n / suc t) (c / suc t)) (g n refl) ∙ le-ltb (count past s n / suc t) (count past s n / suc t) (omega arith)
