-- What calls reply of counters: by the account that follows the history of a thread's calls.
use Rattle.call_laws.proofs.Words.{ne_eqb, eqb_tells, ◌≡◌, ◌≢◌, ◌<◌, ◌≤◌, ◌^◌, inl, inr, ℕ, zero, suc, true, false, ◌==◌, List, [], ◌∷◌, length}
use Rattle.call_laws.proofs.Words.{take, refl, sym, ap, subst, ◌∙◌, arith, slice_get, Option, Some, None, Ok, option_map, option_map_or, EventRef}
use Rattle.call_laws.proofs.Words.{Native, Assignable, AreMasks, masks_of, assignable_of, mask_small, not_assignable_of, BookFits}
use Rattle.call_laws.proofs.Words.{EventFits, IsHeld, Book, natives_of_event, one_more_joins, alone, AtRest, Widths}
use Rattle.call_laws.proofs.Words.{cannot_take, clash_with, is_full, natives_with, set_natives, widths_at, Clash, Conflict, by_number, numbered}
use Rattle.call_laws.proofs.Words.{are_masks, joined_all, conflict_is_least, few_counters, Call, Body, Reply, Account, Kept, IsGood, at, face_of}
use Rattle.call_laws.proofs.Words.{faces_of, AreFit, IsFit, IsShape, conflict_row, first_of, assigned, done, plain, account_after, account_refusal}
use Rattle.call_laws.proofs.Words.{performed, step, unless, fit_stays, opening_fits, event_fits, get_some, at_map, AssignsLeast, ConflictsByCounters}
use Rattle.call_laws.proofs.Words.{ConflictsByTurns, IsByCounters, IsByTurns, IsFirstWithout, IsOpenTo, IsOverUnit, conflict, is_there, new_natives}
use Rattle.call_laws.proofs.Words.{Thread, answered, begun, is_ok, reply_after, runs_now, set_now}
use Rattle.std.specs.Prelude.{All, find, is_some}
use Rattle.papi_base.specs.declared.code.Code.TheVariants as code
use Rattle.call_type.specs.declared.call.Call.TheVariants as call
use Rattle.session_model.specs.declared.reply.Body.TheVariants as body
use Rattle.call_laws.proofs.Choosing.{least_chosen}
use Rattle.call_laws.proofs.Steps.{thread_follows}
use Rattle.call_laws.proofs.There.{thread_there}

-- ---- the set of the account

-- the account after a thread's calls
abbrev left : Thread → List Call → Account
left t calls = account_after t.book t.shape (begun t) calls

-- what the account keeps of a set that is there
record Held (t : Thread) (calls : List Call) (k : ℕ) : Type 0 where
  kept : Kept
  here : at (left t calls).sets k ≡ Some kept
  holds : kept.set ≡ set_now t.book k (answered t calls)
  runs_is : kept.running ≡ runs_now k (answered t calls)

held_set : (t : Thread) (calls : List Call) (k : ℕ) → is_there k (answered t calls) ≡ true → Held t calls k
held_set t calls k there = go (at (left t calls).sets k) refl (sym (thread_there t calls k) ∙ there) where
  go : (o : Option Kept) → at (left t calls).sets k ≡ o → is_some o ≡ true → Held t calls k
  go None e some = cc
  go (Some s) e some = record {
    kept = s;
    here = e;
    holds = ((thread_follows t calls).each k s e).holds;
    runs_is = ap (λ o. option_map_or (λ x. x.running) o false) (sym e) ∙ (thread_follows t calls).runs_is k;
  }

-- ---- what good calls keep

all_fit : (book : Book) (shape : Widths) (a : Account) (calls : List Call) → IsShape shape → BookFits shape book → All (IsGood book shape) calls
    → AreFit book shape a.sets → AreFit book shape (account_after book shape a calls).sets
all_fit book shape a [] is_shape fits good h = h
all_fit book shape a (c ∷ calls) is_shape fits good h =
    all_fit book shape (step book shape a c).account calls is_shape fits (λ k d below. good (suc k) d (omega arith))
    (fit_stays book shape a c is_shape fits (good 0 c (omega arith)) h)

held_fit : (t : Thread) (calls : List Call) (k : ℕ) (held : Held t calls k) → IsOverUnit t calls → IsFit t.book t.shape held.kept.set
held_fit t calls k held over =
    (all_fit t.book t.shape (begun t) calls over.counters over.presets over.events (opening_fits t.book t.shape t.number t.stream t.mark)).fit k held.kept
    (get_some (slice_get (left t calls).sets k) held.kept held.here)

over_before : (t : Thread) (c : Call) (calls : List Call) → IsOverUnit t (c ∷ calls) → IsOverUnit t calls
over_before t c calls over = record { counters = over.counters; presets = over.presets; events = λ i d below. over.events (suc i) d (omega arith) }

few_each : (shape : Widths) → IsShape shape → All (λ widths. length widths ≤ 32) shape
few_each shape h = by_number (λ (widths : List ℕ). length widths ≤ 32) shape h.few_counters

abbrev Small : Native → Type 0
Small n = n.allowed < 2 ^ 32

-- the natives of a fit set, and those of an event that fits
set_small : (book : Book) (shape : Widths) (s : AtRest) → IsFit book shape s → All Small (set_natives book s)
set_small book shape s h k d below = mask_small (length (widths_at shape s.component)) _ h.sound.few_counters (h.sound.in_range k d below)

with_small : (book : Book) (shape : Widths) (e : EventRef) (s : AtRest) → IsShape shape → BookFits shape book → IsHeld book e → EventFits shape e → IsFit book shape s
    → All Small (natives_with book e s)
with_small book shape e s is_shape book_fits held fits h =
    subst (All Small) (sym (one_more_joins book s.events e))
    (joined_all Small (set_natives book s) (natives_of_event book e) (set_small book shape s h)
    (by_number Small (natives_of_event book e) (λ i n q.
    mask_small (length (widths_at shape (Some n.comp))) n.allowed (few_counters shape n.comp (few_each shape is_shape)) (event_fits book shape e book_fits held fits i n q).has_counters)))

-- ---- the reply to an add that nothing else refuses

-- the reply if this is the conflict, if there is one
abbrev replied : Option Clash → Reply
replied o = option_map_or conflict o (plain code.Ok)

last_row : (o : Option Clash) → first_of (conflict_row o ∷ []) ≡ option_map Conflict o
last_row None = refl
last_row (Some clash) = refl

add_replied : (book : Book) (shape : Widths) (a : Account) (k : ℕ) (e : EventRef) (s : Kept) → at a.sets k ≡ Some s → s.running ≡ false
    → cannot_take book e s.set ≡ false → is_full book e s.set ≡ false
    → (step book shape a (call.Add k (Ok e))).reply ≡ replied (clash_with book e s.set)
add_replied book shape a k e s here rests takes room = ap (λ o. (unless o a (performed book shape a (call.Add k (Ok e)))).reply) refusal ∙ shown (clash_with book e s.set) where
  face : at (faces_of a.sets) k ≡ Some (face_of s)
  face = at_map face_of a.sets k ∙ ap (option_map face_of) here

  refusal : account_refusal book shape a (call.Add k (Ok e)) ≡ option_map Conflict (clash_with book e s.set)
  refusal = rw (face, rests, takes, room) (last_row (clash_with book e s.set))

  shown : (o : Option Clash) → (unless (option_map Conflict o) a (performed book shape a (call.Add k (Ok e)))).reply ≡ replied o
  shown None = refl
  shown (Some clash) = refl

-- the same by the history
add_after : (t : Thread) (calls : List Call) (k : ℕ) (e : EventRef) (held : Held t calls k) → IsOpenTo t (answered t calls) k e
    → reply_after t calls (call.Add k (Ok e)) ≡ replied (clash_with t.book e (set_now t.book k (answered t calls)))
add_after t calls k e held open_to =
    add_replied t.book t.shape (left t calls) k e held.kept held.here (held.runs_is ∙ open_to.at_rest)
    (ap (cannot_take t.book e) held.holds ∙ open_to.takes) (ap (is_full t.book e) held.holds ∙ open_to.room)
    ∙ ap (λ s. replied (clash_with t.book e s)) held.holds

-- ---- conflicts

-- PAPI_OK is no conflict
no_conflict : {P : Type 0} (r : Reply) (clash : Clash) → r ≡ plain code.Ok → r ≡ conflict clash → P
no_conflict r clash ok told = let both : true ≡ false = ap (λ (x : Reply). is_ok x.code) (sym ok ∙ told) in cc

-- what a reply names, if it is a conflict
abbrev named_in : Clash → Body → Clash
named_in other (body.Clash clash) = clash
named_in other b = other

one_conflict : (r : Reply) (first second : Clash) → r ≡ conflict first → r ≡ conflict second → first ≡ second
one_conflict r first second a b = ap (λ (x : Reply). named_in first x.body) (sym a ∙ b)

-- ---- a set that is not multiplexed

taken_is : (natives : List Native) (r : Reply) → r ≡ plain code.Ok → Assignable (masks_of natives) → IsByCounters natives r
taken_is natives r e fits = grind (arith, no_conflict)

by_counters : (book : Book) (e : EventRef) (s : AtRest) (r : Reply) → All Small (natives_with book e s) → is_full book e s ≡ false → s.slice ≡ None
    → r ≡ replied (clash_with book e s) → IsByCounters (natives_with book e s) r
by_counters book e s r small room none is = grind (arith, are_masks, taken_is, assignable_of, not_assignable_of, no_conflict, conflict_is_least, one_conflict)

pub conflicts_by_counters : ConflictsByCounters
conflicts_by_counters t calls k e over open_to none =
    let held = held_set t calls k open_to.there in
    let named = over.events 0 (call.Add k (Ok e)) (omega arith) in
    let fit : IsFit t.book t.shape (set_now t.book k (answered t calls)) = subst (IsFit t.book t.shape) held.holds (held_fit t calls k held (over_before t (call.Add k (Ok e)) calls over)) in
    by_counters t.book e (set_now t.book k (answered t calls)) (reply_after t calls (call.Add k (Ok e)))
    (with_small t.book t.shape e (set_now t.book k (answered t calls)) over.counters over.presets named.0 named.1 fit) open_to.room none (add_after t calls k e held open_to)

-- ---- a multiplexed set

abbrev first_without : List Native → Option Native
first_without ns = find (λ n. n.allowed == 0) ns

found_without : (ns : List Native) (place : ℕ) (n : Native) → slice_get ns place ≡ Some n → n.allowed ≡ 0 → All (λ m. m.allowed ≢ 0) (take place ns)
    → first_without ns ≡ Some n
found_without [] place n e none h = cc
found_without (x ∷ ns) zero n e none h = let same : x ≡ n = cc in rw (same, none) refl
found_without (x ∷ ns) (suc place) n e none h =
    let some : (x.allowed == 0) ≡ false = ne_eqb x.allowed 0 (h 0 x (omega arith)) in
    rw some (found_without ns place n e none (λ k d below. h (suc k) d (omega arith)))

one_more : (m : Native) (ms : List Native) → m.allowed ≢ 0 → All (λ n. n.allowed ≢ 0) ms → All (λ n. n.allowed ≢ 0) (m ∷ ms)
one_more m ms some h zero d below = some
one_more m ms some h (suc k) d below = h k d (omega arith)

is_without : (ns : List Native) (n : Native) → first_without ns ≡ Some n → IsFirstWithout ns n
is_without [] n e = cc
is_without (x ∷ ns) n e = elim (eqb_tells x.allowed 0) [
  | inl q ↦ let same : x ≡ n = (let here : Some x ≡ Some n = rw q.0 at e in cc) in record {
    place = 0;
    there = ap Some same;
    none = sym (ap (λ (m : Native). m.allowed) same) ∙ q.1;
    earlier = λ k d below. absurd (omega arith);
  }
  | inr q ↦
      let later = is_without ns n (rw q.0 at e) in
      record { place = suc later.place; there = later.there; none = later.none; earlier = one_more x (take later.place ns) q.1 later.earlier }
]

none_without : (ns : List Native) → first_without ns ≡ None → All (λ m. m.allowed ≢ 0) ns
none_without [] e = λ k d below. absurd (omega arith)
none_without (x ∷ ns) e = elim (eqb_tells x.allowed 0) [
  | inl q ↦ let here : Some x ≡ None = rw q.0 at e in cc
  | inr q ↦ one_more x ns q.1 (none_without ns (rw q.0 at e))
]

by_turns : (natives : List Native) (r : Reply) → r ≡ replied (option_map alone (first_without natives)) → IsByTurns natives r
by_turns natives r is = go (first_without natives) refl where
  go : (o : Option Native) → first_without natives ≡ o → IsByTurns natives r
  go None q =
      let ok : r ≡ plain code.Ok = is ∙ ap (λ o. replied (option_map alone o)) q in
      record {
        taken = ((λ h. none_without natives q), λ h. ok);
        conflicts = λ clash. (
          (λ told. no_conflict r clash ok told),
          λ (n, first, e). let both : None ≡ Some n = sym q ∙ found_without natives first.place n first.there first.none first.earlier in cc,
        );
      }
  go (Some n) q =
      let named : r ≡ conflict (alone n) = is ∙ ap (λ o. replied (option_map alone o)) q in
      let first : IsFirstWithout natives n = is_without natives n q in
      record {
        taken = (
          (λ ok. no_conflict r (alone n) ok named),
          λ all. absurd (numbered (λ m. m.allowed ≢ 0) natives all first.place n first.there first.none),
        );
        conflicts = λ clash. (
          (λ told. (n, first, one_conflict r clash (alone n) told named)),
          λ (m, other, e).
              let both : Some n ≡ Some m = sym q ∙ found_without natives other.place m other.there other.none other.earlier in
              let same : n ≡ m = cc in
              named ∙ ap (λ x. conflict (alone x)) same ∙ ap conflict (sym e),
        );
      }

pub conflicts_by_turns : ConflictsByTurns
conflicts_by_turns t calls k slice e open_to some =
    let held = held_set t calls k open_to.there in
    let s : AtRest = set_now t.book k (answered t calls) in
    let clash : clash_with t.book e s ≡ option_map alone (first_without (new_natives t s e)) = rw some refl in
    by_turns (new_natives t s e) (reply_after t calls (call.Add k (Ok e))) (add_after t calls k e held open_to ∙ ap replied clash)

-- ---- the counters that are chosen

assign_replied : (book : Book) (shape : Widths) (a : Account) (k : ℕ) (s : Kept) → at a.sets k ≡ Some s → s.set.slice ≡ None
    → (step book shape a (call.Assign k)).reply ≡ done (body.Assigned (assigned book s.set))
assign_replied book shape a k s here none = ap (λ o. (unless o a (performed book shape a (call.Assign k))).reply) refusal ∙ ap (λ o. done (option_map_or (λ x. body.Assigned (assigned book x.set)) o body.Nothing)) here where
  face : at (faces_of a.sets) k ≡ Some (face_of s)
  face = at_map face_of a.sets k ∙ ap (option_map face_of) here

  refusal : account_refusal book shape a (call.Assign k) ≡ None
  refusal = rw (face, none) refl

pub assigns_least : AssignsLeast
assigns_least t calls k over there none =
    let held = held_set t calls k there in
    let s : AtRest = set_now t.book k (answered t calls) in
    let fit : IsFit t.book t.shape s = subst (IsFit t.book t.shape) held.holds (held_fit t calls k held (over_before t (call.Assign k) calls over)) in
    let masks : AreMasks (masks_of (set_natives t.book s)) = are_masks 32 (set_natives t.book s) (omega arith) (set_small t.book t.shape s fit) in
    record {
      counters = (assigned t.book s).counters;
      shows = assign_replied t.book t.shape (left t calls) k held.kept held.here (ap (λ (x : AtRest). x.slice) held.holds ∙ none) ∙ ap (λ x. done (body.Assigned (assigned t.book x))) held.holds;
      least = least_chosen (masks_of (set_natives t.book s)) masks (fit.sound.assignable none);
    }
