-- A core in which a set that does not run is changed: its settings, its events, and whether it is there.
use Rattle.thread_core.proofs.Words.{Option, Occ, ℕ, List, Kept, ◌≡◌, false, weighed, ◌-◌, arith, refl, total, length, ◌∙◌, sym, ap, clock, Book}
use Rattle.thread_core.proofs.Words.{Native, measured, None, weight_of, Some, Turns, estimated_in, ap₂, estimate, active, weight_in_turn, map}
use Rattle.thread_core.proofs.Words.{replicate, [], ◌∷◌, set_natives, Widths, slot_of, Slot, kept_after, Err, map_same, CoreView, Account, at}
use Rattle.thread_core.proofs.Words.{slot_faces, Bool, Face, Code, code_before, refusal_of, Plain, is_absent, Enoevst, nat_le, runs, Ok, AtRest}
use Rattle.thread_core.proofs.Words.{option_map, here, not, Einval, Ecombo, is_multiplexed, EventRef, if◌then◌else◌, is_some, AgreesWith, ◌<◌}
use Rattle.thread_core.proofs.Words.{is_on_sets, true, IsFor, IsGood, sets_after, new_kept, change, reply_over, sight_of_kept, plain, Follows, Result}
use Rattle.thread_core.proofs.Words.{slice_set, subst, rest_code, Refusal, IsNamed, added, refused, list_all, free, slice_get, ◌+◌, suc, done}
use Rattle.thread_core.proofs.Words.{map_put, slot_after, changing_call, change_refusal, lacks_component, Enocmp, Eisrun, Ecount, has_event, is_other}
use Rattle.thread_core.proofs.Words.{is_bad_domain, is_bad_slice, is_armed, cannot_arm, is_bad_threshold, shares_native, cannot_take, is_full}
use Rattle.thread_core.proofs.Words.{clash_with, conflict_of, Conflict, ⊤, OnOk, IfErr, OnErr, changed_reply, new_slot, free_map, slot_with_event}
use Rattle.thread_core.proofs.Words.{slot_with, counting_by, set-same, at-some, face_of, set_view, Change, add_refusal, Clash, splat_is_map}
use Rattle.session_model.specs.declared.reply.Body.TheVariants as body
use Rattle.call_type.specs.declared.call.Call.TheVariants as call
use Rattle.papi_base.specs.declared.code.Code.TheVariants as code
use Rattle.thread_slots.specs.declared.changing.Change.TheVariants as made
use Rattle.thread_core.proofs.Squares.{slot_of-stopped}
use Rattle.thread_core.proofs.Looking.{named, Under, under, runs_as, put_follows, units_rest, row_off}
use Rattle.thread_slots.specs.declared.slot.Counting.TheVariants as counting
use Rattle.thread_core.proofs.Following.{faces_stand, check_comes, codes_refuse, check_fails, none_comes, all_some_of_map, refused_follows, with_both, Goes, done_follows}
use Rattle.thread_core.proofs.Owners.{quiet_stopped}

-- ---- what is held

-- a stopped set with an empty window has counted nothing
weighed_empty : (weigh : Option Occ → Occ → ℕ) (past : List Occ) (s : Kept) → s.running ≡ false → s.from ≡ s.to → weighed weigh past s ≡ 0
weighed_empty weigh past s stopped same =
    let none : s.to - s.from ≡ 0 = omega arith in
    rw (stopped, none) refl

total_empty : (past : List Occ) (s : Kept) → s.running ≡ false → s.from ≡ s.to → total past s ≡ 0
total_empty past s stopped same = rw stopped (omega (arith, ap (clock past) same))

measured_empty : (book : Book) (past : List Occ) (s : Kept) (m : Option ℕ) (n : Native) → s.running ≡ false → s.from ≡ s.to → measured m book past s n ≡ 0
measured_empty book past s None n stopped same = weighed_empty (weight_of n s.set.domain) past s stopped same
measured_empty book past s (Some slice) n stopped same = go _ _ where
  go : (t : Turns) (group : ℕ) → estimated_in past s t group n ≡ 0
  go t group = ap₂ (λ (c e : ℕ). estimate c e (active t group e)) (weighed_empty (weight_in_turn t group n s.set.domain) past s stopped same) (total_empty past s stopped same)

-- a stopped set that has counted nothing
pub counted_none : (book : Book) (past : List Occ) (t : Kept) → t.running ≡ false → t.from ≡ t.to
    → replicate (length (set_natives book t.set)) 0 ≡ map (measured t.set.slice book past t) (set_natives book t.set)
counted_none book past t stopped same =
    splat_is_map (set_natives book t.set) (length (set_natives book t.set)) 0 refl
    ∙ map_same (λ n. 0) (measured t.set.slice book past t) (λ n. sym (measured_empty book past t t.set.slice n stopped same)) (set_natives book t.set)

-- what is held of a stopped set, by its counts
pub put_stopped : (book : Book) (shape : Widths) (past : List Occ) (t : Kept) (ks : List ℕ) → t.running ≡ false
    → ks ≡ map (measured t.set.slice book past t) (set_natives book t.set) → slot_with book shape t (counting.Stopped ks) ≡ slot_of book shape past t
put_stopped book shape past t ks still same =
    ap (λ (xs : List ℕ). slot_with book shape t (counting.Stopped xs)) same ∙ sym (slot_of-stopped book shape past t still)

-- the component does not show in what was counted
measured_same : (book : Book) (past : List Occ) (s : Kept) (comp : ℕ) (m : Option ℕ) (n : Native)
    → measured m book past s n ≡ measured m book past (record s { set = record (s.set) { component = Some comp } }) n
measured_same book past s comp None n = refl
measured_same book past s comp (Some slice) n = refl

-- what a change leaves of a stopped set, which does not run after it
slot_is : (book : Book) (shape : Widths) (past : List Occ) (k : ℕ) (m : Change) (s : Kept) → s.running ≡ false
    → (slot_after book shape m (slot_of book shape past s) ≡ slot_of book shape past (kept_after book past (changing_call k m) s))
    × ((kept_after book past (changing_call k m) s).running ≡ false)
slot_is book shape past k (made.Remove (Err x)) s stopped = (refl, stopped)
slot_is book shape past k (made.Overflow (Err x) t) s stopped = (refl, stopped)
slot_is book shape past k (made.AssignComponent comp) s stopped =
    let t : Kept = record s { set = record (s.set) { component = Some comp } } in
    let counts = map_same (measured s.set.slice book past s) (measured s.set.slice book past t) (measured_same book past s comp s.set.slice) in (
      ap (λ (b : Bool). slot_with book shape t (counting_by book past s b s.set.slice)) stopped
          ∙ put_stopped book shape past t _ stopped (counts (set_natives book s.set)),
      stopped,
    )
slot_is book shape past k m s stopped =
    let t : Kept = kept_after book past (changing_call k m) s in
    (put_stopped book shape past t _ stopped (counted_none book past t stopped refl), stopped)

-- ---- refusals

-- if a code comes before the set is asked, the table says so
pub before_refuses : (book : Book) (shape : Widths) (registered : Bool) (faces : List (Option Face)) (k : ℕ) (m : Change) (c : Code)
    → code_before shape faces k m ≡ Some c → refusal_of book shape registered faces (changing_call k m) ≡ Some (Plain c)
before_refuses book shape registered faces k (made.AssignComponent comp) c h = check_comes ((is_absent faces k, Enoevst) ∷ (nat_le (length shape) comp, Enocmp) ∷ (runs faces k, Eisrun) ∷ []) _ c h
before_refuses book shape registered faces k (made.Remove (Ok e)) c h = check_comes ((is_absent faces k, Enoevst) ∷ (runs faces k, Eisrun) ∷ []) _ c h
before_refuses book shape registered faces k (made.Overflow (Ok e) t) c h = check_comes ((is_absent faces k, Enoevst) ∷ (runs faces k, Eisrun) ∷ []) _ c h
before_refuses book shape registered faces k m c h = check_comes ((is_absent faces k, Enoevst) ∷ (runs faces k, Eisrun) ∷ []) _ c h

-- what the table says of a set that does not run
change_rows : (book : Book) (shape : Widths) (registered : Bool) (faces : List (Option Face)) (k : ℕ) (m : Change) (r : AtRest) → at faces k ≡ Some (record { set = r; running = false }) → refusal_of book shape registered faces (changing_call k m) ≡ option_map Plain (change_refusal book shape m r)
change_rows book shape registered faces k (made.Remove (Ok e)) r here = rw here (sym (codes_refuse ((not (has_event e r), Einval) ∷ [])))
change_rows book shape registered faces k (made.AssignComponent comp) r here = rw here (sym (codes_refuse ((nat_le (length shape) comp, Enocmp) ∷ (is_other r.component (Some comp), Einval) ∷ [])))
change_rows book shape registered faces k (made.SetDomain bits) r here = rw here (sym (codes_refuse ((is_bad_domain bits, Einval) ∷ [])))
change_rows book shape registered faces k (made.SetMultiplex slice) r here = rw here (sym (codes_refuse ((is_bad_slice slice, Einval) ∷ (is_armed r, Ecombo) ∷ [])))
change_rows book shape registered faces k (made.Overflow (Ok e) t) r here = rw here (sym (codes_refuse ((cannot_arm book e r, Einval) ∷ (is_bad_threshold shape t r, Einval) ∷ (shares_native book e t r, Einval) ∷ (is_multiplexed r, Ecombo) ∷ [])))
change_rows book shape registered faces k m r here = rw here refl

add_rows : (book : Book) (shape : Widths) (registered : Bool) (faces : List (Option Face)) (k : ℕ) (e : EventRef) (r : AtRest) → at faces k ≡ Some (record { set = r; running = false }) → refusal_of book shape registered faces (call.Add k (Ok e)) ≡ add_refusal book e r
add_rows book shape registered faces k e r here = rw here (ap (λ c. if cannot_take book e r then Some (Plain Einval) else if is_full book e r then Some (Plain Ecount) else c) (clash (clash_with book e r))) where
  clash : (c : Option Clash) → (if is_some c then Some (conflict_of c) else None) ≡ option_map Conflict c
  clash None = refl
  clash (Some c) = refl

-- ---- changes

change_rests : (core : CoreView) (k : ℕ) (m : Change) → code_before core.shape (slot_faces core.slots) k m ≡ None → runs (slot_faces core.slots) k ≡ false
change_rests core k m none = check_fails
    ((is_absent (slot_faces core.slots) k, Enoevst) ∷ (lacks_component core.shape m, Enocmp) ∷ (runs (slot_faces core.slots) k, Eisrun) ∷ []) 2 none

-- the face of a set that does not run
face_rests : (book : Book) (core : CoreView) (a : Account) (k : ℕ) (slot : Slot) (u : Under book core a k slot) → runs (slot_faces core.slots) k ≡ false
    → at (slot_faces core.slots) k ≡ Some (record { set = slot.set.rest; running = false })
face_rests book core a k slot u still =
    u.at_face ∙ ap₂ (λ (r : AtRest) (b : Bool). Some (record { set = r; running = b })) (ap (λ (x : Slot). x.set.rest) u.is) (runs_as u ∙ still)

-- what the table says, if the core's set is asked
says : (book : Book) (core : CoreView) (k : ℕ) (m : Change) (r : Option Code) (slot : Slot) → AgreesWith book core
    → code_before core.shape (slot_faces core.slots) k m ≡ None → at core.slots k ≡ Some slot → change_refusal book core.shape m slot.set.rest ≡ r
    → refusal_of book core.shape core.registered (slot_faces core.slots) (changing_call k m) ≡ option_map Plain r
says book core k m r slot agrees none here asks =
    let u = under book core agrees.account k slot agrees.stands here in
    change_rows book core.shape core.registered (slot_faces core.slots) k m slot.set.rest
    (face_rests book core agrees.account k slot u (change_rests core k m none)) ∙ ap (option_map Plain) asks

-- the call changes the set alone, and replies a code alone
record IsAlone (book : Book) (shape : Widths) (a : Account) (k : ℕ) (m : Change) : Type 0 where
  pub on_sets : is_on_sets (changing_call k m) ≡ true
  pub good : IsFor book shape m → IsGood book shape (changing_call k m)
  pub sets : sets_after new_kept (kept_after book a.past) (changing_call k m) a.sets ≡ change (kept_after book a.past (changing_call k m)) a.sets k
  pub reply : reply_over book (sight_of_kept book shape a.past) a.sets (changing_call k m) ≡ plain code.Ok

alone : (book : Book) (shape : Widths) (a : Account) (k : ℕ) (m : Change) → IsAlone book shape a k m
alone book shape a k made.Cleanup = record { on_sets = refl; good = λ h. h; sets = refl; reply = refl }
alone book shape a k m = record { on_sets = refl; good = λ h. h; sets = refl; reply = refl }

-- what is answered if the set was asked
abbrev pub code_after : Result ⊤ Code → Code
code_after (Ok u) = code.Ok
code_after (Err c) = c

-- the core if a set says no
same_slot : (slots : List (Option Slot)) (k : ℕ) (slot new : Slot) → at slots k ≡ Some slot → new ≡ slot → slice_set slots k (Some new) ≡ slots
same_slot slots k slot new there same = ap (λ (x : Slot). slice_set slots k (Some x)) same ∙ set-same slots k (Some slot) (at-some slots k slot there)

pub change_follows : (book : Book) (core : CoreView) (k : ℕ) (m : Change) (result : Result ⊤ Code) (slot new : Slot) → AgreesWith book core
    → IsFor book core.shape m → code_before core.shape (slot_faces core.slots) k m ≡ None → at core.slots k ≡ Some slot
    → OnOk result (new ≡ slot_after book core.shape m slot)
    → OnOk result (change_refusal book core.shape m slot.set.rest ≡ None)
    → IfErr result (λ c. change_refusal book core.shape m slot.set.rest ≡ Some c)
    → OnErr result (new ≡ slot)
    → Follows book core (with_both core core.units (slice_set core.slots k (Some new))) (changing_call k m) (plain (code_after result))
change_follows book core k m (Err c) slot new agrees named none here changed taken refuses same =
    subst (λ (xs : List (Option Slot)). Follows book core (with_both core core.units xs) (changing_call k m) (plain c))
    (sym (same_slot core.slots k slot new here same))
    (refused_follows book core (changing_call k m) (Plain c) (plain c) agrees (says book core k m (Some c) slot agrees none here refuses) refl)
change_follows book core k m (Ok u) slot new agrees named none here changed taken refuses same =
    let one = alone book core.shape agrees.account k m in
    let g : Goes book core (changing_call k m) = record { agrees = agrees; allowed = says book core k m None slot agrees none here taken } in
    put_follows book core core.units slot new (changing_call k m) (plain code.Ok) k g (one.good named) one.on_sets (λ a. (alone book core.shape a k m).sets) here
    (λ a h u.
    let rests = runs_as u ∙ change_rests core k m none in
    let t = kept_after book a.past (changing_call k m) u.set in
    let is = slot_is book core.shape a.past k m u.set rests in
    record {
      slot = changed ∙ ap (slot_after book core.shape m) (sym u.is) ∙ is.0;
      units = λ apart. units_rest book core a k (Some t) (Some u.set) h apart u.place (λ c. quiet_stopped u.set c rests) (λ c. quiet_stopped t c is.1);
      reply = sym (alone book core.shape a k m).reply;
    })

-- ---- one more event

now_rests : (core : CoreView) (k : ℕ) → rest_code (slot_faces core.slots) k ≡ None → runs (slot_faces core.slots) k ≡ false
now_rests core k none = check_fails ((is_absent (slot_faces core.slots) k, Enoevst) ∷ (runs (slot_faces core.slots) k, Eisrun) ∷ []) 1 none

pub rest_refuses : (book : Book) (shape : Widths) (registered : Bool) (faces : List (Option Face)) (k : ℕ) (e : Result EventRef Code) (c : Code) → rest_code faces k ≡ Some c → refusal_of book shape registered faces (call.Add k e) ≡ Some (Plain c)
rest_refuses book shape registered faces k (Ok e) c h = check_comes ((is_absent faces k, Enoevst) ∷ (runs faces k, Eisrun) ∷ []) _ c h
rest_refuses book shape registered faces k (Err x) c h = check_comes ((is_absent faces k, Enoevst) ∷ (runs faces k, Eisrun) ∷ []) _ c h

-- a refused name
pub name_refuses : (book : Book) (shape : Widths) (registered : Bool) (faces : List (Option Face)) (k : ℕ) (code : Code) → rest_code faces k ≡ None → refusal_of book shape registered faces (call.Add k (Err code)) ≡ Some (Plain code)
name_refuses book shape registered faces k code h = none_comes ((is_absent faces k, Enoevst) ∷ (runs faces k, Eisrun) ∷ []) (Some (Plain code)) h

pub add_follows : (book : Book) (core : CoreView) (k : ℕ) (e : EventRef) (result : Result ⊤ Refusal) (slot new : Slot) → AgreesWith book core
    → IsNamed book core.shape (Ok e) → rest_code (slot_faces core.slots) k ≡ None → at core.slots k ≡ Some slot
    → OnOk result (new ≡ slot_with_event book core.shape e slot)
    → OnOk result (add_refusal book e slot.set.rest ≡ None)
    → IfErr result (λ r. add_refusal book e slot.set.rest ≡ Some r)
    → OnErr result (new ≡ slot)
    → Follows book core (with_both core core.units (slice_set core.slots k (Some new))) (call.Add k (Ok e)) (changed_reply result)
add_follows book core k e result slot new agrees named none here = go result where
  table : (r : Option Refusal) → add_refusal book e slot.set.rest ≡ r
      → refusal_of book core.shape core.registered (slot_faces core.slots) (call.Add k (Ok e)) ≡ r
  table r says =
      let u = under book core agrees.account k slot agrees.stands here in
      add_rows book core.shape core.registered (slot_faces core.slots) k e slot.set.rest
      (face_rests book core agrees.account k slot u (now_rests core k none)) ∙ says

  go : (result : Result ⊤ Refusal) → OnOk result (new ≡ slot_with_event book core.shape e slot) → OnOk result (add_refusal book e slot.set.rest ≡ None)
      → IfErr result (λ r. add_refusal book e slot.set.rest ≡ Some r) → OnErr result (new ≡ slot)
      → Follows book core (with_both core core.units (slice_set core.slots k (Some new))) (call.Add k (Ok e)) (changed_reply result)
  go (Err r) added taken refuses same =
      subst (λ (xs : List (Option Slot)). Follows book core (with_both core core.units xs) (call.Add k (Ok e)) (refused r))
      (sym (same_slot core.slots k slot new here same))
      (refused_follows book core (call.Add k (Ok e)) r (refused r) agrees (table (Some r) refuses) refl)
  go (Ok u) added taken refuses same =
      let g : Goes book core (call.Add k (Ok e)) = record { agrees = agrees; allowed = table None taken } in
      put_follows book core core.units slot new (call.Add k (Ok e)) (plain code.Ok) k g named refl (λ a. refl) here (λ a h u.
      let rests = runs_as u ∙ now_rests core k none in
      let t : Kept = kept_after book a.past (call.Add k (Ok e)) u.set in
      record {
        slot = added ∙ ap (slot_with_event book core.shape e) (sym u.is)
            ∙ put_stopped book core.shape a.past t _ rests (counted_none book a.past t rests refl);
        units = λ apart. units_rest book core a k (Some t) (Some u.set) h apart u.place (λ c. quiet_stopped u.set c rests) (λ c. quiet_stopped t c rests);
        reply = refl;
      })

-- the set of a slot, by the book and the shape
pub slot_view : {book : Book} {core : CoreView} (k : ℕ) {slot : Slot} → AgreesWith book core → at core.slots k ≡ Some slot
    → slot.set ≡ set_view book core.shape slot.set.rest
slot_view {book} {core} k {slot} agrees here =
    let u = under book core agrees.account k slot agrees.stands here in
    subst (λ (x : Slot). x.set ≡ set_view book core.shape x.set.rest) u.is refl

-- ---- a new set, and one that is taken away

-- if not all places are taken there is a free one
free_inside : {X : Type 0} (xs : List (Option X)) → list_all (λ x. is_some x) xs ≡ false → (free xs < length xs) × (slice_get xs (free xs) ≡ Some None)
free_inside [] h = cc
free_inside (None ∷ xs) h = (omega arith, refl)
free_inside (Some x ∷ xs) h =
    let rest = free_inside xs h in
    let one : 1 + free xs ≡ suc (free xs) = omega arith in
    (omega (arith, rest.0), ap (slice_get (Some x ∷ xs)) one ∙ rest.1)

pub free_is : {book : Book} {core : CoreView} {number : ℕ} → Goes book core call.Create → number ≡ free core.slots → number < length core.slots
free_is {book} {core} g is =
    rw is (free_inside core.slots (sym (all_some_of_map _ core.slots) ∙ row_off book core call.Create 0 g.allowed)).0

pub create_follows : (book : Book) (core : CoreView) (number : ℕ) → Goes book core call.Create → number ≡ free core.slots → Follows book core (with_both core core.units (slice_set core.slots number (Some new_slot))) call.Create (done (body.SetNumber number))
create_follows book core number g is = done_follows book core core.units (slice_set core.slots number (Some new_slot)) call.Create (done (body.SetNumber number)) g.agrees tt refl g.allowed (λ a h apart.
    let at : number ≡ free a.sets = is ∙ ap free h.slots ∙ free_map (slot_of book core.shape a.past) a.sets in
    let room : list_all (λ x. is_some x) a.sets ≡ false = sym (all_some_of_map face_of a.sets)
    ∙ sym (ap (λ (fs : List (Option Face)). list_all (λ x. is_some x) fs) (faces_stand book core a h)) ∙ row_off book core call.Create 0 g.allowed in
    record {
      sets = slice_set a.sets (free a.sets) (Some new_kept);
      after = refl;
      slots = ap₂ (λ (xs : List (Option Slot)) (k : ℕ). slice_set xs k (Some new_slot)) h.slots at ∙ map_put (option_map (slot_of book core.shape a.past)) a.sets (free a.sets) (Some new_kept);
      units = units_rest book core a (free a.sets) (Some new_kept) None h apart (free_inside a.sets room).1 (λ c. refl) (λ c. refl);
      reply = ap (λ (k : ℕ). done (body.SetNumber k)) at;
    })

pub destroy_follows : (book : Book) (core : CoreView) (k : ℕ) → Goes book core (call.Destroy k)
    → Follows book core (with_both core core.units (slice_set core.slots k None)) (call.Destroy k) (plain code.Ok)
destroy_follows book core k g =
    done_follows book core core.units (slice_set core.slots k None) (call.Destroy k) (plain code.Ok) g.agrees tt refl g.allowed (λ a h apart.
    let s = named k g refl in
    let u = under book core a k s.slot h s.at_slot in
    let rests = runs_as u ∙ row_off book core (call.Destroy k) 1 g.allowed in
    record {
      sets = slice_set a.sets k None;
      after = refl;
      slots = ap (λ (xs : List (Option Slot)). slice_set xs k None) h.slots ∙ map_put (option_map (slot_of book core.shape a.past)) a.sets k None;
      units = units_rest book core a k None (Some u.set) h apart u.place (λ c. quiet_stopped u.set c rests) (λ c. refl);
      reply = refl;
    })
