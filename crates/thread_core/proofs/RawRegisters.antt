-- A core that shows the register of a counter.
use Rattle.thread_core.proofs.Words.{ℕ, List, list_any, ◌==◌, ◌≡◌, true, slice_get, position_or_len, Some, [], ◌∷◌, refl, Bool, ap, eqb-true, false}
use Rattle.thread_core.proofs.Words.{◌+◌, suc, arith, ◌||◌, subst, sym, eq-eqb, ◌∙◌, Option, Refusal, Reply, Result, Code, Ok, None, done, Err, Plain}
use Rattle.thread_core.proofs.Words.{free, if◌then◌else◌, not, Enotrun, Einval, Ecombo, Book, Widths, Face, is_none, Enoevst, option_map_or}
use Rattle.thread_core.proofs.Words.{is_multiplexed, Occ, Kept, Native, IsFit, widths_at, set_natives, counters_for, at_place, running_registers}
use Rattle.thread_core.proofs.Words.{register_at, get_or, threshold_among, count, plain, Pin, ArePinned, pins_of, pinned, Register, programs-at}
use Rattle.thread_core.proofs.Words.{replicate, length, length-replicate, get-pins_from, slice_get_within, get_at, placed, pin_made}
use Rattle.thread_core.proofs.Words.{at_place-replicate, CoreView, Account, CoreStands, at, face_of, cases_Bool, option_and_then, ap₂, ◌⊎◌, inl, inr}
use Rattle.thread_core.proofs.Words.{nat_le, UnitView, cond-true, cond-false, account_refusal, reply_over, sight_of_kept, Slot, option_map, at_map}
use Rattle.thread_core.proofs.Words.{subst₂, AgreesWith, Follows, refusal_of, slot_faces, refused, face_of_slot, has_counter, leaves_free}
use Rattle.thread_core.proofs.Words.{leaves_free_by, register_value, register_shown, register_on, register_by, register_of, programs-other, has}
use Rattle.thread_core.proofs.Words.{le-leb, reply_of}
use Rattle.session_model.specs.declared.reply.Body.TheVariants as body
use Rattle.call_type.specs.declared.call.Call.TheVariants as call
use Rattle.thread_core.proofs.Owners.{face_same}
use Rattle.thread_core.proofs.Starting.{none_any}
use Rattle.thread_core.proofs.Looking.{fit_of, widths_on, unit_on, under, looks_follows}
use Rattle.thread_core.proofs.Following.{refusal_stands, refused_follows}

-- the counter is in the list, or it is not
any_found : (c : ℕ) (cs : List ℕ) → list_any (λ k. k == c) cs ≡ true → slice_get cs (position_or_len (λ k. k == c) cs) ≡ Some c
any_found c [] h = cc
any_found c (x ∷ cs) h = go (any_found c cs) (x == c) refl h where
  go : (list_any (λ k. k == c) cs ≡ true → slice_get cs (position_or_len (λ k. k == c) cs) ≡ Some c) → (b : Bool) → (x == c) ≡ b → list_any (λ k. k == c) (x ∷ cs) ≡ true → slice_get (x ∷ cs) (position_or_len (λ k. k == c) (x ∷ cs)) ≡ Some c
  go rest true q k = rw q (ap Some (eqb-true x c q))
  go rest false q k =
      let next : 1 + position_or_len (λ k. k == c) cs ≡ suc (position_or_len (λ k. k == c) cs) = omega arith in
      rw (q, next) (rest (let P : Bool → Type 0 = λ b. (b || list_any (λ k. k == c) cs) ≡ true in subst P q k))

any_none : (c : ℕ) (cs : List ℕ) (i x : ℕ) → list_any (λ k. k == c) cs ≡ false → slice_get cs i ≡ Some x → c ≡ x → ⊥
any_none c cs i x h e is = let both : true ≡ false = sym (eq-eqb x c (sym is)) ∙ none_any (λ k. k == c) cs i x h e in cc

-- what the code answers is what the table and the replies say
abbrev TellsRegister : Option Refusal → Reply → Result ℕ Code → Type 0
TellsRegister refusal reply (Ok v) = (refusal ≡ None) × (done (body.Register v) ≡ reply)
TellsRegister refusal reply (Err e) = refusal ≡ Some (Plain e)

abbrev codes : Bool → Bool → Bool → Bool → Option Refusal
codes running counter free shared =
    if not running then Some (Plain Enotrun) else if not counter then Some (Plain Einval) else if free then Some (Plain Einval) else if shared then Some (Plain Ecombo) else None

abbrev table_by : Book → Widths → ℕ → Option Face → Option Refusal
table_by book shape c o = if is_none o then Some (Plain Enoevst) else if not (option_map_or (λ f. f.running) o false) then Some (Plain Enotrun) else
    if option_map_or (λ f. not (has_counter shape c f.set)) o false then Some (Plain Einval) else if option_map_or (λ f. leaves_free book c f.set) o false then Some (Plain Einval) else
    if option_map_or (λ f. is_multiplexed f.set) o false then Some (Plain Ecombo) else None

-- the register of a counter on which a native is, and that of another
pub register_on-counter : (book : Book) (shape : Widths) (past : List Occ) (s : Kept) (ws : List ℕ) (i c : ℕ) (n : Native) → IsFit book shape s.set → s.set.slice ≡ None → ws ≡ widths_at shape s.set.component
    → slice_get (set_natives book s.set) i ≡ Some n → slice_get (counters_for (set_natives book s.set)) i ≡ Some c
    → at_place (running_registers book ws past s None) c ≡ Some (register_at (get_or (widths_at shape s.set.component) c 0) n s.set.domain (threshold_among book n s.set.events s.set.thresholds) (count past s n))
register_on-counter book shape past s ws i c n fit plain same native counter =
    let t = threshold_among book n s.set.events s.set.thresholds in
    let p : Pin = record { native = n; counter = c; threshold = t } in
    let at_pins = subst (λ (w : List ℕ). ArePinned w (pins_of book s.set)) (sym same) (pinned book shape s.set fit plain) in
    let none : Option Register = None in
    programs-at ws s.set.domain (count past s) (pins_of book s.set) (replicate (length ws) none) i p at_pins (length-replicate (length ws) none) (get-pins_from book s.set (set_natives book s.set) (counters_for (set_natives book s.set)) i n c native counter)
    ∙ ap (λ (w : List ℕ). Some (register_at (get_or w c 0) n s.set.domain t (count past s n))) same

register_there : (book : Book) (shape : Widths) (past : List Occ) (s : Kept) (ws : List ℕ) (c : ℕ) → IsFit book shape s.set → s.set.slice ≡ None → ws ≡ widths_at shape s.set.component → list_any (λ k. k == c) (counters_for (set_natives book s.set)) ≡ true
    → register_value (at_place (running_registers book ws past s None) c) ≡ Ok (register_of book shape past s c)
register_there book shape past s ws c fit plain same found =
    let ns = set_natives book s.set in
    let cs = counters_for ns in
    let i = position_or_len (λ k. k == c) cs in
    let counter = any_found c cs found in
    let below = slice_get_within cs i c counter in
    let n = get_at ns i (let one = (placed book shape s.set fit plain).one_each in omega arith) in
    ap register_value (register_on-counter book shape past s ws i c n.0 fit plain same n.1 counter)
    ∙ sym (ap (λ (o : Option Native). Ok (option_map_or (λ m. (register_at (get_or (widths_at shape s.set.component) c 0) m s.set.domain (threshold_among book m s.set.events s.set.thresholds) (count past s m)).value) o 0)) n.1)

pub no_register-on : (book : Book) (past : List Occ) (s : Kept) (ws : List ℕ) (c : ℕ) → ((i : ℕ) → slice_get (counters_for (set_natives book s.set)) i ≡ Some c → ⊥) → at_place (running_registers book ws past s None) c ≡ None
no_register-on book past s ws c other =
    programs-other ws s.set.domain (count past s) c (pins_of book s.set) (replicate (length ws) None) (λ k q e is. other k ((pin_made book s.set (set_natives book s.set) (counters_for (set_natives book s.set)) k q e).counter ∙ ap Some (sym is)))
    ∙ at_place-replicate (length ws) c

register_free : (book : Book) (past : List Occ) (s : Kept) (ws : List ℕ) (c : ℕ) → list_any (λ k. k == c) (counters_for (set_natives book s.set)) ≡ false → register_value (at_place (running_registers book ws past s None) c) ≡ Err Einval
register_free book past s ws c none = ap register_value (no_register-on book past s ws c (λ i e. any_none c (counters_for (set_natives book s.set)) i c none e refl))

tells_set : (book : Book) (core : CoreView) (a : Account) (k c : ℕ) (s : Kept) → CoreStands book core a → at a.sets k ≡ Some s
    → TellsRegister (table_by book core.shape c (Some (face_of s))) (done (body.Register (register_of book core.shape a.past s c))) (register_shown core.units (face_of s) c)
tells_set book core a k c s h e = go (cases_Bool s.running) s.set.component refl where
  T : Option Refusal
  T = codes s.running (has_counter core.shape c s.set) (leaves_free book c s.set) (is_multiplexed s.set)

  R : Reply
  R = done (body.Register (register_of book core.shape a.past s c))

  here : Bool → Option ℕ → Result ℕ Code
  here running component = if running then register_on s.set.slice (option_and_then (slice_get core.units) component) c else Err Enotrun

  fit : IsFit book core.shape s.set
  fit = fit_of book core a k s h e

  -- the counter exists
  counted : (ws : List ℕ) (m : Option ℕ) → s.running ≡ true → s.set.slice ≡ m → ws ≡ widths_at core.shape s.set.component → has_counter core.shape c s.set ≡ true
      → TellsRegister T R (register_by m (record { widths = ws; registers = running_registers book ws a.past s m }) c)
  counted ws (Some slice) run turns same has =
      ap₂ (λ (x y : Bool). codes x y (leaves_free book c s.set) (is_multiplexed s.set)) run has
      ∙ ap (λ (m : Option ℕ). codes true true (leaves_free_by m book c s.set) (is_multiplexed (record s.set { slice = m }))) turns
  counted ws None run plain same has = by (cases_Bool (list_any (λ x. x == c) (counters_for (set_natives book s.set)))) where
    by : (list_any (λ x. x == c) (counters_for (set_natives book s.set)) ≡ true) ⊎ (list_any (λ x. x == c) (counters_for (set_natives book s.set)) ≡ false) → TellsRegister T R (register_value (at_place (running_registers book ws a.past s None) c))
    by (inl found) = subst (TellsRegister T R) (sym (register_there book core.shape a.past s ws c fit plain same found)) (
      ap₂ (λ (x y : Bool). codes x y (leaves_free book c s.set) (is_multiplexed s.set)) run has
          ∙ ap (λ (m : Option ℕ). codes true true (leaves_free_by m book c s.set) (is_multiplexed (record s.set { slice = m }))) plain
          ∙ ap (λ (x : Bool). codes true true (not x) false) found,
      refl,
    )
    by (inr none) = subst (TellsRegister T R) (sym (register_free book a.past s ws c none)) (
        ap₂ (λ (x y : Bool). codes x y (leaves_free book c s.set) (is_multiplexed s.set)) run has
        ∙ ap (λ (m : Option ℕ). codes true true (leaves_free_by m book c s.set) (is_multiplexed (record s.set { slice = m }))) plain
        ∙ ap (λ (x : Bool). codes true true (not x) false) none
        )

  go : (s.running ≡ true) ⊎ (s.running ≡ false) → (m : Option ℕ) → s.set.component ≡ m → TellsRegister T R (here s.running s.set.component)
  go (inr stopped) m is = subst (TellsRegister T R) (sym (ap (λ (b : Bool). here b s.set.component) stopped)) (ap (λ (b : Bool). codes b (has_counter core.shape c s.set) (leaves_free book c s.set) (is_multiplexed s.set)) stopped)
  go (inl run) None is = subst (TellsRegister T R) (sym (ap₂ here run is)) (
      ap₂ (λ (x y : Bool). codes x y (leaves_free book c s.set) (is_multiplexed s.set)) run
      (ap (λ (m : Option ℕ). not (nat_le (length (widths_at core.shape m)) c)) is ∙ ap not (le-leb 0 c (omega arith)))
      )
  go (inl run) (Some comp) is = by (cases_Bool (nat_le (length ws.0) c)) where
    ws : (w : List ℕ) × (slice_get core.shape comp ≡ Some w) × (w ≡ widths_at core.shape s.set.component)
    ws = widths_on book core.shape s.set comp fit is

    unit : UnitView
    unit = record { widths = ws.0; registers = running_registers book ws.0 a.past s s.set.slice }

    found : here s.running s.set.component ≡ (if nat_le (length ws.0) c then Err Einval else register_by s.set.slice unit c)
    found = ap₂ here run is ∙ ap (λ (u : Option UnitView). register_on s.set.slice u c) (unit_on book core a k comp s ws.0 h e run is ws.1)

    by : (nat_le (length ws.0) c ≡ true) ⊎ (nat_le (length ws.0) c ≡ false) → TellsRegister T R (here s.running s.set.component)
    by (inl lacks) = subst (TellsRegister T R) (sym (found ∙ cond-true (nat_le (length ws.0) c) (Err Einval) (register_by s.set.slice unit c) lacks)) (
        ap₂ (λ (x y : Bool). codes x y (leaves_free book c s.set) (is_multiplexed s.set)) run
        (ap (λ (w : List ℕ). not (nat_le (length w) c)) (sym ws.2) ∙ ap not lacks)
        )
    by (inr has) = subst (TellsRegister T R) (sym (found ∙ cond-false (nat_le (length ws.0) c) (Err Einval) (register_by s.set.slice unit c) has))
        (counted ws.0 s.set.slice run refl ws.2 (ap (λ (w : List ℕ). not (nat_le (length w) c)) (sym ws.2) ∙ ap not has))

tells : (book : Book) (core : CoreView) (a : Account) (k c : ℕ) (slot : Slot) → CoreStands book core a → at core.slots k ≡ Some slot
    → TellsRegister (account_refusal book core.shape a (call.Raw k c)) (reply_over book (sight_of_kept book core.shape a.past) a.sets (call.Raw k c))
    (register_shown core.units (face_of_slot slot) c)
tells book core a k c slot h there =
    let u = under book core a k slot h there in
    let s = u.set in
    let table = ap (table_by book core.shape c) (at_map face_of a.sets k ∙ ap (option_map face_of) u.at_set) in
    let reply = ap (λ (o : Option Kept). done (option_map_or (λ x. body.Register (register_of book core.shape a.past x c)) o body.Nothing)) u.at_set in
    let face = ap face_of_slot (sym u.is) ∙ face_same book core.shape a.past s in
    let shown : Face → Result ℕ Code = λ f. register_shown core.units f c in
    subst₂ (λ (t : Option Refusal) (r : Reply). TellsRegister t r (shown (face_of_slot slot))) (sym table) (sym reply)
    (subst (λ (f : Face). TellsRegister (table_by book core.shape c (Some (face_of s))) (done (body.Register (register_of book core.shape a.past s c))) (shown f))
    (sym face) (tells_set book core a k c s h u.at_set))

pub raw_follows : (book : Book) (core : CoreView) (k c : ℕ) (result : Result ℕ Code) (slot : Slot) → AgreesWith book core → at core.slots k ≡ Some slot
    → result ≡ register_shown core.units (face_of_slot slot) c → Follows book core core (call.Raw k c) (reply_of (λ v. body.Register v) result)
raw_follows book core k c result slot agrees there is =
    go result (λ a h. subst (TellsRegister (refusal a) (reply a)) (sym is) (tells book core a k c slot h there)) where
      refusal : Account → Option Refusal
      refusal a = account_refusal book core.shape a (call.Raw k c)

      reply : Account → Reply
      reply a = reply_over book (sight_of_kept book core.shape a.past) a.sets (call.Raw k c)

      stands : (r : Option Refusal) → refusal agrees.account ≡ r → refusal_of book core.shape core.registered (slot_faces core.slots) (call.Raw k c) ≡ r
      stands r says = refusal_stands book core agrees.account (call.Raw k c) agrees.stands ∙ says

      go : (result : Result ℕ Code) → ((a : Account) → CoreStands book core a → TellsRegister (refusal a) (reply a) result)
          → Follows book core core (call.Raw k c) (reply_of (λ v. body.Register v) result)
      go (Ok v) told =
          let none = stands None (told agrees.account agrees.stands).0 in
          looks_follows book core (call.Raw k c) (done (body.Register v)) agrees tt refl none (λ a. refl) (λ a h. (told a h).1)
      go (Err e) told =
          let some = stands (Some (Plain e)) (told agrees.account agrees.stands) in
          refused_follows book core (call.Raw k c) (Plain e) (refused (Plain e)) agrees some refl
