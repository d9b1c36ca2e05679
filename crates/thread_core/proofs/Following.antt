-- A core that did what its refusals and its sets say follows each account that it stands for.
use Rattle.thread_core.proofs.Words.{Bool, List, map, ◌≡◌, [], refl, ◌∷◌, ap, Option, list_all, is_some, option_map, None, Some, ◌&&◌, Code, Plain}
use Rattle.thread_core.proofs.Words.{first_code, first_of, row, true, false, ℕ, option_map_or, slice_get, zero, suc, Refusal, if◌then◌else◌, ℤ}
use Rattle.thread_core.proofs.Words.{Enoevst, Enotrun, values_reply, plain, subst, Book, CoreView, Account, CoreStands, slot_faces, faces_of, ◌∙◌}
use Rattle.thread_core.proofs.Words.{Call, refusal_of, account_refusal, ap₂, Reply, AgreesWith, refused, Follows, sym, StepOutcome, step, unless}
use Rattle.thread_core.proofs.Words.{performed, Widths, is_on_sets, sets_after, new_kept, kept_after, reply_over, sight_of_kept, UnitView, Slot, Kept}
use Rattle.thread_core.proofs.Words.{slots_of, units_of, AreApart, IsGood, length, AllWithin, AreFit, time_after, IsRefusedWith, within_stays}
use Rattle.thread_core.proofs.Words.{apart_stays, fit_stays, places_stay, core_of, Inside}
use Rattle.papi_base.specs.declared.code.Code.TheVariants as code
use Rattle.call_type.specs.declared.call.Call.TheVariants as call
use Rattle.thread_core.proofs.Owners.{faces_same}

-- ---- tables of refusals: the first check that holds, and what is known if none does

pub all_some_of_map : {X Y : Type 0} (f : X → Y) (xs : List (Option X)) → list_all (λ (p : Option Y). is_some p) (map (option_map f) xs) ≡ list_all (λ (p : Option X). is_some p) xs
all_some_of_map f [] = refl
all_some_of_map f (None ∷ xs) = refl
all_some_of_map f (Some x ∷ xs) = ap (λ b. is_some (Some x) && b) (all_some_of_map f xs)

-- the first check that holds is the first row that comes
pub codes_refuse : (checks : List (Bool × Code)) → option_map Plain (first_code checks) ≡ first_of (map (λ check. row check.0 check.1) checks)
codes_refuse [] = refl
codes_refuse ((true, code) ∷ checks) = refl
codes_refuse ((false, code) ∷ checks) = codes_refuse checks

-- if none holds, each of them fails
pub check_fails : (checks : List (Bool × Code)) (i : ℕ) → first_code checks ≡ None → option_map_or (λ check. check.0) (slice_get checks i) false ≡ false
check_fails [] i h = refl
check_fails ((true, code) ∷ checks) i h = cc
check_fails ((false, code) ∷ checks) zero h = refl
check_fails ((false, code) ∷ checks) (suc i) h = check_fails checks i h

-- a table that begins with some checks
abbrev before : List (Bool × Code) → Option Refusal → Option Refusal
before [] more = more
before (check ∷ checks) more = if check.0 then Some (Plain check.1) else before checks more

pub check_comes : (checks : List (Bool × Code)) (more : Option Refusal) (c : Code) → first_code checks ≡ Some c → before checks more ≡ Some (Plain c)
check_comes [] more c h = cc
check_comes ((true, code) ∷ checks) more c h = ap (option_map Plain) h
check_comes ((false, code) ∷ checks) more c h = check_comes checks more c h

pub none_comes : (checks : List (Bool × Code)) (more : Option Refusal) → first_code checks ≡ None → before checks more ≡ more
none_comes [] more h = refl
none_comes ((true, code) ∷ checks) more h = cc
none_comes ((false, code) ∷ checks) more h = none_comes checks more h

-- a code that refuses shows no values
pub shows_none : (a b : Bool) (c : Code) (values : List ℤ) → (if a then Some (Plain Enoevst) else if b then Some (Plain Enotrun) else None) ≡ Some (Plain c) → values_reply c values ≡ plain c
shows_none true b c values h = let same : Enoevst ≡ c = cc in subst (λ (x : Code). values_reply x values ≡ plain x) same refl
shows_none false true c values h = let same : Enotrun ≡ c = cc in subst (λ (x : Code). values_reply x values ≡ plain x) same refl
shows_none false false c values h = cc

-- ---- calls

-- refusals look at the same in the core and in the account
pub faces_stand : (book : Book) (core : CoreView) (a : Account) → CoreStands book core a → slot_faces core.slots ≡ faces_of a.sets
faces_stand book core a h = ap slot_faces h.slots ∙ faces_same book core.shape a.past a.sets

pub refusal_stands : (book : Book) (core : CoreView) (a : Account) (call : Call) → CoreStands book core a → refusal_of book core.shape core.registered (slot_faces core.slots) call ≡ account_refusal book core.shape a call
refusal_stands book core a call h = ap₂ (λ b f. refusal_of book core.shape b f call) h.registered (faces_stand book core a h)

-- a refused call changes nothing
pub refused_follows : (book : Book) (core : CoreView) (call : Call) (r : Refusal) (reply : Reply) → AgreesWith book core → refusal_of book core.shape core.registered (slot_faces core.slots) call ≡ Some r → reply ≡ refused r → Follows book core core call reply
refused_follows book core call r reply agrees is says = record {
  account = λ a h. subst (λ b. CoreStands book core b) (sym (ap (λ (x : StepOutcome). x.account) (out a h))) h;
  reply = λ a h. says ∙ sym (ap (λ (x : StepOutcome). x.reply) (out a h));
  agrees = agrees;
  shape = refl;
  taken = refl;
  last = refl;
} where
  out : (a : Account) → CoreStands book core a → step book core.shape a call ≡ record { account = a; reply = refused r; notes = [] }
  out a h = ap (λ x. unless x a (performed book core.shape a call)) (sym (refusal_stands book core a call h) ∙ is)

-- the call is not refused
abbrev pub Allowed : Book → CoreView → Call → Type 0
Allowed book core made = refusal_of book core.shape core.registered (slot_faces core.slots) made ≡ None

-- what a call on the sets does that is not refused
performed_is : (book : Book) (shape : Widths) (a : Account) (made : Call) → is_on_sets made ≡ true
    → performed book shape a made ≡ record { account = record a { sets = sets_after new_kept (kept_after book a.past) made a.sets }; reply = reply_over book (sight_of_kept book shape a.past) a.sets made; notes = [] }
performed_is book shape a call.Register e = cc
performed_is book shape a call.Unregister e = cc
performed_is book shape a (call.Run n) e = cc
performed_is book shape a made e = refl

abbrev pub with_both : CoreView → List UnitView → List (Option Slot) → CoreView
with_both core units slots = record core { units = units; slots = slots }

-- what the call leaves in the core and replies, for one account: the sets after it, and the units and places for these
pub record Does (book : Book) (core : CoreView) (new_units : List UnitView) (new_slots : List (Option Slot)) (call : Call) (given : Reply) (a : Account) : Type 0 where
  pub sets : List (Option Kept)
  pub after : sets_after new_kept (kept_after book a.past) call a.sets ≡ sets
  pub slots : new_slots ≡ slots_of book core.shape a.past sets
  pub units : new_units ≡ units_of book core.shape a.past sets
  pub reply : given ≡ reply_over book (sight_of_kept book core.shape a.past) a.sets call

pub step_is : (book : Book) (core : CoreView) (a : Account) (call : Call) → is_on_sets call ≡ true → Allowed book core call → CoreStands book core a
    → step book core.shape a call ≡ record {
      account = record a { sets = sets_after new_kept (kept_after book a.past) call a.sets };
      reply = reply_over book (sight_of_kept book core.shape a.past) a.sets call;
      notes = [];
    }
step_is book core a call on none h =
    ap (λ x. unless x a (performed book core.shape a call)) (sym (refusal_stands book core a call h) ∙ none) ∙ performed_is book core.shape a call on

-- what is left for one account, whatever the call: whether its thread is registered, its sets, and the units and places for these
record Leaves (book : Book) (core : CoreView) (registered : Bool) (new_units : List UnitView) (new_slots : List (Option Slot)) (call : Call) (given : Reply)
    (a : Account) : Type 0 where
  pub sets : List (Option Kept)
  pub out : step book core.shape a call ≡ record { account = record a { registered = registered; sets = sets }; reply = given; notes = [] }
  pub slots : new_slots ≡ slots_of book core.shape a.past sets
  pub units : new_units ≡ units_of book core.shape a.past sets

abbrev with_all : CoreView → Bool → List UnitView → List (Option Slot) → CoreView
with_all core registered units slots = record core { registered = registered; units = units; slots = slots }

left_follows : (book : Book) (core : CoreView) (registered : Bool) (units : List UnitView) (slots : List (Option Slot)) (call : Call) (reply : Reply)
    → AgreesWith book core → IsGood book core.shape call → ((a : Account) → CoreStands book core a → Leaves book core registered units slots call reply a)
    → Follows book core (with_all core registered units slots) call reply
left_follows book core registered units slots call reply agrees good leaves = record {
  account = stands;
  reply = λ a h. sym (ap (λ (x : StepOutcome). x.reply) (leaves a h).out);
  agrees = record {
    account = (step book core.shape agrees.account call).account;
    fits = agrees.fits;
    stands = stands agrees.account agrees.stands;
    in_time = agrees.in_time;
  };
  shape = refl;
  taken = refl;
  last = refl;
} where
  stands : (a : Account) → CoreStands book core a → CoreStands book (with_all core registered units slots) (step book core.shape a call).account
  stands a h =
      let does = leaves a h in
      let is = ap (λ (x : StepOutcome). x.account) does.out in
      subst (CoreStands book (with_all core registered units slots)) (sym is) (record {
        thread = h.thread;
        registered = refl;
        slots = does.slots;
        units = does.units;
        taken = h.taken;
        last = h.last;
        places = sym (ap (λ (b : Account). length b.sets) is) ∙ places_stay book core.shape a call ∙ h.places;
        rises = h.rises;
        within = subst (λ (b : Account). AllWithin (length b.past) b.sets) is (within_stays book core.shape a call h.within);
        apart = subst (λ (b : Account). AreApart (faces_of b.sets)) is (apart_stays book core.shape a call h.apart);
        fit = subst (λ (b : Account). AreFit book core.shape b.sets) is (fit_stays book core.shape a call h.shape agrees.fits good h.fit);
        shape = h.shape;
        in_limits = h.in_limits;
      })

-- a call on the sets that is not refused
pub done_follows : (book : Book) (core : CoreView) (units : List UnitView) (slots : List (Option Slot)) (call : Call) (reply : Reply)
    → AgreesWith book core → IsGood book core.shape call → is_on_sets call ≡ true → Allowed book core call
    → ((a : Account) → CoreStands book core a → AreApart (faces_of (sets_after new_kept (kept_after book a.past) call a.sets))
    → Does book core units slots call reply a)
    → Follows book core (with_both core units slots) call reply
done_follows book core units slots call reply agrees good on none does = left_follows book core core.registered units slots call reply agrees good (λ a h.
    let is = step_is book core a call on none h in
    let d = does a h (subst (λ (x : StepOutcome). AreApart (faces_of x.account.sets)) is (apart_stays book core.shape a call h.apart)) in
    record {
      sets = d.sets;
      out = is ∙ (λ i. record { account = record a { registered = (sym h.registered) i; sets = d.after i }; reply = (sym d.reply) i; notes = [] });
      slots = d.slots;
      units = d.units;
    })

-- the code with which the core refuses
pub code_follows : {book : Book} {core : CoreView} {call : Call} {result : Option Code} {c : Code} → AgreesWith book core → IsRefusedWith core call result
    → result ≡ Some c → Follows book core core call (plain c)
code_follows {book} {core} {call} {result} {c} agrees e is =
    refused_follows book core call (Plain c) (plain c) agrees (sym (e book) ∙ ap (option_map Plain) is) refl

-- the same of a call that shows values
pub values_refused : {book : Book} {core : CoreView} {call : Call} {result : Option Code} {c : Code} (a b : Bool) (values : List ℤ)
    → AgreesWith book core → IsRefusedWith core call result → refusal_of book core.shape core.registered (slot_faces core.slots) call
    ≡ (if a then Some (Plain Enoevst) else if b then Some (Plain Enotrun) else None) → result ≡ Some c → Follows book core core call (values_reply c values)
values_refused {book} {core} {call} {result} {c} a b values agrees e table is =
    subst (Follows book core core call) (sym (shows_none a b c values (sym table ∙ sym (e book) ∙ ap (option_map Plain) is))) (code_follows agrees e is)

-- a call that goes on: the core agrees, and the call is not refused
pub record Goes (book : Book) (core : CoreView) (made : Call) : Type 0 where
  pub agrees : AgreesWith book core
  pub allowed : Allowed book core made

pub goes : {book : Book} {core now : CoreView} {made : Call} {result : Option Code} → core ≡ now → AgreesWith book now → IsRefusedWith now made result
    → result ≡ None → Goes book core made
goes {book} {core} {now} {made} same agrees e is =
    subst (λ (v : CoreView). Goes book v made) (sym same) (record { agrees = agrees; allowed = sym (e book) ∙ ap (option_map Plain) is })

-- the same by what the core holds
pub agrees_now : {book : Book} {core now : CoreView} → core ≡ now → AgreesWith book now → AgreesWith book core
agrees_now {book} same agrees = subst (AgreesWith book) (sym same) agrees

pub time_is : {core now : CoreView} {t : ℕ} → core ≡ now → t ≡ time_after now.last → t ≡ time_after core.last
time_is same is = is ∙ ap (λ (v : CoreView). time_after v.last) (sym same)

-- what contracts see of a core
abbrev pub seen : Inside → CoreView
seen c = core_of c.thread c.registered c.shape c.slots.items c.units.items c.taken c.last

-- a call that sets whether the thread is registered, and is not refused
pub registration : (book : Book) (core : CoreView) (made : Call) (b : Bool) → Goes book core made → IsGood book core.shape made
    → ((a : Account) → performed book core.shape a made ≡ record { account = record a { registered = b }; reply = plain code.Ok; notes = [] })
    → Follows book core (record core { registered = b }) made (plain code.Ok)
registration book core made b g good does = left_follows book core b core.units core.slots made (plain code.Ok) g.agrees good (λ a h. record {
  sets = a.sets;
  out = ap (λ x. unless x a (performed book core.shape a made)) (sym (refusal_stands book core a made h) ∙ g.allowed) ∙ does a;
  slots = h.slots;
  units = h.units;
})
