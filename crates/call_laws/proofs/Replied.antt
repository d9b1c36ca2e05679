-- What the replies of the model show: a call that is carried out has PAPI_OK, and a call that is refused has not.
use Rattle.call_laws.proofs.Words.{nat_tests, ◌≡◌, ◌≢◌, ℕ, Bool, true, false, List, [], ◌∷◌, refl, arith, Option, Some, None, slice_get}
use Rattle.call_laws.proofs.Words.{option_map_or, and-false, Book, Clash, Refusal, Widths, Call, Body, Reply, Account, Kept, Face, faces_of}
use Rattle.call_laws.proofs.Words.{conflict_of, first_of, rows, Sight, refused, reply_over, account_refusal, row_fails, CallReply, is_ok, makes}
use Rattle.call_laws.proofs.Words.{set_made, taken_by, changed, set_of_call}
use Rattle.call_type.specs.declared.call.Call.TheVariants as call
use Rattle.session_model.specs.declared.reply.Body.TheVariants as body
use Rattle.call_laws.proofs.Places.{is_number-other, is_number-same}

-- ---- a call and its reply

abbrev pub said : Call → Reply → CallReply
said c r = record { call = c; reply = r }

-- the results are neither a run's nor the number of a new set
pub record IsQuiet (b : Body) : Type 0 where
  pub takes_none : taken_by b ≡ 0
  pub makes_none : set_made b ≡ None

pub quiet_makes : (c : Call) (r : Reply) (k : ℕ) → IsQuiet r.body → makes k (said c r) ≡ false
quiet_makes c r k h = rw (h.makes_none) refl

pub changes_same : (c : Call) (r : Reply) (k : ℕ) → set_of_call c ≡ Some k → is_ok r.code ≡ true → changed k (said c r) ≡ true
changes_same c r k e ok = rw (e, is_number-same k) ok

pub changes_other : (c : Call) (r : Reply) (j k : ℕ) → set_of_call c ≡ Some k → j ≢ k → changed j (said c r) ≡ false
changes_other c r j k e apart = rw (e, is_number-other j k apart) refl

pub changes_none : (c : Call) (r : Reply) (j : ℕ) → set_of_call c ≡ None → changed j (said c r) ≡ false
changes_none c r j e = rw e refl

-- ---- calls that are carried out

quiet_shown : (f : Kept → Body) → ((s : Kept) → IsQuiet (f s)) → (o : Option Kept) → IsQuiet (option_map_or f o body.Nothing)
quiet_shown f h = grind (arith, nat_tests)

-- the results of a call other than a run or `create`
pub quiet_reply : (book : Book) (sight : Sight Kept) (sets : List (Option Kept)) (c : Call) → c ≢ call.Create → IsQuiet (reply_over book sight sets c).body
quiet_reply book sight sets c other = grind (arith, nat_tests, quiet_shown)

pub ok_reply : (book : Book) (sight : Sight Kept) (sets : List (Option Kept)) (c : Call) → is_ok (reply_over book sight sets c).code ≡ true
ok_reply book sight sets c = grind (arith, nat_tests)

-- ---- calls that are refused

pub quiet_refused : (r : Refusal) → IsQuiet (refused r).body
quiet_refused r = grind (arith, nat_tests)

-- no row of the table replies with PAPI_OK
abbrev pub NoneOk : List (Bool × Refusal) → Type 0
NoneOk [] = Unit {0}
NoneOk (r ∷ rest) = (is_ok (refused r.1).code ≡ false) × NoneOk rest

pub first_not_ok : (rs : List (Bool × Refusal)) (r : Refusal) → NoneOk rs → first_of rs ≡ Some r → is_ok (refused r).code ≡ false
first_not_ok [] r h e = cc
first_not_ok (x ∷ rest) r h e = grind (arith, nat_tests, first_not_ok rest r h.1)

conflict_not_ok : (o : Option Clash) → is_ok (refused (conflict_of o)).code ≡ false
conflict_not_ok = grind (arith, nat_tests)

-- the rows of a call whose set the law's tables speak of
none_ok : (book : Book) (shape : Widths) (on : Bool) (faces : List (Option Face)) (c : Call) (k : ℕ) → set_of_call c ≡ Some k → NoneOk (rows book shape on faces c)
none_ok book shape on faces c k q = grind (arith, nat_tests, conflict_not_ok)

-- a refused call changed no set
pub refused_changes : (book : Book) (shape : Widths) (a : Account) (c : Call) (r : Refusal) (j : ℕ) → account_refusal book shape a c ≡ Some r → changed j (said c (refused r)) ≡ false
refused_changes book shape a c r j q = grind (arith, nat_tests, changes_none, first_not_ok, none_ok, and-false)

-- a call whose event was not looked up is refused
pub unknown_refused : {P : Type 0} (book : Book) (shape : Widths) (a : Account) (c : Call) (i : ℕ) → account_refusal book shape a c ≡ None
    → option_map_or (λ r. r.0) (slice_get (rows book shape a.registered (faces_of a.sets) c) i) false ≡ true → P
unknown_refused book shape a c i q e = let no = row_fails (rows book shape a.registered (faces_of a.sets) c) i q in cc
