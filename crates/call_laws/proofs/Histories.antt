-- What one more call does to what a history says of a set.
use Rattle.call_laws.proofs.Words.{arith, nat_tests, ◌≡◌, ℕ, Bool, true, false, List, [], ◌∷◌, ◌++◌, refl, if◌then◌else◌, Occ, Book, new_set}
use Rattle.call_laws.proofs.Words.{CallReply, makes, newly_taken, taken_by, changed, set_now, holds_after, is_accum, is_clearing, is_zeroing}
use Rattle.call_laws.proofs.Words.{runs_now, runs_after, zeroes, added, values_now, window}
use Rattle.std.proofs.lemmas.List.{append-nil}

-- ---- a call that changed another set or none

pub runs_now-other : (k : ℕ) (x : CallReply) (log : List CallReply) → changed k x ≡ false → runs_now k (x ∷ log) ≡ runs_now k log
runs_now-other k x log c = rw c refl

pub set_now-other : (book : Book) (k : ℕ) (x : CallReply) (log : List CallReply) → makes k x ≡ false → changed k x ≡ false → set_now book k (x ∷ log) ≡ set_now book k log
set_now-other book k x log m c = rw (m, c) refl

pub zeroes-other : (k : ℕ) (x : CallReply) → makes k x ≡ false → changed k x ≡ false → zeroes k x ≡ false
zeroes-other k x m c = rw (m, c) refl

pub added-other : (book : Book) (stream : List Occ) (k : ℕ) (x : CallReply) (log : List CallReply) → makes k x ≡ false → changed k x ≡ false
    → added book stream k (x ∷ log) ≡ added book stream k log
added-other book stream k x log m c = rw (m, c) refl

-- ---- a call that changed the set

pub runs_now-changed : (k : ℕ) (x : CallReply) (log : List CallReply) → changed k x ≡ true → runs_now k (x ∷ log) ≡ runs_after x.call (runs_now k log)
runs_now-changed k x log c = rw c refl

pub set_now-changed : (book : Book) (k : ℕ) (x : CallReply) (log : List CallReply) → makes k x ≡ false → changed k x ≡ true
    → set_now book k (x ∷ log) ≡ holds_after book x.call (set_now book k log)
set_now-changed book k x log m c = rw (m, c) refl

pub zeroes-changed : (k : ℕ) (x : CallReply) → makes k x ≡ false → changed k x ≡ true → zeroes k x ≡ is_zeroing x.call
zeroes-changed k x m c = rw (m, c) refl

-- what the caller's values are made of after a call that changed the set
pub added-changed : (book : Book) (stream : List Occ) (k : ℕ) (x : CallReply) (log : List CallReply) → makes k x ≡ false → changed k x ≡ true
    → added book stream k (x ∷ log)
    ≡ (if is_clearing x.call then [] else (if is_accum x.call then values_now book stream k log ∷ [] else []) ++ added book stream k log)
added-changed book stream k x log m c = rw (m, c) refl

-- ---- a call that made the set

pub set_now-made : (book : Book) (k : ℕ) (x : CallReply) (log : List CallReply) → makes k x ≡ true → set_now book k (x ∷ log) ≡ new_set
set_now-made book k x log m = rw m refl

pub window-made : (stream : List Occ) (k : ℕ) (x : CallReply) (log : List CallReply) → makes k x ≡ true → window stream k (x ∷ log) ≡ []
window-made stream k x log m = rw m refl

pub added-made : (book : Book) (stream : List Occ) (k : ℕ) (x : CallReply) (log : List CallReply) → makes k x ≡ true → added book stream k (x ∷ log) ≡ []
added-made book stream k x log m = rw m refl

-- ---- windows

none_more : {X : Type 0} (b : Bool) (xs : List X) → xs ++ (if b then [] else []) ≡ xs
none_more b xs = grind (arith, nat_tests, append-nil)

pub window-zeroing : (stream : List Occ) (k : ℕ) (x : CallReply) (log : List CallReply) → zeroes k x ≡ true → window stream k (x ∷ log) ≡ []
window-zeroing stream k x log z = rw z refl

pub window-same : (stream : List Occ) (k : ℕ) (x : CallReply) (log : List CallReply) → zeroes k x ≡ false → taken_by x.reply.body ≡ 0
    → window stream k (x ∷ log) ≡ window stream k log
window-same stream k x log z none = rw (z, none) (none_more (runs_now k log) (window stream k log))

pub window-running : (stream : List Occ) (k : ℕ) (x : CallReply) (log : List CallReply) → zeroes k x ≡ false → runs_now k log ≡ true
    → window stream k (x ∷ log) ≡ window stream k log ++ newly_taken stream x log
window-running stream k x log z on = rw (z, on) refl

pub window-stays : (stream : List Occ) (k : ℕ) (x : CallReply) (log : List CallReply) → zeroes k x ≡ false → runs_now k log ≡ false
    → window stream k (x ∷ log) ≡ window stream k log
window-stays stream k x log z off = rw (z, off) (append-nil (window stream k log))
