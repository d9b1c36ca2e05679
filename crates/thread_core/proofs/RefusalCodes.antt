-- The refusals of an added event are not PAPI_OK.
use Rattle.thread_core.proofs.Words.{◌≡◌, inl, inr, ℕ, Bool, true, false, List, Option, Some, None, Result, Ok, Err, subst, Code, Einval, Ecount}
use Rattle.thread_core.proofs.Words.{Eisrun, Enoevst, EventRef, IsNameCode, IsNamed, Book, Clash, Refusal, Plain, Conflict, add_refusal, AtRest}
use Rattle.thread_core.proofs.Words.{Widths, cannot_take, clash_with, is_full, Face, is_absent, runs, IsRefusal, rest_code}
use Rattle.std.specs.Prelude.{IfErr, if◌then◌else◌, ⊤}
use Rattle.std.specs.Option.{option_map}

-- before the set at rest is asked
pub rest_refusal : (faces : List (Option Face)) (k : ℕ) (c : Code) → rest_code faces k ≡ Some c → IsRefusal (Plain c)
rest_refusal faces k c = go (is_absent faces k) (runs faces k) where
  go : (a b : Bool) → (if a then Some Enoevst else if b then Some Eisrun else None) ≡ Some c → IsRefusal (Plain c)
  go true b is ok = cc
  go false true is ok = cc
  go false false is ok = cc

-- the code of a refused name
name_refusal : (c : Code) → IsNameCode c → IsRefusal (Plain c)
name_refusal c (inl is) ok = cc
name_refusal c (inr (inl is)) ok = cc
name_refusal c (inr (inr is)) ok = cc

pub named_refusal : (book : Book) (shape : Widths) (e : Result EventRef Code) (c : Code) → IsNamed book shape e → e ≡ Err c → IsRefusal (Plain c)
named_refusal book shape (Ok x) c named is = cc is
named_refusal book shape (Err d) c named is = go (let same : d ≡ c = cc in same) where
  go : d ≡ c → IsRefusal (Plain c)
  go same = name_refusal c (subst IsNameCode same named)

-- what a set at rest refuses with
set_refusal : (book : Book) (e : EventRef) (s : AtRest) (r : Refusal) → add_refusal book e s ≡ Some r → IsRefusal r
set_refusal book e s r = go (cannot_take book e s) (is_full book e s) (clash_with book e s) where
  go : (a b : Bool) (clash : Option Clash) → (if a then Some (Plain Einval) else if b then Some (Plain Ecount) else option_map Conflict clash) ≡ Some r → IsRefusal r
  go true b clash is ok = cc
  go false true clash is ok = cc
  go false false None is ok = cc
  go false false (Some x) is ok = cc

pub added_refusal : (book : Book) (e : EventRef) (s : AtRest) (result : Result ⊤ Refusal) → IfErr result (λ r. add_refusal book e s ≡ Some r) → IfErr result IsRefusal
added_refusal book e s (Ok done) h = tt
added_refusal book e s (Err r) h = set_refusal book e s r h
