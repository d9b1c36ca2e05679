-- Replies that are kept in a list.
use Rattle.thread_session.proofs.Words.{◌≡◌, ◌≤◌, ◌∙◌, ℕ, List, ◌++◌, length, take, drop, ap, sym, arith, take-append_seam, Result, Ok, Err}
use Rattle.thread_session.proofs.Words.{OnOk, Book, Call, Reply, Account, Note, Coming, PartAdded, SessionView, FollowsTo, IsCutTo, step, expecting}
use Rattle.std.proofs.lemmas.List.{take_all}
use Rattle.std.specs.Prelude.{ℤ}
use Rattle.overflow_dispatch.specs.Notes.{Begun}
use Rattle.thread_core.specs.Told.{AreGiven}
use Rattle.thread_session.specs.Keeping.{IsReplied, IsStarvedTo}

-- the values at the first places of an array that has room for all
pub given_first : (values before after : List ℤ) (n : ℕ) → AreGiven values before after → n ≡ length values → n ≤ 32 → length before ≡ 32 → take n after ≡ values
given_first values before after n given count few room =
    ap (take n) (given ∙ ap (λ vs. vs ++ drop (length values) before) (take_all (length before) values (omega (arith, count, few, room))))
    ∙ ap (λ i. take i (values ++ drop (length values) before)) count ∙ take-append_seam values (drop (length values) before)

pub on_ok : {T E : Type 0} (r : Result T E) {P : Type 0} → P → OnOk r P
on_ok (Ok x) p = p
on_ok (Err e) p = tt

pub on_ok_then : {T E : Type 0} (r : Result T E) {A P : Type 0} → (A → P) → OnOk r A → OnOk r P
on_ok_then (Ok x) f a = f a
on_ok_then (Err e) f a = tt

-- not all notes, or all, are some of the first
pub begun_part : (before given after : List Note) → PartAdded before given after → Begun before given after
begun_part before given after h = (h.0, omega (arith, h.1), h.2)

pub begun_all : (before given after : List Note) → after ≡ before ++ given → Begun before given after
begun_all before given after e = (length given, omega arith, e ∙ ap (λ v. before ++ v) (sym (take_all (length given) given (omega arith))))

-- the call was made, and its reply could not be kept
pub starved_made : (book : Book) (old new : SessionView) (made : Call) (reply : Reply) (before after : List Note) (left : Coming) → FollowsTo book old new made reply before after left
    → IsStarvedTo book old made before after left
starved_made book old new made reply before after left f =
    record { expected = f.expected; can_come = f.can_come; notes = λ a s. begun_all before (step book old.core.shape (expecting f.expected a) made).notes after (f.notes a s) }

-- the call is a run
module _ (book : Book) (old : SessionView) (made run : Call) (is : made ≡ run) (before after : List Note) where
  pub run_begun : (a : Account) → PartAdded before (step book old.core.shape a run).notes after → Begun before (step book old.core.shape a made).notes after
  run_begun a part = rw is (begun_part before (step book old.core.shape a run).notes after part)

  pub run_noted : (a : Account) → after ≡ before ++ (step book old.core.shape a run).notes → Begun before (step book old.core.shape a made).notes after
  run_noted a e = rw is (begun_all before (step book old.core.shape a run).notes after e)

  pub run_cut : (left : Coming) → IsCutTo book old run before after left → IsStarvedTo book old made before after left
  run_cut left cut = rw is record {
    expected = cut.expected;
    can_come = cut.can_come;
    notes = λ a s. begun_part before (step book old.core.shape (expecting cut.expected a) run).notes after (cut.notes a s);
  }

  pub run_unkept : (new : SessionView) (reply : Reply) (left : Coming) → FollowsTo book old new run reply before after left → IsStarvedTo book old made before after left
  run_unkept new reply left f = rw is (starved_made book old new run reply before after left f)

  pub run_replied : (new : SessionView) (reply : Reply) → IsReplied book old new run reply before after → IsReplied book old new made reply before after
  run_replied new reply r = rw is r
