-- A fault among the marks is one among the replies.
use Rattle.std.proofs.Common.{◌≡◌, ◌<◌, ◌==◌, ℕ, suc, Bool, true, false, List, [], ◌∷◌, map, filter, Option, Some, None, refl, sym, ◌∙◌, arith, if◌then◌else◌}
use Rattle.papi_tools.proofs.Words.{Any, list_any, Any-from_list_any, get_or-map-range_with_len, length-map-range_with_len, Ended, Fault, first_met}
use Rattle.papi_tools.proofs.Words.{met_in, met_mark, IsFaultBody, IsFaultReply, Body, met_by, ReplyLine, mark_at, marks_in, is_bad, is_fault}
use Rattle.papi_tools.proofs.Words.{outcome_at}
use Rattle.session_model.specs.declared.reply.Body.TheVariants as body
use Rattle.papi_tools.specs.declared.status.Outcome.TheVariants.{Whole, No, Refused, ReadFault}

-- some reply says that the source failed
abbrev pub SomeFault : List ReplyLine → Type 0
SomeFault lines = Any (λ l. IsFaultReply l.reply) lines

here : (l : ReplyLine) (ls : List ReplyLine) → IsFaultReply l.reply → SomeFault (l ∷ ls)
here l ls h = (0, l, omega arith, refl, h)

there : (l : ReplyLine) (ls : List ReplyLine) → SomeFault ls → SomeFault (l ∷ ls)
there l ls (k, x, small, is, h) = (suc k, x, omega arith, is, h)

ended_fault : (e : Ended) → met_by e ≡ Some Fault → e ≡ Fault
ended_fault Fault h = refl
ended_fault other h = cc

met_fault : (b : Body) → met_in b ≡ Some Fault → IsFaultBody b
met_fault (body.Ran r) h = ended_fault r.ended h
met_fault other h = cc

by_first : (l : ReplyLine) (ls : List ReplyLine) (m rest : Option Ended) → met_in l.reply.body ≡ m → first_met m rest ≡ Some Fault → (rest ≡ Some Fault → SomeFault ls) → SomeFault (l ∷ ls)
by_first l ls None rest is e later = there l ls (later e)
by_first l ls (Some x) rest is e later = here l ls (met_fault l.reply.body (is ∙ e))

abbrev replies : ℕ → List ReplyLine → Option Ended
replies t lines = met_mark (map (λ l. l.reply) (filter (λ l. l.thread == t) lines))

by_thread : (l : ReplyLine) (ls : List ReplyLine) (t : ℕ) (b : Bool) → (l.thread == t) ≡ b → replies t (l ∷ ls) ≡ Some Fault → (replies t ls ≡ Some Fault → SomeFault ls) → SomeFault (l ∷ ls)
by_thread l ls t true is e later = by_first l ls (met_in l.reply.body) (replies t ls) refl (rw is at e) later
by_thread l ls t false is e later = there l ls (later (rw is at e))

fault_of_thread : (lines : List ReplyLine) (t : ℕ) → replies t lines ≡ Some Fault → SomeFault lines
fault_of_thread [] t e = cc
fault_of_thread (l ∷ ls) t e = by_thread l ls t (l.thread == t) refl e (fault_of_thread ls t)

is_fault-some : (m : Option Ended) → is_fault m ≡ true → m ≡ Some Fault
is_fault-some (Some Fault) e = refl
is_fault-some other e = cc

fault_among : (lines : List ReplyLine) → list_any is_fault (marks_in lines) ≡ true → SomeFault lines
unfolding marks_in mark_at
fault_among lines e =
    let (k, m, small, is, h) = Any-from_list_any is_fault (marks_in lines) e in
    let few : k < 64 = rw (length-map-range_with_len (mark_at lines) 0 64) at small in
    let at_k : m ≡ mark_at lines k = sym is ∙ get_or-map-range_with_len (mark_at lines) 0 64 k k m few (omega arith) in
    fault_of_thread lines k (sym at_k ∙ is_fault-some m h)

by_tests : (faults bad : Bool) → (if faults then ReadFault else if bad then Refused else Whole) ≡ ReadFault → faults ≡ true
by_tests true bad e = refl
by_tests false true e = cc
by_tests false false e = cc

no_by_tests : (faults bad : Bool) → (if faults then ReadFault else if bad then Refused else Whole) ≡ No → ⊥
no_by_tests true bad e = cc
no_by_tests false true e = cc
no_by_tests false false e = cc

-- a call whose runs met marks does not say no
pub never_no : (marks : List (Option Ended)) → outcome_at marks ≡ No → ⊥
never_no marks e = no_by_tests (list_any is_fault marks) (list_any is_bad marks) e

-- the runs' marks end a call by a fault only if a reply says so
pub fault_replied : (lines : List ReplyLine) → outcome_at (marks_in lines) ≡ ReadFault → SomeFault lines
fault_replied lines e = fault_among lines (by_tests (list_any is_fault (marks_in lines)) (list_any is_bad (marks_in lines)) e)
