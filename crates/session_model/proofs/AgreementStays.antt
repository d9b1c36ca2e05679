-- Each good call keeps the agreement of the sets with the book.
use Rattle.session_model.proofs.Words.{◌≡◌, not, refl, Some, None, Ok, ForSome, All-replicate, not-false, or_parts, MOST_SETS, Book, rule_of_event}
use Rattle.session_model.proofs.Words.{Widths, cannot_arm, cannot_take, has_event, is_other, is_plain, new_set, shares_native, Agrees, added_agrees}
use Rattle.session_model.proofs.Words.{armed_agrees, assigned_agrees, emptied_agrees, removed_agrees, Call, Account, opening, account_refusal, IsGood}
use Rattle.session_model.proofs.Words.{AgreementStays, OpeningAgrees}
use Rattle.call_type.specs.declared.call.Call.TheVariants as call
use Rattle.session_model.proofs.Sets.{Keeps, here, of_faces, step_each, test_fails, to_faces}

keeps_agreement : (book : Book) (shape : Widths) (a : Account) (c : Call) → IsGood book shape c → account_refusal book shape a c ≡ None → Keeps (λ s. Agrees book s.set) book a.past c a.sets
keeps_agreement book shape a (call.Cleanup j) good q = λ k s i there g. emptied_agrees book s.set
keeps_agreement book shape a (call.Add j (Ok e)) good q = λ k s i there g. added_agrees book e s.set good.0 (test_fails book shape a (call.Add j (Ok e)) 2 j (cannot_take book e) s q (here a.sets j k s i there) refl) g
keeps_agreement book shape a (call.Remove j (Ok e)) good q = λ k s i there g. removed_agrees book e s.set g
keeps_agreement book shape a (call.AssignComponent j comp) good q = λ k s i there g. assigned_agrees book comp s.set (test_fails book shape a (call.AssignComponent j comp) 3 j (λ set. is_other set.component (Some comp)) s q (here a.sets j k s i there) refl) g
keeps_agreement book shape a (call.Overflow j (Ok e) t) good q = λ k s i there g.
    let at_j = here a.sets j k s i there in
    let arms = or_parts (not (has_event e s.set)) (not (is_plain (rule_of_event book e))) (test_fails book shape a (call.Overflow j (Ok e) t) 2 j (cannot_arm book e) s q at_j refl) in
    armed_agrees book e t s.set (not-false (has_event e s.set) arms.0) (not-false (is_plain (rule_of_event book e)) arms.1) (test_fails book shape a (call.Overflow j (Ok e) t) 4 j (shares_native book e t) s q at_j refl) g
keeps_agreement book shape a c good q = λ k s i there g. record { held = g.held; owned = g.owned; one_each = g.one_each; distinct = g.distinct; plain = g.plain; apart = g.apart }

pub agreement_stays : AgreementStays
agreement_stays book shape a c good h = record {
  each = to_faces (λ f. Agrees book f.set) _
      (step_each (λ s. Agrees book s.set) book shape a c (emptied_agrees book new_set) (keeps_agreement book shape a c good) (of_faces (λ f. Agrees book f.set) a.sets h.each));
}

pub opening_agrees : OpeningAgrees
opening_agrees book thread rest mark = record { each = to_faces (λ f. Agrees book f.set) (opening thread rest mark).sets (All-replicate (λ place. ForSome place (λ s. Agrees book s.set)) MOST_SETS None (λ x e. cc)) }
