-- Each good call keeps the fitness of the sets.
use Rattle.session_model.proofs.Words.{rules, ◌≡◌, ◌∙◌, ◌<◌, ℕ, false, not, List, length, refl, sym, ap, arith, Option, Some, None, Ok, is_some}
use Rattle.session_model.proofs.Words.{nat_le, ForSome, option_and_then, option_map, All-replicate, nat_tests, not-false, or_parts, MOST_SETS}
use Rattle.session_model.proofs.Words.{none_of, Book, rule_of_event, Widths, cannot_arm, cannot_take, clash_with, has_event, is_armed}
use Rattle.session_model.proofs.Words.{is_bad_threshold, is_full, is_other, is_plain, shares_native, BookFits, by_number, numbered, Call, Account}
use Rattle.session_model.proofs.Words.{Kept, opening, AllValued, IsGood, face_of, faces_of, AreFit, IsFit, IsShape, is_multiplexed, rows}
use Rattle.session_model.proofs.Words.{account_refusal, FitStays, OpeningFits}
use Rattle.call_type.specs.declared.call.Call.TheVariants as call
use Rattle.session_model.proofs.Counted.{opening_valued, values_stay}
use Rattle.session_model.proofs.Fits.{added_fit, armed_fit, assigned_fit, domain_fit, emptied_fit, multiplexed_fit, new_fit, removed_fit}
use Rattle.session_model.proofs.Sets.{Each, Keeps, at_map, here, row_fails, step_each, test_fails}

below_of : (a b : ℕ) → nat_le a b ≡ false → b < a
below_of a b h = grind (arith, nat_tests, h)

keeps_fit : (book : Book) (shape : Widths) (a : Account) (c : Call) → IsShape shape → BookFits shape book → IsGood book shape c → account_refusal book shape a c ≡ None → Keeps (λ s. IsFit book shape s.set) book a.past c a.sets
keeps_fit book shape a (call.Cleanup j) is_shape fits good q = λ k s i there g. emptied_fit book shape s.set g
keeps_fit book shape a (call.Add j (Ok e)) is_shape fits good q = λ k s i there g.
    let at_j = here a.sets j k s i there in
    let clash : clash_with book e s.set ≡ None = none_of (clash_with book e s.set)
    (sym (ap (λ o. is_some (option_and_then (λ f. clash_with book e f.set) o)) (at_map face_of a.sets j ∙ ap (option_map face_of) at_j)) ∙ row_fails (rows book shape a.registered (faces_of a.sets) (call.Add j (Ok e))) 4 q) in
    added_fit book shape e s.set is_shape fits good.0 good.1 (test_fails book shape a (call.Add j (Ok e)) 2 j (cannot_take book e) s q at_j refl) (test_fails book shape a (call.Add j (Ok e)) 3 j (is_full book e) s q at_j refl) clash g
keeps_fit book shape a (call.Remove j (Ok e)) is_shape fits good q = λ k s i there g. removed_fit book shape e s.set g
keeps_fit book shape a (call.AssignComponent j comp) is_shape fits good q = λ k s i there g.
    assigned_fit book shape comp s.set is_shape (below_of (length shape) comp (row_fails (rows book shape a.registered (faces_of a.sets) (call.AssignComponent j comp)) 1 q))
    (test_fails book shape a (call.AssignComponent j comp) 3 j (λ set. is_other set.component (Some comp)) s q (here a.sets j k s i there) refl) g
keeps_fit book shape a (call.SetDomain j bits) is_shape fits good q = λ k s i there g. domain_fit book shape bits s.set (row_fails (rows book shape a.registered (faces_of a.sets) (call.SetDomain j bits)) 2 q) g
keeps_fit book shape a (call.SetMultiplex j slice) is_shape fits good q = λ k s i there g.
    multiplexed_fit book shape slice s.set (row_fails (rows book shape a.registered (faces_of a.sets) (call.SetMultiplex j slice)) 2 q) (test_fails book shape a (call.SetMultiplex j slice) 3 j is_armed s q (here a.sets j k s i there) refl) g
keeps_fit book shape a (call.Overflow j (Ok e) t) is_shape fits good q = λ k s i there g.
    let at_j = here a.sets j k s i there in
    let arms = or_parts (not (has_event e s.set)) (not (is_plain (rule_of_event book e))) (test_fails book shape a (call.Overflow j (Ok e) t) 2 j (cannot_arm book e) s q at_j refl) in
    armed_fit book shape e t s.set (not-false (has_event e s.set) arms.0) (not-false (is_plain (rule_of_event book e)) arms.1) (test_fails book shape a (call.Overflow j (Ok e) t) 3 j (is_bad_threshold shape t) s q at_j refl)
    (test_fails book shape a (call.Overflow j (Ok e) t) 4 j (shares_native book e t) s q at_j refl) (test_fails book shape a (call.Overflow j (Ok e) t) 5 j is_multiplexed s q at_j refl) g
keeps_fit book shape a c is_shape fits good q = λ k s i there g. g

-- by place, and by number
each_fit : (book : Book) (shape : Widths) (sets : List (Option Kept)) → AreFit book shape sets → Each (λ s. IsFit book shape s.set) sets
each_fit book shape sets h = by_number (λ place. ForSome place (λ s. IsFit book shape s.set)) sets (λ i place e s q. h.fit i s (e ∙ ap Some q))

are_fit : (book : Book) (shape : Widths) (sets : List (Option Kept)) → Each (λ s. IsFit book shape s.set) sets → AllValued sets → AreFit book shape sets
are_fit book shape sets h v = record {
  fit = λ k s e. numbered (λ place. ForSome place (λ x. IsFit book shape x.set)) sets h k (Some s) e s refl;
  valued = v;
}

pub fit_stays : FitStays
fit_stays book shape a c is_shape fits good h = search (rules, are_fit, step_each, new_fit, keeps_fit, each_fit, values_stay)

pub opening_fits : OpeningFits
opening_fits book shape thread rest mark = are_fit book shape (opening thread rest mark).sets (All-replicate (λ place. ForSome place (λ s. IsFit book shape s.set)) MOST_SETS None (λ x e. cc)) (opening_valued thread rest mark)
