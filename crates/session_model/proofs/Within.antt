-- Windows lie in the past, and stamps rise.
use Rattle.session_model.proofs.Words.{nat_tests, ◌≤◌, ◌+◌, ℕ, Bool, List, [], ◌∷◌, ◌++◌, length, take, min, arith, append_assoc, length-append}
use Rattle.session_model.proofs.Words.{Option, Some, None, if◌then◌else◌, ForSome, take-append-drop, All-replicate, MOST_SETS, Occ, Book, Widths}
use Rattle.session_model.proofs.Words.{Call, Account, Kept, last_after, time_after, zeroed, AllWithin, IsWithin, Rises, kept_after, new_kept}
use Rattle.session_model.proofs.Words.{sets_after, performed, step, OpeningWithin, RiseStays, WithinStays}
use Rattle.call_type.specs.declared.call.Call.TheVariants as call
use Rattle.session_model.proofs.Sets.{sets_each, step_has}

end_bounds : (now : ℕ) (b : Bool) (from to : ℕ) → from ≤ to → to ≤ now → (from ≤ (if b then now else to)) × ((if b then now else to) ≤ now)
end_bounds now b from to h k = grind (arith, nat_tests)

zeroed_within : (now : ℕ) (s : Kept) → IsWithin now s → IsWithin now (zeroed now s)
zeroed_within now s h = record { in_order = omega arith; past = (end_bounds now s.running s.from s.to h.in_order h.past).1 }

kept_within : (book : Book) (past : List Occ) (c : Call) (s : Kept) → IsWithin (length past) s → IsWithin (length past) (kept_after book past c s)
kept_within book past c s h = grind (arith, nat_tests, end_bounds, zeroed_within)

-- windows that lie in the past go on to do so
pub within_more : (now later : ℕ) (sets : List (Option Kept)) → now ≤ later → AllWithin now sets → AllWithin later sets
within_more now later sets more h = grind (arith, nat_tests)

-- the sets after a call at the same time
same_time : (book : Book) (a : Account) (c : Call) → AllWithin (length a.past) a.sets → AllWithin (length a.past) (sets_after new_kept (kept_after book a.past) c a.sets)
same_time book a c h = record { each = sets_each (IsWithin (length a.past)) book a.past c a.sets (record { in_order = omega arith; past = omega arith }) (λ k s q e g. kept_within book a.past c s g) h.each }

performed_within : (book : Book) (shape : Widths) (a : Account) (c : Call) → AllWithin (length a.past) a.sets → AllWithin (length (performed book shape a c).account.past) (performed book shape a c).account.sets
performed_within book shape a (call.Run n) h = within_more (length a.past) (length (a.past ++ take (min n (length a.rest)) a.rest)) a.sets (omega (arith, length-append a.past (take (min n (length a.rest)) a.rest))) h
performed_within book shape a c h = same_time book a c h

pub within_stays : WithinStays
within_stays book shape a c h = step_has (λ b. AllWithin (length b.past) b.sets) book shape a c h (λ q. performed_within book shape a c h)

-- ---- stamps

pub rises-front : (time : ℕ) (xs ys : List Occ) → Rises time (xs ++ ys) → Rises time xs
rises-front time [] ys h = tt
rises-front time (x ∷ xs) ys h = (h.0, h.1, rises-front (x.stamp + 1) xs ys h.2)

-- one occurrence more, after the clock
pub rises-push : (before : Option Occ) (past : List Occ) (o : Occ) → Rises (time_after before) past → time_after (last_after before past) ≤ o.stamp → o.amount ≤ 255 → Rises (time_after before) (past ++ o ∷ [])
rises-push before [] o h late small = (late, small, tt)
rises-push before (x ∷ past) o h late small = (h.0, h.1, rises-push (Some x) past o h.2 late small)

performed_rises : (book : Book) (shape : Widths) (a : Account) (c : Call) → Rises 0 (a.past ++ a.rest) → Rises 0 ((performed book shape a c).account.past ++ (performed book shape a c).account.rest)
performed_rises book shape a c h = grind (arith, nat_tests, append_assoc, take-append-drop)

pub rise_stays : RiseStays
rise_stays book shape a c h =
    let all = step_has (λ b. Rises 0 (b.past ++ b.rest)) book shape a c h (λ q. performed_rises book shape a c h) in
    (rises-front 0 (step book shape a c).account.past (step book shape a c).account.rest all, all)

pub opening_within : OpeningWithin
opening_within thread rest mark = record { each = All-replicate (λ place. ForSome place (IsWithin 0)) MOST_SETS None (λ x e. cc) }
