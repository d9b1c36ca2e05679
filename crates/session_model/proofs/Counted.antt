-- Each thread keeps its places, and each set one value of the caller for each event.
use Rattle.session_model.proofs.Words.{nat_tests, ◌≡◌, ◌∙◌, ◌∷◌, ℕ, ℤ, pos, List, [], length, refl, sym, ap, arith, Option, None, Ok, length-set}
use Rattle.session_model.proofs.Words.{length-map, length-replicate, All-replicate, ForSome, MOST_SETS, Occ, Book, event_value, Call, Kept, IsValued}
use Rattle.session_model.proofs.Words.{measured, sums, values_of, changed_at, kept_after, new_kept, sets_after, OpeningValued, PlacesStay, ValuesStay}
use Rattle.call_type.specs.declared.call.Call.TheVariants as call
use Rattle.session_model.proofs.Sets.{performed_sets, step_each, step_has}

as_many : (f : Kept → Kept) (o : Option ℕ) (sets : List (Option Kept)) → length (changed_at f o sets) ≡ length sets
as_many f = grind (arith, nat_tests, length-set)

places_after : (book : Book) (past : List Occ) (c : Call) (sets : List (Option Kept)) → length (sets_after new_kept (kept_after book past) c sets) ≡ length sets
places_after book past c sets = grind (arith, nat_tests, length-set, as_many)

pub places_stay : PlacesStay
places_stay book shape a c = step_has (λ b. length b.sets ≡ length a.sets) book shape a c refl (λ q. ap length (performed_sets book shape a c) ∙ places_after book a.past c a.sets)

length-sums : (vs xs : List ℤ) → length vs ≡ length xs → length (sums vs xs) ≡ length xs
length-sums [] xs e = e
length-sums (v ∷ vs) [] e = absurd (omega (arith, e))
length-sums (v ∷ vs) (x ∷ xs) e = omega (arith, length-sums vs xs (omega (arith, e)))

values_each : (book : Book) (past : List Occ) (s : Kept) → length (values_of book past s) ≡ length s.set.events
values_each book past s = length-map s.set.events (event_value book (measured s.set.slice book past s))

kept_valued : (book : Book) (past : List Occ) (c : Call) (s : Kept) → IsValued s → IsValued (kept_after book past c s)
kept_valued book past (call.Cleanup k) s h = record { one_each = length-replicate _ (pos 0) }
kept_valued book past (call.Add k (Ok e)) s h = record { one_each = length-replicate _ (pos 0) }
kept_valued book past (call.Remove k (Ok e)) s h = record { one_each = length-replicate _ (pos 0) }
kept_valued book past (call.Accum k) s h = let all = values_each book past s in record { one_each = length-sums s.values (values_of book past s) (h.one_each ∙ sym all) ∙ all }
kept_valued book past (call.Overflow k (Ok e) t) s h = record { one_each = h.one_each }
kept_valued book past c s h = record { one_each = h.one_each }

pub values_stay : ValuesStay
values_stay book shape a c h = record { each = step_each IsValued book shape a c (record { one_each = refl }) (λ q k s i there g. kept_valued book a.past c s g) h.each }

pub opening_valued : OpeningValued
opening_valued thread rest mark = record { each = All-replicate (λ place. ForSome place IsValued) MOST_SETS None (λ x e. cc) }
