-- What one occurrence more does to the counts of a set.
use Rattle.thread_core.proofs.Words.{ℕ, List, Option, Kept, AllWithin, slice_get, ◌≡◌, Some, IsWithin, all_at, refl, Native, Domain, Occ, weight_of}
use Rattle.thread_core.proofs.Words.{holds, false, ne_eqb, cond-false, Turns, weight_in_turn, ◌-◌, Bool, if◌then◌else◌, true, ◌≤◌, length, count}
use Rattle.thread_core.proofs.Words.{◌++◌, ◌∷◌, [], ◌+◌, last_after, None, runs, weighed_running, total, end, ap₂, ap, clock, ◌∙◌, clock_stays, sym}
use Rattle.thread_core.proofs.Words.{arith, turns_of, estimated_in, estimate, active, Book, measured, groups, masks_of, set_natives, slice_index}
use Rattle.thread_core.proofs.Words.{position_or_len, same_native, sum, sum_by-append, drop, take, Rises, along, ◌*◌, weighed, CoreView, Account}
use Rattle.thread_core.proofs.Words.{CoreStands, ◌<◌, ◌^◌, has_turn, weighed_stopped, weight_of-le, sum_by-take-drop}

pub within_at : (now : ℕ) (sets : List (Option Kept)) (k : ℕ) (s : Kept) → AllWithin now sets → slice_get sets k ≡ Some (Some s) → IsWithin now s
within_at now sets k s h e = all_at (λ place. (x : Kept) → place ≡ Some x → IsWithin now x) sets k (Some s) h.each e s refl

-- a native of another component weighs nothing
pub weight_none : (n : Native) (d : Domain) (before : Option Occ) (o : Occ) → (n.comp ≡ o.comp → ⊥) → weight_of n d before o ≡ 0
weight_none n d before o apart = let none : holds n d o ≡ false = rw (ne_eqb n.comp o.comp apart) refl in cond-false (holds n d o) _ 0 none

pub turn_none : (t : Turns) (group : ℕ) (n : Native) (d : Domain) (before : Option Occ) (o : Occ) → weight_of n d before o ≡ 0 → weight_in_turn t group n d before o ≡ 0
turn_none t group n d before o none = go (has_turn t group (o.stamp - t.start)) where
  go : (b : Bool) → (if b then weight_of n d before o else 0) ≡ 0
  go true = none
  go false = refl

pub count_more : (past : List Occ) (o : Occ) (s : Kept) (n : Native) → s.running ≡ true → s.from ≤ length past → count (past ++ o ∷ []) s n ≡ count past s n + weight_of n s.set.domain (last_after None past) o
count_more past o s n runs h = weighed_running (weight_of n s.set.domain) past o s runs h

-- a stopped set keeps what it counted, and what is estimated of it
total_stopped : (past : List Occ) (o : Occ) (s : Kept) → s.running ≡ false → IsWithin (length past) s → total (past ++ o ∷ []) s ≡ total past s
total_stopped past o s stopped w =
    let e : end (length (past ++ o ∷ [])) s ≡ s.to = cond-false s.running (length (past ++ o ∷ [])) s.to stopped in
    let f : end (length past) s ≡ s.to = cond-false s.running (length past) s.to stopped in
    let a = w.in_order in let b = w.past in
    ap₂ ◌-◌ (ap (clock (past ++ o ∷ [])) e ∙ clock_stays past o s.to b ∙ ap (clock past) (sym f)) (clock_stays past o s.from (omega arith))

turns_stay : (past : List Occ) (o : Occ) (s : Kept) (slice : ℕ) (numbers : List ℕ) → s.from ≤ length past → turns_of slice numbers (past ++ o ∷ []) s ≡ turns_of slice numbers past s
turns_stay past o s slice numbers h = ap (λ (c : ℕ). record (turns_of slice numbers past s) { start = c }) (clock_stays past o s.from h)

estimated_stopped : (past : List Occ) (o : Occ) (s : Kept) (t : Turns) (group : ℕ) (n : Native) → s.running ≡ false → IsWithin (length past) s → estimated_in (past ++ o ∷ []) s t group n ≡ estimated_in past s t group n
estimated_stopped past o s t group n stopped w =
    ap₂ (λ (c e : ℕ). estimate c e (active t group e)) (weighed_stopped (weight_in_turn t group n s.set.domain) past o s stopped w.in_order w.past) (total_stopped past o s stopped w)

pub measured_stopped : (book : Book) (past : List Occ) (o : Occ) (s : Kept) (slice : Option ℕ) (n : Native) → s.running ≡ false → IsWithin (length past) s → measured slice book (past ++ o ∷ []) s n ≡ measured slice book past s n
measured_stopped book past o s None n stopped w = weighed_stopped (weight_of n s.set.domain) past o s stopped w.in_order w.past
measured_stopped book past o s (Some slice) n stopped w =
    let numbers = groups (masks_of (set_natives book s.set)) in
    let group = slice_index numbers (position_or_len (same_native n) (set_natives book s.set)) in
    let a = w.in_order in let b = w.past in
    ap (λ (t : Turns). estimated_in (past ++ o ∷ []) s t group n) (turns_stay past o s slice numbers (omega arith)) ∙ estimated_stopped past o s (turns_of slice numbers past s) group n stopped w

-- counts are bounded if amounts are
sum_cons : (x : ℕ) (xs : List ℕ) → sum (x ∷ xs) ≡ x + sum xs
sum_cons x xs = sum_by-append (λ y. y) (x ∷ []) xs ∙ omega arith

parts : (k : ℕ) (xs : List ℕ) → sum (take k xs) + sum (drop k xs) ≡ sum xs
parts k xs = sum_by-take-drop (λ y. y) xs k

-- what each occurrence adds is at most 255
pub record IsSmall (weigh : Option Occ → Occ → ℕ) : Type 0 where
  pub each : (before : Option Occ) (o : Occ) → o.amount ≤ 255 → weigh before o ≤ 255

pub weight_small : (n : Native) (d : Domain) → IsSmall (weight_of n d)
weight_small n d = record { each = λ before o small. weight_of-le n d before o small }

pub turn_small : (t : Turns) (group : ℕ) (n : Native) (d : Domain) → IsSmall (weight_in_turn t group n d)
turn_small t group n d = record { each = λ before o small. go (has_turn t group (o.stamp - t.start)) (weight_of n d before o) (weight_of-le n d before o small) } where
  go : (b : Bool) (w : ℕ) → w ≤ 255 → (if b then w else 0) ≤ 255
  go true w h = h
  go false w h = omega arith

sum-along : (weigh : Option Occ → Occ → ℕ) (before : Option Occ) (time : ℕ) (past : List Occ) → IsSmall weigh → Rises time past → sum (along weigh before past) ≤ 255 * length past
sum-along weigh before time [] h r = omega arith
sum-along weigh before time (p ∷ past) h r =
    let first = h.each before p r.1 in
    let rest = sum-along weigh (Some p) (p.stamp + 1) past h r.2 in
    omega (arith, sum_cons (weigh before p) (along weigh (Some p) past))

pub weighed-le : (weigh : Option Occ → Occ → ℕ) (past : List Occ) (s : Kept) → IsSmall weigh → Rises 0 past → weighed weigh past s ≤ 255 * length past
weighed-le weigh past s h r = go s.running refl where
  xs : List ℕ
  xs = along weigh None past

  all : sum (along weigh None past) ≤ 255 * length past
  all = sum-along weigh None 0 past h r

  go : (b : Bool) → s.running ≡ b → weighed weigh past s ≤ 255 * length past
  go true runs = rw runs (omega (arith, parts s.from (along weigh None past), all))
  go false stopped = rw stopped (omega (arith, parts (s.to - s.from) (drop s.from (along weigh None past)), parts s.from (along weigh None past), all))

-- a thread takes so few occurrences that each count fits 64 bits
pub count_fits : (book : Book) (core : CoreView) (a : Account) (s : Kept) → CoreStands book core a → (n : Native) → count a.past s n < 2 ^ 64
count_fits book core a s h n = let most = weighed-le (weight_of n s.set.domain) a.past s (weight_small n s.set.domain) h.rises in let taken = h.taken in let few = h.in_limits in omega arith
