-- The calls of each thread.
use Rattle.thread_registry.proofs.Words.{◌≡◌, ◌≢◌, ℕ, ◌+◌, ◌<◌, ◌≤◌, ◌==◌, if◌then◌else◌, inl, inr, List, [], ◌∷◌, ◌++◌, length, map, take, get_or}
use Rattle.thread_registry.proofs.Words.{set, refl, sym, ◌∙◌, ap, arith, append_assoc, replicate, cases_eq, nat_tests, Call, Register, PlanLine}
use Rattle.thread_registry.proofs.Words.{Planned, calls_in, planned_at, planned_calls}
use Rattle.std.proofs.lemmas.List.{take_more, append-nil, map-set, get_or-set_same, get_or-set_other, length-map, length-append, length-take-le, get_or-replicate}
use Rattle.call_type.specs.declared.call.Asked.TheVariants as asked

-- a line, if some line is asked for
abbrev pub some_line : PlanLine
some_line = record { number = 0; thread = 0; planned = asked.Call Register }

-- a call is added to one of the lists
pub deal-one : {V : Type 0} (F : V → List Call) (xs : List V) (i : ℕ) (w : V) (c : Call) → i < length xs → F w ≡ get_or (map F xs) i [] ++ c ∷ []
    → (t : ℕ) → get_or (map F (set xs i w)) t [] ≡ get_or (map F xs) t [] ++ (if i == t then c ∷ [] else [])
deal-one F xs i w c inside e t = grind (arith, nat_tests, cases_eq, length-map, map-set, get_or-set_same, get_or-set_other, append-nil)

pub planned-append : (t : ℕ) (xs ys : List PlanLine) → planned_at t (xs ++ ys) ≡ planned_at t xs ++ planned_at t ys
planned-append t [] ys = refl
planned-append t (l ∷ ls) ys = ap (λ cs. planned_calls t l ++ cs) (planned-append t ls ys) ∙ sym (append_assoc (planned_calls t l) (planned_at t ls) (planned_at t ys))

-- one line more
pub planned-more : (t : ℕ) (ls : List PlanLine) (k : ℕ) (l : PlanLine) → k < length ls → get_or ls k l ≡ l → planned_at t (take (k + 1) ls) ≡ planned_at t (take k ls) ++ planned_calls t l
planned-more t ls k l h e =
    ap (planned_at t) (take_more ls k l h ∙ ap (λ z. take k ls ++ z ∷ []) e)
    ∙ (planned-append t (take k ls) (l ∷ []) ∙ ap (λ cs. planned_at t (take k ls) ++ cs) (append-nil (planned_calls t l)))

-- each thread makes at most as many calls as there are lines
on-line : (t : ℕ) (l : PlanLine) → length (planned_calls t l) ≤ 1
on-line t l = grind (arith, nat_tests)

pub planned-few : (t : ℕ) (ls : List PlanLine) → length (planned_at t ls) ≤ length ls
planned-few t [] = omega arith
planned-few t (l ∷ ls) = let h = planned-few t ls in omega (arith, h, on-line t l, length-append (planned_calls t l) (planned_at t ls))

-- the calls of a line that makes one
pub one-call : (t : ℕ) (l : PlanLine) (c : Call) → l.planned ≡ asked.Call c → (if l.thread == t then c ∷ [] else []) ≡ planned_calls t l
one-call t l c e = ap (λ p. if l.thread == t then calls_in p else []) (sym e)

-- one item more, which is there
-- a line's calls are counted
pub count-more : (counts : List ℕ) (plan : List PlanLine) (k : ℕ) (l : PlanLine) (n m : ℕ) → k < length plan → get_or plan k l ≡ l → l.thread < length counts → n ≡ length (calls_in l.planned) → m ≡ get_or counts l.thread 0 + n
    → ((t : ℕ) → t < 64 → get_or counts t 0 ≡ length (planned_at t (take k plan)))
    → (t : ℕ) → t < 64 → get_or (set counts l.thread m) t 0 ≡ length (planned_at t (take (k + 1) plan))
count-more counts plan k l n m below here inside e sum old t h =
    let more : length (planned_at t (take (k + 1) plan)) ≡ length (planned_at t (take k plan)) + length (planned_calls t l) =
    ap length (planned-more t plan k l below here) ∙ length-append (planned_at t (take k plan)) (planned_calls t l) in
    elim (cases_eq l.thread t) [
      | inl is ↦
          let mine : planned_calls t l ≡ calls_in l.planned = grind (arith, nat_tests, is) in
          let was : get_or counts l.thread 0 ≡ get_or counts t 0 = ap (λ i. get_or counts i 0) is in
          let now : get_or (set counts l.thread m) t 0 ≡ m = ap (λ i. get_or (set counts l.thread m) i 0) (sym is) ∙ get_or-set_same counts l.thread m 0 inside in
          omega (arith, now, sum, e, was, old t h, more, ap length mine)
      | inr not ↦
          let apart : t ≢ l.thread = λ q. not (sym q) in
          let none : planned_calls t l ≡ [] = grind (arith, nat_tests, not) in
          omega (arith, get_or-set_other counts l.thread t m 0 apart, old t h, more, ap length none)
    ]

-- the count so far
pub count-few : (counts : List ℕ) (plan : List PlanLine) (k t : ℕ) → k ≤ length plan → t < 64 → ((t : ℕ) → t < 64 → get_or counts t 0 ≡ length (planned_at t (take k plan))) → get_or counts t 0 ≤ k
count-few counts plan k t h small old = omega (arith, old t small, planned-few t (take k plan), length-take-le k plan h)

pub none-counted : (none t : ℕ) → none ≡ 0 → t < 64 → get_or (replicate 64 none) t none ≡ none
none-counted none t e h = get_or-replicate 64 t none none h

pub one-at-most : (p : Planned) → length (calls_in p) ≤ 1
one-at-most p = grind (arith, nat_tests)
