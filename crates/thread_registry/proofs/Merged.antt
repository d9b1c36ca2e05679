-- Lines that are answered one after another.
use Rattle.thread_registry.proofs.Words.{◌≡◌, ℕ, zero, suc, ◌+◌, ◌-◌, ◌<◌, ◌≤◌, Bool, false, List, [], ◌∷◌, ◌++◌, length, map, drop, get_or, set, sym}
use Rattle.thread_registry.proofs.Words.{refl, subst, ◌∙◌, ap, ap₂, arith, append_assoc, length-append, replicate, Some, slice_get, unwrap_or}
use Rattle.thread_registry.proofs.Words.{cases_eq, nat_tests, drop_more, map-append, get_or-set_same, get_or-set_other, length-drop, All-append}
use Rattle.thread_registry.proofs.Words.{slice_get-get_or, option_map, Code, Reply, plain, next_reply, registered_after, Call, name_of, AllAnswered}
use Rattle.thread_registry.proofs.Words.{IsAnswered, IsListOf, IsMade, answer_of, line_of, made_at, Answer, AnsweredLine, PlanLine, ReplyLine}
use Rattle.thread_registry.proofs.Words.{Planned, calls_in, planned_at, planned_calls, reply_by, rest_by, flags_by, lines_by}
use Rattle.papi_base.specs.declared.code.Code.TheVariants as code
use Rattle.call_type.specs.declared.call.Asked.TheVariants as asked

-- what is left of each list, after so many of its replies
abbrev pub rests : List ℕ → List (List Reply) → List (List Reply)
rests [] lists = []
rests (n ∷ ns) [] = []
rests (n ∷ ns) (list ∷ lists) = drop n list ∷ rests ns lists

pub rests-none : (n : ℕ) (lists : List (List Reply)) → length lists ≡ n → rests (replicate n 0) lists ≡ lists
rests-none zero [] e = refl
rests-none zero (list ∷ lists) e = absurd (omega (arith, e))
rests-none (suc n) [] e = absurd (omega (arith, e))
rests-none (suc n) (list ∷ lists) e = ap (λ v. list ∷ v) (rests-none n lists (omega (arith, e)))

pub rests-at : (ns : List ℕ) (lists : List (List Reply)) (t : ℕ) → t < length ns → t < length lists → get_or (rests ns lists) t [] ≡ drop (get_or ns t 0) (get_or lists t [])
rests-at [] lists t h k = absurd (omega (arith, h))
rests-at (n ∷ ns) [] t h k = absurd (omega (arith, k))
rests-at (n ∷ ns) (list ∷ lists) zero h k = refl
rests-at (n ∷ ns) (list ∷ lists) (suc t) h k = rests-at ns lists t (omega (arith, h)) (omega (arith, k))

pub rests-set : (ns : List ℕ) (lists : List (List Reply)) (t m : ℕ) → t < length lists → rests (set ns t m) lists ≡ set (rests ns lists) t (drop m (get_or lists t []))
rests-set [] lists t m k = refl
rests-set (n ∷ ns) [] t m k = absurd (omega (arith, k))
rests-set (n ∷ ns) (list ∷ lists) zero m k = refl
rests-set (n ∷ ns) (list ∷ lists) (suc t) m k = ap (λ v. drop n list ∷ v) (rests-set ns lists t m (omega (arith, k)))

length-rests : (ns : List ℕ) (lists : List (List Reply)) → length ns ≡ length lists → length (rests ns lists) ≡ length lists
length-rests [] [] e = refl
length-rests [] (list ∷ lists) e = absurd (omega (arith, e))
length-rests (n ∷ ns) [] e = absurd (omega (arith, e))
length-rests (n ∷ ns) (list ∷ lists) e = let q = length-rests ns lists (omega (arith, e)) in omega (arith, q)

-- the next of a list's replies
pub next_from : (n : ℕ) (rs : List Reply) → get_or rs n (plain code.Ok) ≡ next_reply (drop n rs)
next_from zero [] = refl
next_from zero (r ∷ rs) = refl
next_from (suc n) [] = refl
next_from (suc n) (r ∷ rs) = next_from n rs

pub code_from : (n : ℕ) (rs : List Reply) (c : Code) → n < length rs → option_map (λ r. r.code) (slice_get rs n) ≡ Some c → c ≡ (next_reply (drop n rs)).code
code_from n rs c inside e =
    ap (λ o. unwrap_or o c) (sym e ∙ ap (option_map (λ r. r.code)) (slice_get-get_or rs n (plain code.Ok) inside)) ∙ ap (λ r. r.code) (next_from n rs)

pub made_from : (lists : List (List Reply)) (t n : ℕ) (rs : List Reply) → IsListOf lists t rs → made_at lists t n ≡ next_reply (drop n rs)
made_from lists t n rs of = ap (λ l. get_or l n (plain code.Ok)) of.is ∙ next_from n rs

pub is_made : (lists : List (List Reply)) (t n : ℕ) (rs : List Reply) → n < length rs → IsListOf lists t rs → IsMade lists t n
is_made lists t n rs inside of = record { listed = of.listed; inside = subst (λ l. n < length l) (sym of.is) inside }

-- one line more
pub answered-more : (lists : List (List Reply)) (ls ls' : List AnsweredLine) (l : AnsweredLine) → AllAnswered lists ls → IsAnswered lists l → ls' ≡ ls ++ l ∷ [] → AllAnswered lists ls'
answered-more lists ls ls' l all one e = subst (AllAnswered lists) (sym e) (All-append (IsAnswered lists) ls (l ∷ []) all alone)
  where
    alone : (i : ℕ) (d : AnsweredLine) → i < 1 → IsAnswered lists (get_or (l ∷ []) i d)
    alone zero d lt = one
    alone (suc i) d lt = absurd (omega (arith, lt))

-- the next line is answered
pub merged-more : (xs : List (List Reply)) (v w : List Reply) (flags flags' : List Bool) (lines lines' whole : List ReplyLine) (reply : Reply) (plan : List PlanLine) (k : ℕ) (l : PlanLine)
    → k < length plan → get_or plan k l ≡ l → get_or xs l.thread [] ≡ v
    → reply ≡ reply_by flags v l.planned → w ≡ rest_by v l.planned → flags' ≡ flags_by flags v l.thread l.planned
    → lines' ≡ lines ++ record { line = l.number; thread = l.thread; word = name_of l.planned; reply = reply } ∷ []
    → lines ++ lines_by (record { flags = flags; replies = xs }) (drop k plan) ≡ whole
    → lines' ++ lines_by (record { flags = flags'; replies = set xs l.thread w }) (drop (k + 1) plan) ≡ whole
merged-more xs v w flags flags' lines lines' whole reply plan k l below here own r s g p old = grind (arith, nat_tests, drop_more, append_assoc)

rest-length : (rs : List Reply) (p : Planned) → length (rest_by rs p) ≡ length rs - length (calls_in p)
rest-length rs p = grind (arith, nat_tests, length-drop)

-- each thread has as many replies left as calls
pub counts-more : (xs : List (List Reply)) (v w : List Reply) (plan : List PlanLine) (k : ℕ) (l : PlanLine)
    → k < length plan → get_or plan k l ≡ l → l.thread < length xs → get_or xs l.thread [] ≡ v → w ≡ rest_by v l.planned
    → ((t : ℕ) → t < 64 → length (get_or xs t []) ≡ length (planned_at t (drop k plan)))
    → (t : ℕ) → t < 64 → length (get_or (set xs l.thread w) t []) ≡ length (planned_at t (drop (k + 1) plan))
counts-more xs v w plan k l below here inside own s old t h = grind (arith, nat_tests, drop_more, length-append, cases_eq, get_or-set_same, rest-length, get_or-set_other)

-- a reply is left for a call
pub inside_by : (n : ℕ) (rs : List Reply) (p : Planned) (made : Call) → p ≡ asked.Call made → length (calls_in p) ≤ length (drop n rs) → n < length rs
inside_by n rs p made e fits = omega (arith, fits, ap (λ p. length (calls_in p)) e, length-drop n rs)

-- one reply was taken
pub rest_from : (n : ℕ) (rs : List Reply) (p : Planned) (made : Call) → p ≡ asked.Call made → length (calls_in p) ≤ length (drop n rs) → drop (n + 1) rs ≡ rest_by (drop n rs) p
rest_from n rs p made e fits = sym (ap (drop 1) (drop_more rs n (plain code.Ok) (inside_by n rs p made e fits))) ∙ ap (rest_by (drop n rs)) (sym e)

pub registered_from : (flags flags' : List Bool) (n : ℕ) (rs : List Reply) (t : ℕ) (p : Planned) (made : Call) (c : Code) → p ≡ asked.Call made → length (calls_in p) ≤ length (drop n rs)
    → option_map (λ r. r.code) (slice_get rs n) ≡ Some c → flags' ≡ set flags t (registered_after made c (get_or flags t false)) → flags' ≡ flags_by flags (drop n rs) t p
registered_from flags flags' n rs t p made c e fits told is =
    is ∙ ap (λ c. set flags t (registered_after made c (get_or flags t false))) (code_from n rs c (inside_by n rs p made e fits) told) ∙ ap (flags_by flags (drop n rs) t) (sym e)

-- no line is answered yet
pub merged-none : (lists : List (List Reply)) (lines : List AnsweredLine) (flags : List Bool) (taken : List ℕ) (plan : List PlanLine) → lines ≡ [] → flags ≡ replicate 64 false → taken ≡ replicate 64 0 → length lists ≡ 64
    → map (line_of lists) lines ++ lines_by (record { flags = flags; replies = rests taken lists }) plan ≡ lines_by (record { flags = replicate 64 false; replies = lists }) plan
merged-none lists lines flags taken plan none off start long =
    ap (λ ls. map (line_of lists) ls ++ lines_by (record { flags = flags; replies = rests taken lists }) plan) none
    ∙ ap₂ (λ f r. lines_by (record { flags = f; replies = r }) plan) off (ap (λ ns. rests ns lists) start ∙ rests-none 64 lists long)

pub counts-none : (lists : List (List Reply)) (taken : List ℕ) (plan : List PlanLine) → taken ≡ replicate 64 0 → length lists ≡ 64
    → ((t : ℕ) → t < 64 → length (get_or lists t []) ≡ length (planned_at t plan)) → (t : ℕ) → t < 64 → length (get_or (rests taken lists) t []) ≡ length (planned_at t plan)
counts-none lists taken plan start long counts t few = ap (λ xs. length (get_or xs t [])) (ap (λ ns. rests ns lists) start ∙ rests-none 64 lists long) ∙ counts t few

-- what a step of the merge looks at: a line, its thread's list, and how many of its replies were taken before and after
pub record Looks (taken : List ℕ) (lists : List (List Reply)) (list : List Reply) (n m : ℕ) (plan : List PlanLine) (k : ℕ) (l : PlanLine) : Type 0 where
  pub below : k < length plan
  pub here : get_or plan k l ≡ l
  pub few : l.thread < 64
  pub taken_len : length taken ≡ 64
  pub lists_len : length lists ≡ 64
  pub own : get_or lists l.thread [] ≡ list
  pub before : get_or taken l.thread 0 ≡ n
  pub after : drop m list ≡ rest_by (drop n list) l.planned

own-rest : (taken : List ℕ) (lists : List (List Reply)) (list : List Reply) (n t : ℕ) → t < 64 → length taken ≡ 64 → length lists ≡ 64 → get_or lists t [] ≡ list → get_or taken t 0 ≡ n
    → get_or (rests taken lists) t [] ≡ drop n list
own-rest taken lists list n t few long wide own before = rests-at taken lists t (omega (arith, few, long)) (omega (arith, few, wide)) ∙ ap₂ drop before own

-- its reply is there
pub replied-by : (taken : List ℕ) (lists : List (List Reply)) (list : List Reply) (n : ℕ) (plan : List PlanLine) (k : ℕ) (l : PlanLine)
    → k < length plan → get_or plan k l ≡ l → l.thread < 64 → length taken ≡ 64 → length lists ≡ 64 → get_or lists l.thread [] ≡ list → get_or taken l.thread 0 ≡ n
    → ((t : ℕ) → t < 64 → length (get_or (rests taken lists) t []) ≡ length (planned_at t (drop k plan))) → length (calls_in l.planned) ≤ length (drop n list)
replied-by taken lists list n plan k l below here few long wide own before counts =
    let rest = own-rest taken lists list n l.thread few long wide own before in
    let many : length (drop n list) ≡ length (planned_at l.thread (drop k plan)) = ap length (sym rest) ∙ counts l.thread few in
    let line : planned_at l.thread (drop k plan) ≡ planned_calls l.thread l ++ planned_at l.thread (drop (k + 1) plan) =
    ap (planned_at l.thread) (drop_more plan k l below) ∙ ap (λ x. planned_calls l.thread x ++ planned_at l.thread (drop (k + 1) plan)) here in
    let calls : planned_calls l.thread l ≡ calls_in l.planned = grind (arith, nat_tests) in
    omega (arith, many, ap length line, ap length calls, length-append (planned_calls l.thread l) (planned_at l.thread (drop (k + 1) plan)))

pub counts-step : (taken : List ℕ) (lists : List (List Reply)) (list : List Reply) (n m : ℕ) (plan : List PlanLine) (k : ℕ) (l : PlanLine) → Looks taken lists list n m plan k l
    → ((t : ℕ) → t < 64 → length (get_or (rests taken lists) t []) ≡ length (planned_at t (drop k plan)))
    → (t : ℕ) → t < 64 → length (get_or (rests (set taken l.thread m) lists) t []) ≡ length (planned_at t (drop (k + 1) plan))
counts-step taken lists list n m plan k l x counts t h =
    ap (λ xs. length (get_or xs t [])) (rests-set taken lists l.thread m (omega (arith, x.few, x.lists_len)))
    ∙ counts-more (rests taken lists) (drop n list) (drop m (get_or lists l.thread [])) plan k l x.below x.here (omega (arith, x.few, x.taken_len, x.lists_len, length-rests taken lists (x.taken_len ∙ sym x.lists_len)))
    (own-rest taken lists list n l.thread x.few x.taken_len x.lists_len x.own x.before) (ap (drop m) x.own ∙ x.after) counts t h

pub whole-step : (taken : List ℕ) (lists : List (List Reply)) (list : List Reply) (n m : ℕ) (plan : List PlanLine) (k : ℕ) (l : PlanLine) (flags flags' : List Bool) (lines lines' : List AnsweredLine)
    (whole : List ReplyLine) (answer : Answer) → Looks taken lists list n m plan k l
    → answer_of lists l.thread answer ≡ reply_by flags (drop n list) l.planned → flags' ≡ flags_by flags (drop n list) l.thread l.planned
    → lines' ≡ lines ++ record { line = l.number; thread = l.thread; word = name_of l.planned; answer = answer } ∷ []
    → map (line_of lists) lines ++ lines_by (record { flags = flags; replies = rests taken lists }) (drop k plan) ≡ whole
    → map (line_of lists) lines' ++ lines_by (record { flags = flags'; replies = rests (set taken l.thread m) lists }) (drop (k + 1) plan) ≡ whole
whole-step taken lists list n m plan k l flags flags' lines lines' whole answer x r g p old =
    ap (λ xs. map (line_of lists) lines' ++ lines_by (record { flags = flags'; replies = xs }) (drop (k + 1) plan)) (rests-set taken lists l.thread m (omega (arith, x.few, x.lists_len)))
    ∙ merged-more (rests taken lists) (drop n list) (drop m (get_or lists l.thread [])) flags flags' (map (line_of lists) lines) (map (line_of lists) lines') whole (answer_of lists l.thread answer) plan k l x.below x.here
    (own-rest taken lists list n l.thread x.few x.taken_len x.lists_len x.own x.before) r (ap (drop m) x.own ∙ x.after) g
    (ap (map (line_of lists)) p ∙ map-append (line_of lists) lines (record { line = l.number; thread = l.thread; word = name_of l.planned; answer = answer } ∷ [])) old
