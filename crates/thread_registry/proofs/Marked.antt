-- The marks of a list of replies and of one reply more, and their lines.
use Rattle.thread_registry.proofs.Words.{nat_tests, ◌≡◌, ◌<◌, ◌≤◌, ◌+◌, ◌==◌, ℕ, zero, suc, Bool, true, false, List, [], ◌∷◌, ◌++◌, length, take, map}
use Rattle.thread_registry.proofs.Words.{filter, All, ap₂, slice_get, subst, unwrap_or, set, get_or, if◌then◌else◌, Option, Some, None, refl, sym, ap}
use Rattle.thread_registry.proofs.Words.{◌∙◌, arith, replicate, tests, get_or_default, map-append, slice_get-get_or, filter-append}
use Rattle.thread_registry.proofs.Words.{get_or-map-range_with_len, take-suc, range_with_len, option_map, option_or, plain, Reply, Ended, first_met}
use Rattle.thread_registry.proofs.Words.{met_in, met_mark, ReplyLine, mark_at, marks_in}
use Rattle.call_type.specs.declared.call_name.CallName.TheVariants as name
use Rattle.papi_base.specs.declared.code.Code.TheVariants as code

first_met-none : (a : Option Ended) → first_met a None ≡ a
first_met-none None = refl
first_met-none (Some e) = refl

first_met-assoc : (a b c : Option Ended) → first_met (first_met a b) c ≡ first_met a (first_met b c)
first_met-assoc None b c = refl
first_met-assoc (Some e) b c = refl

met_mark-append : (xs ys : List Reply) → met_mark (xs ++ ys) ≡ first_met (met_mark xs) (met_mark ys)
met_mark-append [] ys = refl
met_mark-append (r ∷ rs) ys = ap (first_met (met_in r.body)) (met_mark-append rs ys) ∙ sym (first_met-assoc (met_in r.body) (met_mark rs) (met_mark ys))

-- what a line's reply adds to the mark of a thread
abbrev added : ReplyLine → ℕ → Option Ended
added l t = if l.thread == t then met_in l.reply.body else None

one_line : (l : ReplyLine) (t : ℕ) (b : Bool) → (l.thread == t) ≡ b → met_mark (map (λ l. l.reply) (filter (λ l. l.thread == t) (l ∷ []))) ≡ added l t
one_line l t true e = rw e (first_met-none (met_in l.reply.body))
one_line l t false e = rw e refl

mark_at-more : (done : List ReplyLine) (l : ReplyLine) (t : ℕ) → mark_at (done ++ l ∷ []) t ≡ first_met (mark_at done t) (added l t)
unfolding mark_at
mark_at-more done l t = grind (arith, nat_tests, filter-append, map-append, met_mark-append, one_line)

-- two functions that agree from here on
same_from : {X : Type 0} (f g : ℕ → X) (a n : ℕ) → ((t : ℕ) → a ≤ t → f t ≡ g t) → map f (range_with_len a n) ≡ map g (range_with_len a n)
same_from f g a zero h = refl
same_from f g a (suc n) h = ap (λ x. x ∷ map f (range_with_len (a + 1) n)) (h a (omega arith)) ∙ ap (λ xs. g a ∷ xs) (same_from f g (a + 1) n (λ t le. h t (omega arith)))

-- two functions that agree but at one place
set_at : {X : Type 0} (f g : ℕ → X) (a n k : ℕ) (y : X) → k < n → ((t : ℕ) → (t ≡ a + k → ⊥) → f t ≡ g t) → y ≡ g (a + k) → set (map f (range_with_len a n)) k y ≡ map g (range_with_len a n)
set_at f g a zero k y small h e = absurd (omega arith)
set_at f g a (suc n) zero y small h e = ap (λ x. x ∷ map f (range_with_len (a + 1) n)) (e ∙ ap g (let q : a + 0 ≡ a = omega arith in q)) ∙ ap (λ xs. g a ∷ xs) (same_from f g (a + 1) n (λ t le. h t (λ q. omega arith)))
set_at f g a (suc n) (suc k) y small h e =
    ap (λ x. x ∷ set (map f (range_with_len (a + 1) n)) k y) (h a (λ q. omega arith))
    ∙ ap (λ xs. g a ∷ xs) (set_at f g (a + 1) n k y (omega arith) (λ t apart. h t (λ q. apart (omega arith))) (e ∙ ap g (let q : a + suc k ≡ a + 1 + k = omega arith in q)))

other_thread : (l : ReplyLine) (t : ℕ) (b : Bool) → (l.thread == t) ≡ b → (t ≡ l.thread → ⊥) → added l t ≡ None
other_thread l t true e apart = absurd (apart (grind (arith, tests)))
other_thread l t false e apart = rw e refl

own_thread : (l : ReplyLine) (b : Bool) → (l.thread == l.thread) ≡ b → added l l.thread ≡ met_in l.reply.body
own_thread l true e = rw e refl
own_thread l false e = absurd (grind (arith, tests))

at_other : (done : List ReplyLine) (l : ReplyLine) (t : ℕ) → (t ≡ l.thread → ⊥) → mark_at done t ≡ mark_at (done ++ l ∷ []) t
at_other done l t apart = sym (mark_at-more done l t ∙ ap (first_met (mark_at done t)) (other_thread l t (l.thread == t) refl apart) ∙ first_met-none (mark_at done t))

at_own : (done : List ReplyLine) (l : ReplyLine) → mark_at (done ++ l ∷ []) l.thread ≡ first_met (mark_at done l.thread) (met_in l.reply.body)
at_own done l = mark_at-more done l l.thread ∙ ap (first_met (mark_at done l.thread)) (own_thread l (l.thread == l.thread) refl)

known : (done : List ReplyLine) (l : ReplyLine) → l.thread < 64 → get_or (marks_in done) l.thread None ≡ mark_at done l.thread
unfolding marks_in
known done l small = get_or-map-range_with_len (mark_at done) 0 64 l.thread l.thread None small (omega arith)

or_first : (a b : Option Ended) → option_or a b ≡ first_met a b
or_first None b = refl
or_first (Some e) b = refl

-- no replies meet a mark
pub none_marked : replicate 64 None ≡ marks_in []
unfolding marks_in mark_at
none_marked = refl

-- a thread's first mark counts
pub marked : (lines : List ReplyLine) (i : ℕ) (l : ReplyLine) (marks : List (Option Ended)) (y : Option Ended) → marks ≡ marks_in (take i lines) → i < length lines → l ≡ get_or lines i l → l.thread < 64 → y ≡ option_or (get_or marks l.thread None) (met_in l.reply.body) → set marks l.thread y ≡ marks_in (take (i + 1) lines)
unfolding marks_in
marked lines i l marks y e within is small or =
    let done : List ReplyLine = take i lines in
    let more : done ++ l ∷ [] ≡ take (i + 1) lines = ap (λ x. done ++ x ∷ []) is ∙ sym (take-suc lines i l within) ∙ ap (λ k. take k lines) (let q : suc i ≡ i + 1 = omega arith in q) in
    let m : get_or marks l.thread None ≡ mark_at done l.thread = ap (λ ms. get_or ms l.thread None) e ∙ known done l small in
    let own : y ≡ mark_at (done ++ l ∷ []) l.thread = or ∙ or_first (get_or marks l.thread None) (met_in l.reply.body) ∙ ap (λ x. first_met x (met_in l.reply.body)) m ∙ sym (at_own done l) in
    ap (λ ms. set ms l.thread y) e
    ∙ set_at (mark_at done) (mark_at (done ++ l ∷ [])) 0 64 l.thread y small (λ t apart. at_other done l t (λ q. apart (omega arith)))
    (own ∙ ap (mark_at (done ++ l ∷ [])) (let q : l.thread ≡ 0 + l.thread = omega arith in q))
    ∙ ap (λ ls. map (mark_at ls) (range_with_len 0 64)) more

-- a line in place of one that a list does not have
some_reply : ReplyLine
some_reply = record { line = 0; thread = 0; word = name.Run; reply = plain code.Ok }

-- what is told of a line that is there
told_of : {X : Type 0} (f : ReplyLine → X) (lines : List ReplyLine) (i : ℕ) (x : X) → i < length lines → option_map f (slice_get lines i) ≡ Some x → f (get_or lines i some_reply) ≡ x
told_of f lines i x inside e = ap (λ o. unwrap_or o x) (sym (ap (option_map f) (slice_get-get_or lines i some_reply inside)) ∙ e)

pub thread_small : (lines : List ReplyLine) (i t : ℕ) → i < length lines → option_map (λ l. l.thread) (slice_get lines i) ≡ Some t → All (λ l. l.thread < 64) lines → t < 64
thread_small lines i t inside e all = subst (λ t. t < 64) (told_of (λ l. l.thread) lines i t inside e) (all i some_reply inside)

-- the same, with the thread and the mark of the line alone
pub marked_at : (lines : List ReplyLine) (i t : ℕ) (m : Option Ended) (marks : List (Option Ended)) (y : Option Ended) → marks ≡ marks_in (take i lines) → i < length lines
    → option_map (λ l. l.thread) (slice_get lines i) ≡ Some t → option_map (λ l. met_in l.reply.body) (slice_get lines i) ≡ Some m
    → All (λ l. l.thread < 64) lines → y ≡ option_or (get_or marks t None) m → set marks t y ≡ marks_in (take (i + 1) lines)
marked_at lines i t m marks y e within at is all or =
    let l = get_or lines i some_reply in
    let same : l.thread ≡ t = told_of (λ l. l.thread) lines i t within at in
    let own : met_in l.reply.body ≡ m = told_of (λ l. met_in l.reply.body) lines i m within is in
    ap (λ t. set marks t y) (sym same)
    ∙ marked lines i l marks y e within (sym (get_or_default lines i l some_reply within)) (subst (λ t. t < 64) (sym same) (thread_small lines i t within at all))
    (or ∙ ap₂ (λ t m. option_or (get_or marks t None) m) (sym same) (sym own))
