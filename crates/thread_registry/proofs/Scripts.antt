-- The plan of a script, and its lines answered as those of the script.
use Rattle.thread_registry.proofs.Words.{nat_tests, ◌≡◌, ℕ, zero, suc, ◌<◌, Bool, ◌==◌, if◌then◌else◌, List, [], ◌∷◌, ◌++◌, All, length, map, get_or}
use Rattle.thread_registry.proofs.Words.{set, refl, sym, ◌∙◌, ap, ap₂, subst, arith, Option, None, slice_set, set-get_or, All-drop, All-tail, name_of}
use Rattle.thread_registry.proofs.Words.{Native, Asked, Line, Reply, LineTold, Setting, calls_asked, calls_at, mentioned_after, name_by, Ahead}
use Rattle.thread_registry.proofs.Words.{ahead_after, merged, merged_reply, next_reply, FaultsRose, IsFaultReply, PlanLine, ReplyLine, Ask, Planned}
use Rattle.thread_registry.proofs.Words.{ask_of, asks_from, calls_in, event_by, planned_at, planned_by, ahead_then, lines_by, reply_by, rest_by}
use Rattle.thread_registry.proofs.Words.{AreInOrder, reply_lines}
use Rattle.call_type.specs.declared.call.Asked.TheVariants as asked
use Rattle.thread_registry.proofs.Lists.{all-none, all-cons}

-- ---- the same calls

calls-same : (at : Setting) (m : List Native) (a : Asked) → calls_in (planned_by at m a) ≡ calls_asked a
calls-same at m a = grind (arith, nat_tests)

-- two lists whose first items and whose others are the same
pub firsts : {X : Type 0} (x y : X) (xs ys : List X) → x ∷ xs ≡ y ∷ ys → x ≡ y
firsts x y xs ys e = cc

pub others : {X : Type 0} (x y : X) (xs ys : List X) → x ∷ xs ≡ y ∷ ys → xs ≡ ys
others x y xs ys e = cc

pub planned-script : (at : Setting) (m : List Native) (ls : List Line) (plan : List PlanLine) → map ask_of plan ≡ asks_from at m ls → (t : ℕ) → planned_at t plan ≡ calls_at t ls
planned-script at m [] [] e t = refl
planned-script at m [] (p ∷ ps) e t = absurd (omega (arith, ap length e))
planned-script at m (l ∷ ls) [] e t = absurd (omega (arith, ap length e))
planned-script at m (l ∷ ls) (p ∷ ps) e t =
    let now = mentioned_after m l in
    let one : ask_of p ≡ record { thread = l.thread; planned = planned_by at now l.asked } = firsts _ _ _ _ e in
    ap₂ ◌++◌
    (ap (λ (k : Ask). if k.thread == t then calls_in k.planned else []) one ∙ ap (λ cs. if l.thread == t then cs else []) (calls-same at now l.asked))
    (planned-script at now ls ps (others _ _ _ _ e) t)

pub script-threads : (at : Setting) (m : List Native) (ls : List Line) (plan : List PlanLine) → map ask_of plan ≡ asks_from at m ls → All (λ p. p.thread < 64) plan → All (λ l. l.thread < 64) ls
script-threads at m [] plan e all = all-none (λ l. l.thread < 64)
script-threads at m (l ∷ ls) [] e all = absurd (omega (arith, ap length e))
script-threads at m (l ∷ ls) (p ∷ ps) e all =
    let one : ask_of p ≡ record { thread = l.thread; planned = planned_by at (mentioned_after m l) l.asked } = firsts _ _ _ _ e in
    all-cons (λ k. k.thread < 64) l ls (subst (λ (k : Ask). k.thread < 64) one (all 0 p (omega arith)))
    (script-threads at (mentioned_after m l) ls ps (others _ _ _ _ e) (All-tail (λ (k : PlanLine). k.thread < 64) p ps all))

-- ---- the same replies

named-same : (flags : List Bool) (replies : List Reply) (row : Option ℕ) (native : Option Native) → reply_by flags replies (asked.NameOf (event_by row native)) ≡ name_by row native
named-same flags replies = grind (arith, nat_tests)

reply-same : (at : Setting) (m : List Native) (x : Ahead) (t : ℕ) (a : Asked) → reply_by x.flags (get_or x.replies t []) (planned_by at m a) ≡ merged_reply at m x t a
reply-same at m x t a = grind (arith, nat_tests, named-same)

unchanged : (x : Ahead) (t : ℕ) → record { flags = x.flags; replies = slice_set x.replies t (get_or x.replies t []) } ≡ x
unchanged x t = ap {A = List (List Reply)} {B = Ahead} (λ rs. record { flags = x.flags; replies = rs }) (set-get_or x.replies t [])

ahead-same : (at : Setting) (m : List Native) (x : Ahead) (t : ℕ) (a : Asked) → ahead_then x t (planned_by at m a) ≡ ahead_after x t a
ahead-same at m x t a = grind (arith, nat_tests, unchanged)

pub merged-same : (at : Setting) (m : List Native) (ls : List Line) (plan : List PlanLine) (x : Ahead) → map ask_of plan ≡ asks_from at m ls → map (λ l. l.reply) (lines_by x plan) ≡ merged at m x ls
merged-same at m [] [] x e = refl
merged-same at m [] (p ∷ ps) x e = absurd (omega (arith, ap length e))
merged-same at m (l ∷ ls) [] x e = absurd (omega (arith, ap length e))
merged-same at m (l ∷ ls) (p ∷ ps) x e =
    let now = mentioned_after m l in
    let one : ask_of p ≡ record { thread = l.thread; planned = planned_by at now l.asked } = firsts _ _ _ _ e in
    ap₂ ◌∷◌
    (ap (λ (k : Ask). reply_by x.flags (get_or x.replies k.thread []) k.planned) one ∙ reply-same at now x l.thread l.asked)
    (ap (λ (k : Ask). map (λ (z : ReplyLine). z.reply) (lines_by (ahead_then x k.thread k.planned) ps)) one
    ∙ (ap (λ z. map (λ (y : ReplyLine). y.reply) (lines_by z ps)) (ahead-same at now x l.thread l.asked)
    ∙ merged-same at now ls ps (ahead_after x l.thread l.asked) (others _ _ _ _ e)))

-- ---- beside the lines

pub lines-told : (plan : List PlanLine) (x : Ahead) (told : List LineTold) → map (λ l. l.reply) (lines_by x plan) ≡ map (λ y. y.reply) told → lines_by x plan ≡ reply_lines plan told
lines-told [] x told e = refl
lines-told (l ∷ ls) x [] e = absurd (omega (arith, ap length e))
lines-told (l ∷ ls) x (y ∷ ys) e = grind (arith, nat_tests, firsts, others, lines-told ls (ahead_then x l.thread l.planned) ys (others _ _ _ _ e))

numbers : (plan : List PlanLine) (x : Ahead) → map (λ (l : ReplyLine). l.line) (lines_by x plan) ≡ map (λ (l : PlanLine). l.number) plan
numbers [] x = refl
numbers (l ∷ ls) x = ap (λ u. l.number ∷ u) (numbers ls (ahead_then x l.thread l.planned))

threads : (plan : List PlanLine) (x : Ahead) → map (λ (l : ReplyLine). l.thread) (lines_by x plan) ≡ map (λ (l : PlanLine). l.thread) plan
threads [] x = refl
threads (l ∷ ls) x = ap (λ u. l.thread ∷ u) (threads ls (ahead_then x l.thread l.planned))

words : (plan : List PlanLine) (x : Ahead) → map (λ (l : ReplyLine). l.word) (lines_by x plan) ≡ map (λ (l : PlanLine). name_of l.planned) plan
words [] x = refl
words (l ∷ ls) x = ap (λ u. name_of l.planned ∷ u) (words ls (ahead_then x l.thread l.planned))

pub lines-order : (plan : List PlanLine) (x : Ahead) → AreInOrder plan (lines_by x plan)
lines-order plan x = record { numbers = numbers plan x; threads = threads plan x; words = words plan x }

-- ---- replies that speak of a fault

set-all : (q : List Reply → Type 0) (xs : List (List Reply)) (i : ℕ) (ys : List Reply) (t : ℕ) → (t ≡ i → q ys) → q (get_or xs t []) → q (get_or (set xs i ys) t [])
set-all q [] i ys t h old = old
set-all q (x ∷ xs) zero ys zero h old = h refl
set-all q (x ∷ xs) zero ys (suc t) h old = old
set-all q (x ∷ xs) (suc i) ys zero h old = old
set-all q (x ∷ xs) (suc i) ys (suc t) h old = set-all q xs i ys t (λ e. h (ap suc e)) old

next-speaks : (b a : Option ℕ) (rs : List Reply) → All (λ r. IsFaultReply r → FaultsRose b a) rs → IsFaultReply (next_reply rs) → FaultsRose b a
next-speaks b a [] all f = absurd f
next-speaks b a (r ∷ rs) all f = all 0 r (omega arith) f

reply-speaks : (b a : Option ℕ) (flags : List Bool) (rs : List Reply) (p : Planned) → All (λ r. IsFaultReply r → FaultsRose b a) rs → IsFaultReply (reply_by flags rs p) → FaultsRose b a
reply-speaks b a flags rs p all f = grind (arith, nat_tests, next-speaks)

rest-speaks : (b a : Option ℕ) (rs : List Reply) (p : Planned) → All (λ r. IsFaultReply r → FaultsRose b a) rs → All (λ r. IsFaultReply r → FaultsRose b a) (rest_by rs p)
rest-speaks b a rs (asked.Call c) all = All-drop (λ r. IsFaultReply r → FaultsRose b a) 1 rs all
rest-speaks b a rs (asked.CodeOf c) all = all
rest-speaks b a rs (asked.NameOf e) all = all
rest-speaks b a rs asked.Threads all = all

pub lines-speak : (before after : List (Option ℕ)) (plan : List PlanLine) (x : Ahead)
    → ((t : ℕ) → All (λ r. IsFaultReply r → FaultsRose (get_or before t None) (get_or after t None)) (get_or x.replies t []))
    → All (λ l. IsFaultReply l.reply → FaultsRose (get_or before l.thread None) (get_or after l.thread None)) (lines_by x plan)
lines-speak before after [] x h = all-none (λ (l : ReplyLine). IsFaultReply l.reply → FaultsRose (get_or before l.thread None) (get_or after l.thread None))
lines-speak before after (l ∷ ls) x h =
    all-cons (λ (k : ReplyLine). IsFaultReply k.reply → FaultsRose (get_or before k.thread None) (get_or after k.thread None)) _ _
    (reply-speaks (get_or before l.thread None) (get_or after l.thread None) x.flags (get_or x.replies l.thread []) l.planned (h l.thread))
    (lines-speak before after ls (ahead_then x l.thread l.planned)
    (λ t.
    set-all (λ rs. All (λ r. IsFaultReply r → FaultsRose (get_or before t None) (get_or after t None)) rs) x.replies l.thread (rest_by (get_or x.replies l.thread []) l.planned) t
    (λ e.
    subst (λ i. All (λ r. IsFaultReply r → FaultsRose (get_or before i None) (get_or after i None)) (rest_by (get_or x.replies l.thread []) l.planned)) (sym e)
    (rest-speaks (get_or before l.thread None) (get_or after l.thread None) (get_or x.replies l.thread []) l.planned (h l.thread)))
    (h t)))

-- the threads are those of the plan
pub lines-threads : (plan : List PlanLine) (x : Ahead) → All (λ l. l.thread < 64) plan → All (λ l. l.thread < 64) (lines_by x plan)
lines-threads [] x all = all-none (λ (l : ReplyLine). l.thread < 64)
lines-threads (l ∷ ls) x all = all-cons (λ (k : ReplyLine). k.thread < 64) _ _ (all 0 l (omega arith)) (lines-threads ls (ahead_then x l.thread l.planned) (All-tail (λ (k : PlanLine). k.thread < 64) l ls all))
