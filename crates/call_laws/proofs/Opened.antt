-- The calls with which a thread begins, and its account after them: its set has the events and counts from the first occurrence on.
use Rattle.call_laws.proofs.Words.{◌≡◌, ◌≢◌, ◌+◌, ◌-◌, ◌<◌, ◌≤◌, ◌==◌, ℕ, zero, suc, Bool, true, false, not, List, [], ◌∷◌, ◌++◌, map, drop, take}
use Rattle.call_laws.proofs.Words.{length, replicate, pos, refl, sym, ◌∙◌, ap, ap₂, subst, arith, append_assoc, append-nil, Option, Some, None, Ok}
use Rattle.call_laws.proofs.Words.{if◌then◌else◌, option_map, flat_map, list_any, range_with_len, nat_tests, Mark, Ecount, Einval, Eisrun, MOST_SETS}
use Rattle.call_laws.proofs.Words.{EventRef, Occ, Book, add_refusal, AtRest, Widths, new_set, with_event, Clash}
use Rattle.call_laws.proofs.Words.{Plain, Conflict, has_lines, RegionLine, Call, Line, Account, Kept, opening, faces_of, runs_on}
use Rattle.call_laws.proofs.Words.{conflict_row, first_of, row, account_after, account_refusal, performed, step, unless, calls_asked}
use Rattle.call_laws.proofs.Words.{calls_at, TakesAll, line_of, opening_calls, opening_lines}
use Rattle.call_type.specs.declared.call.Call.TheVariants as call

-- ---- which calls of the openings are a thread's

pub calls_append : (t : ℕ) (xs ys : List Line) → calls_at t (xs ++ ys) ≡ calls_at t xs ++ calls_at t ys
calls_append t [] ys = refl
calls_append t (x ∷ xs) ys =
    ap (λ cs. (if x.thread == t then calls_asked x.asked else []) ++ cs) (calls_append t xs ys)
    ∙ sym (append_assoc (if x.thread == t then calls_asked x.asked else []) (calls_at t xs) (calls_at t ys))

own_calls : (t : ℕ) (b : Bool) → b ≡ true → (cs : List Call) (c : Call) → (if b then c ∷ [] else []) ++ cs ≡ c ∷ cs
own_calls t true e cs c = refl
own_calls t false e cs c = cc

no_calls : (b : Bool) → b ≡ false → (cs : List Call) (c : Call) → (if b then c ∷ [] else []) ++ cs ≡ cs
no_calls true e cs c = cc
no_calls false e cs c = refl

calls_own : (t : ℕ) (cs : List Call) → calls_at t (map (line_of t) cs) ≡ cs
calls_own t [] = refl
calls_own t (c ∷ cs) =
    let same : (t == t) ≡ true = grind (arith, nat_tests) in
    own_calls t (t == t) same (calls_at t (map (line_of t) cs)) c ∙ ap (λ xs. c ∷ xs) (calls_own t cs)

calls_other : (t s : ℕ) → (s == t) ≡ false → (cs : List Call) → calls_at t (map (line_of s) cs) ≡ []
calls_other t s e [] = refl
calls_other t s e (c ∷ cs) = no_calls (s == t) e (calls_at t (map (line_of s) cs)) c ∙ calls_other t s e cs

opening_own : (t : ℕ) (b : Bool) (cs : List Call) → b ≡ true → calls_at t (if b then map (line_of t) cs else []) ≡ cs
opening_own t true cs e = calls_own t cs
opening_own t false cs e = cc

opening_other : (t s : ℕ) (b : Bool) (cs : List Call) → (s == t) ≡ false → calls_at t (if b then map (line_of s) cs else []) ≡ []
opening_other t s true cs e = calls_other t s e cs
opening_other t s false cs e = refl

past_openings : (lines : List RegionLine) (events : List EventRef) (t s n : ℕ) → t < s
    → calls_at t (flat_map (opening_lines lines events) (range_with_len s n)) ≡ []
past_openings lines events t s zero h = refl
past_openings lines events t s (suc n) h =
    calls_append t (opening_lines lines events s) (flat_map (opening_lines lines events) (range_with_len (s + 1) n))
    ∙ ap₂ (λ xs ys. xs ++ ys) (opening_other t s (has_lines lines s) (opening_calls events) (grind (arith, nat_tests, h)))
    (past_openings lines events t (s + 1) n (omega (arith, h)))

-- the opening is the first thread's, or among those of the others
this_or_later : (lines : List RegionLine) (events : List EventRef) (t s n : ℕ) → has_lines lines t ≡ true → (b : Bool) → (s == t) ≡ b
    → (s ≢ t → calls_at t (flat_map (opening_lines lines events) (range_with_len (s + 1) n)) ≡ opening_calls events)
    → calls_at t (opening_lines lines events s) ++ calls_at t (flat_map (opening_lines lines events) (range_with_len (s + 1) n)) ≡ opening_calls events
this_or_later lines events t s n e true q later =
    let same : t ≡ s = grind (arith, nat_tests, q) in
    ap₂ (λ xs ys. xs ++ ys)
    (subst (λ u. calls_at t (opening_lines lines events u) ≡ opening_calls events) same (opening_own t (has_lines lines t) (opening_calls events) e))
    (past_openings lines events t (s + 1) n (omega (arith, same)))
    ∙ append-nil (opening_calls events)
this_or_later lines events t s n e false q later =
    let apart : s ≢ t = λ same. grind (arith, nat_tests, q, same) in
    ap (λ xs. xs ++ calls_at t (flat_map (opening_lines lines events) (range_with_len (s + 1) n)))
    (opening_other t s (has_lines lines s) (opening_calls events) q)
    ∙ later apart

-- a thread with lines has its opening among them
pub opening_among : (lines : List RegionLine) (events : List EventRef) (t s n : ℕ) → has_lines lines t ≡ true → s ≤ t → t < s + n
    → calls_at t (flat_map (opening_lines lines events) (range_with_len s n)) ≡ opening_calls events
opening_among lines events t s zero e low high = absurd (omega (arith, low, high))
opening_among lines events t s (suc n) e low high =
    calls_append t (opening_lines lines events s) (flat_map (opening_lines lines events) (range_with_len (s + 1) n))
    ∙ this_or_later lines events t s n e (s == t) refl
    (λ apart. opening_among lines events t (s + 1) n e (omega (arith, low, apart)) (omega (arith, high)))

-- ---- the account after them

-- the only set of a thread, with its events, before it was started
abbrev kept_at : AtRest → Kept
kept_at s = record { set = s; running = false; from = 0; to = 0; values = replicate (length s.events) (pos 0) }

abbrev holding : ℕ → AtRest → List Occ → Mark → Account
holding t s rest mark = record { thread = t; registered = false; sets = Some (kept_at s) ∷ replicate (MOST_SETS - 1) None; past = []; rest = rest; mark = mark }

-- the set since it was started
abbrev pub counting_set : AtRest → Kept
counting_set s = record { set = s; running = true; from = 0; to = 0; values = replicate (length s.events) (pos 0) }

-- the account of a thread that has only such a set and has consumed n of these occurrences
abbrev pub counting : ℕ → AtRest → ℕ → List Occ → Mark → Account
counting t s q tape mark =
    record { thread = t; registered = false; sets = Some (counting_set s) ∷ replicate (MOST_SETS - 1) None; past = take q tape; rest = drop q tape; mark = mark }

-- a set with further events
abbrev pub with_events : Book → AtRest → List EventRef → AtRest
with_events book s [] = s
with_events book s (e ∷ events) = with_events book (with_event book e s) events

pub events_with : (book : Book) (s : AtRest) (events : List EventRef) → (with_events book s events).events ≡ s.events ++ events
events_with book s [] = sym (append-nil s.events)
events_with book s (e ∷ events) = events_with book (with_event book e s) events ∙ append_assoc s.events (e ∷ []) events

pub slice_with : (book : Book) (s : AtRest) (events : List EventRef) → (with_events book s events).slice ≡ s.slice
slice_with book s [] = refl
slice_with book s (e ∷ events) = slice_with book (with_event book e s) events

pub domain_with : (book : Book) (s : AtRest) (events : List EventRef) → (with_events book s events).domain ≡ s.domain
domain_with book s [] = refl
domain_with book s (e ∷ events) = domain_with book (with_event book e s) events

-- a call that is not refused is performed
done : (book : Book) (shape : Widths) (a : Account) (c : Call) → account_refusal book shape a c ≡ None
    → (step book shape a c).account ≡ (performed book shape a c).account
done book shape a c e = ap (λ o. (unless o a (performed book shape a c)).account) e

add_rows : (b c : Bool) (d : Option Clash) → (if b then Some (Plain Einval) else if c then Some (Plain Ecount) else option_map Conflict d) ≡ None
    → first_of (row b Einval ∷ row c Ecount ∷ conflict_row d ∷ []) ≡ None
add_rows true c d e = cc
add_rows false true d e = cc
add_rows false false (Some clash) e = cc
add_rows false false None e = refl

added : (book : Book) (shape : Widths) (t : ℕ) (s : AtRest) (rest : List Occ) (mark : Mark) (e : EventRef) → add_refusal book e s ≡ None
    → (step book shape (holding t s rest mark) (call.Add 0 (Ok e))).account ≡ holding t (with_event book e s) rest mark
added book shape t s rest mark e h = grind (arith, done, add_rows)

start_rows : (b c : Bool) → b ≡ false → c ≡ false → first_of (row b Eisrun ∷ row c Einval ∷ []) ≡ None
start_rows true c e f = cc
start_rows false true e f = cc
start_rows false false e f = refl

none_runs : (s : AtRest) (comp : Option ℕ) → list_any (runs_on comp) (faces_of (Some (kept_at s) ∷ replicate (MOST_SETS - 1) None)) ≡ false
none_runs s None = refl
none_runs s (Some c) = refl

some_events : (n : ℕ) → 0 < n → not (not (n == 0)) ≡ false
some_events n h = let e : (n == 0) ≡ false = grind (arith, nat_tests, h) in ap (λ b. not (not b)) e

started : (book : Book) (shape : Widths) (t : ℕ) (s : AtRest) (rest : List Occ) (mark : Mark) → 0 < length s.events
    → (step book shape (holding t s rest mark) (call.Start 0)).account ≡ counting t s 0 rest mark
started book shape t s rest mark h = grind (arith, done, start_rows, none_runs, some_events)

all_added : (book : Book) (shape : Widths) (t : ℕ) (s : AtRest) (rest : List Occ) (mark : Mark) (events : List EventRef) → TakesAll book s events
    → 0 < length (with_events book s events).events
    → account_after book shape (holding t s rest mark) (map (λ e. call.Add 0 (Ok e)) events ++ call.Start 0 ∷ []) ≡ counting t (with_events book s events) 0 rest mark
all_added book shape t s rest mark [] h some = started book shape t s rest mark some
all_added book shape t s rest mark (e ∷ events) h some =
    ap (λ a. account_after book shape a (map (λ e. call.Add 0 (Ok e)) events ++ call.Start 0 ∷ [])) (added book shape t s rest mark e h.0)
    ∙ all_added book shape t (with_event book e s) rest mark events h.1 some

-- after its opening a thread has a set of the events that counts from the first occurrence on
pub opened : (book : Book) (shape : Widths) (t : ℕ) (rest : List Occ) (mark : Mark) (events : List EventRef) → TakesAll book new_set events → 0 < length events
    → account_after book shape (opening t rest mark) (opening_calls events) ≡ counting t (with_events book new_set events) 0 rest mark
opened book shape t rest mark events h some =
    all_added book shape t new_set rest mark events h (subst (λ es. 0 < length es) (sym (events_with book new_set events)) some)
