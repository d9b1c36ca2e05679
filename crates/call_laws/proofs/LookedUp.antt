-- The lines of the script, one by one.
use Rattle.std.proofs.Common.{arith}
use Rattle.call_laws.proofs.Words.{◌≡◌, ◌+◌, ℕ, Bool, true, false, List, [], ◌∷◌, ◌++◌, map, refl, sym, ◌∙◌, ap, ap₂, Ok, if◌then◌else◌, flat_map}
use Rattle.call_laws.proofs.Words.{range_with_len, map-append, THREADS, EventRef, Text, Written, has_lines, RegionCall, RegionLine, Asked, Call, Line}
use Rattle.call_laws.proofs.Words.{call_line, call_on_set, line_of, opening_calls, opening_lines, LooksUp, ScriptIsLookedUp, line_by}
use Rattle.region_report.specs.CallLines as calls
use Rattle.region_report.specs.declared.regions.RegionCall.TheVariants as region
use Rattle.call_type.specs.declared.call.Call.{Call as CallOf}
use Rattle.call_type.specs.declared.call.Call.TheVariants as call
use Rattle.call_type.specs.declared.call.Asked.TheVariants as asked

-- a call on a session is asked for
abbrev asks_call : Call → Asked
asks_call c = asked.Call c

-- what a call on a session asks for
abbrev on_session : (Written → Asked) → CallOf Text → Asked
on_session ask c = ask (asked.Call c)

abbrev asked_line : (Written → Asked) → calls.ThreadCall → Line
asked_line ask a = record { thread = a.thread; asked = on_session ask a.call }

unnumbered : (ask : Written → Asked) (number : ℕ) (xs : List calls.ThreadCall) → map (line_by ask) (calls.numbered number xs) ≡ map (asked_line ask) xs
unnumbered ask number [] = refl
unnumbered ask number (x ∷ xs) = ap (λ ls. asked_line ask x ∷ ls) (unnumbered ask (number + 1) xs)

-- what some calls of a thread ask for
abbrev lines_of : ℕ → List Asked → List Line
lines_of t xs = map (λ (x : Asked). record { thread = t; asked = x }) xs

thread_calls : (ask : Written → Asked) (t : ℕ) (cs : List (CallOf Text)) → map (asked_line ask) (map (calls.asks t) cs) ≡ lines_of t (map (on_session ask) cs)
thread_calls ask t [] = refl
thread_calls ask t (c ∷ cs) = ap (λ ls. record { thread = t; asked = on_session ask c } ∷ ls) (thread_calls ask t cs)

own_calls : (t : ℕ) (cs : List Call) → map (line_of t) cs ≡ lines_of t (map asks_call cs)
own_calls t [] = refl
own_calls t (c ∷ cs) = ap (λ ls. line_of t c ∷ ls) (own_calls t cs)

asks_adds : (ask : Written → Asked) (texts : List Text) → map (on_session ask) (map (λ text. call.Add 0 text) texts) ≡ map (λ text. ask (asked.Call (call.Add 0 text))) texts
asks_adds ask [] = refl
asks_adds ask (text ∷ texts) = ap (λ xs. ask (asked.Call (call.Add 0 text)) ∷ xs) (asks_adds ask texts)

adds : (events : List EventRef) → map asks_call (map (λ e. call.Add 0 (Ok e)) events) ≡ map (λ e. asks_call (call.Add 0 (Ok e))) events
adds [] = refl
adds (e ∷ events) = ap (λ xs. asks_call (call.Add 0 (Ok e)) ∷ xs) (adds events)

opening : (ask : Written → Asked) (texts : List Text) (events : List EventRef) → LooksUp ask texts events
    → map (on_session ask) (calls.opening_calls texts) ≡ map asks_call (opening_calls events)
opening ask texts events h = grind (arith, map-append, asks_adds, adds)

thread_opening : (ask : Written → Asked) (texts : List Text) (events : List EventRef) → LooksUp ask texts events → (t : ℕ) (b : Bool)
    → map (asked_line ask) (if b then map (calls.asks t) (calls.opening_calls texts) else []) ≡ (if b then map (line_of t) (opening_calls events) else [])
thread_opening ask texts events h t true = thread_calls ask t (calls.opening_calls texts) ∙ ap (lines_of t) (opening ask texts events h) ∙ sym (own_calls t (opening_calls events))
thread_opening ask texts events h t false = refl

openings : (ask : Written → Asked) (lines : List RegionLine) (texts : List Text) (events : List EventRef) → LooksUp ask texts events → (ts : List ℕ)
    → map (asked_line ask) (flat_map (calls.asked_first lines texts) ts) ≡ flat_map (opening_lines lines events) ts
openings ask lines texts events h [] = refl
openings ask lines texts events h (t ∷ ts) =
    map-append (asked_line ask) (calls.asked_first lines texts t) (flat_map (calls.asked_first lines texts) ts)
    ∙ ap₂ (λ xs ys. xs ++ ys) (thread_opening ask texts events h t (has_lines lines t)) (openings ask lines texts events h ts)

one_call : (ask : Written → Asked) (texts : List Text) (events : List EventRef) → LooksUp ask texts events → (c : RegionCall) → on_session ask (calls.call_for c) ≡ asked.Call (call_on_set c)
one_call ask texts events h (region.Begin name) = h.read
one_call ask texts events h (region.Read name) = h.read
one_call ask texts events h (region.End name) = h.read
one_call ask texts events h (region.Run n) = h.run n

each_line : (ask : Written → Asked) (texts : List Text) (events : List EventRef) → LooksUp ask texts events → (lines : List RegionLine)
    → map (asked_line ask) (map calls.asked_at lines) ≡ map call_line lines
each_line ask texts events h [] = refl
each_line ask texts events h (l ∷ lines) =
    ap₂ (λ x xs. record { thread = l.thread; asked = x } ∷ xs) (one_call ask texts events h l.call) (each_line ask texts events h lines)

pub script_is_looked_up : ScriptIsLookedUp
unfolding calls.asked
script_is_looked_up ask lines texts events h =
    unnumbered ask 1 (calls.asked lines texts)
    ∙ map-append (asked_line ask) (flat_map (calls.asked_first lines texts) (range_with_len 0 THREADS)) (map calls.asked_at lines)
    ∙ ap₂ (λ xs ys. xs ++ ys) (openings ask lines texts events h (range_with_len 0 THREADS)) (each_line ask texts events h lines)
