-- The script of calls that a region script stands for is read as its calls.
use Rattle.region_report.proofs.Words.{◌≡◌, ◌∙◌, ◌<◌, ◌≤◌, ◌+◌, ◌*◌, ◌-◌, ◌^◌, ◌∷◌, ◌++◌, ℕ, zero, suc, Bool, true, false, not, List, [], Some, codes}
use Rattle.region_report.proofs.Words.{decimal, drop, length, map, refl, sym, ap, ap₂, arith, tests, append_assoc, append-nil, if◌then◌else◌}
use Rattle.region_report.proofs.Words.{length-append, slice_index, ◌&&◌, ◌==◌, nat_lt, position, AllByRecursion, flat_map, list_all, position_or_len}
use Rattle.region_report.proofs.Words.{range_with_len, lines, strip_carriage_return, lt-ltb, and_parts, flat_map-append, length-map, take_at}
use Rattle.region_report.proofs.Words.{recursion_from_All, flat_map-map, THREADS, is_empty, Text, Digits, decimal-digits, Call, lines_from, script_of}
use Rattle.region_report.proofs.Words.{scripts, lines-cut, call_text, has_lines, line_text, opening, script_text, thread_opening, words_of_call}
use Rattle.region_report.proofs.Words.{AreEvents, ReadsAsCalls, ThreadCall, asked, asked_at, asked_first, asks, call_for, is_event}
use Rattle.region_report.proofs.Words.{is_event_character, opening_calls, IsRegions, count_of, RegionCall, RegionLine}
use Rattle.call_type.specs.declared.call.Call.TheVariants as script
use Rattle.region_report.specs.declared.regions.RegionCall.TheVariants as call
use Rattle.region_report.proofs.LineRead.{AreWritten, IsWritten, line_for, lines_read, text_for, words_for, written}

-- ---- lines

-- neither a newline nor a carriage return
abbrev is_inside : ℕ → Bool
is_inside b = not (b == 10) && not (b == 13)

abbrev AreInside : Text → Type 0
AreInside t = AllByRecursion (λ b. is_inside b ≡ true) t

inside-append : (s t : Text) → AreInside s → AreInside t → AreInside (s ++ t)
inside-append [] t h k = k
inside-append (b ∷ s) t h k = (h.0, inside-append s t h.1 k)

inside_digits : (t : Text) → Digits t → AreInside t
inside_digits [] h = tt
inside_digits (b ∷ t) h = (grind (arith, tests, h.0), inside_digits t h.1)

inside_event : (t : Text) → list_all is_event_character t ≡ true → AreInside t
inside_event [] e = tt
inside_event (b ∷ t) e = let parts = and_parts (is_event_character b) (list_all is_event_character t) e in (grind (arith, tests, parts.0), inside_event t parts.1)

abbrev known : (t : Text) → list_all is_inside t ≡ true → AreInside t
known [] e = tt
known (b ∷ t) e = let parts = and_parts (is_inside b) (list_all is_inside t) e in (parts.0, known t parts.1)

inside_words : (c : Call Text) → IsWritten c → AreInside (words_for c)
inside_words = written (λ c. AreInside (words_for c)) (known (codes "create") refl) add (known (codes "start 0") refl) (known (codes "read 0") refl) run where
  add : (event : Text) → is_event event ≡ true → AreInside (codes "add 0 " ++ event)
  add event h =
      let parts = and_parts (not (is_empty event)) (list_all is_event_character event) h in
      inside-append (codes "add 0 ") event (known (codes "add 0 ") refl) (inside_event event parts.1)

  run : (count : ℕ) → count < 2 ^ 32 → AreInside (codes "run " ++ decimal count)
  run count h = inside-append (codes "run ") (decimal count) (known (codes "run ") refl) (inside_digits (decimal count) (decimal-digits count (omega (arith, h))))

inside_line : (a : ThreadCall) → a.thread < THREADS → IsWritten a.call → AreInside (line_for a)
inside_line a small h =
    inside-append (decimal a.thread) (codes " " ++ words_for a.call) (inside_digits (decimal a.thread) (decimal-digits a.thread (omega (arith, small))))
    (inside-append (codes " ") (words_for a.call) (known (codes " ") refl) (inside_words a.call h))

newline_after : (l rest : Text) → AreInside l → position_or_len (λ b. b == 10) (l ++ 10 ∷ rest) ≡ length l
newline_after [] rest h = refl
newline_after (b ∷ l) rest h =
    let other : (b == 10) ≡ false = (let e = h.0 in grind (arith, tests, e)) in
    let more = newline_after l rest h.1 in
    rw (other, more) (omega arith)

at_newline : (l rest : Text) → AreInside l → position (λ b. b == 10) (l ++ 10 ∷ rest) ≡ Some (length l)
at_newline l rest h =
    let place = newline_after l rest h in
    let within : nat_lt (length l) (length (l ++ 10 ∷ rest)) ≡ true = lt-ltb (length l) (length (l ++ 10 ∷ rest)) (omega (arith, length-append l (10 ∷ rest))) in
    rw (place, within) refl

never_return : (l : Text) (k : ℕ) → AreInside l → (slice_index l k == 13) ≡ false
never_return [] k h = refl
never_return (b ∷ l) zero h = let e = h.0 in grind (arith, tests, e)
never_return (b ∷ l) (suc k) h = never_return l k h.1

return_kept : (l : Text) → AreInside l → strip_carriage_return l ≡ l
return_kept l h = rw (never_return l (length l - 1) h) refl

back_of : (l rest : Text) (b : ℕ) → drop (length l + 1) (l ++ b ∷ rest) ≡ rest
back_of [] rest b = refl
back_of (c ∷ l) rest b = let e : length (c ∷ l) + 1 ≡ suc (length l + 1) = omega arith in rw e (back_of l rest b)

line_cut : (l rest : Text) → AreInside l → lines (l ++ 10 ∷ rest) ≡ l ∷ lines rest
line_cut l rest h =
    lines-cut (l ++ 10 ∷ rest) (length l) (at_newline l rest h)
    ∙ ap₂ (λ t (u : Text). t ∷ lines u) (ap strip_carriage_return (take_at l (10 ∷ rest) _ refl) ∙ return_kept l h) (back_of l rest 10)

text_line : (a : ThreadCall) (rest : Text) → text_for a ++ rest ≡ line_for a ++ 10 ∷ rest
text_line a rest =
    append_assoc (decimal a.thread) (codes " " ++ (words_for a.call ++ codes "\n")) rest
    ∙ ap (λ (t : Text). decimal a.thread ++ (32 ∷ t)) (append_assoc (words_for a.call) (codes "\n") rest)
    ∙ sym (append_assoc (decimal a.thread) (codes " " ++ words_for a.call) (10 ∷ rest))

lines_of_text : (as' : List ThreadCall) → AreWritten as' → lines (flat_map text_for as') ≡ map line_for as'
lines_of_text [] h = refl
lines_of_text (a ∷ as') h =
    ap lines (text_line a (flat_map text_for as')) ∙ line_cut (line_for a) (flat_map text_for as') (inside_line a h.0.0 h.0.1)
    ∙ ap (λ ls. line_for a ∷ ls) (lines_of_text as' h.1)

-- ---- the script's text

nested : {X Y : Type 0} (f : X → List Y) (g : Y → Text) (xs : List X) → flat_map g (flat_map f xs) ≡ flat_map (λ x. flat_map g (f x)) xs
nested f g [] = refl
nested f g (x ∷ xs) = flat_map-append g (f x) (flat_map f xs) ∙ ap (λ (t : Text). flat_map g (f x) ++ t) (nested f g xs)

same_texts : {X : Type 0} (f g : X → Text) (xs : List X) → ((x : X) → f x ≡ g x) → flat_map f xs ≡ flat_map g xs
same_texts f g [] h = refl
same_texts f g (x ∷ xs) h = ap₂ (λ (s t : Text). s ++ t) (h x) (same_texts f g xs h)

opening_text : (events : List Text) (thread : ℕ) → flat_map text_for (map (asks thread) (opening_calls events)) ≡ opening events thread
opening_text events thread =
    ap (λ (t : Text). call_text thread (codes "create") ++ t)
    (flat_map-map text_for (asks thread) (map (λ event. script.Add 0 event) events ++ script.Start 0 ∷ [])
    ∙ flat_map-append (λ c. text_for (asks thread c)) (map (λ event. script.Add 0 event) events) (script.Start 0 ∷ [])
    ∙ ap₂ (λ (s t : Text). s ++ t) (flat_map-map (λ c. text_for (asks thread c)) (λ event. script.Add 0 event) events) (append-nil (call_text thread (codes "start 0"))))

first_text : (ls : List RegionLine) (events : List Text) (thread : ℕ) → flat_map text_for (asked_first ls events thread) ≡ thread_opening ls events thread
first_text ls events thread = go (has_lines ls thread)
  where
    go : (b : Bool) → flat_map text_for (if b then map (asks thread) (opening_calls events) else []) ≡ (if b then opening events thread else [])
    go true = opening_text events thread
    go false = refl

words_same : (c : RegionCall) → words_for (call_for c) ≡ words_of_call c
words_same (call.Begin name) = refl
words_same c = refl

pub script_text_is : (ls : List RegionLine) (events : List Text) → script_text ls events ≡ flat_map text_for (asked ls events)
unfolding script_text asked
script_text_is ls events =
    sym (flat_map-append text_for (flat_map (asked_first ls events) (range_with_len 0 THREADS)) (map asked_at ls)
    ∙ ap₂ (λ (s t : Text). s ++ t)
    (nested (asked_first ls events) text_for (range_with_len 0 THREADS) ∙ same_texts (λ t. flat_map text_for (asked_first ls events t)) (thread_opening ls events) (range_with_len 0 THREADS) (first_text ls events))
    (flat_map-map text_for asked_at ls ∙ same_texts (λ l. text_for (asked_at l)) line_text ls (λ l. ap (call_text l.thread) (words_same l.call))))

-- ---- what is asked

written-append : (xs ys : List ThreadCall) → AreWritten xs → AreWritten ys → AreWritten (xs ++ ys)
written-append [] ys h k = k
written-append (x ∷ xs) ys h k = (h.0, written-append xs ys h.1 k)

adds_written : (thread : ℕ) (events : List Text) → thread < THREADS → list_all is_event events ≡ true → AreWritten (map (asks thread) (map (λ event. script.Add 0 event) events ++ script.Start 0 ∷ []))
adds_written thread [] small e = ((small, refl), tt)
adds_written thread (event ∷ events) small e =
    let parts = and_parts (is_event event) (list_all is_event events) e in
    ((small, (refl, parts.0)), adds_written thread events small parts.1)

first_written : (ls : List RegionLine) (events : List Text) (thread : ℕ) → thread < THREADS → list_all is_event events ≡ true → AreWritten (asked_first ls events thread)
first_written ls events thread small e = go (has_lines ls thread)
  where
    go : (b : Bool) → AreWritten (if b then map (asks thread) (opening_calls events) else [])
    go true = ((small, tt), adds_written thread events small e)
    go false = tt

all_first : (ls : List RegionLine) (events : List Text) (from n : ℕ) → from + n ≤ THREADS → list_all is_event events ≡ true → AreWritten (flat_map (asked_first ls events) (range_with_len from n))
all_first ls events from zero le e = tt
all_first ls events from (suc n) le e =
    written-append (asked_first ls events from) (flat_map (asked_first ls events) (range_with_len (from + 1) n)) (first_written ls events from (omega arith) e) (all_first ls events (from + 1) n (omega arith) e)

call_written : (c : RegionCall) → count_of c < 2 ^ 32 → IsWritten (call_for c)
call_written (call.Run count) h = h
call_written c h = refl

lines_written : (ls : List RegionLine) → AllByRecursion (λ l. l.thread < THREADS) ls → AllByRecursion (λ l. count_of l.call < 2 ^ 32) ls → AreWritten (map asked_at ls)
lines_written [] h k = tt
lines_written (l ∷ ls) h k = ((h.0, call_written l.call k.0), lines_written ls h.1 k.1)

asked_written : (ls : List RegionLine) (events : List Text) → IsRegions ls → AreEvents events → AreWritten (asked ls events)
unfolding asked
asked_written ls events r e =
    written-append (flat_map (asked_first ls events) (range_with_len 0 THREADS)) (map asked_at ls) (all_first ls events 0 THREADS (omega arith) e.each)
    (lines_written ls (recursion_from_All (λ l. l.thread < THREADS) ls r.threads) (recursion_from_All (λ l. count_of l.call < 2 ^ 32) ls r.counts))

first_few : (ls : List RegionLine) (events : List Text) (thread : ℕ) → length (asked_first ls events thread) ≤ length events + 2
first_few ls events thread = go (has_lines ls thread)
  where
    adds : length (map (asks thread) (map (λ event. script.Add 0 event) events ++ script.Start 0 ∷ [])) ≡ length events + 1
    adds = length-map (map (λ event. script.Add 0 event) events ++ script.Start 0 ∷ []) (asks thread) ∙ length-append (map (λ event. script.Add 0 event) events) (script.Start 0 ∷ []) ∙ ap (λ n. n + 1) (length-map events (λ event. script.Add 0 event))

    go : (b : Bool) → length (if b then map (asks thread) (opening_calls events) else []) ≤ length events + 2
    go true = omega (arith, adds)
    go false = omega arith

all_few : (ls : List RegionLine) (events : List Text) (from n : ℕ) → length events ≤ 32 → length (flat_map (asked_first ls events) (range_with_len from n)) ≤ 34 * n
all_few ls events from zero few = omega arith
all_few ls events from (suc n) few =
    omega (arith, length-append (asked_first ls events from) (flat_map (asked_first ls events) (range_with_len (from + 1) n)), first_few ls events from, all_few ls events (from + 1) n few, few)

asked_few : (ls : List RegionLine) (events : List Text) → IsRegions ls → AreEvents events → length (asked ls events) ≤ 100000
unfolding asked
asked_few ls events r e =
    omega (arith, length-append (flat_map (asked_first ls events) (range_with_len 0 THREADS)) (map asked_at ls), all_few ls events 0 THREADS e.few, length-map ls asked_at, r.few)

-- the script is read as its calls
pub is_read : (ls : List RegionLine) (events : List Text) → IsRegions ls → ReadsAsCalls ls events
unfolding script_of
is_read ls events r e =
    ap (λ (t : Text). lines_from scripts 1 0 (lines t)) (script_text_is ls events) ∙ ap (lines_from scripts 1 0) (lines_of_text (asked ls events) (asked_written ls events r e))
    ∙ lines_read 1 0 (asked ls events) (asked_written ls events r e) (omega (arith, asked_few ls events r e))
