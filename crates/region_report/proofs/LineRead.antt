-- A line of the script of calls is read as its call.
use Rattle.region_report.proofs.Words.{◌-◌, ◌≡◌, ◌∙◌, ◌<◌, ◌≤◌, ◌+◌, ◌^◌, ◌∷◌, ◌++◌, ℕ, zero, suc, Bool, true, false, not, List, [], Some, codes}
use Rattle.region_report.proofs.Words.{decimal, length, map, refl, sym, subst, ap, ap₂, arith, tests, append-nil, get_or, nat_le, slice_index}
use Rattle.region_report.proofs.Words.{AllByRecursion, list_all, and_from, le-leb, and_parts, decimal_digit, first_decimal, decimal_nonempty, THREADS}
use Rattle.region_report.proofs.Words.{is_empty, Text, decimal_in, is_decimal, is_numeral, is_printable, is_printable_byte, Digits, decimal-digits}
use Rattle.region_report.proofs.Words.{decimal-numeral, decimal-value, Call, BadNumber, BadThread, number_in, number_or, call_of, call_rows}
use Rattle.region_report.proofs.Words.{call_line, is_skipped, line_of_words, line_with, thread_in, lines_from, onto, scripts, words_of, no_more, said}
use Rattle.region_report.proofs.Words.{is_plain, no-words, word-ends, call_text, ThreadCall, is_event, is_event_character, numbered}
use Rattle.std.specs.Prelude.{◌||◌, ◌==◌, Ok}
use Rattle.call_type.specs.declared.call.Asked.TheVariants as line
use Rattle.call_type.specs.declared.call.Call.TheVariants as script

-- ---- the text of a call

-- the words of a call, of those that are asked
abbrev pub words_for : Call Text → Text
words_for script.Create = codes "create"
words_for (script.Add set event) = codes "add 0 " ++ event
words_for (script.Start set) = codes "start 0"
words_for (script.Read set) = codes "read 0"
words_for (script.Run count) = codes "run " ++ decimal count
words_for other = []

-- a call that has these words
abbrev pub IsWritten : Call Text → Type 0
IsWritten script.Create = Unit {0}
IsWritten (script.Add set event) = (set ≡ 0) × (is_event event ≡ true)
IsWritten (script.Start set) = set ≡ 0
IsWritten (script.Read set) = set ≡ 0
IsWritten (script.Run count) = count < 2 ^ 32
IsWritten other = ⊥

-- what each of these calls has, every written call has
pub written : (P : Call Text → Type 0) → P script.Create → ((event : Text) → is_event event ≡ true → P (script.Add 0 event)) → P (script.Start 0) → P (script.Read 0)
    → ((count : ℕ) → count < 2 ^ 32 → P (script.Run count)) → (c : Call Text) → IsWritten c → P c
written P create add start read run script.Create h = create
written P create add start read run (script.Add set event) h = subst (λ n. P (script.Add n event)) (sym h.0) (add event h.1)
written P create add start read run (script.Start set) h = subst (λ n. P (script.Start n)) (sym h) start
written P create add start read run (script.Read set) h = subst (λ n. P (script.Read n)) (sym h) read
written P create add start read run (script.Run count) h = run count h
written P create add start read run c h = absurd h

abbrev pub AreWritten : List ThreadCall → Type 0
AreWritten as' = AllByRecursion (λ a. (a.thread < THREADS) × IsWritten a.call) as'

abbrev pub line_for : ThreadCall → Text
line_for a = decimal a.thread ++ (codes " " ++ words_for a.call)

abbrev pub text_for : ThreadCall → Text
text_for a = call_text a.thread (words_for a.call)

-- ---- words

plain_character : (b : ℕ) → is_event_character b ≡ true → is_plain b ≡ true
plain_character b e = grind (arith, tests, e)

plain_event : (event : Text) → list_all is_event_character event ≡ true → list_all is_plain event ≡ true
plain_event [] e = refl
plain_event (b ∷ event) e =
    let parts = and_parts (is_event_character b) (list_all is_event_character event) e in
    and_from _ _ (plain_character b parts.0) (plain_event event parts.1)

plain_digits : (t : Text) → Digits t → list_all is_plain t ≡ true
plain_digits [] h = refl
plain_digits (b ∷ t) h = and_from (is_plain b) (list_all is_plain t) (grind (arith, tests, h.0)) (plain_digits t h.1)

blank_first : (rest : Text) → words_of (32 ∷ rest) ≡ words_of rest
unfolding words_of
blank_first rest = refl

-- a word, a space and what follows
word_then : (w rest : Text) → 0 < length w → list_all is_plain w ≡ true → words_of (w ++ 32 ∷ rest) ≡ w ∷ words_of rest
word_then [] rest some p = absurd (omega arith)
word_then (b ∷ w) rest some p = word-ends b w (32 ∷ rest) p refl ∙ ap (λ ws. (b ∷ w) ∷ ws) (blank_first rest)

last_word : (w : Text) → 0 < length w → list_all is_plain w ≡ true → words_of w ≡ w ∷ []
last_word [] some p = absurd (omega arith)
last_word (b ∷ w) some p = ap words_of (sym (append-nil (b ∷ w))) ∙ word-ends b w [] p refl ∙ ap (λ ws. (b ∷ w) ∷ ws) no-words

numeral_word : (n : ℕ) → n < 2 ^ 64 → list_all is_plain (decimal n) ≡ true
numeral_word n small = plain_digits (decimal n) (decimal-digits n small)

filled_event : (event : Text) → not (is_empty event) ≡ true → 0 < length event
filled_event [] e = cc e
filled_event (b ∷ event) e = omega arith

-- ---- numbers

no_zero_first : (n : ℕ) → n < 2 ^ 64 → ((length (decimal n) == 1) || not (slice_index (decimal n) 0 == 48)) ≡ true
no_zero_first zero small = rw (decimal_digit 0 (omega arith)) refl
no_zero_first (suc n) small =
    let above : 48 < get_or (decimal (suc n)) 0 0 = first_decimal (suc n) (omega arith) small in
    let other : (slice_index (decimal (suc n)) 0 == 48) ≡ false = grind (arith, tests, above) in
    go (length (decimal (suc n)) == 1) (slice_index (decimal (suc n)) 0 == 48) other
  where
    go : (a b : Bool) → b ≡ false → (a || not b) ≡ true
    go true b e = refl
    go false false e = refl
    go false true e = cc e

pub decimal_is_decimal : (n : ℕ) → n < 2 ^ 64 → is_decimal (decimal n) ≡ true
unfolding is_decimal
decimal_is_decimal n small = and_from _ _ (decimal-numeral n small) (no_zero_first n small)

in_range : (high n : ℕ) → n ≤ high → n < 2 ^ 64 → decimal_in 0 high (decimal n) ≡ Some n
unfolding decimal_in
in_range high n le small = rw (decimal_is_decimal n small, decimal-value n small, le-leb 0 n (omega arith), le-leb n high le) refl

thread_read : (t : ℕ) → t < THREADS → thread_in (decimal t) ≡ Ok t
thread_read t small = ap (number_or BadThread) (in_range (THREADS - 1) t (omega arith) (omega arith))

number_read : (n : ℕ) → n < 2 ^ 32 → number_in (decimal n) ≡ Ok n
number_read n small = ap (number_or BadNumber) (in_range 4294967295 n (omega arith) (omega arith))

-- ---- a line

first_of_numeral : (t rest : Text) → Digits t → 0 < length t → is_skipped (t ++ rest) ≡ false
first_of_numeral [] rest h some = absurd (omega arith)
first_of_numeral (b ∷ t) rest h some =
    let filled : (length ((b ∷ t) ++ rest) == 0) ≡ false = grind (arith, tests) in
    let other : (b == 35) ≡ false = grind (arith, tests, h.0) in
    rw (filled, other) refl

not_skipped : (a : ThreadCall) → a.thread < THREADS → is_skipped (line_for a) ≡ false
not_skipped a small = first_of_numeral (decimal a.thread) (codes " " ++ words_for a.call) (decimal-digits a.thread (omega (arith, small))) (decimal_nonempty a.thread (omega (arith, small)))

-- the words after the thread
abbrev later_words : Call Text → List Text
later_words script.Create = codes "create" ∷ []
later_words (script.Add set event) = codes "add" ∷ codes "0" ∷ event ∷ []
later_words (script.Start set) = codes "start" ∷ codes "0" ∷ []
later_words (script.Read set) = codes "read" ∷ codes "0" ∷ []
later_words (script.Run count) = codes "run" ∷ decimal count ∷ []
later_words other = []

words_later : (c : Call Text) → IsWritten c → words_of (words_for c) ≡ later_words c
unfolding words_of
words_later = written (λ c. words_of (words_for c) ≡ later_words c) refl add refl refl run where
  add : (event : Text) → is_event event ≡ true → words_of (words_for (script.Add 0 event)) ≡ later_words (script.Add 0 event)
  add event h =
      let parts = and_parts (not (is_empty event)) (list_all is_event_character event) h in
      word_then (codes "add") (codes "0 " ++ event) (omega arith) refl
      ∙ ap (λ ws. codes "add" ∷ ws) (word_then (codes "0") event (omega arith) refl ∙ ap (λ ws. codes "0" ∷ ws) (last_word event (filled_event event parts.0) (plain_event event parts.1)))

  run : (count : ℕ) → count < 2 ^ 32 → words_of (words_for (script.Run count)) ≡ later_words (script.Run count)
  run count h =
      word_then (codes "run") (decimal count) (omega arith) refl
      ∙ ap (λ ws. codes "run" ∷ ws) (last_word (decimal count) (decimal_nonempty count (omega (arith, h))) (numeral_word count (omega (arith, h))))

printable_character : (b : ℕ) → is_event_character b ≡ true → is_printable_byte b ≡ true
printable_character b e = grind (arith, tests, e)

printable_event : (event : Text) → list_all is_event_character event ≡ true → is_printable event ≡ true
printable_event [] e = refl
printable_event (b ∷ event) e =
    let parts = and_parts (is_event_character b) (list_all is_event_character event) e in
    and_from _ _ (printable_character b parts.0) (printable_event event parts.1)

zero_read : number_in (codes "0") ≡ Ok 0
unfolding decimal_in is_decimal is_numeral
zero_read = refl

-- the line of later words
abbrev Gives : ℕ → ℕ → List Text → Call Text → Type 0
Gives number thread [] c = ⊥
Gives number thread (word ∷ arguments) c = call_of word arguments ≡ Ok (line.Call c)

call_read : (number thread : ℕ) (c : Call Text) → IsWritten c → Gives number thread (later_words c) c
unfolding call_rows
call_read number thread = written (λ c. Gives number thread (later_words c) c) refl add (rw zero_read refl) (rw zero_read refl) (λ count h. rw (number_read count h) refl) where
  add : (event : Text) → is_event event ≡ true → Gives number thread (later_words (script.Add 0 event)) (script.Add 0 event)
  add event h =
      let parts = and_parts (not (is_empty event)) (list_all is_event_character event) h in
      let printable = printable_event event parts.1 in
      rw (printable, zero_read) refl

by_words : (number thread : ℕ) (words : List Text) (c : Call Text) → Gives number thread words c → thread_in (decimal thread) ≡ Ok thread →
    line_of_words number (decimal thread ∷ words) ≡ Ok (line_with number thread (line.Call c))
by_words number thread [] c h e = absurd h
by_words number thread (word ∷ arguments) c h e = rw (e, h) refl

line_words : (a : ThreadCall) → a.thread < THREADS → IsWritten a.call → words_of (line_for a) ≡ decimal a.thread ∷ later_words a.call
line_words a small h =
    word_then (decimal a.thread) (words_for a.call) (decimal_nonempty a.thread (omega (arith, small))) (numeral_word a.thread (omega (arith, small)))
    ∙ ap (λ ws. decimal a.thread ∷ ws) (words_later a.call h)

line_read : (number above : ℕ) (a : ThreadCall) → above < 100000 → a.thread < THREADS → IsWritten a.call → call_line number above (line_for a) ≡ Ok (line_with number a.thread (line.Call a.call))
unfolding call_line
line_read number above a few small h =
    let room : nat_le 100000 above ≡ false = grind (arith, tests, few) in
    rw (room, line_words a small h) (by_words number a.thread (later_words a.call) a.call (call_read number a.thread a.call h) (thread_read a.thread small))

pub lines_read : (number above : ℕ) (as' : List ThreadCall) → AreWritten as' → above + length as' ≤ 100000 → lines_from scripts number above (map line_for as') ≡ Ok (numbered number as')
lines_read number above [] h few = no_more scripts number above
lines_read number above (a ∷ as') h few =
    said scripts number above (line_for a) (map line_for as') (not_skipped a h.0.0)
    ∙ ap₂ (λ read below. onto number read (λ line. below)) (line_read number above a (omega arith) h.0.0 h.0.1) (lines_read (number + 1) (above + 1) as' h.1 (omega arith))
