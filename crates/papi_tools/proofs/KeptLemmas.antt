-- The scripts that are read keep to their limits: by induction on their lines.
use Rattle.papi_tools.proofs.Words.{◌≡◌, ◌≤◌, ◌<◌, ◌+◌, ◌-◌, ℕ, Bool, true, false, List, [], ◌∷◌, ◌++◌, length, All, Option, Some, None, Result, Ok}
use Rattle.papi_tools.proofs.Words.{Err, refl, sym, ap, subst, arith, ◌&&◌, if◌then◌else◌, nat_le, lines, digits_value, and_parts, leb-false}
use Rattle.papi_tools.proofs.Words.{leb-true, All-cons, All-nil, decimal_in, is_decimal, THREADS, number_or, Refused, lines_from, onto, Written}
use Rattle.papi_tools.proofs.Words.{call_of, call_line, is_skipped, line_of_call, line_of_words, line_with, script_of, scripts, words_of, ScriptCause}
use Rattle.papi_tools.proofs.Words.{BadThread, OverLimit, ScriptLine, MOST_CALLS, ScriptsAreKept}
use Rattle.script_lines.specs.Answers.{and_then, made_of}

-- ---- one line

-- a line that was read after fewer than the most, of a thread that there is
abbrev IsAllowed : ℕ → ScriptLine → Type 0
IsAllowed above line = (above < MOST_CALLS) × (line.thread < THREADS)

chosen : (b : Bool) (value n high : ℕ) → (b ≡ true → value ≤ high) → (if b then Some value else None) ≡ Some n → n ≤ high
chosen true value n high h e = let same : value ≡ n = cc in subst (λ k. k ≤ high) same (h refl)
chosen false value n high h e = cc

below : (high : ℕ) (word : List ℕ) (n : ℕ) → decimal_in 0 high word ≡ Some n → n ≤ high
unfolding decimal_in
below high word n e =
    let v : ℕ = digits_value 10 word in
    chosen (is_decimal word && (nat_le 0 v && nat_le v high)) v n high
    (λ h. leb-true v high (and_parts (nat_le 0 v) (nat_le v high) (and_parts (is_decimal word) (nat_le 0 v && nat_le v high) h).1).1) e

-- the thread of a line is the one that its first word names
same_thread : (number thread : ℕ) (words : List (List ℕ)) (l : ScriptLine) → line_of_call number thread words ≡ Ok l → l.thread ≡ thread
same_thread number thread [] l e = cc
same_thread number thread (word ∷ arguments) l e = go (call_of word arguments) e where
  go : (call : Result Written ScriptCause) → made_of (line_with number thread) call ≡ Ok l → l.thread ≡ thread
  go (Ok call) h = let same : line_with number thread call ≡ l = cc in ap (λ (k : ScriptLine). k.thread) (sym same)
  go (Err cause) h = cc

of_words : (number : ℕ) (words : List (List ℕ)) (l : ScriptLine) → line_of_words number words ≡ Ok l → l.thread < THREADS
of_words number [] l e = cc
of_words number (word ∷ words) l e = go (decimal_in 0 (THREADS - 1) word) refl e where
  go : (read : Option ℕ) → decimal_in 0 (THREADS - 1) word ≡ read
      → and_then (number_or BadThread read) (λ thread. line_of_call number thread words) ≡ Ok l → l.thread < THREADS
  go (Some thread) is h = omega (arith, below (THREADS - 1) word thread is, same_thread number thread words l h)
  go None is h = cc

line_kept : (number above : ℕ) (line : List ℕ) (l : ScriptLine) → call_line number above line ≡ Ok l → IsAllowed above l
unfolding call_line
line_kept number above line l e = go (nat_le MOST_CALLS above) refl e where
  go : (b : Bool) → nat_le MOST_CALLS above ≡ b
      → (if b then Err OverLimit else line_of_words number (words_of line)) ≡ Ok l → IsAllowed above l
  go true full h = cc
  go false full h = (leb-false MOST_CALLS above full, of_words number (words_of line) l h)

-- ---- all lines

-- lines that were read after so many others
abbrev AreKept : ℕ → List ScriptLine → Type 0
AreKept above read = (above + length read ≤ MOST_CALLS) × All (λ l. l.thread < THREADS) read

one_more : (number above : ℕ) (said : Result ScriptLine ScriptCause) (more : Result (List ScriptLine) (Refused ScriptCause)) (read : List ScriptLine)
    → ((l : ScriptLine) → said ≡ Ok l → IsAllowed above l) → ((rest : List ScriptLine) → above < MOST_CALLS → more ≡ Ok rest → AreKept (above + 1) rest)
    → onto number said (λ l. more) ≡ Ok read → AreKept above read
one_more number above (Err cause) more read one further e = cc
one_more number above (Ok l) (Err refused) read one further e = cc
one_more number above (Ok l) (Ok rest) read one further e =
    let same : (l ∷ []) ++ rest ≡ read = cc in
    let here : IsAllowed above l = one l refl in
    let kept : AreKept (above + 1) rest = further rest here.0 refl in
    subst (λ ls. AreKept above ls) same (omega (arith, kept.0), All-cons (λ k. k.thread < THREADS) l rest here.1 kept.1)

by_line : (b : Bool) (number above : ℕ) (line : List ℕ) (more further : Result (List ScriptLine) (Refused ScriptCause)) (read : List ScriptLine)
    → ((rest : List ScriptLine) → more ≡ Ok rest → AreKept above rest) → ((rest : List ScriptLine) → above < MOST_CALLS → further ≡ Ok rest → AreKept (above + 1) rest)
    → (if b then more else onto number (call_line number above line) (λ l. further)) ≡ Ok read → AreKept above read
by_line true number above line more further read same_above one_above e = same_above read e
by_line false number above line more further read same_above one_above e =
    one_more number above (call_line number above line) further read (line_kept number above line) one_above e

kept_from : (ls : List (List ℕ)) (number above : ℕ) (read : List ScriptLine) → above ≤ MOST_CALLS → lines_from scripts number above ls ≡ Ok read → AreKept above read
unfolding lines_from
kept_from [] number above read few e =
    let none : [] ≡ read = cc in
    subst (λ ls. AreKept above ls) none (omega (arith, few), All-nil (λ l. l.thread < THREADS))
kept_from (line ∷ ls) number above read few e =
    by_line (is_skipped line) number above line (lines_from scripts (number + 1) above ls) (lines_from scripts (number + 1) (above + 1) ls) read
    (λ rest g. kept_from ls (number + 1) above rest few g) (λ rest less g. kept_from ls (number + 1) (above + 1) rest (omega (arith, less)) g) e

pub scripts_are_kept : ScriptsAreKept
unfolding script_of
scripts_are_kept bytes script e =
    let kept = kept_from (lines bytes) 1 0 script (omega arith) e in
    record { few = omega (arith, kept.0); threads = kept.1 }
