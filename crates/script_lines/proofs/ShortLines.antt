-- A short line is a line like all others.
use Rattle.std.proofs.Common.{◌≡◌, ◌∙◌, ◌<◌, ◌≤◌, ◌+◌, ◌-◌, ◌∷◌, ◌++◌, ◌^◌, ℕ, List, [], Bool, true, false, length, take, drop, get_or, refl, sym, ap, ap₂, arith, append_assoc, length-append}
use Rattle.std.proofs.lemmas.Bool.{and_from, and_parts, le-leb, leb-true, lt-leb, ne_eqb}
use Rattle.std.proofs.lemmas.Grind.{common_steps}
use Rattle.std.proofs.lemmas.List.{append-nil, drop_more, length-take-le, take-append-drop}
use Rattle.std.proofs.lemmas.List.Folds.{list_all-append}
use Rattle.std.proofs.Math.Seq.{take-append_seam, drop-append-add}
use Rattle.std.specs.List.{list_all}
use Rattle.std.specs.Prelude.{◌==◌, Ok, Some, nat_le}
use Rattle.std.specs.Str.Lines.{lines}
use Rattle.std.specs.Str.Parse.{digits_value}
use Rattle.papi_base.specs.declared.limits.TheConstants.{THREADS}
use Rattle.table_rows.specs.Texts.{decimal_in, is_decimal, is_digit, is_numeral}
use Rattle.script_lines.specs.Calls.{Number, call_rows, form_of}
use Rattle.script_lines.specs.Lines.{call_line, is_skipped, line_with}
use Rattle.script_lines.specs.ShortLines.{BeginsWithLine, BeginsWithNumber, BeginsWithWord, call_of, word}
use Rattle.script_lines.specs.Words.{words_of}
use Rattle.script_lines.specs.declared.script.ScriptLine.{ScriptLine}
use Rattle.script_lines.specs.declared.script.TheConstants.{MOST_CALLS}
use Rattle.script_lines.specs.declared.short.Repeated.{Repeated}
use Rattle.script_lines.specs.declared.short.Repeated.TheVariants.{Accum, Read, Run}
use Rattle.script_lines.proofs.LineCuts.{is_inner, lines-line}
use Rattle.script_lines.proofs.Splits.{is_plain, no-words, word-ends}

-- ---- what a test says of all bytes

all-of : (p q : ℕ → Bool) (xs : List ℕ) → ((b : ℕ) → p b ≡ true → q b ≡ true) → list_all p xs ≡ true → list_all q xs ≡ true
all-of p q [] h e = refl
all-of p q (x ∷ xs) h e = let here = and_parts _ _ e in and_from _ _ (h x here.0) (all-of p q xs h here.1)

all-both : (p : ℕ → Bool) (xs ys : List ℕ) → list_all p xs ≡ true → list_all p ys ≡ true → list_all p (xs ++ ys) ≡ true
all-both p xs ys e f = list_all-append p xs ys ∙ and_from _ _ e f

digit-plain : (b : ℕ) → is_digit b ≡ true → is_plain b ≡ true
digit-plain b e = grind (arith, common_steps)

digit-inner : (b : ℕ) → is_digit b ≡ true → is_inner b ≡ true
digit-inner b e = grind (arith, common_steps)

-- ---- the words of a line

blank-first : (rest : List ℕ) → words_of (32 ∷ rest) ≡ words_of rest
unfolding words_of
blank-first rest = refl

word-then : (w rest : List ℕ) → 0 < length w → list_all is_plain w ≡ true → words_of (w ++ 32 ∷ rest) ≡ w ∷ words_of rest
word-then [] rest some p = absurd (omega (arith, some))
word-then (b ∷ w) rest some p = word-ends b w (32 ∷ rest) p refl ∙ ap (λ (ws : List (List ℕ)). (b ∷ w) ∷ ws) (blank-first rest)

word-last : (w : List ℕ) → 0 < length w → list_all is_plain w ≡ true → words_of w ≡ w ∷ []
word-last [] some p = absurd (omega (arith, some))
word-last (b ∷ w) some p = ap words_of (sym (append-nil (b ∷ w))) ∙ word-ends b w [] p refl ∙ ap (λ (ws : List (List ℕ)). (b ∷ w) ∷ ws) no-words

three-words : (t w n : List ℕ) → 0 < length t → 0 < length w → 0 < length n → list_all is_plain t ≡ true → list_all is_plain w ≡ true → list_all is_plain n ≡ true
    → words_of (t ++ 32 ∷ (w ++ 32 ∷ n)) ≡ t ∷ w ∷ n ∷ []
three-words t w n st sw sn pt pw pn =
    word-then t (w ++ 32 ∷ n) st pt ∙ ap (λ (ws : List (List ℕ)). t ∷ ws) (word-then w n sw pw ∙ ap (λ (ws : List (List ℕ)). w ∷ ws) (word-last n sn pn))

-- ---- a number

-- digits, and some
pub digits-of : (t : List ℕ) → is_decimal t ≡ true → list_all is_digit t ≡ true
unfolding is_decimal is_numeral
digits-of t e = (and_parts _ _ (and_parts _ _ e).0).0

some-digits : (t : List ℕ) → is_decimal t ≡ true → 0 < length t
unfolding is_decimal is_numeral
some-digits [] e = cc e
some-digits (b ∷ t) e = omega arith

in-range : (high : ℕ) (t : List ℕ) (n : ℕ) → is_decimal t ≡ true → digits_value 10 t ≡ n → n ≤ high → decimal_in 0 high t ≡ Some n
unfolding decimal_in
in-range high t n e is le =
    let low : nat_le 0 n ≡ true = le-leb 0 n (omega arith) in
    let most : nat_le n high ≡ true = le-leb n high le in
    rw (e, is, low, most) refl

-- ---- the words of calls

word-some : (r : Repeated) → 0 < length (word r)
word-some Read = omega arith
word-some Accum = omega arith
word-some Run = omega arith

word-plain : (r : Repeated) → list_all is_plain (word r) ≡ true
word-plain Read = refl
word-plain Accum = refl
word-plain Run = refl

word-inner : (r : Repeated) → list_all is_inner (word r) ≡ true
word-inner Read = refl
word-inner Accum = refl
word-inner Run = refl

word-form : (r : Repeated) → form_of (word r) call_rows ≡ Some (Number (call_of r))
unfolding call_rows
word-form Read = refl
word-form Accum = refl
word-form Run = refl

-- ---- what the line says

says : (number above : ℕ) (line t n : List ℕ) (thread value : ℕ) (r : Repeated) → above < MOST_CALLS → words_of line ≡ t ∷ word r ∷ n ∷ []
    → decimal_in 0 (THREADS - 1) t ≡ Some thread → decimal_in 0 4294967295 n ≡ Some value → call_line number above line ≡ Ok (line_with number thread (call_of r value))
unfolding call_line
says number above line t n thread value r few words threaded numbered =
    let room : nat_le MOST_CALLS above ≡ false = lt-leb MOST_CALLS above few in
    rw (room, words, threaded, word-form r, numbered) refl

-- ---- the line among the bytes

not_skipped : (t more : List ℕ) → 0 < length t → list_all is_digit t ≡ true → is_skipped (t ++ more) ≡ false
not_skipped [] more some e = absurd (omega (arith, some))
not_skipped (b ∷ t) more some e =
    let low = leb-true 48 b (and_parts _ _ (and_parts _ _ e).0).0 in
    let here : (length (b ∷ (t ++ more)) == 0) ≡ false = ne_eqb _ 0 (λ (q : length (b ∷ (t ++ more)) ≡ 0). omega (arith, q)) in
    let other : (b == 35) ≡ false = ne_eqb b 35 (λ (q : b ≡ 35). omega (arith, low, q)) in
    rw (here, other) refl

-- bytes that are a line, its newline and the rest
cut-line : (number above size : ℕ) (bytes line rest : List ℕ) (said : ScriptLine) → bytes ≡ line ++ 10 ∷ rest → size ≡ length line + 1 → list_all is_inner line ≡ true → is_skipped line ≡ false
    → call_line number above line ≡ Ok said → above < MOST_CALLS → said.thread < THREADS → BeginsWithLine number above bytes size said
cut-line number above size bytes line rest said whole long inner heeded says few threaded =
    let before : take (size - 1) bytes ≡ line = ap₂ (λ (n : ℕ) (s : List ℕ). take n s) (omega (arith, long)) whole ∙ take-append_seam line (10 ∷ rest) in
    let after : drop size bytes ≡ rest = ap₂ (λ (n : ℕ) (s : List ℕ). drop n s) long whole ∙ drop-append-add line (10 ∷ rest) 1 in
    record {
      some = omega (arith, long);
      inside = omega (arith, long, ap length whole, length-append line (10 ∷ rest));
      first = ap lines whole ∙ lines-line line rest inner ∙ ap₂ (λ (l r : List ℕ). l ∷ lines r) (sym before) (sym after);
      heeded = ap is_skipped before ∙ heeded;
      said = ap (call_line number above) before ∙ says;
      few = few;
      thread = threaded;
    }

pub line-of : (number above : ℕ) (bytes called argument : List ℕ) (a b c thread value : ℕ) (r : Repeated) → called ≡ drop a bytes → argument ≡ drop b called → above < MOST_CALLS
    → BeginsWithNumber bytes a thread → thread < THREADS → BeginsWithWord called b r → BeginsWithNumber argument c value → value < 2 ^ 32 → get_or argument c 0 ≡ 10
    → BeginsWithLine number above bytes (a + b + c + 1) (line_with number thread (call_of r value))
line-of number above bytes called argument a b c thread value r called_is argument_is room threaded few worded numbered fits newline =
    let t = take a bytes in
    let n = take c argument in
    let rest = drop (c + 1) argument in
    let line = t ++ 32 ∷ (word r ++ 32 ∷ n) in
    let argument_cut : argument ≡ n ++ 10 ∷ rest = sym (take-append-drop c argument) ∙ ap (λ (s : List ℕ). n ++ s) (drop_more argument c 0 numbered.inside ∙ ap (λ (k : ℕ). k ∷ rest) newline) in
    let called_cut : called ≡ 32 ∷ (word r ++ 32 ∷ argument) = worded.same ∙ ap (λ (s : List ℕ). 32 ∷ (word r ++ 32 ∷ s)) (sym argument_is) in
    let joined : line ++ 10 ∷ rest ≡ t ++ 32 ∷ (word r ++ 32 ∷ (n ++ 10 ∷ rest)) = simp append_assoc in
    let whole : bytes ≡ line ++ 10 ∷ rest =
    sym (take-append-drop a bytes) ∙ ap (λ (s : List ℕ). t ++ s) (sym called_is ∙ called_cut ∙ ap (λ (s : List ℕ). 32 ∷ (word r ++ 32 ∷ s)) argument_cut) ∙ sym joined in
    let t_long : length t ≡ a = length-take-le a bytes (omega (arith, threaded.inside)) in
    let n_long : length n ≡ c = length-take-le c argument (omega (arith, numbered.inside)) in
    let long : a + b + c + 1 ≡ length line + 1 = omega (arith, t_long, n_long, worded.long, length-append t (32 ∷ (word r ++ 32 ∷ n)), length-append (word r) (32 ∷ n)) in
    let t_digits = digits-of t threaded.decimal in
    let n_digits = digits-of n numbered.decimal in
    let inner : list_all is_inner line ≡ true =
    all-both is_inner t (32 ∷ (word r ++ 32 ∷ n)) (all-of is_digit is_inner t digit-inner t_digits)
    (and_from _ _ refl (all-both is_inner (word r) (32 ∷ n) (word-inner r) (and_from _ _ refl (all-of is_digit is_inner n digit-inner n_digits)))) in
    let words : words_of line ≡ t ∷ word r ∷ n ∷ [] =
    three-words t (word r) n (some-digits t threaded.decimal) (word-some r) (some-digits n numbered.decimal)
    (all-of is_digit is_plain t digit-plain t_digits) (word-plain r) (all-of is_digit is_plain n digit-plain n_digits) in
    let thread_in = in-range (THREADS - 1) t thread threaded.decimal threaded.same (omega (arith, few)) in
    let value_in = in-range 4294967295 n value numbered.decimal numbered.same (omega (arith, fits)) in
    cut-line number above (a + b + c + 1) bytes line rest (line_with number thread (call_of r value)) whole long inner
    (not_skipped t (32 ∷ (word r ++ 32 ∷ n)) (some-digits t threaded.decimal) t_digits) (says number above line t n thread value r room words thread_in value_in) room few
