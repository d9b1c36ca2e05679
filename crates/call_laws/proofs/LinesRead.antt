-- Each reading shows the values up to the position of its line: by induction on the lines.
use Rattle.call_laws.proofs.Words.{◌≡◌, ◌+◌, ◌-◌, ◌<◌, ◌==◌, ◌||◌, min, ℕ, Bool, true, false, List, [], ◌∷◌, ◌++◌, map, drop, take, length}
use Rattle.call_laws.proofs.Words.{slice_index_or, if◌then◌else◌, range_with_len, take-add, nat_tests, All-head, All-tail, or_right, Coming, Dry}
use Rattle.call_laws.proofs.Words.{Mark, MOST_SETS, THREADS, EventRef, Occ, Book, AtRest, Widths, new_set, has_lines, count_of, reads_call}
use Rattle.call_laws.proofs.Words.{RegionCall, RegionLine, Account, opening, account_after, step, values_of, Setting, World, account_at}
use Rattle.call_laws.proofs.Words.{opening_world, told, world_after, world_after_line, account_by_thread, opens_by_thread, set_other, set_same}
use Rattle.call_laws.proofs.Words.{asked_in, position, stream_of, ReadsByPosition, TakesAll, call_line, call_on_set, opening_script, readings_after}
use Rattle.call_laws.proofs.Words.{readings_told, reading_at, values_in, found}
use Rattle.std.proofs.Common.{replicate, refl, sym, ◌∙◌, ap, ap₂, subst, arith, append_assoc, nat_lt, All, Some, None, slice_get, slice_set}
use Rattle.std.proofs.lemmas.List.{drop-drop, length-drop}
use Rattle.region_report.specs.declared.regions.RegionCall.TheVariants as region
use Rattle.call_laws.proofs.Counted.{shown}
use Rattle.call_laws.proofs.Opened.{counting, counting_set, opened, opening_among, with_events}
use Rattle.call_laws.proofs.Told.{quiet_openings, told_append}

-- ---- one line of a thread

line_values : (book : Book) (shape : Widths) (t : ℕ) (s : AtRest) (q : ℕ) (tape : List Occ) (mark : Mark) (c : RegionCall)
    → values_in (step book shape (counting t s q tape mark) (call_on_set c)).reply.body ≡ (if reads_call c then values_of book (take q tape) (counting_set s) ∷ [] else [])
line_values book shape t s q tape mark (region.Begin name) = refl
line_values book shape t s q tape mark c = refl

-- the account after a call of a thread that has asked for n occurrences
abbrev Moved : Book → Widths → ℕ → AtRest → ℕ → List Occ → Mark → RegionCall → Type 0
Moved book shape t s asked tape mark c = (after : Mark)
    × ((step book shape (counting t s (min asked (length tape)) tape mark) (call_on_set c)).account
    ≡ counting t s (min (asked + count_of c) (length tape)) tape after)

unmoved : (t : ℕ) (s : AtRest) (asked : ℕ) (tape : List Occ) (mark : Mark)
    → counting t s (min asked (length tape)) tape mark ≡ counting t s (min (asked + 0) (length tape)) tape mark
unmoved t s asked tape mark = ap (λ k. counting t s (min k (length tape)) tape mark) (let e : asked ≡ asked + 0 = omega arith in e)

-- the next n occurrences, or all that are left
next : (asked n : ℕ) (tape : List Occ) → let q = min asked (length tape) in q + min n (length (drop q tape)) ≡ min (asked + n) (length tape)
next asked n tape = grind (arith, length-drop)

line_account : (book : Book) (shape : Widths) (t : ℕ) (s : AtRest) (asked : ℕ) (tape : List Occ) (mark : Mark) (c : RegionCall) → Moved book shape t s asked tape mark c
line_account book shape t s asked tape mark (region.Run n) =
    let q : ℕ = min asked (length tape) in
    let k : ℕ = min n (length (drop q tape)) in
    let after : Mark = if nat_lt (length (drop q tape)) n then Dry else mark in (
      after,
      ap₂ (λ past rest. record { thread = t; registered = false; sets = Some (counting_set s) ∷ replicate (MOST_SETS - 1) None; past = past; rest = rest; mark = after })
          (sym (take-add q k tape)) (drop-drop k q tape)
          ∙ ap (λ p. counting t s p tape after) (next asked n tape),
    )
line_account book shape t s asked tape mark c = (mark, unmoved t s asked tape mark)

-- ---- all threads

asked_with : (u : ℕ) (before : List RegionLine) (l : RegionLine)
    → asked_in u (before ++ l ∷ []) ≡ asked_in u before + (if l.thread == u then count_of l.call else 0)
asked_with u [] l = omega arith
asked_with u (x ∷ before) l = let e = asked_with u before l in omega (arith, e)

-- each thread that has lines counts the events, and stands at its position
record Stands (book : Book) (streams : List Coming) (events : List EventRef) (lines before : List RegionLine) (accounts : List Account) : Type 0 where
  at : (t : ℕ) → t < THREADS → has_lines lines t ≡ true
      → (mark : Mark) × (slice_get accounts t ≡ Some (counting t (with_events book new_set events) (position (stream_of streams t) t before) (stream_of streams t) mark))

-- the lines of the thread itself
asked_own : (u : ℕ) (before : List RegionLine) (l : RegionLine) → (l.thread == u) ≡ true → asked_in u (before ++ l ∷ []) ≡ asked_in u before + count_of l.call
asked_own u before l e = asked_with u before l ∙ ap (λ b. asked_in u before + (if b then count_of l.call else 0)) e

asked_other : (u : ℕ) (before : List RegionLine) (l : RegionLine) → (l.thread == u) ≡ false → asked_in u (before ++ l ∷ []) ≡ asked_in u before
asked_other u before l e = grind (arith, asked_with)

-- the account of a thread counts the events and stands at the position after these lines
abbrev StandsAt : Book → List Coming → List EventRef → List RegionLine → List Account → ℕ → Type 0
StandsAt book streams events before accounts t = (mark : Mark)
    × (slice_get accounts t ≡ Some (counting t (with_events book new_set events) (position (stream_of streams t) t before) (stream_of streams t) mark))

-- the accounts after a line of a thread
abbrev after_line : Setting → List Account → RegionLine → List Account
after_line at accounts l = slice_set accounts l.thread (step at.book at.shape (account_at accounts l.thread) (call_on_set l.call)).account

own_line : (at : Setting) (streams : List Coming) (events : List EventRef) (before : List RegionLine) (accounts : List Account) (l : RegionLine)
    → StandsAt at.book streams events before accounts l.thread → StandsAt at.book streams events (before ++ l ∷ []) (after_line at accounts l) l.thread
own_line at streams events before accounts l stands =
    let t : ℕ = l.thread in
    let tape : List Occ = stream_of streams t in
    let s : AtRest = with_events at.book new_set events in
    let old : Account = counting t s (position tape t before) tape stands.0 in
    let moved = line_account at.book at.shape t s (asked_in t before) tape stands.0 l.call in
    let same : (t == t) ≡ true = grind (arith, nat_tests) in (
      moved.0,
      set_same accounts t old (step at.book at.shape (account_at accounts t) (call_on_set l.call)).account stands.1
          ∙ ap (λ a. Some (step at.book at.shape a (call_on_set l.call)).account) (found accounts t old stands.1)
          ∙ ap (λ a. Some a) moved.1
          ∙ ap (λ k. Some (counting t s (min k (length tape)) tape moved.0)) (sym (asked_own t before l same)),
    )

other_line : (at : Setting) (streams : List Coming) (events : List EventRef) (before : List RegionLine) (accounts : List Account) (l : RegionLine) (u : ℕ)
    → (l.thread == u) ≡ false → StandsAt at.book streams events before accounts u → StandsAt at.book streams events (before ++ l ∷ []) (after_line at accounts l) u
other_line at streams events before accounts l u q stands = grind (arith, with_events, nat_tests, set_other, counting, asked_other)

any_line : (at : Setting) (streams : List Coming) (events : List EventRef) (before : List RegionLine) (accounts : List Account) (l : RegionLine) (u : ℕ) (b : Bool)
    → (l.thread == u) ≡ b → StandsAt at.book streams events before accounts u → StandsAt at.book streams events (before ++ l ∷ []) (after_line at accounts l) u
any_line at streams events before accounts l u true q stands =
    let same : u ≡ l.thread = grind (arith, nat_tests, q) in
    subst (λ v. StandsAt at.book streams events (before ++ l ∷ []) (after_line at accounts l) v) (sym same)
    (own_line at streams events before accounts l (subst (λ v. StandsAt at.book streams events before accounts v) same stands))
any_line at streams events before accounts l u false q stands = other_line at streams events before accounts l u q stands

stands_on : (at : Setting) (streams : List Coming) (events : List EventRef) (lines before : List RegionLine) (accounts : List Account) (l : RegionLine)
    → Stands at.book streams events lines before accounts → Stands at.book streams events lines (before ++ l ∷ []) (after_line at accounts l)
stands_on at streams events lines before accounts l stands =
    record { at = λ u below has. any_line at streams events before accounts l u (l.thread == u) refl (stands.at u below has) }

-- what a line reads
line_told : (at : Setting) (streams : List Coming) (events : List EventRef) (before : List RegionLine) (accounts : List Account) (l : RegionLine)
    → StandsAt at.book streams events before accounts l.thread
    → values_in (step at.book at.shape (account_at accounts l.thread) (call_on_set l.call)).reply.body ≡ reading_at at.book streams events before l
line_told at streams events before accounts l stands = grind (arith, with_events, found, counting, line_values, shown)

-- a thread of a line has lines
has_own : (before : List RegionLine) (l : RegionLine) (ys : List RegionLine) → has_lines (before ++ l ∷ ys) l.thread ≡ true
has_own [] l ys = let same : (l.thread == l.thread) ≡ true = grind (arith, nat_tests) in ap (λ b. b || has_lines ys l.thread) same
has_own (x ∷ before) l ys = ap (λ b. (x.thread == l.thread) || b) (has_own before l ys) ∙ or_right (x.thread == l.thread) true refl

lines_told : (at : Setting) (streams : List Coming) (events : List EventRef) (lines : List RegionLine) (ys before : List RegionLine) (w : World)
    → All (λ l. l.thread < THREADS) ys → lines ≡ before ++ ys → Stands at.book streams events lines before w.accounts
    → readings_told (told at w (map call_line ys)) ≡ readings_after at.book streams events before ys
lines_told at streams events lines [] before w threads whole stands = refl
lines_told at streams events lines (l ∷ ys) before w threads whole stands =
    let has : has_lines lines l.thread ≡ true = ap (λ ls. has_lines ls l.thread) whole ∙ has_own before l ys in
    ap₂ (λ xs ys. xs ++ ys)
    (line_told at streams events before w.accounts l (stands.at l.thread (All-head (λ x. x.thread < THREADS) l ys threads) has))
    (lines_told at streams events lines ys (before ++ l ∷ []) (world_after_line at w (call_line l)) (All-tail (λ x. x.thread < THREADS) l ys threads)
    (whole ∙ sym (append_assoc before (l ∷ []) ys)) (stands_on at streams events lines before w.accounts l stands))

-- ---- the whole script

opens : (at : Setting) (streams : List Coming) (lines : List RegionLine) (events : List EventRef) → 0 < length events → TakesAll at.book new_set events
    → Stands at.book streams events lines [] (world_after at (opening_world streams) (opening_script lines events)).accounts
opens at streams lines events some takes = record {
  at = λ t below has.
      let coming : Coming = slice_index_or streams t (record { rest = []; mark = Dry }) in
      let s : AtRest = with_events at.book new_set events in (
        coming.mark,
        account_by_thread at (opening_world streams) (opening_script lines events) t (opening t coming.rest coming.mark) (opens_by_thread streams t below)
            ∙ ap (λ cs. Some (account_after at.book at.shape (opening t coming.rest coming.mark) cs)) (opening_among lines events t 0 THREADS has (omega arith) (omega (arith, below)))
            ∙ ap (λ a. Some a) (opened at.book at.shape t coming.rest coming.mark events takes some)
            ∙ ap (λ k. Some (counting t s k coming.rest coming.mark)) (let e : 0 ≡ min 0 (length coming.rest) = omega arith in e),
      );
}

pub reads_by_position : ReadsByPosition
reads_by_position at streams lines events threads some takes =
    let w : World = opening_world streams in
    told_append at w (opening_script lines events) (map call_line lines)
    ∙ ap₂ (λ xs ys. xs ++ ys) (quiet_openings at w lines events (range_with_len 0 THREADS))
    (lines_told at streams events lines lines [] (world_after at w (opening_script lines events)) threads refl (opens at streams lines events some takes))
