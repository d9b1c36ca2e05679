-- Each line that reads or ends a region names the reading of its begin: by induction on the lines of the script.
use Rattle.call_laws.proofs.Words.{◌≡◌, ◌≢◌, ◌⊎◌, ◌+◌, ◌-◌, ◌≤◌, ◌<◌, ◌==◌, inl, inr, min, ℕ, zero, suc, Bool, true, false, List, [], ◌∷◌, ◌++◌}
use Rattle.call_laws.proofs.Words.{filter, length, length-append, replicate, take, refl, sym, ◌∙◌, ap, subst, arith, append_assoc, append-nil}
use Rattle.call_laws.proofs.Words.{if◌then◌else◌, nat_tests, length-take, filter-append, slice_get_within, THREADS, get_front, Text, is_skipped, Open}
use Rattle.call_laws.proofs.Words.{after_line, after_reading, innermost, is_reading, line_with, open_of, region_line, is_begin, name_of, Refused}
use Rattle.call_laws.proofs.Words.{lines_from, onto, put_before, above_line, all_ended, none_open, region_scripts, regions_of, RegionCause, NotEnded}
use Rattle.call_laws.proofs.Words.{RegionCall, RegionLine, AreBegun, IsBegun, ScriptsAreBegun, before_reading, depth_after}
use Rattle.call_laws.proofs.Words.{depth_after_line, depth_with, reading_line}
use Rattle.std.proofs.Common.{Option, Some, None, Result, Ok, Err, slice_get, slice_set, option_and_then}
use Rattle.std.specs.Str.Lines as str
use Rattle.region_report.specs.declared.regions.RegionCall.TheVariants as call
use Rattle.call_laws.proofs.Cases.{Called, Found, IsCalled, line_is}
use Rattle.call_laws.proofs.Numbered.{before_grown, filter_reading, filter_running, own_before, own_number, readings, readings_more}

-- ---- further lines

-- an item is among the first ones or the others
get_either : {X : Type 0} (xs ys : List X) (i : ℕ) (x : X) → slice_get (xs ++ ys) i ≡ Some x
    → (slice_get xs i ≡ Some x) ⊎ ((k : ℕ) × (i ≡ length xs + k) × (slice_get ys k ≡ Some x))
get_either [] ys i x e = inr (i, omega arith, e)
get_either (y ∷ xs) ys zero x e = inl e
get_either (y ∷ xs) ys (suc i) x e = go (get_either xs ys i x e) where
  go : (slice_get xs i ≡ Some x) ⊎ ((k : ℕ) × (i ≡ length xs + k) × (slice_get ys k ≡ Some x))
      → (slice_get xs i ≡ Some x) ⊎ ((k : ℕ) × (suc i ≡ length (y ∷ xs) + k) × (slice_get ys k ≡ Some x))
  go (inl h) = inl h
  go (inr h) = inr (h.0, omega (arith, h.1), h.2)

grown : (before ys : List RegionLine) (i : ℕ) (b : RegionLine) → reading_line before i b → reading_line (before ++ ys) i b
grown before ys i b e = ap (λ ls. slice_get ls i) (filter-append is_reading before ys) ∙ get_front (filter is_reading before) (filter is_reading ys) i b e

begun_grown : (before ys : List RegionLine) (i : ℕ) (l : RegionLine) → reading_line before i l → IsBegun before i l → IsBegun (before ++ ys) i l
begun_grown before ys i l e h = grind (arith, grown, before_grown)

either_line : (before : List RegionLine) (l : RegionLine) (i : ℕ) (x : RegionLine) → reading_line (before ++ l ∷ []) i x
    → reading_line before i x ⊎ ((k : ℕ) × (i ≡ readings before + k) × (slice_get (filter is_reading (l ∷ [])) k ≡ Some x))
either_line before l i x e = grind (arith, get_either, filter-append)

-- one line more that reads the counters
more_reading : (before : List RegionLine) (l : RegionLine) → is_reading l ≡ true → AreBegun before → IsBegun (before ++ l ∷ []) (readings before) l → AreBegun (before ++ l ∷ [])
more_reading before l reads h own = grind (arith, either_line, readings, begun_grown, filter_reading)

-- one line more that runs
more_running : (before : List RegionLine) (l : RegionLine) → is_reading l ≡ false → AreBegun before → AreBegun (before ++ l ∷ [])
more_running before l runs h = grind (arith, either_line, readings, begun_grown, filter_running)

-- ---- depths

depth_more : (t n : ℕ) (xs : List RegionLine) (l : RegionLine) → depth_after t n (xs ++ l ∷ []) ≡ option_and_then (λ m. depth_after_line t m l) (depth_after t n xs)
depth_more t n [] l = one (depth_after_line t n l) where
  one : (o : Option ℕ) → option_and_then (λ m. Some m) o ≡ o
  one None = refl
  one (Some m) = refl
depth_more t n (x ∷ xs) l = go (depth_after_line t n x) (λ m. depth_more t m xs l) where
  go : (o : Option ℕ) → ((m : ℕ) → depth_after t m (xs ++ l ∷ []) ≡ option_and_then (λ k. depth_after_line t k l) (depth_after t m xs))
      → option_and_then (λ m. depth_after t m (xs ++ l ∷ [])) o ≡ option_and_then (λ k. depth_after_line t k l) (option_and_then (λ m. depth_after t m xs) o)
  go None h = refl
  go (Some m) h = h m

own_depth : (t n : ℕ) (l : RegionLine) → l.thread ≡ t → depth_after_line t n l ≡ depth_with n l.call
own_depth t n l e = let same : (l.thread == t) ≡ true = grind (arith, nat_tests, e) in ap (λ b. if b then depth_with n l.call else Some n) same

other_depth : (t n : ℕ) (l : RegionLine) → t ≢ l.thread → depth_after_line t n l ≡ Some n
other_depth t n l apart = let other : (l.thread == t) ≡ false = grind (arith, nat_tests, apart) in ap (λ b. if b then depth_with n l.call else Some n) other

-- ---- the open regions

-- a region is open that a line of the thread began, and n are open in it
abbrev IsOpen : List RegionLine → ℕ → ℕ → Open → Type 0
IsOpen before t n o = (b : RegionLine) × reading_line before o.begun b × (is_begin b.call ≡ true) × (b.thread ≡ t) × (name_of b.call ≡ o.name)
    × (between : List RegionLine) × (before ≡ before_reading before o.begun ++ b ∷ between) × (depth_after t 0 between ≡ Some n)

-- each open region of a thread, the innermost last
abbrev AreOpen : List RegionLine → ℕ → List Open → Type 0
AreOpen before t os = (k : ℕ) (o : Open) → slice_get os k ≡ Some o → IsOpen before t (length os - suc k) o

-- after a line that leaves n open in it
open_grown : (before : List RegionLine) (l : RegionLine) (t n m : ℕ) (o : Open) → depth_after_line t n l ≡ Some m → IsOpen before t n o → IsOpen (before ++ l ∷ []) t m o
open_grown before l t n m o d h =
    let b : RegionLine = h.0 in
    let between : List RegionLine = h.5 in
    let above : before_reading (before ++ l ∷ []) o.begun ≡ before_reading before o.begun = before_grown before (l ∷ []) o.begun b h.1 in (
      b,
      grown before (l ∷ []) o.begun b h.1,
      h.2,
      h.3,
      h.4,
      between ++ l ∷ [],
      ap (λ ls. ls ++ l ∷ []) h.6 ∙ append_assoc (before_reading before o.begun) (b ∷ between) (l ∷ []) ∙ ap (λ ls. ls ++ b ∷ (between ++ l ∷ [])) (sym above),
      depth_more t 0 between l ∙ ap (option_and_then (λ k. depth_after_line t k l)) h.7 ∙ d,
    )

-- the open regions of one thread are put anew
put : (Q : ℕ → List Open → Type 0) (opens : List (List Open)) (t : ℕ) (os : List Open) → Q t os → ((u : ℕ) → Q u []) → ((u : ℕ) → u ≢ t → Q u (open_of opens u))
    → (u : ℕ) → Q u (open_of (slice_set opens t os) u)
put Q [] t os new none old u = none u
put Q (x ∷ opens) zero os new none old zero = new
put Q (x ∷ opens) zero os new none old (suc u) = old (suc u) (λ e. omega (arith, e))
put Q (x ∷ opens) (suc t) os new none old zero = old zero (λ e. omega (arith, e))
put Q (x ∷ opens) (suc t) os new none old (suc u) =
    put (λ v ps. Q (suc v) ps) opens t os new (λ v. none (suc v)) (λ v apart. old (suc v) (λ e. apart (omega (arith, e)))) u

-- ---- one call

-- what holds after some lines
record Stand (before : List RegionLine) (count : ℕ) (opens : List (List Open)) : Type 0 where
  counted : count ≡ readings before
  begun : AreBegun before
  kept : (t : ℕ) → AreOpen before t (open_of opens t)

abbrev After : List RegionLine → ℕ → List (List Open) → RegionLine → Type 0
After before count opens l = Stand (before ++ l ∷ []) (after_reading count l) (after_line opens l)

-- the open regions after a line, if these are then open in its thread
kept_after : (before : List RegionLine) (l : RegionLine) (opens : List (List Open)) (os : List Open) → ((t : ℕ) → AreOpen before t (open_of opens t))
    → AreOpen (before ++ l ∷ []) l.thread os → (t : ℕ) → AreOpen (before ++ l ∷ []) t (open_of (slice_set opens l.thread os) t)
kept_after before l opens os kept new = put (AreOpen (before ++ l ∷ [])) opens l.thread os new (λ u k o e. cc)
    (λ u apart k o e.
    let n : ℕ = length (open_of opens u) - suc k in
    open_grown before l u n n o (other_depth u n l apart) (kept u k o e))

-- a line that leaves the regions of its thread open
left_open : (before : List RegionLine) (l : RegionLine) (os : List Open) → ((n : ℕ) → depth_with n l.call ≡ Some n) → AreOpen before l.thread os → AreOpen (before ++ l ∷ []) l.thread os
left_open before l os same h k o e = let n : ℕ = length os - suc k in open_grown before l l.thread n n o (own_depth l.thread n l refl ∙ same n) (h k o e)

-- a region more, the innermost
pushed : (before : List RegionLine) (l : RegionLine) (os : List Open) (new : Open) → ((n : ℕ) → depth_with n l.call ≡ Some (suc n)) → AreOpen before l.thread os
    → IsOpen (before ++ l ∷ []) l.thread 0 new → AreOpen (before ++ l ∷ []) l.thread (os ++ new ∷ [])
pushed before l os new more h own k o e = go (get_either os (new ∷ []) k o e) where
  long : length (os ++ new ∷ []) ≡ length os + 1
  long = length-append os (new ∷ [])

  last : (j : ℕ) → k ≡ length os + j → slice_get (new ∷ []) j ≡ Some o → IsOpen (before ++ l ∷ []) l.thread (length (os ++ new ∷ []) - suc k) o
  last zero p q =
      let same : new ≡ o = cc in
      let none : 0 ≡ length (os ++ new ∷ []) - suc k = omega (arith, p, long) in
      subst (λ n. IsOpen (before ++ l ∷ []) l.thread n o) none (subst (IsOpen (before ++ l ∷ []) l.thread 0) same own)
  last (suc j) p q = cc

  go : (slice_get os k ≡ Some o) ⊎ ((j : ℕ) × (k ≡ length os + j) × (slice_get (new ∷ []) j ≡ Some o)) → IsOpen (before ++ l ∷ []) l.thread (length (os ++ new ∷ []) - suc k) o
  go (inl q) =
      let n : ℕ = length os - suc k in
      let inside : k < length os = slice_get_within os k o q in
      let one_more : suc n ≡ length (os ++ new ∷ []) - suc k = omega (arith, inside, long) in
      subst (λ m. IsOpen (before ++ l ∷ []) l.thread m o) one_more (open_grown before l l.thread n (suc n) o (own_depth l.thread n l refl ∙ more n) (h k o q))
  go (inr q) = last q.0 q.1 q.2

get_take : {X : Type 0} (m : ℕ) (xs : List X) (k : ℕ) (x : X) → slice_get (take m xs) k ≡ Some x → (k < m) × (slice_get xs k ≡ Some x)
get_take zero xs k x e = cc
get_take (suc m) [] k x e = cc
get_take (suc m) (y ∷ xs) zero x e = (omega arith, e)
get_take (suc m) (y ∷ xs) (suc k) x e = let h = get_take m xs k x e in (omega (arith, h.0), h.1)

-- the innermost one less
popped : (before : List RegionLine) (l : RegionLine) (os : List Open) → ((n : ℕ) → depth_with (suc n) l.call ≡ Some n) → AreOpen before l.thread os
    → AreOpen (before ++ l ∷ []) l.thread (take (length os - 1) os)
popped before l os less h k o e =
    let q = get_take (length os - 1) os k o e in
    let inside : k < length os = slice_get_within os k o q.1 in
    let short : length (take (length os - 1) os) ≡ min (length os - 1) (length os) = length-take (length os - 1) os in
    let n : ℕ = length (take (length os - 1) os) - suc k in
    let one_more : length os - suc k ≡ suc n = omega (arith, inside, short, q.0) in
    open_grown before l l.thread (suc n) n o (own_depth l.thread (suc n) l refl ∙ less n) (subst (λ m. IsOpen before l.thread m o) one_more (h k o q.1))

begin_line : (before : List RegionLine) (count : ℕ) (opens : List (List Open)) (number t : ℕ) (name : Text) → Stand before count opens
    → After before count opens (line_with number t (call.Begin name, count))
begin_line before count opens number t name s =
    let l : RegionLine = line_with number t (call.Begin name, count) in
    let os : List Open = open_of opens t in
    let new : Open = record { name = name; begun = count } in
    let at : reading_line (before ++ l ∷ []) count l = subst (λ i. reading_line (before ++ l ∷ []) i l) (sym s.counted) (own_number before l [] refl) in
    let least : count ≤ readings before = omega (arith, s.counted) in
    let above : before_reading (before ++ l ∷ []) count ≡ before = ap (before_reading (before ++ l ∷ [])) s.counted ∙ own_before before l [] refl in
    let none : List RegionLine = [] in
    record {
      counted = let more = readings_more before l in omega (arith, s.counted, more);
      begun = more_reading before l refl s.begun
          (record { begin = l; at = at; not_later = least; begins = refl; same_thread = refl; same_name = refl; innermost = inl (refl, s.counted) });
      kept = kept_after before l opens (os ++ new ∷ []) s.kept
          (pushed before l os new (λ n. refl) (s.kept t) (l, at, refl, refl, refl, none, ap (λ ls. ls ++ l ∷ []) (sym above), refl));
    }

-- the begin of the innermost open region is that of a line that names it
begun_by : (before : List RegionLine) (os : List Open) (number t : ℕ) (c : RegionCall) (begun : ℕ) → is_reading (line_with number t (c, begun)) ≡ true → AreOpen before t os
    → Found (innermost os) (name_of c) begun → let l = line_with number t (c, begun) in IsBegun (before ++ l ∷ []) (readings before) l
begun_by before os number t c begun reads h f = grind (arith, slice_get_within, before_grown, grown, own_before)

-- a line that reads or ends the innermost open region
inner_line : (before : List RegionLine) (count : ℕ) (opens : List (List Open)) (l : RegionLine) (os : List Open) → Stand before count opens
    → is_reading l ≡ true → IsBegun (before ++ l ∷ []) (readings before) l → AreOpen (before ++ l ∷ []) l.thread os
    → Stand (before ++ l ∷ []) (count + 1) (slice_set opens l.thread os)
inner_line before count opens l os s reads own left = grind (arith, readings_more, readings, more_reading, kept_after)

run_line : (before : List RegionLine) (count : ℕ) (opens : List (List Open)) (number t n begun : ℕ) → Stand before count opens
    → After before count opens (line_with number t (call.Run n, begun))
run_line before count opens number t n begun s =
    let l : RegionLine = line_with number t (call.Run n, begun) in
    record {
      counted = let more = readings_more before l in omega (arith, s.counted, more);
      begun = more_running before l refl s.begun;
      kept = kept_after before l opens (open_of opens t) s.kept (left_open before l (open_of opens t) run_depth (s.kept t));
    } where
      run_depth : (k : ℕ) → depth_with k (call.Run n) ≡ Some k
      run_depth zero = refl
      run_depth (suc k) = refl

read_depth : (name : Text) (k : ℕ) → depth_with k (call.Read name) ≡ Some k
read_depth name zero = refl
read_depth name (suc k) = refl

after_call : (before : List RegionLine) (count : ℕ) (opens : List (List Open)) (number t : ℕ) (c : RegionCall) (begun : ℕ) → Stand before count opens
    → Called count (open_of opens t) (c, begun) → After before count opens (line_with number t (c, begun))
after_call before count opens number t c begun s (inl h) =
    subst (λ called. After before count opens (line_with number t called)) (sym h.1) (begin_line before count opens number t h.0 s)
after_call before count opens number t c begun s (inr (inl h)) =
    let f : Found (innermost (open_of opens t)) (name_of (call.Read h.0)) begun = h.2 in
    let l : RegionLine = line_with number t (call.Read h.0, begun) in
    subst (λ d. After before count opens (line_with number t (d, begun))) (sym h.1)
    (inner_line before count opens l (open_of opens t) s refl (begun_by before (open_of opens t) number t (call.Read h.0) begun refl (s.kept t) f)
    (left_open before l (open_of opens t) (read_depth h.0) (s.kept t)))
after_call before count opens number t c begun s (inr (inr (inl h))) =
    let f : Found (innermost (open_of opens t)) (name_of (call.End h.0)) begun = h.2 in
    let l : RegionLine = line_with number t (call.End h.0, begun) in
    subst (λ d. After before count opens (line_with number t (d, begun))) (sym h.1)
    (inner_line before count opens l (take (length (open_of opens t) - 1) (open_of opens t)) s refl
    (begun_by before (open_of opens t) number t (call.End h.0) begun refl (s.kept t) f) (popped before l (open_of opens t) (λ n. refl) (s.kept t)))
after_call before count opens number t c begun s (inr (inr (inr h))) =
    subst (λ called. After before count opens (line_with number t called)) (sym h.2) (run_line before count opens number t h.0 h.1 s)

after_one : (before : List RegionLine) (count : ℕ) (opens : List (List Open)) (number : ℕ) (l : RegionLine) → Stand before count opens → IsCalled number count opens l
    → After before count opens l
after_one before count opens number l s h =
    subst (λ x. After before count opens x) (sym h.2) (after_call before count opens number h.0 h.1.0 h.1.1 s h.3)

-- ---- all lines

no_more : (before ys : List RegionLine) (b : Bool) (refused : Refused RegionCause) → (if b then Ok [] else Err refused) ≡ Ok ys → AreBegun before → AreBegun (before ++ ys)
no_more before ys true refused e h =
    let none : [] ≡ ys = cc in
    subst (λ ls. AreBegun (before ++ ls)) none (subst AreBegun (sym (append-nil before)) h)
no_more before ys false refused e h = cc

onto_more : (before ys : List RegionLine) (number : ℕ) (read : Result RegionLine RegionCause) (below : RegionLine → Result (List RegionLine) (Refused RegionCause))
    → ((l : RegionLine) → read ≡ Ok l → (zs : List RegionLine) → below l ≡ Ok zs → AreBegun ((before ++ l ∷ []) ++ zs))
    → onto number read below ≡ Ok ys → AreBegun (before ++ ys)
onto_more before ys number (Err cause) below given e = cc
onto_more before ys number (Ok l) below given e = go (below l) refl e where
  go : (r : Result (List RegionLine) (Refused RegionCause)) → below l ≡ r → put_before (l ∷ []) r ≡ Ok ys → AreBegun (before ++ ys)
  go (Ok zs) q h =
      let same : l ∷ zs ≡ ys = cc in
      subst (λ ls. AreBegun (before ++ ls)) same (subst AreBegun (append_assoc before (l ∷ []) zs) (given l refl zs q))
  go (Err refused) q h = cc

abbrev Reads : List RegionLine → ℕ → ℕ → ℕ → List (List Open) → List Text → Type 0
Reads before number above count opens texts = (ys : List RegionLine) → lines_from region_scripts number (above_line above count opens) texts ≡ Ok ys → AreBegun (before ++ ys)

read_on : (texts : List Text) (before : List RegionLine) (number above count : ℕ) (opens : List (List Open)) → Stand before count opens → Reads before number above count opens texts
unfolding lines_from
read_on [] before number above count opens s ys e = no_more before ys (all_ended opens) (record { line = number; cause = NotEnded }) e s.begun
read_on (text ∷ texts) before number above count opens s ys e =
    go (is_skipped text) e
    (read_on texts before (number + 1) above count opens s ys)
    (λ l read zs. read_on texts (before ++ l ∷ []) (number + 1) (above + 1) (after_reading count l) (after_line opens l)
    (after_one before count opens number l s (line_is number above count opens text l read)) zs) where
      next : RegionLine → Result (List RegionLine) (Refused RegionCause)
      next l = lines_from region_scripts (number + 1) (above_line (above + 1) (after_reading count l) (after_line opens l)) texts

      go : (b : Bool) → (if b then lines_from region_scripts (number + 1) (above_line above count opens) texts else onto number (region_line number above count opens text) next) ≡ Ok ys
          → (lines_from region_scripts (number + 1) (above_line above count opens) texts ≡ Ok ys → AreBegun (before ++ ys))
          → ((l : RegionLine) → region_line number above count opens text ≡ Ok l → (zs : List RegionLine) → next l ≡ Ok zs → AreBegun ((before ++ l ∷ []) ++ zs))
          → AreBegun (before ++ ys)
      go true h skipped called = skipped h
      go false h skipped called = onto_more before ys number (region_line number above count opens text) next called h

none : (n t : ℕ) → open_of (replicate n []) t ≡ []
none zero t = refl
none (suc n) zero = refl
none (suc n) (suc t) = none n t

pub scripts_are_begun : ScriptsAreBegun
unfolding regions_of
scripts_are_begun bytes lines e = read_on (str.lines bytes) [] 1 0 0 none_open (record {
  counted = refl;
  begun = record { each = λ i l h. cc };
  kept = λ t. subst (AreOpen [] t) (sym (none THREADS t)) (λ k o h. cc);
}) lines e
