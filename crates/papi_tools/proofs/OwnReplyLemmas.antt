-- What `papi_run` replies and tells, by each thread's own calls.
use Rattle.papi_tools.proofs.Words.{◌≡◌, ◌+◌, ◌<◌, ◌==◌, ℕ, zero, suc, Bool, true, false, List, [], ◌∷◌, map, refl, ap, ◌∙◌, arith, slice_get, take}
use Rattle.papi_tools.proofs.Words.{Some, range_with_len, option_map, All-append, All-push, Note, THREADS, notes_are_of_threads}
use Rattle.papi_tools.proofs.Words.{replies_are_of_threads, CatalogView, shape_of, numbered, BookFits, name_of, ScriptLine, IsGoodAsk, line_of}
use Rattle.papi_tools.proofs.Words.{lines_of, reply_lines_of, setting_of, LineTold, calls_asked, calls_at, notes_of_thread, IsGood, IsShape, Call}
use Rattle.papi_tools.proofs.Words.{Asked, Line, Reply, ReplyLine, AreOverUnit, NotesAreOwn, RepliesAreOwn, ran_notes, ran_replies, told_in}
use Rattle.std.specs.Prelude.{All, if◌then◌else◌}
use Rattle.call_laws.specs.Readings.{line_of as line_by}
use Rattle.call_type.specs.declared.call.Asked.TheVariants as asked

-- the line at a place of the script, looked up
line_at : (catalog : CatalogView) (script : List ScriptLine) (i : ℕ) (l : ScriptLine) → slice_get script i ≡ Some l
    → slice_get (lines_of catalog script) i ≡ Some (line_of catalog l)
unfolding lines_of
line_at catalog [] i l e = cc
line_at catalog (k ∷ script) zero l e = let same : k ≡ l = cc in ap (λ x. Some (line_of catalog x)) same
line_at catalog (k ∷ script) (suc i) l e = line_at catalog script i l e

abbrev replied_to : ScriptLine → Reply → ReplyLine
replied_to l r = record { line = l.line; thread = l.thread; word = name_of l.call; reply = r }

-- the reply line beside the line at a place
reply_at : (script : List ScriptLine) (xs : List LineTold) (i : ℕ) (l : ScriptLine) (r : Reply) → slice_get script i ≡ Some l
    → option_map (λ x. x.reply) (slice_get xs i) ≡ Some r → slice_get (reply_lines_of script xs) i ≡ Some (replied_to l r)
unfolding reply_lines_of
reply_at [] xs i l r e f = cc
reply_at (k ∷ script) [] i l r e f = cc
reply_at (k ∷ script) (x ∷ xs) zero l r e f =
    let same : k ≡ l = cc in
    let reply : x.reply ≡ r = cc in
    ap (λ y. Some (replied_to y x.reply)) same ∙ ap (λ y. Some (replied_to l y)) reply
reply_at (k ∷ script) (x ∷ xs) (suc i) l r e f = reply_at script xs i l r e f

pub replies_are_own : RepliesAreOwn
unfolding ran_replies
replies_are_own given i l c below here asks =
    let at = setting_of given.catalog in
    let lines = lines_of given.catalog given.script in
    let line : slice_get lines i ≡ Some (line_by l.thread c) = line_at given.catalog given.script i l here
    ∙ ap (λ (a : Asked). Some (let k : Line = record { thread = l.thread; asked = a } in k)) asks in
    reply_at given.script (told_in given) i l _ here (replies_are_of_threads at given.streams lines i l.thread c below line)

-- what is made of the number at a place of a range
made_at : {X : Type 0} (f : ℕ → X) (a n k : ℕ) → k < n → slice_get (map f (range_with_len a n)) k ≡ Some (f (a + k))
made_at f a zero k below = absurd (omega arith)
made_at f a (suc n) zero below = ap (λ j. Some (f j)) (let e : a ≡ a + 0 = omega arith in e)
made_at f a (suc n) (suc k) below = made_at f (a + 1) n k (omega arith) ∙ ap (λ j. Some (f j)) (let e : a + 1 + k ≡ a + suc k = omega arith in e)

pub notes_are_own : NotesAreOwn
unfolding ran_notes
notes_are_own given t below =
    made_at (λ k. notes_of_thread k (told_in given)) 0 THREADS t below
    ∙ ap (λ k. Some (notes_of_thread k (told_in given))) (let e : 0 + t ≡ t = omega arith in e)
    ∙ ap (λ (ns : List Note). Some ns) (notes_are_of_threads (setting_of given.catalog) given.streams (lines_of given.catalog given.script) t below)

-- ---- the events of the calls

-- what holds of each line's call holds of each thread's calls
own_calls : (P : Call → Type 0) (lines : List Line) (t : ℕ) → ((i s : ℕ) (c : Call) → slice_get lines i ≡ Some (line_by s c) → P c) → All P (calls_at t lines)
own_calls P [] t h = λ k d below. absurd (omega arith)
own_calls P (l ∷ lines) t h = All-append P (if l.thread == t then calls_asked l.asked else []) (calls_at t lines)
    (chosen (l.thread == t) l.asked (λ c e. h 0 l.thread c (ap (λ (a : Asked). Some (let k : Line = record { thread = l.thread; asked = a } in k)) e)))
    (own_calls P lines t (λ i s c e. h (suc i) s c e)) where
      chosen : (b : Bool) (a : Asked) → ((c : Call) → a ≡ asked.Call c → P c) → All P (if b then calls_asked a else [])
      chosen false a g = λ k d below. absurd (omega arith)
      chosen true (asked.Call c) g = All-push P [] c (λ k d below. absurd (omega arith)) (g c refl)
      chosen true (asked.CodeOf e) g = λ k d below. absurd (omega arith)
      chosen true (asked.NameOf c) g = λ k d below. absurd (omega arith)
      chosen true asked.Threads g = λ k d below. absurd (omega arith)

-- a line that is among the first is among all
first_lines : (lines : List Line) (n i : ℕ) (l : Line) → slice_get (take n lines) i ≡ Some l → slice_get lines i ≡ Some l
first_lines lines zero i l e = cc
first_lines [] (suc n) i l e = e
first_lines (x ∷ lines) (suc n) zero l e = e
first_lines (x ∷ lines) (suc n) (suc i) l e = first_lines lines n i l e

-- a call of a line that fits is good
good_line : (catalog : CatalogView) (lines : List Line) → All (λ l. IsGoodAsk catalog l.asked) lines → (i s : ℕ) (c : Call)
    → slice_get lines i ≡ Some (line_by s c) → IsGood catalog.book (shape_of catalog.tables) c
good_line catalog lines fit i s c e = numbered (λ l. IsGoodAsk catalog l.asked) lines fit i (line_by s c) e

pub are_over_unit : (catalog : CatalogView) (script : List ScriptLine) → IsShape (shape_of catalog.tables) → BookFits (shape_of catalog.tables) catalog.book
    → All (λ l. IsGoodAsk catalog l.asked) (lines_of catalog script) → AreOverUnit catalog script
are_over_unit catalog script counters presets fit streams i t c here =
    let Good : Call → Type 0 = IsGood catalog.book (shape_of catalog.tables) in
    let lines = lines_of catalog script in
    let earlier : All Good (calls_at t (take i lines)) = own_calls Good (take i lines) t (λ j s d e. good_line catalog lines fit j s d (first_lines lines i j (line_by s d) e)) in
    record {
      counters = counters;
      presets = presets;
      events = All-append Good (c ∷ []) (calls_at t (take i lines)) (All-push Good [] c (λ k d below. absurd (omega arith)) (good_line catalog lines fit i t c here)) earlier;
    }
