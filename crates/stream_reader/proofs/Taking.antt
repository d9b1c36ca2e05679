-- A line taken from the bytes held.
use Rattle.stream_reader.proofs.Words.{◌≡◌, ◌∙◌, ◌+◌, ◌-◌, ◌<◌, ◌≤◌, ℕ, Bool, true, false, List, length, take, drop, Option, Some, None, IfNone, refl}
use Rattle.stream_reader.proofs.Words.{sym, ap, ap₂, subst, arith, nat_lt, length-drop, if◌then◌else◌, ltb-false, length-take-le, bool_byte, flag_bit}
use Rattle.stream_reader.proofs.Words.{LineStart, Judgement, Bad, Skipped, Version, Occurs, Line, judged, line_text, text_judged, IsStart, after}
use Rattle.stream_reader.proofs.Words.{is_bad, Gave, ReaderView, SourceView, IsKept, IsReader, TakesLine, answer_of, left_of, line_at, line_taken}
use Rattle.papi_base.specs.declared.occurrence.LineCause.TheVariants as cause
use Rattle.stream_reader.proofs.Bounds.{line-occurrence, stamp-fits, state-next}
use Rattle.stream_reader.proofs.Room.{held-drop, length-held}

pub flag-is : (b : Bool) → bool_byte b ≡ flag_bit b
flag-is true = refl
flag-is false = refl

-- a line that is not bad does not reach past the largest stream
pub judged-within : (start : LineStart) (line : Line) → is_bad (judged start line) ≡ false → start.passed + length line.bytes ≤ 67108864
unfolding judged
judged-within start line h = go (nat_lt 128 (length line.bytes)) (nat_lt 67108864 (start.passed + length line.bytes)) refl h
  where
    go : (a b : Bool) → nat_lt 67108864 (start.passed + length line.bytes) ≡ b → is_bad (if a then Bad cause.Long else if b then Bad cause.Size else text_judged start (line_text line)) ≡ false → start.passed + length line.bytes ≤ 67108864
    go true b e h = cc h
    go false true e h = cc h
    go false false e h = ltb-false 67108864 (start.passed + length line.bytes) e

pub flag-small : (b : Bool) → flag_bit b ≤ 1
flag-small true = omega arith
flag-small false = omega arith

-- what is kept after a line that is not bad
pub after-kept : (start : LineStart) (line : Line) (j : Judgement) → judged start line ≡ j → is_bad j ≡ false → 0 < length line.bytes + flag_bit line.ended → IsKept start → IsKept (after start line j)
after-kept start line j e h some k =
    let within : start.passed + length line.bytes ≤ 67108864 = judged-within start line (ap is_bad e ∙ h) in
    let flag = flag-small line.ended in
    let starts = state-next start line j e k.starts in
    go j h starts within flag
  where
    go : (j : Judgement) → is_bad j ≡ false → IsStart (after start line j) → start.passed + length line.bytes ≤ 67108864 → flag_bit line.ended ≤ 1 → IsKept (after start line j)
    go (Bad c) h s within flag = cc h
    go Skipped h s within flag = let n = k.numbered in record { starts = s; passed = omega arith; numbered = omega arith }
    go Version h s within flag = let n = k.numbered in record { starts = s; passed = omega arith; numbered = omega arith }
    go (Occurs o) h s within flag = let n = k.numbered in record { starts = s; passed = omega arith; numbered = omega arith }

-- what a line that is not bad gives
after-counts : (start : LineStart) (line : Line) (j : Judgement) (n : ℕ) → judged start line ≡ j → is_bad j ≡ false → IsStart start → Gave start (answer_of n j) (after start line j)
after-counts start line (Bad c) n e h s = cc h
after-counts start line Skipped n e h s = record { last = refl; given = refl }
after-counts start line Version n e h s = record { last = refl; given = refl }
after-counts start line (Occurs o) n e h s =
    let l = line-occurrence start line o e in
    let f = stamp-fits start line o s l in
    record { above = f.0; stamp = f.1; least = l.fit.least; greatest = l.fit.greatest; comp = l.fit.comp; last = refl; given = refl }

taken-good : (v : ReaderView) (size : ℕ) (ended : Bool) (j : Judgement) → is_bad j ≡ false → line_taken v size ended j ≡ record v { start = after v.start (line_at v size ended) j; held = drop (size + flag_bit ended) v.held }
taken-good v size ended (Bad c) h = cc h
taken-good v size ended Skipped h = refl
taken-good v size ended Version h = refl
taken-good v size ended (Occurs o) h = refl

-- the reader is nearer to the largest stream
taken-nearer : (v : ReaderView) (size : ℕ) (ended : Bool) (j : Judgement) → is_bad j ≡ false → v.start.passed ≤ 67108865 → 0 < size + flag_bit ended → size + flag_bit ended ≤ length v.held
    → left_of (line_taken v size ended j) < left_of v
taken-nearer v size ended j good passed some within = go j good
  where
    line_long : length (take size v.held) ≡ size
    line_long = length-take-le size v.held (omega arith)

    rest_long : length (drop (size + flag_bit ended) v.held) ≡ length v.held - (size + flag_bit ended)
    rest_long = length-drop (size + flag_bit ended) v.held

    go : (j : Judgement) → is_bad j ≡ false → left_of (line_taken v size ended j) < left_of v
    go (Bad c) h = cc h
    go Skipped h = omega (arith, line_long, rest_long)
    go Version h = omega (arith, line_long, rest_long)
    go (Occurs o) h = omega (arith, line_long, rest_long)

-- ---- the reader after it

whatever : {X P : Type 0} (o : Option X) → P → IfNone o P
whatever None p = p
whatever (Some x) p = tt

-- the reader after a line that is not bad, as its fields stand
pub line-taken : {from to : ℕ} {bytes : List ℕ} {start : LineStart} {over asked : Bool} {source : Option SourceView} {v : ReaderView}
    → IsReader from to bytes start → record { start = start; held = take (to - from) (drop from bytes); over = over; asked = asked; source = source } ≡ v
    → (size r : ℕ) (ended : Bool) (j : Judgement) (later : LineStart) → size + flag_bit ended ≤ length v.held → 0 < size + flag_bit ended → j ≡ judged v.start (line_at v size ended) → is_bad j ≡ false
    → r ≡ flag_bit ended → ((line : Line) → length line.bytes ≡ size → line.ended ≡ ended → later ≡ after start line j)
    → TakesLine v size ended (answer_of start.number j) (record { start = later; held = take (to - (from + (size + r))) (drop (from + (size + r)) bytes); over = over; asked = asked; source = source })
    × IsReader (from + (size + r)) to bytes later
line-taken {from = from} {to = to} {bytes = bytes} {start = start} {over = over} {asked = asked} {source = source} reader is size r ended j later = subst P is base
  where
    view : LineStart → List ℕ → ReaderView
    view s held = record { start = s; held = held; over = over; asked = asked; source = source }

    P : ReaderView → Type 0
    P v = size + flag_bit ended ≤ length v.held → 0 < size + flag_bit ended → j ≡ judged v.start (line_at v size ended) → is_bad j ≡ false
        → r ≡ flag_bit ended → ((line : Line) → length line.bytes ≡ size → line.ended ≡ ended → later ≡ after start line j)
        → TakesLine v size ended (answer_of start.number j) (view later (take (to - (from + (size + r))) (drop (from + (size + r)) bytes))) × IsReader (from + (size + r)) to bytes later

    base : P (view start (take (to - from) (drop from bytes)))
    base within some is_so good r_is passes =
        let v : ReaderView = view start (take (to - from) (drop from bytes)) in
        let line : Line = line_at v size ended in
        let place : ℕ = from + (size + r) in
        let long : length v.held ≡ to - from = length-held from to bytes reader.in_order (omega (arith, reader.within, reader.room)) in
        let flag = flag-small ended in
        let line_long : length line.bytes ≡ size = length-take-le size v.held (omega arith) in
        let later_is : later ≡ after start line j = passes line line_long refl in
        let kept : IsKept later = rw later_is (after-kept start line j (sym is_so) good (omega arith) reader.kept) in
        let in_order : place ≤ to = omega arith in
        let rest_long = length-held place to bytes in_order (omega (arith, reader.within, reader.room)) in
        let held : take (to - place) (drop place bytes) ≡ drop (size + flag_bit ended) v.held = held-drop from to (size + r) bytes (omega arith) ∙ ap (λ n. drop (size + n) v.held) r_is in
        let new_is : view later (take (to - place) (drop place bytes)) ≡ line_taken v size ended j = ap₂ view later_is held ∙ sym (taken-good v size ended j good) in (
          record {
            answer = ap (answer_of start.number) is_so;
            after = new_is ∙ ap (line_taken v size ended) is_so;
            counts = rw later_is (after-counts start line j start.number (sym is_so) good reader.kept.starts);
            nearer = whatever (answer_of start.number j) (subst (λ (w : ReaderView). left_of w < left_of v) (sym new_is) (taken-nearer v size ended j good reader.kept.passed some within));
            within = record { few = omega (arith, kept.starts.counted, kept.starts.in_time); room = omega (arith, rest_long, reader.within) };
          },
          record {
            room = reader.room;
            in_order = in_order;
            within = reader.within;
            after_line = reader.after_line;
            kept = kept;
          },
        )
