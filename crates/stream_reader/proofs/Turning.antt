-- What a line, a piece or the end of the source says of what is to come.
use Rattle.stream_reader.proofs.Words.{◌≡◌, ◌∙◌, ◌+◌, ◌<◌, ◌≤◌, ◌++◌, ◌∷◌, ℕ, Bool, true, false, List, [], length, take, drop, refl, sym, ap, arith}
use Rattle.stream_reader.proofs.Words.{append_assoc, Option, Some, None, Result, Ok, Err, IfSome, inl, inr, ◌⊎◌, IfNone, if◌then◌else◌}
use Rattle.stream_reader.proofs.Words.{unwrap_or, option_and_then, option_map, le-ltb, nat_tests, append-nil, take_all, Fault, Tape, Failed, Ending}
use Rattle.stream_reader.proofs.Words.{Judgement, Next, IsOneLine, Line, is_last_line, tape_lines, judged, after, joined, occurs_on, Closes, GoesOn}
use Rattle.stream_reader.proofs.Words.{ReaderView, SourceView, Takes, answers_from, before_rest, comes, follows, has_answer, is_last, nothing}
use Rattle.stream_reader.proofs.Words.{tape_of, FindsNewline, HasEnded, Passes, Refills, TakesLine, Turns, answer_of, line_at, line_taken}
use Rattle.papi_base.specs.declared.outside.Ending.TheVariants as ending
use Rattle.papi_base.specs.declared.occurrence.LineCause.TheVariants as cause
use Rattle.stream_reader.specs.declared.line.Judgement.TheVariants as judgement
use Rattle.stream_reader.specs.declared.next.Next.TheVariants as next
use Rattle.stream_reader.proofs.Pieces.{last_line, line-first, no-line, occurs-end, occurs-last, occurs-line, occurs-long}

-- no byte was taken
pub same-tape : (o : Option Tape) → o ≡ option_map (before_rest []) o
same-tape None = refl
same-tape (Some t) = refl

pub comes-open : (v : ReaderView) (e : Ending) (more : List ℕ) → v.over ≡ false → comes v e more ≡ occurs_on e v.start (v.held ++ more)
unfolding comes
comes-open v e more on = rw on refl

pub comes-over : (v : ReaderView) (e : Ending) (more : List ℕ) → v.over ≡ true → comes v e more ≡ nothing
unfolding comes
comes-over v e more over = rw over refl

-- ---- a whole line

-- what the bytes held say, if their first line was judged so
abbrev pub Says : ReaderView → ℕ → Judgement → Type 0
Says v n j = (e : Ending) (more : List ℕ) → comes v e more ≡ joined v.start.number j (occurs_on e (after v.start (line_at v n true) j) (drop (n + 1) v.held ++ more))

pub first-line : (v : ReaderView) (n : ℕ) → v.over ≡ false → FindsNewline v.held (Some n) → Says v n (judged v.start (line_at v n true))
first-line v n on w = λ e more.
    comes-open v e more on ∙ ap (λ bs. occurs_on e v.start (bs ++ more)) w.2
    ∙ ap (occurs_on e v.start) (append_assoc (take n v.held) (10 ∷ drop (n + 1) v.held) more)
    ∙ occurs-line e v.start (take n v.held) (drop (n + 1) v.held ++ more) w.1.each

-- what the taking of a line says, whatever came before it
record Said (v : ReaderView) (answer : Option Next) (new : ReaderView) : Type 0 where
  takes : IfSome answer (λ next. Takes v next new)
  passes : IfNone answer (Passes v new)
  over : IfNone answer (new.over ≡ false)
  last : IfSome answer (λ next. is_last next ≡ true → new.over ≡ true)
  asked : new.asked ≡ v.asked
  source : new.source ≡ v.source
  sound : answer ≡ Some next.ReadFault → ⊥

-- a line that gives an occurrence, ends the stream, or gives nothing
said : (v : ReaderView) (n : ℕ) (j : Judgement) → v.over ≡ false → Says v n j → Said v (answer_of v.start.number j) (line_taken v n true j)
said v n j on says = go j says
  where
    passed : (new : ReaderView) → new.source ≡ v.source → new.over ≡ false → ((e : Ending) (more : List ℕ) → comes v e more ≡ occurs_on e new.start (new.held ++ more)) → Passes v new
    passed new same on s = record { taken = []; tape = same-tape (tape_of v) ∙ ap (λ o. option_map (before_rest []) (option_and_then (λ (s : SourceView). s.tape) o)) (sym same); says = λ e more. s e more ∙ sym (comes-open new e more on) }

    go : (j : Judgement) → Says v n j → Said v (answer_of v.start.number j) (line_taken v n true j)
    go (judgement.Bad c) s = record { takes = record { taken = []; tape = same-tape (tape_of v); judged = inl (record { says = s }) }; passes = tt; over = tt; last = λ e. refl; asked = refl; source = refl; sound = λ e. cc }
    go (judgement.Occurs o) s = record {
      takes = record {
        taken = [];
        tape = same-tape (tape_of v);
        judged = inl (record { says = λ e more. s e more ∙ ap (follows (next.Occ o)) (sym (comes-open (line_taken v n true (judgement.Occurs o)) e more on)) });
      };
      passes = tt;
      over = tt;
      last = λ e. cc;
      asked = refl;
      source = refl;
      sound = λ e. cc;
    }
    go judgement.Skipped s = record { takes = tt; passes = passed _ refl on s; over = on; last = tt; asked = refl; source = refl; sound = λ e. cc }
    go judgement.Version s = record { takes = tt; passes = passed _ refl on s; over = on; last = tt; asked = refl; source = refl; sound = λ e. cc }

pub line_turns : (v later : ReaderView) (n : ℕ) (answer : Option Next) → v.over ≡ false → FindsNewline v.held (Some n) → TakesLine v n true answer later → Turns v answer later
line_turns v later n answer on w t =
    let s : Said v answer later = rw (t.answer, t.after) (said v n (judged v.start (line_at v n true)) on (first-line v n on w)) in
    grind (arith, nat_tests, s, t)

-- ---- no whole line

-- more than 128 bytes with no newline
pub long_takes : (v : ReaderView) → v.over ≡ false → IsOneLine v.held → 128 < length v.held → Takes v (next.Bad v.start.number cause.Long) (record v { over = true })
long_takes v on one long = record {
  taken = [];
  tape = same-tape (tape_of v);
  judged = inl (record { says = λ e more. comes-open v e more on ∙ occurs-long e v.start v.held more one.each long });
}

-- the bytes of a piece come after those held
piece-comes : (old mid : ReaderView) (answer : Result ℕ Failed) (r : Refills old answer mid) (e : Ending) (more : List ℕ) → old.over ≡ false → comes old e (r.piece ++ more) ≡ comes mid e more
piece-comes old mid answer r e more on =
    comes-open old e (r.piece ++ more) on ∙ ap (occurs_on e old.start) (sym (append_assoc old.held r.piece more))
    ∙ ap (λ bs. occurs_on e old.start (bs ++ more)) (sym r.held) ∙ ap (λ s. occurs_on e s (mid.held ++ more)) (sym r.start)
    ∙ sym (comes-open mid e more (r.over ∙ on))

pub piece_passes : (old mid : ReaderView) (n : ℕ) → Refills old (Ok n) mid → old.over ≡ false → Passes old mid
piece_passes old mid n r on = record { taken = r.piece; tape = r.tape; says = λ e more. piece-comes old mid (Ok n) r e more on }

-- the source failed after a line that is not too long
pub fault_takes : (old mid : ReaderView) (f : Failed) → Refills old (Err f) mid → old.over ≡ false → IsOneLine old.held → length old.held ≤ 128 → Takes old next.ReadFault (record mid { over = true })
fault_takes old mid f r on one short = record {
  taken = [];
  tape = rw (← r.size) r.tape;
  judged = inr (record { ending = ending.Fault; says = says; over = refl; told = r.ends });
}
  where
    says : comes old ending.Fault [] ≡ record { rest = []; mark = Fault }
    says = comes-open old ending.Fault [] on ∙ ap (occurs_on ending.Fault old.start) (append-nil old.held) ∙ occurs-end ending.Fault old.start old.held one.each (le-ltb 128 (length old.held) short)

-- ---- the end of the source

empty : (t : List ℕ) → length t ≡ 0 → t ≡ []
empty [] h = refl
empty (b ∷ t) h = absurd (omega arith)

pub end_takes : (v : ReaderView) → v.over ≡ false → length v.held ≡ 0 → HasEnded ending.End (tape_of v) → Takes v next.End (record v { over = true })
end_takes v on none told = record {
  taken = [];
  tape = same-tape (tape_of v);
  judged = inr (record { ending = ending.End; says = says; over = refl; told = told });
}
  where
    says : comes v ending.End [] ≡ nothing
    says = comes-open v ending.End [] on ∙ ap (λ bs. occurs_on ending.End v.start (bs ++ [])) (empty v.held none) ∙ occurs-end ending.End v.start [] tt refl

some-last : (t : List ℕ) → 0 < length t → is_last_line ending.End t ≡ true
some-last [] h = absurd (omega arith)
some-last (b ∷ t) h = refl

-- what the taking of a last line says
pub last_takes : (v later : ReaderView) (size : ℕ) (given : Option Next) (answer : Next) → v.over ≡ false → IsOneLine v.held → 0 < size → HasEnded ending.End (tape_of v) → size ≡ length v.held
    → TakesLine v size false given later → answer ≡ unwrap_or given next.End → Takes v answer (record later { over = true })
last_takes v later size given answer on one some told long t is = rw (is, t.answer, t.after) (go (judged v.start line) says)
  where
    line : Line
    line = line_at v size false

    whole : line ≡ last_line v.held
    whole = ap last_line (take_all size v.held (omega arith))

    says : comes v ending.End [] ≡ joined v.start.number (judged v.start line) nothing
    says = comes-open v ending.End [] on ∙ ap (occurs_on ending.End v.start) (append-nil v.held) ∙ occurs-last ending.End v.start v.held one.each (some-last v.held (omega arith))
        ∙ ap (λ l. joined v.start.number (judged v.start l) nothing) (sym whole)

    go : (j : Judgement) → comes v ending.End [] ≡ joined v.start.number j nothing → Takes v (unwrap_or (answer_of v.start.number j) next.End) (record (line_taken v size false j) { over = true })
    go (judgement.Bad c) s = record { taken = []; tape = same-tape (tape_of v); judged = inr (record { ending = ending.End; says = s; over = refl; told = told }) }
    go (judgement.Occurs o) s = record { taken = []; tape = same-tape (tape_of v); judged = inr (record { ending = ending.End; says = s; over = refl; told = told }) }
    go judgement.Skipped s = record { taken = []; tape = same-tape (tape_of v); judged = inr (record { ending = ending.End; says = s; over = refl; told = told }) }
    go judgement.Version s = record { taken = []; tape = same-tape (tape_of v); judged = inr (record { ending = ending.End; says = s; over = refl; told = told }) }

-- ---- one after another

rest-twice : (first second : List ℕ) (o : Option Tape) → option_map (before_rest first) (option_map (before_rest second) o) ≡ option_map (before_rest (first ++ second)) o
rest-twice first second None = refl
rest-twice first second (Some t) = ap (λ bs. Some (record { bytes = bs; ending = t.ending })) (sym (append_assoc first second t.bytes))

pub takes_after : (old mid new : ReaderView) (answer : Next) → Passes old mid → Takes mid answer new → Takes old answer new
takes_after old mid new answer p t = record {
  taken = p.taken ++ t.taken;
  tape = p.tape ∙ ap (option_map (before_rest p.taken)) t.tape ∙ rest-twice p.taken t.taken (tape_of new);
  judged = go t.judged;
}
  where
    go : GoesOn mid t.taken answer new ⊎ Closes mid t.taken answer new → GoesOn old (p.taken ++ t.taken) answer new ⊎ Closes old (p.taken ++ t.taken) answer new
    go (inl g) = inl (record { says = λ e more. ap (comes old e) (append_assoc p.taken t.taken more) ∙ p.says e (t.taken ++ more) ∙ g.says e more })
    go (inr c) = inr (record { ending = c.ending; says = p.says c.ending t.taken ∙ c.says; over = c.over; told = c.told })

pub passes-after : (old mid new : ReaderView) → Passes old mid → Passes mid new → Passes old new
passes-after old mid new p q = record {
  taken = p.taken ++ q.taken;
  tape = p.tape ∙ ap (option_map (before_rest p.taken)) q.tape ∙ rest-twice p.taken q.taken (tape_of new);
  says = λ e more. ap (comes old e) (append_assoc p.taken q.taken more) ∙ p.says e (q.taken ++ more) ∙ q.says e more;
}

-- ---- a whole line at hand

pub line_hand : (v later : ReaderView) (n : ℕ) (answer : Option Next) → v.over ≡ false → FindsNewline v.held (Some n) → TakesLine v n true answer later → has_answer v ≡ true
    → (later.source ≡ v.source) × IfNone answer (has_answer later ≡ true)
unfolding has_answer answers_from
line_hand v later n answer on w t has = rw (t.answer, t.after) (go (judged v.start (line_at v n true)) refl (rw on at has))
  where
    lines : tape_lines ending.End v.held ≡ line_at v n true ∷ tape_lines ending.End (drop (n + 1) v.held)
    lines = ap (tape_lines ending.End) w.2 ∙ line-first ending.End (take n v.held) (drop (n + 1) v.held) w.1.each

    Hand : Option Next → ReaderView → Type 0
    Hand answer new = (new.source ≡ v.source) × IfNone answer ((if new.over then true else answers_from new.start (tape_lines ending.End new.held)) ≡ true)

    go : (j : Judgement) → judged v.start (line_at v n true) ≡ j → answers_from v.start (tape_lines ending.End v.held) ≡ true → Hand (answer_of v.start.number j) (line_taken v n true j)
    go (judgement.Bad c) e h = (refl, tt)
    go (judgement.Occurs o) e h = (refl, tt)
    go judgement.Skipped e h = (refl, let k = rw (lines, e) at h in rw on k)
    go judgement.Version e h = (refl, let k = rw (lines, e) at h in rw on k)

pub no_answer : (v : ReaderView) → v.over ≡ false → IsOneLine v.held → has_answer v ≡ true → ⊥
unfolding has_answer answers_from
no_answer v on one has = go (is_last_line ending.End v.held) (rw (on, no-line ending.End v.held one.each) at has)
  where
    go : (b : Bool) → answers_from v.start (if b then last_line v.held ∷ [] else []) ≡ true → ⊥
    go true h = cc h
    go false h = cc h
