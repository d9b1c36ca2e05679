-- A line that is taken at once: one of the common form, or one that is passed over.
use Rattle.stream_reader.proofs.Words.{ℕ, ◌≡◌, ◌∙◌, ◌+◌, ◌++◌, List, drop, true, false, refl, sym, ap, subst, Option, Some, None, IfSome, IfNone, option_and_then, option_map, Ending, Judgement, Occ, SourceView, Tape, Next, after, joined, line_at, line_taken, occurs_on}
use Rattle.stream_reader.proofs.Words.{NextGives, ReaderView, Takes, comes, coming, has_answer, tape_of, HoldsLine, TakesLine, Turns, answer_of}
use Rattle.stream_reader.specs.declared.line.Judgement.TheVariants as judgement
use Rattle.stream_reader.specs.declared.next.Next.TheVariants as next
use Rattle.stream_reader.proofs.Telling.{asked-hand, asked-passes, coming-on, coming-told, takes-told}
use Rattle.stream_reader.proofs.Turning.{comes-open, first-line, line_hand, line_turns, takes_after}

-- it was asked, and then took a line
abbrev Took : ReaderView → ℕ → Option Next → ReaderView → Type 0
Took old n answer later = TakesLine (record old { asked = true }) n true answer later

-- ---- a line of the common form

pub common_takes : (old later : ReaderView) (n : ℕ) (o : Occ) (answer : Option Next) → old.over ≡ false → HoldsLine old n (judgement.Occurs o) → Took old n answer later → Takes old (next.Occ o) later
common_takes old later n o answer on holds took =
    let asked : ReaderView = record old { asked = true } in
    let turns : Turns asked answer later = line_turns asked later n answer on holds.found took in
    let is : answer ≡ Some (next.Occ o) = took.answer ∙ ap (answer_of old.start.number) (sym holds.judged) in
    takes_after old asked later (next.Occ o) (asked-passes old) (subst (λ (a : Option Next). IfSome a (λ next. Takes asked next later)) is turns.takes)

pub common_told : (old later : ReaderView) (n : ℕ) (o : Occ) (answer : Option Next) → old.over ≡ false → HoldsLine old n (judgement.Occurs o) → Took old n answer later → NextGives (coming old) (next.Occ o) (coming later)
common_told old later n o answer on holds took = takes-told old later (next.Occ o) on (common_takes old later n o answer on holds took) (λ e. cc)

-- ---- a line that is passed over

abbrev told_by : Option SourceView → Option Tape
told_by source = option_and_then (λ (s : SourceView). s.tape) source

asked-comes : (v : ReaderView) (e : Ending) (more : List ℕ) → comes (record v { asked = true }) e more ≡ comes v e more
unfolding comes
asked-comes v e more = refl

no-answer : (old later : ReaderView) (n : ℕ) (answer : Option Next) → HoldsLine old n judgement.Skipped → Took old n answer later → answer ≡ None
no-answer old later n answer holds took = took.answer ∙ ap (answer_of old.start.number) (sym holds.judged)

skipped-is : (old later : ReaderView) (n : ℕ) (answer : Option Next) → HoldsLine old n judgement.Skipped → Took old n answer later → later ≡ line_taken (record old { asked = true }) n true judgement.Skipped
skipped-is old later n answer holds took = took.after ∙ ap (line_taken (record old { asked = true }) n true) (sym holds.judged)

-- what was to come, whatever the source still gives
pub skipped_comes : (old later : ReaderView) (n : ℕ) (answer : Option Next) → old.over ≡ false → HoldsLine old n judgement.Skipped → Took old n answer later → (e : Ending) (more : List ℕ) → comes later e more ≡ comes old e more
skipped_comes old later n answer on holds took e more =
    let asked : ReaderView = record old { asked = true } in
    let skipped : ReaderView = line_taken asked n true judgement.Skipped in
    ap (λ (v : ReaderView). comes v e more) (skipped-is old later n answer holds took)
    ∙ comes-open skipped e more on
    ∙ sym (first-line asked n on holds.found e more ∙ ap (λ (j : Judgement). joined old.start.number j (occurs_on e (after old.start (line_at old n true) j) (drop (n + 1) old.held ++ more))) (sym holds.judged))
    ∙ asked-comes old e more

pub skipped_hand : (old later : ReaderView) (n : ℕ) (answer : Option Next) → old.over ≡ false → HoldsLine old n judgement.Skipped → Took old n answer later → has_answer old ≡ true → has_answer later ≡ true
skipped_hand old later n answer on holds took has =
    let asked : ReaderView = record old { asked = true } in
    subst (λ (a : Option Next). IfNone a (has_answer later ≡ true)) (no-answer old later n answer holds took) (line_hand asked later n answer on holds.found took (asked-hand old has)).1

pub skipped_coming : (old later : ReaderView) (n : ℕ) (answer : Option Next) → old.over ≡ false → HoldsLine old n judgement.Skipped → Took old n answer later → coming later ≡ coming old
skipped_coming old later n answer on holds took = go (tape_of old) refl
  where
    still : later.over ≡ false
    still = ap (λ (v : ReaderView). v.over) (skipped-is old later n answer holds took) ∙ on

    same : later.source ≡ old.source
    same = ap (λ (v : ReaderView). v.source) (skipped-is old later n answer holds took)

    go : (o : Option Tape) → tape_of old ≡ o → coming later ≡ coming old
    go None is =
        coming-on later still ∙ ap (option_map (λ (t : Tape). comes later t.ending t.bytes)) (ap told_by same ∙ is)
        ∙ sym (coming-on old on ∙ ap (option_map (λ (t : Tape). comes old t.ending t.bytes)) is)
    go (Some tape) is = coming-told later tape (ap told_by same ∙ is) ∙ ap Some (skipped_comes old later n answer on holds took tape.ending tape.bytes) ∙ sym (coming-told old tape is)
