-- The differences of the readings are what the regions count by positions: by induction on the lines.
use Rattle.call_laws.proofs.Words.{◌≡◌, ◌+◌, ◌≤◌, ℕ, zero, suc, ℤ, Bool, true, false, List, [], ◌∷◌, ◌++◌, All, FitsSigned, refl, sym, ◌∙◌, ap, ap₂}
use Rattle.call_laws.proofs.Words.{subst, arith, append_assoc, slice_index_or, if◌then◌else◌, w64, All-head, All-nil, All-tail, Coming, EventRef, Occ}
use Rattle.call_laws.proofs.Words.{Book, is_reading, difference, span, spans_from, RegionLine, reading, not_reading, AreBegun, IsBegun}
use Rattle.call_laws.proofs.Words.{before_reading, asked_in, position, stream_of, reading_after, readings_after, AllFit, SpansByPosition, region_span}
use Rattle.call_laws.proofs.Words.{spans_after}
use Rattle.call_laws.proofs.Differences.{values_difference}
use Rattle.call_laws.proofs.LinesRead.{reads_by_position}
use Rattle.call_laws.proofs.Numbered.{asked_earlier, own_before, own_number, reading_of_number, readings, readings_more}

fit_at : (xs : List (List ℤ)) (i : ℕ) → AllFit xs → All (FitsSigned w64) (slice_index_or xs i [])
fit_at [] i h = All-nil (FitsSigned w64)
fit_at (x ∷ xs) zero h = All-head (λ values. All (FitsSigned w64) values) x xs h
fit_at (x ∷ xs) (suc i) h = fit_at xs i (All-tail (λ values. All (FitsSigned w64) values) x xs h)

-- what one line shows of its region
span_at : (book : Book) (streams : List Coming) (events : List EventRef) (before ys : List RegionLine) (l : RegionLine)
    → let lines = before ++ l ∷ ys in let all = readings_after book streams events [] lines in
    AllFit all → is_reading l ≡ true → IsBegun lines (readings before) l
    → span all (readings before) l ≡ region_span book streams events lines before l
span_at book streams events before ys l fit reads begun =
    let lines : List RegionLine = before ++ l ∷ ys in
    let all : List (List ℤ) = readings_after book streams events [] lines in
    let t : ℕ = l.thread in
    let tape : List Occ = stream_of streams t in
    let earlier : List RegionLine = before_reading lines l.begun in
    let now : slice_index_or all (readings before) [] ≡ reading_after book streams events t before =
    reading_of_number book streams events lines [] (readings before) l (own_number before l ys reads)
    ∙ ap (reading_after book streams events t) (own_before before l ys reads) in
    let begin : slice_index_or all l.begun [] ≡ reading_after book streams events t earlier =
    reading_of_number book streams events lines [] l.begun begun.begin begun.at
    ∙ ap (λ u. reading_after book streams events u earlier) begun.same_thread in
    let less : asked_in t earlier ≤ asked_in t before =
    subst (λ ls. asked_in t earlier ≤ asked_in t ls) (own_before before l ys reads) (asked_earlier t lines l.begun (readings before) begun.not_later) in
    ap (λ vs. record { line = l; values = vs })
    (ap₂ difference now begin
    ∙ values_difference book tape (position tape t earlier) (position tape t before) (omega (arith, less)) events
    (subst (λ vs. All (FitsSigned w64) vs) now (fit_at all (readings before) fit))
    (subst (λ vs. All (FitsSigned w64) vs) begin (fit_at all l.begun fit)))

no_span : (all : List (List ℤ)) (i : ℕ) → spans_from all i [] ≡ []
unfolding spans_from
no_span all i = refl

one_line : (book : Book) (streams : List Coming) (events : List EventRef) (before ys : List RegionLine) (l : RegionLine) (b : Bool) → is_reading l ≡ b
    → let lines = before ++ l ∷ ys in let all = readings_after book streams events [] lines in
    AllFit all → AreBegun lines
    → spans_from all (readings (before ++ l ∷ [])) ys ≡ spans_after book streams events lines (before ++ l ∷ []) ys
    → spans_from all (readings before) (l ∷ ys) ≡ spans_after book streams events lines before (l ∷ ys)
one_line book streams events before ys l true q fit begun rest =
    let lines : List RegionLine = before ++ l ∷ ys in
    let all : List (List ℤ) = readings_after book streams events [] lines in
    reading all (readings before) l ys q
    ∙ ap₂ (λ x xs. x ∷ xs) (span_at book streams events before ys l fit q (begun.each (readings before) l (own_number before l ys q)))
    (ap (λ i. spans_from all i ys) (sym (readings_more before l ∙ ap (λ b. readings before + (if b then 1 else 0)) q)) ∙ rest)
    ∙ ap (λ b. (if b then region_span book streams events lines before l ∷ [] else []) ++ spans_after book streams events lines (before ++ l ∷ []) ys) (sym q)
one_line book streams events before ys l false q fit begun rest =
    let lines : List RegionLine = before ++ l ∷ ys in
    let all : List (List ℤ) = readings_after book streams events [] lines in
    let none : readings before + 0 ≡ readings before = omega arith in
    not_reading all (readings before) l ys q
    ∙ ap (λ i. spans_from all i ys) (sym (readings_more before l ∙ ap (λ b. readings before + (if b then 1 else 0)) q ∙ none)) ∙ rest
    ∙ ap (λ b. (if b then region_span book streams events lines before l ∷ [] else []) ++ spans_after book streams events lines (before ++ l ∷ []) ys) (sym q)

spanned : (book : Book) (streams : List Coming) (events : List EventRef) (lines ys before : List RegionLine) → before ++ ys ≡ lines
    → AllFit (readings_after book streams events [] lines) → AreBegun lines
    → spans_from (readings_after book streams events [] lines) (readings before) ys ≡ spans_after book streams events lines before ys
spanned book streams events lines [] before whole fit begun = no_span (readings_after book streams events [] lines) (readings before)
spanned book streams events lines (l ∷ ys) before whole fit begun =
    let rest = spanned book streams events lines ys (before ++ l ∷ []) (append_assoc before (l ∷ []) ys ∙ whole) fit begun in
    subst (λ ls. AllFit (readings_after book streams events [] ls) → AreBegun ls
    → spans_from (readings_after book streams events [] ls) (readings (before ++ l ∷ [])) ys ≡ spans_after book streams events ls (before ++ l ∷ []) ys
    → spans_from (readings_after book streams events [] ls) (readings before) (l ∷ ys) ≡ spans_after book streams events ls before (l ∷ ys))
    whole (one_line book streams events before ys l (is_reading l) refl) fit begun rest

pub spans_by_position : SpansByPosition
spans_by_position at streams lines events threads begun some takes fit =
    let same = reads_by_position at streams lines events threads some takes in
    ap (λ all. spans_from all 0 lines) same
    ∙ spanned at.book streams events lines lines [] refl (subst AllFit same fit) begun
