-- What can come of a reader, answer by answer.
use Rattle.thread_session.proofs.Words.{◌≡◌, ◌⊎◌, ℕ, true, List, [], ◌∷◌, ◌++◌, refl, ap, ap₂, sym, ◌∙◌, subst, append-nil, append_assoc, IfSome}
use Rattle.thread_session.proofs.Words.{Option, Some, None, inl, inr, option_map, Tape, Coming, Mark, Dry, Ending, Occ, Next, Closes, GoesOn}
use Rattle.thread_session.proofs.Words.{ReaderView, Takes, at_mark, before_rest, comes, follows, nothing, tape_of, CanCome}
use Rattle.stream_reader.specs.declared.next.Next.TheVariants as next

told_before : (taken : List ℕ) (was now : Option Tape) (tape : Tape) → was ≡ option_map (before_rest taken) now → IfSome now (λ t. t ≡ tape) → IfSome was (λ t. t ≡ before_rest taken tape)
told_before taken was None tape e h = rw e tt
told_before taken was (Some t) tape e h = rw e (ap (before_rest taken) h)

told_at_end : (taken : List ℕ) (was now : Option Tape) (ending : Ending) → was ≡ option_map (before_rest taken) now → IfSome now (λ t. (t.bytes ≡ []) × (t.ending ≡ ending)) →
    IfSome was (λ t. t ≡ record { bytes = taken; ending = ending })
told_at_end taken was None ending e h = rw e tt
told_at_end taken was (Some t) ending e h =
    rw e (ap₂ (λ (b : List ℕ) (x : Ending). record { bytes = b; ending = x }) (ap (λ (b : List ℕ). taken ++ b) h.0 ∙ append-nil taken) h.1)

-- nothing comes of a reader that is over
over_gives : (v : ReaderView) (c : Coming) → v.over ≡ true → CanCome v c → nothing ≡ c
unfolding comes
over_gives v c over h = rw over at h.says

-- what can come before an answer, if this can come after it
pub before_answer : (old new : ReaderView) (answer : Next) (later : Coming) → Takes old answer new → CanCome new later → CanCome old (follows answer later)
before_answer old new answer later takes h = go takes.judged where
  go : GoesOn old takes.taken answer new ⊎ Closes old takes.taken answer new → CanCome old (follows answer later)
  go (inl on) = record {
    tape = before_rest takes.taken h.tape;
    told = told_before takes.taken (tape_of old) (tape_of new) h.tape takes.tape h.told;
    says = on.says h.tape.ending h.tape.bytes ∙ ap (follows answer) h.says;
  }
  go (inr closes) = record {
    tape = record { bytes = takes.taken; ending = closes.ending };
    told = told_at_end takes.taken (tape_of old) (tape_of new) closes.ending takes.tape closes.told;
    says = closes.says ∙ ap (follows answer) (over_gives new later closes.over h);
  }

-- one occurrence more was given of what was to come
pub came_more : (old was now : ReaderView) (os : List Occ) (o : Occ) → ((later : Coming) → CanCome was later → CanCome old (record { rest = os ++ later.rest; mark = later.mark })) → Takes was (next.Occ o) now →
    (later : Coming) → CanCome now later → CanCome old (record { rest = (os ++ o ∷ []) ++ later.rest; mark = later.mark })
came_more old was now os o came takes later h =
    let c = came (record { rest = o ∷ later.rest; mark = later.mark }) (before_answer was now (next.Occ o) later takes h) in
    subst (λ (r : List Occ). CanCome old (record { rest = r; mark = later.mark })) (sym (append_assoc os (o ∷ []) later.rest)) c

at_end : (m : Mark) → follows (at_mark m) nothing ≡ record { rest = []; mark = m }
at_end Dry = refl
at_end m = refl

-- the mark was given, and nothing comes after it
pub came_to_mark : (old was now : ReaderView) (os : List Occ) (m : Mark) → ((later : Coming) → CanCome was later → CanCome old (record { rest = os ++ later.rest; mark = later.mark })) → Takes was (at_mark m) now → now.over ≡ true →
    (later : Coming) → CanCome now later → CanCome old (record { rest = os; mark = m })
came_to_mark old was now os m came takes over later h =
    let none : nothing ≡ later = over_gives now later over h in
    let here : CanCome was (record { rest = []; mark = m }) = subst (λ (c : Coming). CanCome was c) (ap (follows (at_mark m)) (sym none) ∙ at_end m) (before_answer was now (at_mark m) later takes h) in
    subst (λ (r : List Occ). CanCome old (record { rest = r; mark = m })) (append-nil os) (came (record { rest = []; mark = m }) here)

-- and it is what comes of a reader that is over
pub nothing_left : (v : ReaderView) (c : Coming) → v.over ≡ true → CanCome v c → nothing ≡ c
nothing_left v c over h = over_gives v c over h
