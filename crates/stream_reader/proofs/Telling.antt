-- A reader whose source tells gives the next occurrence, or the mark.
use Rattle.stream_reader.proofs.Words.{ℕ, ◌≡◌, ◌∙◌, ◌++◌, Bool, true, false, [], refl, sym, ap, subst, Option, Some, None, IfSome, inl, inr, ◌⊎◌}
use Rattle.stream_reader.proofs.Words.{option_map, append-nil, Coming, Tape, Next, occurs_of, new_view, Closes, GoesOn, NextGives, ReaderView, Takes}
use Rattle.stream_reader.proofs.Words.{before_rest, comes, coming, follows, has_answer, is_last, nothing, tape_of, Passes}
use Rattle.stream_reader.specs.declared.next.Next.TheVariants as next
use Rattle.stream_reader.proofs.Turning.{comes-over, same-tape}

-- that it was asked changes nothing of what is to come
pub asked-passes : (v : ReaderView) → Passes v (record v { asked = true })
unfolding comes
asked-passes v = record { taken = []; tape = same-tape (tape_of v); says = λ e more. refl }

pub asked-hand : (v : ReaderView) → has_answer v ≡ true → has_answer (record v { asked = true }) ≡ true
unfolding has_answer
asked-hand v h = h

coming-over : (v : ReaderView) → v.over ≡ true → coming v ≡ Some nothing
unfolding coming
coming-over v over = rw over refl

pub coming-on : (v : ReaderView) → v.over ≡ false → coming v ≡ option_map (λ (t : Tape). comes v t.ending t.bytes) (tape_of v)
unfolding coming
coming-on v on = rw on refl

-- what is to come of a tape
pub coming-told : (v : ReaderView) (t : Tape) → tape_of v ≡ Some t → coming v ≡ Some (comes v t.ending t.bytes)
coming-told v t e = go v.over refl
  where
    go : (b : Bool) → v.over ≡ b → coming v ≡ Some (comes v t.ending t.bytes)
    go true over = coming-over v over ∙ ap Some (sym (comes-over v t.ending t.bytes over))
    go false on = coming-on v on ∙ ap (option_map (λ (t : Tape). comes v t.ending t.bytes)) e

-- a reader that gives nothing any more
pub over-told : (v : ReaderView) → v.over ≡ true → NextGives (coming v) next.End (coming (record v { asked = true }))
over-told v over = rw (coming-over v over, coming-over (record v { asked = true }) over) (refl, refl)

pub over-takes : (v : ReaderView) → v.over ≡ true → Takes v next.End (record v { asked = true })
over-takes v over = record {
  taken = [];
  tape = same-tape (tape_of v);
  judged = inl (record { says = λ e more. comes-over v e more over ∙ sym (comes-over (record v { asked = true }) e more over) });
}

-- what was to come is the answer and what comes later
goes-told : (old new : ReaderView) (answer : Next) (later : Coming) → coming old ≡ Some (follows answer later) → coming new ≡ Some later → (is_last answer ≡ true → new.over ≡ true) → NextGives (coming old) answer (coming new)
goes-told old new (next.Occ o) later was is last = rw (was, is) (refl, refl)
goes-told old new next.End later was is last =
    let over = coming-over new (last refl) in
    let none : later ≡ nothing = some-same later nothing (sym is ∙ over) in
    rw (was, over, none) (refl, refl)
  where
    some-same : (x y : Coming) → ◌≡◌ {A = Option Coming} (Some x) (Some y) → x ≡ y
    some-same x y e = cc
goes-told old new (next.Bad n c) later was is last = rw (was, coming-over new (last refl)) (refl, refl)
goes-told old new next.ReadFault later was is last = rw (was, coming-over new (last refl)) (refl, refl)

-- what was to come is the answer, and nothing comes later
closes-told : (old new : ReaderView) (answer : Next) → coming old ≡ Some (follows answer nothing) → new.over ≡ true → NextGives (coming old) answer (coming new)
closes-told old new (next.Occ o) was over = rw (was, coming-over new over) (refl, refl)
closes-told old new next.End was over = rw (was, coming-over new over) (refl, refl)
closes-told old new (next.Bad n c) was over = rw (was, coming-over new over) (refl, refl)
closes-told old new next.ReadFault was over = rw (was, coming-over new over) (refl, refl)

untold : (old : ReaderView) (answer : Next) (new : Option Coming) → coming old ≡ None → NextGives (coming old) answer new
untold old answer new e = rw e tt

pub takes-told : (old new : ReaderView) (answer : Next) → old.over ≡ false → Takes old answer new → (is_last answer ≡ true → new.over ≡ true) → NextGives (coming old) answer (coming new)
takes-told old new answer on t last = go (tape_of new) refl t.tape
  where
    go : (o : Option Tape) → tape_of new ≡ o → tape_of old ≡ option_map (before_rest t.taken) o → NextGives (coming old) answer (coming new)
    go None is was = untold old answer (coming new) (coming-on old on ∙ ap (option_map (λ (t : Tape). comes old t.ending t.bytes)) was)
    go (Some tape) is was = pick t.judged
      where
        told : coming old ≡ Some (comes old tape.ending (t.taken ++ tape.bytes))
        told = coming-told old (before_rest t.taken tape) was

        ends : (tape : Tape) → tape_of new ≡ Some tape → (c : Closes old t.taken answer new) → comes old tape.ending (t.taken ++ tape.bytes) ≡ follows answer nothing
        ends tape is c =
            let end : (tape.bytes ≡ []) × (tape.ending ≡ c.ending) = subst (λ o. IfSome o (λ (t : Tape). (t.bytes ≡ []) × (t.ending ≡ c.ending))) is c.told in
            ap (λ e. comes old e (t.taken ++ tape.bytes)) end.1 ∙ ap (λ bs. comes old c.ending (t.taken ++ bs)) end.0 ∙ ap (comes old c.ending) (append-nil t.taken) ∙ c.says

        pick : GoesOn old t.taken answer new ⊎ Closes old t.taken answer new → NextGives (coming old) answer (coming new)
        pick (inl g) = goes-told old new answer (comes new tape.ending tape.bytes) (told ∙ ap Some (g.says tape.ending tape.bytes)) (coming-told new tape is) last
        pick (inr c) = closes-told old new answer (told ∙ ap Some (ends tape is c)) c.over

-- what is to come of a whole tape
pub new_told : (tape : Option Tape) (faults : ℕ) → coming (new_view (Some (record { tape = tape; faults = faults })) false) ≡ option_map (λ (t : Tape). occurs_of t.ending t.bytes) tape
unfolding coming comes occurs_of
new_told None faults = refl
new_told (Some t) faults = refl

pub ended_told : coming (new_view None true) ≡ Some nothing
unfolding coming
ended_told = refl
