-- Occurrences that happen one after another.
use Rattle.std.proofs.Common.{◌≡◌, ◌∙◌, ◌<◌, ◌+◌, inl, inr, ℕ, suc, List, [], ◌∷◌, ◌++◌, ap, append-nil, arith, drop, length, refl, set, slice_index_or, subst, sym, take}
use Rattle.std.proofs.lemmas.List.{append_assoc, drop_more, set_split, take_more_set, drop-set-lt, take_all, drop_all}
use Rattle.std.proofs.Math.Seq.{drop-cons}
use Rattle.papi_c.proofs.Words.{LibraryView}
use Rattle.papi_c.specs.Happened.{AllQuiet, HasHappened, HaveHappened, happening_of, left_of}
use Rattle.papi_c.specs.declared.happening.Occurrences.{Occurrences}
use Rattle.papi_c.specs.declared.running.Passing.{Passing}
use Rattle.thread_session.specs.declared.happening.Happened.{Happened}

-- each before the place has happened to its end and passed no threshold: what comes of the others comes of all
abbrev pub Handed : LibraryView → LibraryView → List Occurrences → List Occurrences → ℕ → List Passing → Type 0
Handed first now whats lefts i out = (new : LibraryView) (vs : List Occurrences) (told : Happened) (after : List Passing)
    → HaveHappened now new (drop i lefts) vs told out after → HaveHappened first new whats (take i lefts ++ vs) told out after

pub none_handed : (first : LibraryView) (whats : List Occurrences) (out : List Passing) → Handed first first whats whats 0 out
none_handed first whats out = λ new vs told after h. h

-- where no threshold was passed nothing is written
quiet_kept : (old new : LibraryView) (what : Occurrences) (happened : Happened) (before after : List Passing)
    → HasHappened old new (happening_of what) happened before after → AllQuiet happened → after ≡ before
quiet_kept old new what happened before after has quiet = go happened.notes quiet.1 has.rest where
  go : (n : ℕ) → n ≡ 0 → drop n after ≡ drop n before → after ≡ before
  go n zero e = subst (λ (m : ℕ). drop m after ≡ drop m before) zero e

pub handed_more : (first now later : LibraryView) (whats lefts : List Occurrences) (i : ℕ) (d : Occurrences) (happened : Happened) (out before after : List Passing)
    → i < length lefts → before ≡ out → Handed first now whats lefts i out → HasHappened now later (happening_of (slice_index_or lefts i d)) happened before after → AllQuiet happened
    → Handed first later whats (set lefts i (left_of (slice_index_or lefts i d) happened.amount)) (i + 1) out × (after ≡ out)
unfolding HaveHappened
handed_more first now later whats lefts i d happened out before after less same so_far has quiet = (goes, kept ∙ same) where
  w : Occurrences
  w = slice_index_or lefts i d

  v : Occurrences
  v = left_of w happened.amount

  kept : after ≡ before
  kept = quiet_kept now later w happened before after has quiet

  here : HasHappened now later (happening_of w) happened out out
  here = subst (λ (xs : List Passing). HasHappened now later (happening_of w) happened xs out) same
      (subst (λ (xs : List Passing). HasHappened now later (happening_of w) happened before xs) (kept ∙ same) has)

  goes : Handed first later whats (set lefts i v) (i + 1) out
  goes = λ new vs told end rest.
      subst (λ (xs : List Occurrences). HaveHappened first new whats xs told out end)
      (sym (append_assoc (take i lefts) (v ∷ []) vs) ∙ ap (λ (xs : List Occurrences). xs ++ vs) (sym (take_more_set lefts i v less)))
      (so_far new (v ∷ vs) told end
      (subst (λ (xs : List Occurrences). HaveHappened now new xs (v ∷ vs) told out end) (sym (drop_more lefts i d less))
      (inl (record {
        later = later;
        happened = happened;
        has = here;
        quiet = quiet;
        remains = refl;
        rest = subst (λ (xs : List Occurrences). HaveHappened later new xs vs told out end) (drop-set-lt (i + 1) lefts i v (omega arith)) rest;
      }))))

pub handed_all : (first now : LibraryView) (whats lefts : List Occurrences) (n : ℕ) (told : Happened) (out after : List Passing)
    → n ≡ length lefts → after ≡ out → Handed first now whats lefts n out → AllQuiet told → HaveHappened first now whats lefts told out after
unfolding HaveHappened
handed_all first now whats lefts n told out after all same so_far quiet =
    subst (λ (xs : List Occurrences). HaveHappened first now whats xs told out after) (append-nil (take n lefts) ∙ take_all n lefts (omega (arith, all)))
    (so_far now [] told after (subst (λ (xs : List Occurrences). HaveHappened now now xs [] told out after) (sym (drop_all n lefts (omega (arith, all))))
    (record { same = refl; quiet = quiet; kept = same })))

pub handed_loud : (first now new : LibraryView) (whats lefts : List Occurrences) (i : ℕ) (d : Occurrences) (told : Happened) (out before after : List Passing)
    → i < length lefts → before ≡ out → Handed first now whats lefts i out → HasHappened now new (happening_of (slice_index_or lefts i d)) told before after → (AllQuiet told → ⊥)
    → HaveHappened first new whats (set lefts i (left_of (slice_index_or lefts i d) told.amount)) told out after
unfolding HaveHappened
handed_loud first now new whats lefts i d told out before after less same so_far has loud =
    subst (λ (xs : List Occurrences). HaveHappened first new whats xs told out after) (sym (set_split lefts i v less))
    (so_far new (v ∷ drop (suc i) lefts) told after
    (subst (λ (xs : List Occurrences). HaveHappened now new xs (v ∷ drop (suc i) lefts) told out after) (sym (drop-cons lefts i d less))
    (inr (record {
      has = subst (λ (xs : List Passing). HasHappened now new (happening_of w) told xs after) same has;
      loud = loud;
      remains = refl;
      rest = refl;
    })))) where
      w : Occurrences
      w = slice_index_or lefts i d

      v : Occurrences
      v = left_of w told.amount
