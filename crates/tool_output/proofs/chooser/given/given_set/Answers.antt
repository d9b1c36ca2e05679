use Rattle.tool_output.proofs.Words.{◌≡◌, ◌∙◌, ◌∷◌, ◌<◌, ◌≤◌, ◌+◌, ℕ, length, List, [], Some, Ok, Err, refl, ap, sym, drop, get_or, drop_all}
use Rattle.tool_output.proofs.Words.{drop_more, get_or_from_slice_get, slice_get-get_or, Result, CatalogView, looked_up, AtRest, Code, EventRef}
use Rattle.tool_output.proofs.Words.{GivenSet, RefusedText, with_named, with_text, with_texts}
use Rattle.tool_output.specs.Replies.{Text}
use Rattle.tool_output.proofs.chooser.given.given_set.Goals as goal

after_refused : (catalog : CatalogView) (r : RefusedText) (texts : List Text) → with_texts catalog (Err r) texts ≡ Err r
unfolding with_texts
after_refused catalog r [] = refl
after_refused catalog r (text ∷ texts) = after_refused catalog r texts

one_more : (catalog : CatalogView) (given : GivenSet) (texts : List Text) (i : ℕ) (text : Text) → i < length texts → text ≡ get_or texts i []
    → with_texts catalog given (drop i texts) ≡ with_texts catalog (with_text catalog given text) (drop (i + 1) texts)
unfolding with_texts
one_more catalog given texts i text small is =
    ap (with_texts catalog given) (drop_more texts i [] small) ∙ ap (λ t. with_texts catalog (with_text catalog given t) (drop (i + 1) texts)) (sym is)

here : (texts : List Text) (i : ℕ) (item text : Text) → i < length texts → item ≡ get_or texts i item → text ≡ item → text ≡ get_or texts i []
here texts i item text small is same = same ∙ sym (get_or_from_slice_get texts i item [] (slice_get-get_or texts i item small ∙ ap Some (sym is)))

no_more : (catalog : CatalogView) (given : GivenSet) (texts : List Text) (i : ℕ) → length texts ≤ i → with_texts catalog given (drop i texts) ≡ given
unfolding with_texts
no_more catalog given texts i all = ap (with_texts catalog given) (drop_all i texts all)

looked_up_is : (catalog : CatalogView) (s : AtRest) (text : Text) (named : Result EventRef Code) (given : GivenSet) → named ≡ looked_up catalog text
    → with_named catalog text s named ≡ given → with_text catalog (Ok s) text ≡ given
looked_up_is catalog s text named given is more = ap (with_named catalog text s) (sym is) ∙ more

pub returns-in-Err-clause-refused : goal.returns-in-Err-clause-refused
returns-in-Err-clause-refused c =
    let catalog = c.args.catalog.now in
    let texts = c.args.texts.now in
    let text = c.as_str-text.result.now in
    sym c.loop-text.invariant.so_far
    ∙ one_more catalog (Ok c.loop-text.set.rest) texts c.loop-text.text-index text c.loop-text-test.true
    (here texts c.loop-text.text-index c.text-item.result text c.loop-text-test.true c.text-item.is c.as_str-text.ensures)
    ∙ ap (λ (g : GivenSet). with_texts catalog g (drop (c.loop-text.text-index + 1) texts)) (looked_up_is catalog c.loop-text.set.rest text _ _ c.lookup.ensures.event (c.in-Err.ensures.refused text))
    ∙ after_refused catalog _ (drop (c.loop-text.text-index + 1) texts)

pub loop-text-preserved : goal.loop-text-preserved
loop-text-preserved c =
    let catalog = c.args.catalog.now in
    let texts = c.args.texts.now in
    let text = c.as_str-text.result.now in
    record {
      so_far =
          ap (λ (g : GivenSet). with_texts catalog g (drop (c.loop-text.text-index + 1) texts)) (sym (looked_up_is catalog c.loop-text.set.rest text _ _ c.lookup.ensures.event (c.in_default.ensures.added text)))
          ∙ sym (one_more catalog (Ok c.loop-text.set.rest) texts c.loop-text.text-index text c.loop-text-test.true
          (here texts c.loop-text.text-index c.text-item.result text c.loop-text-test.true c.text-item.is c.as_str-text.ensures))
          ∙ c.loop-text.invariant.so_far;
      over = c.in_default.ensures.over;
    }

pub returns-clause-given : goal.returns-clause-given
returns-clause-given c =
    sym c.loop-text.invariant.so_far ∙ no_more c.args.catalog.now (Ok c.loop-text.set.rest) c.args.texts.now c.loop-text.text-index c.loop-text-test.false
