use Rattle.tool_output.proofs.Words.{◌≡◌, ◌∙◌, ◌++◌, ◌∷◌, [], List, Option, Some, ℕ, ap, length, slice_get, sym, subst, unwrap_or, shape_of}
use Rattle.tool_output.proofs.Words.{Assignable, masks_of, MatchingView, ok_of, masks_at, refused_whole, Widths, widths_at, SetView, Native}
use Rattle.tool_output.proofs.Openings.{err_of, in_range_of}
use Rattle.tool_output.proofs.chooser.opening.opened.Goals as goal

pub add-requires-clause-in_range : goal.add-requires-clause-in_range
add-requires-clause-in_range c =
    let comp = c.args.comp in
    let i = c.loop-i.i in
    let shape = shape_of c.args.catalog.now.tables in
    let width : c.counters.result ≡ length (widths_at shape (Some comp)) =
    c.counters.ensures.length ∙ sym (ap (λ (o : Option (List ℕ)). length (unwrap_or o [])) (ap (λ (sh : Widths). slice_get sh comp) (sym c.shape.ensures.shape) ∙ c.comp.ensures.counters)) in
    in_range_of shape c.args.set.now c.loop-i.matching.counters comp i c.at.result c.natives-natives.ensures.sound (ap (λ (s : SetView). s.counters) c.requires.over.view)
    (sym c.has_other.ensures ∙ c.if-has_other.false) (c.loop-i.invariant.counters ∙ ap (λ (m : MatchingView). m.counters) c.empty-matching.ensures ∙ width)
    (subst (λ (ns : List Native). slice_get ns i ≡ Some c.at.result) c.natives-natives.ensures.natives c.at.ensures.item)

pub prove-unreachable-requires : goal.prove-unreachable-requires
prove-unreachable-requires c =
    let natives = c.natives-natives.result.now in
    let assignable : Assignable (masks_of natives) =
    subst (λ (ns : List Native). Assignable (masks_of ns)) (sym c.natives-natives.ensures.natives) (c.natives-natives.ensures.sound.assignable c.requires.over.unshared) in
    refused_whole natives c.loop-i.i c.at.result c.loop-i.matching.allowed c.at.ensures.item c.loop-i.invariant.allowed
    (err_of c.add.result _ (sym c.is_ok-added.ensures.value ∙ c.if-prove.true) c.add.ensures.not_assignable) assignable

pub loop-i-preserved : goal.loop-i-preserved
loop-i-preserved c =
    let added = ok_of c.add.result _ (sym c.is_ok-added.ensures.value ∙ c.if-prove.false) c.add.ensures.added in
    record {
      counters = ap (λ (m : MatchingView). m.counters) added ∙ c.loop-i.invariant.counters;
      allowed =
          ap (λ (m : MatchingView). m.allowed) added ∙ ap (λ (xs : List ℕ). xs ++ c.at.result.allowed ∷ []) c.loop-i.invariant.allowed
          ∙ sym (masks_at c.natives-natives.result.now c.loop-i.i c.at.result c.at.ensures.item);
    }
