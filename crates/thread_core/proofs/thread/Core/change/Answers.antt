use Rattle.thread_core.proofs.Answering.{refused_follows, at, Some, Plain, refl, sym, ◌∙◌, ap, None, CoreView, code_before, slot_faces, subst}
use Rattle.thread_core.proofs.Answering.{IsFor, ◌≡◌, before_refuses, reads, slot_view, change_follows, code_after, agrees_now}
use Rattle.thread_core.proofs.Answering.{forgotten}
use Rattle.thread_core.proofs.thread.Core.change.Goals as goal
use Rattle.thread_core.proofs.thread.Core.change.Goals.{In_default, In-Some-index_mut, in-Ok, in-Err}

pub returns-in-Some : goal.returns-in-Some
returns-in-Some c = refused_follows _ _ _ (Plain _) _ c.requires.agrees
    (before_refuses _ _ _ _ _ c.args.change.now _ (sym c.change_refusal.ensures.code ∙ c.in-Some.is)) refl

-- the set that the call names, which does not run
none : (c : In_default) → code_before c.self.inside.shape (slot_faces c.self.inside.slots.items) c.args.set c.args.change.now ≡ None
none c =
    ap (λ (v : CoreView). code_before v.shape (slot_faces v.slots) c.args.set c.args.change.now) c.self.view_is
    ∙ sym c.change_refusal.ensures.code ∙ c.in_default.is

lent : (c : In-Some-index_mut) → at c.self.inside.slots.items c.args.set ≡ Some c.in-Some-index_mut.slot
lent c = reads c.self.view_is (c.change_refusal.ensures.there c.in_default.is) c.index_mut.ensures.value c.in-Some-index_mut.is

pub change-requires : goal.change-requires
change-requires c = record {
  view = slot_view c.args.set (agrees_now c.self.view_is c.requires.agrees) (lent (goal.at.change-requires c).In-Some-index_mut);
}

pub returns : goal.returns
returns c =
    let w = goal.at.returns c in
    let e = c.change.ensures in
    let named = subst (λ (v : CoreView). IsFor c.args.book.now v.shape c.args.change.now) (sym c.self.view_is) c.requires.named in
    let said : code_after c.change.result ≡ c.match-change.result = elim c.match-change.branch [
      | in-Ok w ↦ ap code_after w.in-Ok.is ∙ sym w.result-is
      | in-Err w ↦ ap code_after w.in-Err.is ∙ sym w.result-is
    ] in
    rw (← said, ← c.self.view_is) (change_follows _ _ c.args.set c.args.change.now _ _ _ (agrees_now c.self.view_is c.requires.agrees) named
    (none w.In_default) (lent w.In-Some-index_mut) e.changed e.taken e.refused e.unchanged)

pub invariant_of-self-2 : goal.invariant_of-self-2
invariant_of-self-2 c = let f = returns c in (record { book = _; agrees = f.agrees }, forgotten _ _ c.forget.ensures)
