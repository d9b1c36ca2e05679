use Rattle.thread_core.proofs.Answering.{sym, at, Some, ◌∙◌, Plain, refl, Err, subst, CoreView, IsNamed, Ok, ap, ◌≡◌, None, rest_code}
use Rattle.thread_core.proofs.Answering.{slot_faces, refused_follows, agrees_now, rest_refuses, slot_view, name_refuses, add_follows, reads}
use Rattle.thread_core.proofs.Answering.{forgotten, Add}
use Rattle.thread_core.proofs.RefusalCodes.{added_refusal, named_refusal, rest_refusal}
use Rattle.thread_core.proofs.thread.Core.add.Goals as goal
use Rattle.thread_core.proofs.thread.Core.add.Goals.{In_default, In-Some-index_mut}

pub returns-in-Some : goal.returns-in-Some
returns-in-Some c =
    let is = sym c.add_refusal.ensures.code ∙ c.in-Some.is in
    record {
      follows = refused_follows _ _ _ (Plain _) _ c.requires.agrees
          (rest_refuses _ c.args.self.now.shape c.args.self.now.registered _ c.args.set c.args.e.now _ is) refl;
      refusal = rest_refusal _ c.args.set _ is;
    }

pub returns-in-Err : goal.returns-in-Err
returns-in-Err c = record {
  follows = rw c.in-Err.is (refused_follows _ c.args.self.now (Add c.args.set (Err c.in-Err.code)) (Plain c.in-Err.code) _ c.requires.agrees
      (name_refuses c.args.book.now c.args.self.now.shape c.args.self.now.registered _ c.args.set c.in-Err.code
      (sym c.add_refusal.ensures.code ∙ c.in_default.is)) refl);
  refusal = named_refusal c.args.book.now c.args.self.now.shape c.args.e.now c.in-Err.code c.requires.named c.in-Err.is;
}

-- the set that the call names, which does not run
none : (c : In_default) → rest_code (slot_faces c.self.inside.slots.items) c.args.set ≡ None
none c = ap (λ (v : CoreView). rest_code (slot_faces v.slots) c.args.set) c.self.view_is ∙ sym c.add_refusal.ensures.code ∙ c.in_default.is

lent : (c : In-Some-index_mut) → at c.self.inside.slots.items c.args.set ≡ Some c.in-Some-index_mut.slot
lent c = reads c.self.view_is (c.add_refusal.ensures.there c.in_default.is) c.index_mut.ensures.value c.in-Some-index_mut.is

pub add-requires-clause-view : goal.add-requires-clause-view
add-requires-clause-view c = slot_view c.args.set (agrees_now c.self.view_is c.requires.agrees) (lent (goal.at.add-requires-clause-view c).In-Some-index_mut)

pub returns : goal.returns
returns c =
    let w = goal.at.returns c in
    let e = c.add.ensures in
    let named = subst (λ (v : CoreView). IsNamed c.args.book.now v.shape (Ok c.in-Ok.e)) (sym c.self.view_is)
    (subst (IsNamed c.args.book.now c.args.self.now.shape) c.in-Ok.is c.requires.named) in
    record {
      follows = rw (c.in-Ok.is, ← c.self.view_is) (add_follows _ _ c.args.set c.in-Ok.e _ _ _ (agrees_now c.self.view_is c.requires.agrees) named (none w.In_default)
          (lent w.In-Some-index_mut) e.added e.taken e.refused e.unchanged);
      refusal = added_refusal c.args.book.now c.in-Ok.e w.In-Some-index_mut.in-Some-index_mut.slot.set.rest c.add.result e.refused;
    }

pub invariant_of-self-2 : goal.invariant_of-self-2
invariant_of-self-2 c = let f = (returns c).follows in (record { book = _; agrees = f.agrees }, forgotten _ _ c.forget.ensures)
