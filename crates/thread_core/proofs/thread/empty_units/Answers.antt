use Rattle.thread_core.proofs.Words.{◌∙◌, ap, ℕ, ◌+◌, length, ◌≤◌, AreWidths, arith, slice_get_within}
use Rattle.thread_core.proofs.Opening.{unit_more, one_more}
use Rattle.thread_core.proofs.thread.empty_units.Goals as goal

pub loop-comp-preserved : goal.loop-comp-preserved
loop-comp-preserved c =
    let i = c.loop-comp.comp in
    let inv = c.loop-comp.invariant in
    let shape = c.args.shape.now in
    let at = c.comp.ensures.counters in
    record {
      done = rw (c.push_reserved.ensures.items, c.new.ensures.unit) (unit_more shape c.loop-comp.units.items _ i c.comp.result.now at inv.done);
      len = c.push_reserved.ensures.len ∙ ap (λ (n : ℕ). n + 1) inv.len;
      room = omega (arith, c.push_reserved.ensures.capacity, inv.room);
      few = one_more (λ ws. length ws ≤ 32) shape i c.comp.result.now at c.new.ensures.few inv.few;
      widths = one_more AreWidths shape i c.comp.result.now at c.new.ensures.widths inv.widths;
    }

pub returns-clause-shape : goal.returns-clause-shape
returns-clause-shape c = record {
  few_components = omega arith;
  few_counters = λ comp widths e. c.loop-comp.invariant.few comp widths (let below = slice_get_within c.args.shape.now comp widths e in omega arith) e;
  widths = λ comp widths e. c.loop-comp.invariant.widths comp widths (let below = slice_get_within c.args.shape.now comp widths e in omega arith) e;
}
