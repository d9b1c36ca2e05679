use Rattle.script_runner.proofs.Words.{◌≡◌, ◌+◌, ◌<◌, ◌≤◌, ◌∙◌, inl, inr, ℕ, List, ap, sym, subst, arith, length, slice_get, Some, cases_lt}
use Rattle.script_runner.proofs.Words.{slice_get_within, AreWidths}
use Rattle.script_runner.proofs.fitting.shape_fits.Goals as goal

-- what holds of those before i, and of the one at i
one_more : (P : List ℕ → Type 0) (shape : List (List ℕ)) (i : ℕ) (ws : List ℕ) → slice_get shape i ≡ Some ws → P ws → ((c : ℕ) (widths : List ℕ) → c < i → slice_get shape c ≡ Some widths → P widths)
    → (c : ℕ) (widths : List ℕ) → c < i + 1 → slice_get shape c ≡ Some widths → P widths
one_more P shape i ws e p h c widths below f = elim (cases_lt c i) [
  | inl lt ↦ h c widths lt f
  | inr ge ↦ (let same : c ≡ i = omega arith in let is : Some ws ≡ Some widths = sym e ∙ ap (slice_get shape) (sym same) ∙ f in let one : ws ≡ widths = cc in subst P one p)
]

pub loop-comp-preserved : goal.loop-comp-preserved
loop-comp-preserved c =
    let shape = c.args.shape.now in
    let at = c.comp-counters.ensures.counters in
    record {
      few = one_more (λ ws. length ws ≤ 32) shape c.loop-comp.comp c.comp-counters.result.now at c.counters-count.ensures.short c.loop-comp.invariant.few;
      widths = one_more AreWidths shape c.loop-comp.comp c.comp-counters.result.now at c.counters-count.ensures.widths c.loop-comp.invariant.widths;
    }

pub returns : goal.returns
returns c = record {
  few_components = omega arith;
  few_counters = λ comp widths e. c.loop-comp.invariant.few comp widths (let below = slice_get_within c.args.shape.now comp widths e in omega arith) e;
  widths = λ comp widths e. c.loop-comp.invariant.widths comp widths (let below = slice_get_within c.args.shape.now comp widths e in omega arith) e;
}
