use Rattle.component_table.proofs.Words.{◌∙◌, ◌<◌, sym, arith, PRESETS}
use Rattle.component_table.proofs.Keeping.{cleared-all, cleared-kept, cleared-missing}
use Rattle.component_table.proofs.catalog.available_presets.Goals as goal
use Rattle.component_table.proofs.catalog.available_presets.Goals.{then-not-is_available, else-not-is_available}

pub loop-row-preserved : goal.loop-row-preserved
loop-row-preserved c =
    let book = c.args.book.now in
    let small : c.loop-row.row < PRESETS = omega (arith, c.loop-row-test.true, c.preset_count-row-end.ensures.count) in
    elim c.if-not-is_available.branch [
      | then-not-is_available w ↦
          rw (w.presets-is ∙ w.set_missing.ensures) (cleared-missing book c.args.presets c.loop-row.row c.loop-row.presets small (sym w.if-not-is_available.ensures) c.loop-row.invariant)
      | else-not-is_available w ↦ rw w.presets-is (cleared-kept book c.args.presets c.loop-row.row c.loop-row.presets small (sym w.if-not-is_available.ensures) c.loop-row.invariant)
    ]

pub returns : goal.returns
returns c = cleared-all c.args.book.now c.args.presets c.loop-row.row c.loop-row.presets (omega (arith, c.loop-row-test.false, c.preset_count-row-end.ensures.count)) c.loop-row.invariant
