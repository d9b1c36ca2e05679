use Rattle.tool_output.proofs.Words.{◌≡◌, ◌∙◌, [], ℕ, filter, length, ap, arith, flat_map, range_with_len, CatalogView, row_count, candidates}
use Rattle.tool_output.proofs.Words.{natives_at, preset_in, takes}
use Rattle.tool_output.specs.declared.chooser.candidates.Candidates.TheVariants as which
use Rattle.tool_output.proofs.Rows.{kept_more}
use Rattle.tool_output.proofs.chooser.listing.taken_by.Goals as goal
use Rattle.tool_output.proofs.chooser.listing.taken_by.Goals.{in-Native+else-loop-comp-test, in-Preset+else-loop-row-test}

natives_are : (catalog : CatalogView) (n : ℕ) → n ≡ length catalog.tables → flat_map (natives_at catalog.tables) (range_with_len 0 n) ≡ candidates catalog which.Native
unfolding candidates
natives_are catalog n is = ap (λ k. flat_map (natives_at catalog.tables) (range_with_len 0 k)) is

presets_are : (catalog : CatalogView) (n : ℕ) → n ≡ row_count catalog → flat_map (preset_in catalog.book) (range_with_len 0 n) ≡ candidates catalog which.Preset
unfolding candidates
presets_are catalog n is = ap (λ k. flat_map (preset_in catalog.book) (range_with_len 0 k)) is

pub loop-comp-preserved : goal.loop-comp-preserved
loop-comp-preserved c =
    kept_more (takes c.args.catalog.now c.args.set.now.rest) (natives_at c.args.catalog.now.tables) c.loop-comp.comp [] c.loop-comp.events.items c.keep_component.new.events.items
    c.loop-comp.invariant c.in_ok-keep_component-in-Native.ensures

pub loop-row-preserved : goal.loop-row-preserved
loop-row-preserved c =
    kept_more (takes c.args.catalog.now c.args.set.now.rest) (preset_in c.args.catalog.now.book) c.loop-row.row [] c.loop-row.events.items c.keep_preset.new.events.items
    c.loop-row.invariant c.in_ok-keep_preset-in-Preset.ensures

pub returns : goal.returns
returns c =
    let catalog = c.args.catalog.now in
    let keeps = takes catalog c.args.set.now.rest in
    elim c.match-candidates.branch [
      | in-Native+else-loop-comp-test w ↦
          let all : w.loop-comp.comp ≡ length catalog.tables =
          omega (arith, w.loop-comp-test.false, w.loop-comp.auto.comp-end, w.components-comp-end.ensures.count, ap length w.tables.ensures.tables) in
          rw (w.events-is, w.in-Native.is) (w.loop-comp.invariant ∙ ap (filter keeps) (natives_are catalog w.loop-comp.comp all))
      | in-Preset+else-loop-row-test w ↦
          let all : w.loop-row.row ≡ row_count catalog = omega (arith, w.loop-row-test.false, w.loop-row.auto.row-end, w.rows-row-end.ensures.rows) in
          rw (w.events-is, w.in-Preset.is) (w.loop-row.invariant ∙ ap (filter keeps) (presets_are catalog w.loop-row.row all))
    ]
