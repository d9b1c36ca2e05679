use Rattle.std.proofs.Common.{◌≡◌, [], ap, arith, length, refl, sym}
use Rattle.std.proofs.lemmas.Option.{slice_get_past}
use Rattle.std.specs.Option.{option_map_or}
use Rattle.preset_csv.specs.Symbols.{description_at, preset_rows}
use Rattle.papi_calls.proofs.infos.preset_description.Goals as goal
use Rattle.preset_csv.specs.declared.symbols.TheConstants.{PRESETS}

pub returns-else-row-preset_count : goal.returns-else-row-preset_count
unfolding description_at preset_rows
returns-else-row-preset_count c =
    let rows : length preset_rows ≡ PRESETS = refl in
    sym (ap (λ row. option_map_or (λ r. r.description) row []) (slice_get_past preset_rows c.args.row (omega (arith, rows, c.if-row-preset_count.false, c.preset_count.ensures.count))))
