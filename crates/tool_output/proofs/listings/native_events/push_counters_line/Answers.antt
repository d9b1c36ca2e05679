use Rattle.std.proofs.Common.{ap, arith, length}
use Rattle.tool_output.proofs.Tables.{few_counters}
use Rattle.tool_output.proofs.listings.native_events.push_counters_line.Goals as goal

pub push_counters-requires : goal.push_counters-requires
push_counters-requires c =
    omega (arith, ap length c.as_slice.ensures.value, few_counters c.args.tables.now c.args.native.now.comp c.in-Some.component.now c.components-components.ensures.kept c.in-Some.ensures)
