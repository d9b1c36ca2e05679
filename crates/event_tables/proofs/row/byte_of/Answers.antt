use Rattle.event_tables.proofs.Words.{◌∙◌, sym, arith, hex_in-range}
use Rattle.event_tables.proofs.row.byte_of.Goals as goal

pub overflow_cast-result : goal.overflow_cast-result
overflow_cast-result c =
    let r = hex_in-range 1 2 c.args.bytes.now c.in_ok-hex_in.field-0 (sym c.hex_in.ensures ∙ c.in_ok-hex_in.was) in
    omega (arith, r)
