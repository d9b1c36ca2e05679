use Rattle.event_tables.proofs.Words.{◌∙◌, sym, arith, decimal_in-range}
use Rattle.event_tables.proofs.row.width_of.Goals as goal

pub overflow_cast-result : goal.overflow_cast-result
overflow_cast-result c =
    let r = decimal_in-range 16 48 c.args.bytes.now c.in_ok-decimal_in.field-0 (sym c.decimal_in.ensures ∙ c.in_ok-decimal_in.was) in
    omega (arith, r.1)
