use Rattle.user_events.proofs.Words.{◌∙◌, sym, ap, MOST_USER_EVENTS}
use Rattle.std.specs.Prelude.{◌&&◌, nat_le, Bool, length}
use Rattle.user_events.proofs.TakingRow.{too-many}
use Rattle.user_events.proofs.reading.is_too_many.Goals as goal

pub returns-then-is_none : goal.returns-then-is_none
returns-then-is_none c =
    ap (λ (b : Bool). b && nat_le MOST_USER_EVENTS (length c.args.events.now)) (sym c.if-is_none.true)
    ∙ too-many c.args.events.now c.args.name.now c.place_of.result c.is_none.result c.place_of.ensures c.is_none.ensures

pub returns-else-is_none : goal.returns-else-is_none
returns-else-is_none c =
    c.if-is_none.false ∙ ap (λ (b : Bool). b && nat_le MOST_USER_EVENTS (length c.args.events.now)) (sym c.if-is_none.false)
    ∙ too-many c.args.events.now c.args.name.now c.place_of.result c.is_none.result c.place_of.ensures c.is_none.ensures
