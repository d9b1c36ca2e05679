use Rattle.event_tables.proofs.Words.{◌≡◌, ◌∙◌, ◌<◌, false, map, sym, ap, rules, arith, length-map, bytes_eq, is_empty, place_bit, counter_text}
use Rattle.event_tables.proofs.Words.{CounterText}
use Rattle.event_tables.proofs.Searches.{position_from-lt}
use Rattle.event_tables.proofs.Bits.{bit-shifted}
use Rattle.event_tables.proofs.counter_bits.counter_bit.Goals as goal

small : (c : goal.In-Some) → c.in-Some.place < 32
small c =
    let lt = position_from-lt (λ (k : CounterText). bytes_eq k.name c.args.name.now) 0 (map counter_text c.args.counters.now) c.in-Some.place (sym c.counter_place.ensures ∙ c.in-Some.is) in
    omega (arith, lt, length-map c.args.counters.now counter_text)

pub overflow_cast-result : goal.overflow_cast-result
overflow_cast-result c = omega (arith, small c)

pub overflow_shl-result : goal.overflow_shl-result
overflow_shl-result c = small c

pub returns-in-Some : goal.returns-in-Some
returns-in-Some c =
    let named : is_empty c.args.name.now ≡ false = search rules in
    rw named (bit-shifted c.in-Some.place (small c) ∙ ap place_bit (sym c.in-Some.is ∙ c.counter_place.ensures))
