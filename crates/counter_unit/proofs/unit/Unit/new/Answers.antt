use Rattle.counter_unit.proofs.Words.{ℕ, arith, ap, length, Option, None, take-replicate, length-replicate, Register}
use Rattle.counter_unit.proofs.Kept.{kept_none, now_none}
use Rattle.counter_unit.proofs.unit.Unit.new.Goals as goal

pub invariant_of-result : goal.invariant_of-result
invariant_of-result c =
    let none : Option Register = None in
    let zero : ℕ = 0 in
    let few = c.counters-counters.ensures.short in
    let empty = take-replicate (length c.args.shape.now) 32 none few in
    rw c.copy.ensures.same record {
      few = few;
      are_widths = c.counters-counters.ensures.widths;
      long = length-replicate 32 none;
      long_values = length-replicate 32 zero;
      long_bases = length-replicate 32 zero;
      long_first_values = length-replicate 32 zero;
      long_first_bases = length-replicate 32 zero;
      kept = rw empty (kept_none c.args.shape.now (length c.args.shape.now) 32 few);
      are_rooms = record { long = c.loop-c.invariant.long; each = λ k lt. c.loop-c.invariant.each k (omega arith) };
      selects = rw empty (c.none.ensures (length c.args.shape.now));
    }

pub returns-clause-unit : goal.returns-clause-unit
returns-clause-unit c = let few = c.counters-counters.ensures.short in rw (c.copy.ensures.same, take-replicate (length c.args.shape.now) 32 (let none : Option Register = None in none) few) (ap (λ rs. record { widths = c.args.shape.now; registers = rs }) (now_none (length c.args.shape.now) 32 few))
