use Rattle.std.proofs.Common.{◌∙◌, arith, refl}
use Rattle.script_runner.proofs.PlannedLines.{all-begun, begun-before, begun-none, plan-asks, plan-codes, plan-heads, planned-all, planned-next}
use Rattle.script_runner.specs.Resolving.{asked_of}
use Rattle.script_runner.proofs.resolving.resolve.Goals as goal

pub loop-line-preserved : goal.loop-line-preserved
loop-line-preserved c = record {
  planned =
      planned-next c.args.catalog.now c.lines-line-items.result.now c.args.script.now c.loop-line.line-index c.line-item.result c.loop-line.lines.items c.push_reserved.new.self.items
      (asked_of c.args.catalog.now c.line-item.result.call) c.in_ok-planned.planned c.loop-line.codes c.planned_line.new.codes
      c.loop-line-test.true c.line-item.is c.lines-line-items.ensures.lines c.lines-line-items.ensures.kept.threads
      refl c.planned_line.ensures.good c.in_ok-planned.ensures.mentioned c.in_ok-planned.ensures.planned c.push_reserved.ensures.items c.loop-line.invariant.planned;
  count = omega (arith, c.push_reserved.ensures.len, c.loop-line.invariant.count);
  room = omega (arith, c.push_reserved.ensures.capacity, c.loop-line.invariant.room);
}

pub returns-in_err-lines-clause-begun : goal.returns-in_err-lines-clause-begun
returns-in_err-lines-clause-begun c = begun-none _ c.args.codes.now c.requires.none

pub returns-in_err-planned-clause-begun : goal.returns-in_err-planned-clause-begun
returns-in_err-planned-clause-begun c =
    begun-before c.args.catalog.now c.lines-line-items.result.now c.args.script.now c.loop-line.line-index c.planned_line.new.codes c.lines-line-items.ensures.lines
    (c.in_err-planned.ensures.unchanged ∙ c.loop-line.invariant.planned.mentioned)

pub returns : goal.returns
returns c =
    let catalog = c.args.catalog.now in
    let script = c.args.script.now in
    let whole =
    planned-all catalog c.lines-line-items.result.now script c.loop-line.line-index c.loop-line.lines.items c.new.result c.loop-line.codes
    c.loop-line-test.false c.lines-line-items.ensures.lines c.new.ensures.lines c.loop-line.invariant.planned in
    let codes = plan-codes catalog script c.new.result c.loop-line.codes whole in
    record {
      plan = plan-asks catalog script c.new.result c.loop-line.codes whole;
      heads = plan-heads catalog script c.new.result c.loop-line.codes whole;
      good = record { each = whole.good };
      codes = codes;
      begun = all-begun _ c.loop-line.codes codes;
    }
