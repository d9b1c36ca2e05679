use Rattle.std.proofs.Common.{arith}
use Rattle.region_report.proofs.Stacks.{set_one}
use Rattle.region_report.proofs.opened.take_line.Goals as goal

pub returns-clause-after : goal.returns-clause-after
returns-clause-after c = set_one c.take_call.result c.args.threads.now.items c.args.line.now c.index_mut.result.now c.take_call.new.opens (omega (arith, c.requires)) c.index_mut.ensures.value c.take_call.ensures
