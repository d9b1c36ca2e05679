use Rattle.thread_registry.proofs.Words.{rules, arith, ap, sym, get_or, false, ◌-◌, drop_all, bits_from}
use Rattle.thread_registry.proofs.Listed.{bits-lower, below-lower, bits-all}
use Rattle.thread_registry.proofs.registry.Registry.listed.Goals as goal

pub loop-thread-init : goal.loop-thread-init
loop-thread-init c = record { listed = sym (ap (bits_from 1) (drop_all 64 c.args.self.now (search rules))); below = omega arith }

pub loop-thread-preserved : goal.loop-thread-preserved
loop-thread-preserved c =
    record {
      listed = bits-lower c.args.self.now c.loop-thread.thread c.loop-thread.listed c.from.result (get_or c.args.self.now (c.loop-thread.thread - 1) false) (search rules) (search rules) (search rules) (search rules) c.loop-thread.invariant.listed;
      below = below-lower c.loop-thread.thread c.loop-thread.listed c.from.result (search rules) (search rules) (search rules) c.loop-thread.invariant.below;
    }

pub returns : goal.returns
returns c = record { bits = search rules; listed = λ accounts e. bits-all c.args.self.now accounts c.loop-thread.listed (search rules) e }
