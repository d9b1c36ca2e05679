use Rattle.std.proofs.Common.{◌∙◌, sym}
use Rattle.stream_reader.proofs.Taking.{flag-is, line-taken}
use Rattle.stream_reader.proofs.reader.StreamReader.take_judged.Goals as goal

pub invariant_of-self-2 : goal.invariant_of-self-2
invariant_of-self-2 g c =
    (line-taken c.self.invariant c.self.view_is c.args.size c.from.result c.args.ended c.args.judgement.now c.pass.new.self c.requires.within c.requires.some c.requires.judged (sym c.if-is_bad.ensures)
    (c.from.ensures ∙ flag-is c.args.ended) c.pass.ensures).1

pub returns : goal.returns
returns g c =
    rw c.answer_of-2.ensures (line-taken c.self.invariant c.self.view_is c.args.size c.from.result c.args.ended c.args.judgement.now c.pass.new.self c.requires.within c.requires.some c.requires.judged (sym c.if-is_bad.ensures)
    (c.from.ensures ∙ flag-is c.args.ended) c.pass.ensures).0
