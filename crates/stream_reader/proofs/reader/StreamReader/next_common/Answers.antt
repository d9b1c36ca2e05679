use Rattle.stream_reader.proofs.Words.{◌≡◌, ◌∙◌, ap, sym, subst, true, false, ReaderView, TakesLine}
use Rattle.stream_reader.proofs.AtHand.{common_takes, common_told}
use Rattle.stream_reader.proofs.reader.StreamReader.next_common.Goals as goal

pub returns-clause-told : goal.returns-clause-told
returns-clause-told g c =
    let on : c.args.self.now.over ≡ false = ap (λ (v : ReaderView). v.over) (sym c.self.view_is) ∙ c.if-self.false in
    common_told _ _ c.in_ok-line.line.size _ _ on c.in_ok-line.ensures (subst (λ (v : ReaderView). TakesLine (record v { asked = true }) c.in_ok-line.line.size true c.take_judged-answer.result c.take_judged-answer.new.self) c.self.view_is c.take_judged-answer.ensures)

pub returns-clause-takes : goal.returns-clause-takes
returns-clause-takes g c =
    let on : c.args.self.now.over ≡ false = ap (λ (v : ReaderView). v.over) (sym c.self.view_is) ∙ c.if-self.false in
    common_takes _ _ c.in_ok-line.line.size _ _ on c.in_ok-line.ensures (subst (λ (v : ReaderView). TakesLine (record v { asked = true }) c.in_ok-line.line.size true c.take_judged-answer.result c.take_judged-answer.new.self) c.self.view_is c.take_judged-answer.ensures)
