use Rattle.stream_reader.proofs.Words.{◌≡◌, ◌∙◌, ap, sym, subst, true, false, ReaderView, TakesLine}
use Rattle.stream_reader.proofs.AtHand.{skipped_comes, skipped_coming, skipped_hand}
use Rattle.stream_reader.proofs.reader.StreamReader.pass_skipped.Goals as goal

pub returns-in-Some-clause-told_or_not : goal.returns-in-Some-clause-told_or_not
returns-in-Some-clause-told_or_not g c =
    let on : c.args.self.now.over ≡ false = ap (λ (v : ReaderView). v.over) (sym c.self.view_is) ∙ c.if-self.false in
    skipped_comes _ _ c.in-Some.size _ on c.in-Some.ensures (subst (λ (v : ReaderView). TakesLine (record v { asked = true }) c.in-Some.size true c.take_judged-answer.result c.take_judged-answer.new.self) c.self.view_is c.take_judged-answer.ensures)

pub returns-in-Some-clause-at_hand : goal.returns-in-Some-clause-at_hand
returns-in-Some-clause-at_hand g c =
    let on : c.args.self.now.over ≡ false = ap (λ (v : ReaderView). v.over) (sym c.self.view_is) ∙ c.if-self.false in
    skipped_hand _ _ c.in-Some.size _ on c.in-Some.ensures (subst (λ (v : ReaderView). TakesLine (record v { asked = true }) c.in-Some.size true c.take_judged-answer.result c.take_judged-answer.new.self) c.self.view_is c.take_judged-answer.ensures)

pub returns-in-Some-clause-coming : goal.returns-in-Some-clause-coming
returns-in-Some-clause-coming g c =
    let on : c.args.self.now.over ≡ false = ap (λ (v : ReaderView). v.over) (sym c.self.view_is) ∙ c.if-self.false in
    skipped_coming _ _ c.in-Some.size _ on c.in-Some.ensures (subst (λ (v : ReaderView). TakesLine (record v { asked = true }) c.in-Some.size true c.take_judged-answer.result c.take_judged-answer.new.self) c.self.view_is c.take_judged-answer.ensures)
