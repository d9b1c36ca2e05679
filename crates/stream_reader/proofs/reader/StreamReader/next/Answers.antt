use Rattle.stream_reader.proofs.Words.{◌≡◌, ◌∙◌, ◌≤◌, refl, sym, ap, subst, arith, true, false, is_some, GaveNothing, NextGives, ReaderView, Takes}
use Rattle.stream_reader.proofs.Words.{coming, faults_of, has_answer, Passes}
use Rattle.stream_reader.specs.declared.next.Next.TheVariants as next
use Rattle.stream_reader.proofs.Telling.{asked-hand, asked-passes, over-takes, over-told, takes-told}
use Rattle.stream_reader.proofs.Turning.{passes-after, takes_after}
use Rattle.stream_reader.proofs.reader.StreamReader.next.Goals as goal

pub returns-then-self-clause-told : goal.returns-then-self-clause-told
returns-then-self-clause-told g c =
    let over : c.args.self.now.over ≡ true = ap (λ (v : ReaderView). v.over) (sym c.self.view_is) ∙ c.if-self.true in
    subst (λ (v : ReaderView). NextGives (coming c.args.self.now) next.End (coming (record v { asked = true }))) (sym c.self.view_is) (over-told c.args.self.now over)

pub returns-then-self-clause-takes : goal.returns-then-self-clause-takes
returns-then-self-clause-takes g c =
    let over : c.args.self.now.over ≡ true = ap (λ (v : ReaderView). v.over) (sym c.self.view_is) ∙ c.if-self.true in
    subst (λ (v : ReaderView). Takes c.args.self.now next.End (record v { asked = true })) (sym c.self.view_is) (over-takes c.args.self.now over)

pub loop-next-init : goal.loop-next-init
loop-next-init g c = record {
  over = c.if-self.false;
  passes = subst (λ (v : ReaderView). Passes c.args.self.now (record v { asked = true })) (sym c.self.view_is) (asked-passes c.args.self.now);
  counts = subst (λ (v : ReaderView). GaveNothing c.args.self.now.start v.start) (sym c.self.view_is) (record { last = refl; given = refl });
  hand = λ h. (sym (ap (λ (v : ReaderView). v.source) (sym c.self.view_is)), subst (λ (v : ReaderView). has_answer (record v { asked = true }) ≡ true) (sym c.self.view_is) (asked-hand c.args.self.now h));
  asked = refl;
  kept = ap (λ (v : ReaderView). is_some v.source) c.self.view_is;
  faults = subst (λ (v : ReaderView). faults_of c.args.self.now ≤ faults_of v) (sym c.self.view_is) (omega arith);
}

pub loop-next-preserved : goal.loop-next-preserved
loop-next-preserved g c = record {
  over = c.in_default.ensures.turns.over;
  passes = passes-after c.args.self.now c.loop-next.self c.turn.new.self c.loop-next.invariant.passes c.in_default.ensures.turns.passes;
  counts = record { last = c.in_default.ensures.turns.counts.last ∙ c.loop-next.invariant.counts.last; given = c.in_default.ensures.turns.counts.given ∙ c.loop-next.invariant.counts.given };
  hand = λ h. let k = c.loop-next.invariant.hand h in let t = c.in_default.ensures.at_hand k.1 in (t.0 ∙ k.0, t.1);
  asked = c.turn.ensures.turns.asked ∙ c.loop-next.invariant.asked;
  kept = c.turn.ensures.turns.kept ∙ c.loop-next.invariant.kept;
  faults = omega (arith, c.loop-next.invariant.faults, c.turn.ensures.turns.faults);
}

pub returns-in-Some-clause-takes : goal.returns-in-Some-clause-takes
returns-in-Some-clause-takes g c = takes_after c.args.self.now c.loop-next.self c.turn.new.self c.in-Some.next c.loop-next.invariant.passes c.in-Some.ensures.turns.takes

pub returns-in-Some-clause-told : goal.returns-in-Some-clause-told
returns-in-Some-clause-told g c =
    let on : c.args.self.now.over ≡ false = ap (λ (v : ReaderView). v.over) (sym c.self.view_is) ∙ c.if-self.false in
    takes-told c.args.self.now c.turn.new.self c.in-Some.next on (takes_after c.args.self.now c.loop-next.self c.turn.new.self c.in-Some.next c.loop-next.invariant.passes c.in-Some.ensures.turns.takes) c.in-Some.ensures.turns.last
