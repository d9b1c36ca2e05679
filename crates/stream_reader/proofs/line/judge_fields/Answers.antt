use Rattle.stream_reader.proofs.Words.{◌≡◌, ◌∙◌, sym, ap, refl, true, false, Bad, Occurs, is_next_stamp, occurrence_judged}
use Rattle.papi_base.specs.declared.occurrence.LineCause.TheVariants as cause
use Rattle.stream_reader.proofs.Judging.{judged-some, judged-none}
use Rattle.stream_reader.proofs.line.judge_fields.Goals as goal

pub returns-in-Some : goal.returns-in-Some
returns-in-Some c =
    let next : is_next_stamp c.args.start.now c.in-Some.o.stamp ≡ false = sym c.if-not-is_next_stamp.ensures in
    let judged : occurrence_judged c.args.start.now c.in-Some.o ≡ Bad cause.Stamp = rw next refl in
    sym (judged-some c.args.start.now c.args.text.now c.in-Some.o c.in-Some.ensures ∙ judged)

pub returns-in-Some-2 : goal.returns-in-Some-2
returns-in-Some-2 c =
    let next : is_next_stamp c.args.start.now c.in-Some.o.stamp ≡ true = sym c.if-not-is_next_stamp.ensures in
    let judged : occurrence_judged c.args.start.now c.in-Some.o ≡ Occurs c.in-Some.o = rw next refl in
    sym (judged-some c.args.start.now c.args.text.now c.in-Some.o c.in-Some.ensures ∙ judged)

pub returns-in-None : goal.returns-in-None
returns-in-None c = ap Bad c.cause_of.ensures ∙ sym (judged-none c.args.start.now c.args.text.now c.in-None.ensures)
