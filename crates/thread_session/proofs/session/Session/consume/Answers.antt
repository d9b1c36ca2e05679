use Rattle.thread_session.proofs.Words.{arith, refl, ap, ◌∙◌, length, Bad, Dry, Fault, ReaderView, SessionView}
use Rattle.thread_session.proofs.Cuts.{cut_at}
use Rattle.thread_session.proofs.Endings.{run_short, run_whole, towards_short, towards_whole}
use Rattle.thread_session.proofs.PassedOver.{kept_source, not_over, passed_over, same_faults}
use Rattle.thread_session.proofs.Results.{on_err}
use Rattle.thread_session.proofs.Runs.{at_start, one_more, stays_in_step}
use Rattle.thread_session.proofs.session.Session.consume.Goals as goal

pub loop-consumed-init : goal.loop-consumed-init
loop-consumed-init g c = record {
  most = omega arith;
  few = omega arith;
  going = refl;
  own = c.thread-thread.ensures ∙ ap (λ (v : SessionView). v.core.thread) c.self.view_is;
  running = at_start _ c.self.view_is c.requires.ready c.self.invariant;
}

pub loop-consumed-preserved : goal.loop-consumed-preserved
loop-consumed-preserved g c =
    let inv = c.loop-consumed.invariant in
    record {
      most = omega (arith, c.loop-consumed-test.true);
      few = omega (arith, inv.few, c.from-notes-in-Occ.ensures, c.len-in-Occ.ensures.length, c.len-in-Occ.ensures.short);
      going = inv.going;
      own = inv.own;
      running = one_more c.take-taken-in-Occ.result.set c.take-taken-in-Occ.result.passed inv.own (c.from-notes-in-Occ.ensures ∙ c.len-in-Occ.ensures.length) c.in_ok-deliver-in-Occ.ensures.whole
          c.take-taken-in-Occ.ensures.shape c.take-taken-in-Occ.ensures.agrees c.take-taken-in-Occ.ensures.taken c.take-taken-in-Occ.ensures.last c.take-taken-in-Occ.ensures.stands c.take-taken-in-Occ.ensures.notes
          c.in-Occ.ensures.within.few c.in-Occ.ensures.counts c.in-Occ.ensures.kept c.in-Occ.ensures.faults c.in-Occ.ensures.told c.in-Occ.ensures.takes (λ over. (c.in-Occ.ensures.ended over).0) (passed_over c.in_default.ensures.none c.pass_skipped.ensures.coming c.pass_skipped.ensures.told_or_not c.pass_skipped.ensures.counts c.pass_skipped.ensures.over c.pass_skipped.ensures.source inv.running);
    }

pub returns-in_err-deliver-in-Occ-clause-cut : goal.returns-in_err-deliver-in-Occ-clause-cut
returns-in_err-deliver-in-Occ-clause-cut g c = on_err c.from_residual-in_err-deliver-in-Occ.result (cut_at c.take-taken-in-Occ.result.set c.take-taken-in-Occ.result.passed c.loop-consumed-test.true c.loop-consumed.invariant.own
    c.take-taken-in-Occ.ensures.stands c.take-taken-in-Occ.ensures.notes c.in-Occ.ensures.told c.in-Occ.ensures.takes c.in_err-deliver-in-Occ.ensures.part (passed_over c.in_default.ensures.none c.pass_skipped.ensures.coming c.pass_skipped.ensures.told_or_not c.pass_skipped.ensures.counts c.pass_skipped.ensures.over c.pass_skipped.ensures.source c.loop-consumed.invariant.running))

pub returns-after-loop-consumed-clause-follows : goal.returns-after-loop-consumed-clause-follows
returns-after-loop-consumed-clause-follows g c = run_whole _ _ _ _ _ _ _ _ _ _ (omega (arith, c.loop-consumed-test.false, c.loop-consumed.invariant.most)) c.loop-consumed.invariant.going c.loop-consumed.invariant.running

pub returns-in-End-clause-follows : goal.returns-in-End-clause-follows
returns-in-End-clause-follows g c = run_short _ _ _ _ _ _ _ _ _ _ Dry _ c.loop-consumed-test.true c.loop-consumed.invariant.going c.in-End.ensures.told (passed_over c.in_default.ensures.none c.pass_skipped.ensures.coming c.pass_skipped.ensures.told_or_not c.pass_skipped.ensures.counts c.pass_skipped.ensures.over c.pass_skipped.ensures.source c.loop-consumed.invariant.running)

pub returns-in-Bad-clause-follows : goal.returns-in-Bad-clause-follows
returns-in-Bad-clause-follows g c = run_short _ _ _ _ _ _ _ _ _ _ (Bad c.in-Bad.line c.in-Bad.cause) _ c.loop-consumed-test.true refl c.in-Bad.ensures.told (passed_over c.in_default.ensures.none c.pass_skipped.ensures.coming c.pass_skipped.ensures.told_or_not c.pass_skipped.ensures.counts c.pass_skipped.ensures.over c.pass_skipped.ensures.source c.loop-consumed.invariant.running)

pub returns-in-ReadFault-clause-follows : goal.returns-in-ReadFault-clause-follows
returns-in-ReadFault-clause-follows g c = run_short _ _ _ _ _ _ _ _ _ _ Fault _ c.loop-consumed-test.true refl c.in-ReadFault.ensures.told (passed_over c.in_default.ensures.none c.pass_skipped.ensures.coming c.pass_skipped.ensures.told_or_not c.pass_skipped.ensures.counts c.pass_skipped.ensures.over c.pass_skipped.ensures.source c.loop-consumed.invariant.running)

pub returns-after-loop-consumed-clause-towards : goal.returns-after-loop-consumed-clause-towards
returns-after-loop-consumed-clause-towards g c left h =
    towards_whole _ _ _ _ _ _ _ _ _ _ (omega (arith, c.loop-consumed-test.false, c.loop-consumed.invariant.most)) c.loop-consumed.invariant.going c.loop-consumed.invariant.running left h

pub returns-in-End-clause-towards : goal.returns-in-End-clause-towards
returns-in-End-clause-towards g c left h =
    towards_short _ _ _ _ _ _ _ _ _ _ Dry _ c.loop-consumed-test.true c.loop-consumed.invariant.going c.in-End.ensures.takes (c.in-End.ensures.over refl) (passed_over c.in_default.ensures.none c.pass_skipped.ensures.coming c.pass_skipped.ensures.told_or_not c.pass_skipped.ensures.counts c.pass_skipped.ensures.over c.pass_skipped.ensures.source c.loop-consumed.invariant.running) left h

pub returns-in-Bad-clause-towards : goal.returns-in-Bad-clause-towards
returns-in-Bad-clause-towards g c left h =
    towards_short _ _ _ _ _ _ _ _ _ _ (Bad c.in-Bad.line c.in-Bad.cause) _ c.loop-consumed-test.true refl c.in-Bad.ensures.takes (c.in-Bad.ensures.over refl) (passed_over c.in_default.ensures.none c.pass_skipped.ensures.coming c.pass_skipped.ensures.told_or_not c.pass_skipped.ensures.counts c.pass_skipped.ensures.over c.pass_skipped.ensures.source c.loop-consumed.invariant.running) left h

pub returns-in-ReadFault-clause-towards : goal.returns-in-ReadFault-clause-towards
returns-in-ReadFault-clause-towards g c left h =
    towards_short _ _ _ _ _ _ _ _ _ _ Fault _ c.loop-consumed-test.true refl c.in-ReadFault.ensures.takes (c.in-ReadFault.ensures.over refl) (passed_over c.in_default.ensures.none c.pass_skipped.ensures.coming c.pass_skipped.ensures.told_or_not c.pass_skipped.ensures.counts c.pass_skipped.ensures.over c.pass_skipped.ensures.source c.loop-consumed.invariant.running) left h

pub invariant_of-self-in_err-deliver-in-Occ : goal.invariant_of-self-in_err-deliver-in-Occ
invariant_of-self-in_err-deliver-in-Occ g c = stays_in_step _ _ _ _ _ c.take-taken-in-Occ.ensures.taken c.take-taken-in-Occ.ensures.last c.in-Occ.ensures.within.few c.in-Occ.ensures.counts
    (λ over. (c.in-Occ.ensures.ended over).0) (passed_over c.in_default.ensures.none c.pass_skipped.ensures.coming c.pass_skipped.ensures.told_or_not c.pass_skipped.ensures.counts c.pass_skipped.ensures.over c.pass_skipped.ensures.source c.loop-consumed.invariant.running).in_step

-- ---- a line of the common form

pub loop-consumed-preserved-in-Some : goal.loop-consumed-preserved-in-Some
loop-consumed-preserved-in-Some g c =
    let inv = c.loop-consumed.invariant in
    record {
      most = omega (arith, c.loop-consumed-test.true);
      few = omega (arith, inv.few, c.from-notes.ensures, c.len.ensures.length, c.len.ensures.short);
      going = inv.going;
      own = inv.own;
      running = one_more c.take-taken.result.set c.take-taken.result.passed inv.own (c.from-notes.ensures ∙ c.len.ensures.length) c.in_ok-deliver.ensures.whole
          c.take-taken.ensures.shape c.take-taken.ensures.agrees c.take-taken.ensures.taken c.take-taken.ensures.last c.take-taken.ensures.stands c.take-taken.ensures.notes
          c.in-Some.ensures.within.few c.in-Some.ensures.counts (kept_source _ _ c.in-Some.ensures.source) (same_faults _ _ c.in-Some.ensures.source) c.in-Some.ensures.told c.in-Some.ensures.takes (not_over _ _ c.in-Some.ensures.ended) inv.running;
    }

pub returns-in_err-deliver-clause-cut : goal.returns-in_err-deliver-clause-cut
returns-in_err-deliver-clause-cut g c = on_err c.from_residual.result (cut_at c.take-taken.result.set c.take-taken.result.passed c.loop-consumed-test.true c.loop-consumed.invariant.own
    c.take-taken.ensures.stands c.take-taken.ensures.notes c.in-Some.ensures.told c.in-Some.ensures.takes c.in_err-deliver.ensures.part c.loop-consumed.invariant.running)

-- ---- a line that is passed over

pub loop-consumed-preserved-then-pass_skipped : goal.loop-consumed-preserved-then-pass_skipped
loop-consumed-preserved-then-pass_skipped g c =
    let inv = c.loop-consumed.invariant in
    record { most = inv.most; few = inv.few; going = inv.going; own = inv.own; running = passed_over c.in_default.ensures.none c.pass_skipped.ensures.coming c.pass_skipped.ensures.told_or_not c.pass_skipped.ensures.counts c.pass_skipped.ensures.over c.pass_skipped.ensures.source inv.running }

pub loop-consumed-smaller-then-pass_skipped : goal.loop-consumed-smaller-then-pass_skipped
loop-consumed-smaller-then-pass_skipped g c =
    let same = ap (λ (v : ReaderView). length v.held) c.in_default.ensures.none in
    let fewer = c.pass_skipped.ensures.fewer c.if-pass_skipped.true in
    omega (arith, same, fewer)
