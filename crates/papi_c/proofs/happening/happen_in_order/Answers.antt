use Rattle.std.proofs.Common.{arith, refl, subst}
use Rattle.papi_c.proofs.HandedInOrder.{none_handed, handed_more, handed_all, handed_loud}
use Rattle.papi_c.specs.Happened.{HasHappened}
use Rattle.papi_c.specs.declared.happening.Occurrences.{Occurrences}
use Rattle.thread_session.specs.declared.happening.Happening.{Happening}
use Rattle.papi_c.proofs.happening.happen_in_order.Goals as goal

abbrev nothing : Occurrences
nothing = record { address = 0; amount = 0; component = 0; select = 0; umask = 0; kernel = 0 }

pub loop-i-init : goal.loop-i-init
loop-i-init c = record { so_far = none_handed c.args.library.now c.args.what.now c.args.out.now; out = refl }

pub returns-then-not-is_quiet : goal.returns-then-not-is_quiet
returns-then-not-is_quiet c =
    let went = subst (λ (h : Happening). HasHappened c.loop-i.library c.happen_over-happened.new.library h c.happen_over-happened.result c.loop-i.out c.happen_over-happened.new.out)
    c.happening_of-happening.ensures c.happen_over-happened.ensures.went in
    record {
      went = handed_loud c.args.library.now c.loop-i.library c.happen_over-happened.new.library c.args.what.now c.loop-i.what c.loop-i.i nothing
          c.happen_over-happened.result c.args.out.now c.loop-i.out c.happen_over-happened.new.out
          (omega (arith, c.loop-i-test.true, c.loop-i.auto.what, c.loop-i.auto.i-end)) c.loop-i.invariant.out c.loop-i.invariant.so_far went (c.is_quiet.ensures.loud c.if-not-is_quiet.true);
    }

pub loop-i-preserved : goal.loop-i-preserved
loop-i-preserved c =
    let went = subst (λ (h : Happening). HasHappened c.loop-i.library c.happen_over-happened.new.library h c.happen_over-happened.result c.loop-i.out c.happen_over-happened.new.out)
    c.happening_of-happening.ensures c.happen_over-happened.ensures.went in
    let more = handed_more c.args.library.now c.loop-i.library c.happen_over-happened.new.library c.args.what.now c.loop-i.what c.loop-i.i nothing
    c.happen_over-happened.result c.args.out.now c.loop-i.out c.happen_over-happened.new.out
    (omega (arith, c.loop-i-test.true, c.loop-i.auto.what, c.loop-i.auto.i-end)) c.loop-i.invariant.out c.loop-i.invariant.so_far went (c.is_quiet.ensures.quiet c.if-not-is_quiet.false) in
    record { so_far = more.0; out = more.1 }

pub returns : goal.returns
returns c = record {
  went = handed_all c.args.library.now c.loop-i.library c.args.what.now c.loop-i.what c.loop-i.i _ c.args.out.now c.loop-i.out
      (omega (arith, c.loop-i-test.false, c.loop-i.auto.what, c.loop-i.auto.i-end)) c.loop-i.invariant.out c.loop-i.invariant.so_far (refl, refl);
}
