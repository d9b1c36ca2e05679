use Rattle.thread_session.proofs.Words.{arith, refl, ap, sym, ◌∙◌, subst, [], drop, take, ◌≡◌, ◌+◌, ◌<◌, length, Bad, Dry, Fault, SessionView}
use Rattle.thread_session.proofs.Endings.{run_short, run_whole, towards_short, towards_whole}
use Rattle.thread_session.proofs.Rooms.{later_rest, of_all}
use Rattle.thread_session.proofs.Runs.{at_start, one_more}
use Rattle.thread_session.proofs.session.Session.run_into.Goals as goal

pub loop-consumed-init : goal.loop-consumed-init
loop-consumed-init g c = record {
  most = omega arith;
  going = refl;
  open_yet = refl;
  own = c.thread-thread.ensures ∙ ap (λ (v : SessionView). v.core.thread) c.self.view_is;
  size = refl;
  room = omega arith;
  rest = refl;
  running = at_start [] c.self.view_is c.requires.ready c.self.invariant;
}

pub place-requires : goal.place-requires
place-requires g c = record { room = omega (arith, c.loop-consumed.invariant.room, c.if-out-notes-lt-MOST_PASSED.false, c.len-passed.ensures.short) }

pub loop-consumed-preserved : goal.loop-consumed-preserved
loop-consumed-preserved g c =
    let inv = c.loop-consumed.invariant in
    let so_many = c.len-passed.ensures.length in
    let notes = c.loop-consumed.notes in
    let same : notes + c.len-passed.result ≡ notes + length c.take-taken.result.passed = ap (λ k. notes + k) so_many in
    record {
      most = omega (arith, c.loop-consumed-test.true);
      going = inv.going;
      open_yet = inv.open_yet;
      own = inv.own;
      size = c.place.ensures.length ∙ inv.size;
      room = omega (arith, inv.room, c.if-out-notes-lt-MOST_PASSED.false, c.len-passed.ensures.short, so_many, c.place.ensures.length);
      rest = subst (λ k. drop k c.place.new.out ≡ drop k c.args.out.now) (sym same) (c.place.ensures.rest ∙ later_rest c.loop-consumed.out c.args.out.now notes (length c.take-taken.result.passed) inv.rest);
      running = one_more c.take-taken.result.set c.take-taken.result.passed inv.own so_many (ap (λ k. take k c.place.new.out) same ∙ c.place.ensures.written)
          c.take-taken.ensures.shape c.take-taken.ensures.agrees c.take-taken.ensures.taken c.take-taken.ensures.last c.take-taken.ensures.stands c.take-taken.ensures.notes
          c.in-Occ.ensures.within.few c.in-Occ.ensures.counts c.in-Occ.ensures.kept c.in-Occ.ensures.faults c.in-Occ.ensures.told c.in-Occ.ensures.takes (λ over. (c.in-Occ.ensures.ended over).0) inv.running;
    }

pub returns-after-loop-consumed-clause-follows : goal.returns-after-loop-consumed-clause-follows
returns-after-loop-consumed-clause-follows g c =
    run_whole _ _ _ _ _ _ _ _ _ _ (omega (arith, c.loop-consumed-test.false, c.loop-consumed.invariant.most) ∙ of_all c.loop-consumed.full c.args.n c.loop-consumed.consumed c.loop-consumed.invariant.open_yet) c.loop-consumed.invariant.going c.loop-consumed.invariant.running

pub returns-then-out-notes-lt-MOST_PASSED-clause-follows : goal.returns-then-out-notes-lt-MOST_PASSED-clause-follows
returns-then-out-notes-lt-MOST_PASSED-clause-follows g c = run_whole _ _ _ _ _ _ _ _ _ _ refl c.loop-consumed.invariant.going c.loop-consumed.invariant.running

pub returns-in-End-clause-follows : goal.returns-in-End-clause-follows
returns-in-End-clause-follows g c =
    run_short _ _ _ _ _ _ _ _ _ _ Dry _ (subst (λ m. c.loop-consumed.consumed < m) (of_all c.loop-consumed.full c.args.n c.loop-consumed.consumed c.loop-consumed.invariant.open_yet) c.loop-consumed-test.true) c.loop-consumed.invariant.going c.in-End.ensures.told c.loop-consumed.invariant.running

pub returns-in-Bad-clause-follows : goal.returns-in-Bad-clause-follows
returns-in-Bad-clause-follows g c =
    run_short _ _ _ _ _ _ _ _ _ _ (Bad c.in-Bad.line c.in-Bad.cause) _ (subst (λ m. c.loop-consumed.consumed < m) (of_all c.loop-consumed.full c.args.n c.loop-consumed.consumed c.loop-consumed.invariant.open_yet) c.loop-consumed-test.true) refl c.in-Bad.ensures.told c.loop-consumed.invariant.running

pub returns-in-ReadFault-clause-follows : goal.returns-in-ReadFault-clause-follows
returns-in-ReadFault-clause-follows g c =
    run_short _ _ _ _ _ _ _ _ _ _ Fault _ (subst (λ m. c.loop-consumed.consumed < m) (of_all c.loop-consumed.full c.args.n c.loop-consumed.consumed c.loop-consumed.invariant.open_yet) c.loop-consumed-test.true) refl c.in-ReadFault.ensures.told c.loop-consumed.invariant.running

-- ---- if it is not told

pub returns-after-loop-consumed-clause-towards : goal.returns-after-loop-consumed-clause-towards
returns-after-loop-consumed-clause-towards g c left h =
    towards_whole _ _ _ _ _ _ _ _ _ _ (omega (arith, c.loop-consumed-test.false, c.loop-consumed.invariant.most) ∙ of_all c.loop-consumed.full c.args.n c.loop-consumed.consumed c.loop-consumed.invariant.open_yet) c.loop-consumed.invariant.going c.loop-consumed.invariant.running left h

pub returns-then-out-notes-lt-MOST_PASSED-clause-towards : goal.returns-then-out-notes-lt-MOST_PASSED-clause-towards
returns-then-out-notes-lt-MOST_PASSED-clause-towards g c left h = towards_whole _ _ _ _ _ _ _ _ _ _ refl c.loop-consumed.invariant.going c.loop-consumed.invariant.running left h

pub returns-in-End-clause-towards : goal.returns-in-End-clause-towards
returns-in-End-clause-towards g c left h =
    towards_short _ _ _ _ _ _ _ _ _ _ Dry _ (subst (λ m. c.loop-consumed.consumed < m) (of_all c.loop-consumed.full c.args.n c.loop-consumed.consumed c.loop-consumed.invariant.open_yet) c.loop-consumed-test.true) c.loop-consumed.invariant.going c.in-End.ensures.takes (c.in-End.ensures.over refl) c.loop-consumed.invariant.running left h

pub returns-in-Bad-clause-towards : goal.returns-in-Bad-clause-towards
returns-in-Bad-clause-towards g c left h =
    towards_short _ _ _ _ _ _ _ _ _ _ (Bad c.in-Bad.line c.in-Bad.cause) _ (subst (λ m. c.loop-consumed.consumed < m) (of_all c.loop-consumed.full c.args.n c.loop-consumed.consumed c.loop-consumed.invariant.open_yet) c.loop-consumed-test.true) refl c.in-Bad.ensures.takes (c.in-Bad.ensures.over refl) c.loop-consumed.invariant.running left h

pub returns-in-ReadFault-clause-towards : goal.returns-in-ReadFault-clause-towards
returns-in-ReadFault-clause-towards g c left h =
    towards_short _ _ _ _ _ _ _ _ _ _ Fault _ (subst (λ m. c.loop-consumed.consumed < m) (of_all c.loop-consumed.full c.args.n c.loop-consumed.consumed c.loop-consumed.invariant.open_yet) c.loop-consumed-test.true) refl c.in-ReadFault.ensures.takes (c.in-ReadFault.ensures.over refl) c.loop-consumed.invariant.running left h
