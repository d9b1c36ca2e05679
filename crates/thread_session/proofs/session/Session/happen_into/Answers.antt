use Rattle.thread_session.proofs.Words.{arith, refl, ap, ◌∙◌, ◌≡◌, ◌+◌, ◌-◌, sym, subst, drop, take, length, time_after, SessionView, Occ, Option}
use Rattle.thread_session.proofs.HandedOver.{happened, happened_not, of_what_is_left, stamp_is, taken_first, taken_next}
use Rattle.thread_session.proofs.Rooms.{later_rest}
use Rattle.thread_session.proofs.session.Session.happen_into.Goals as goal

pub returns-then-not-is_over-clause-happens : goal.returns-then-not-is_over-clause-happens
returns-then-not-is_over-clause-happens g c = happened_not _ _ _ c.requires.ready

pub loop-went-init : goal.loop-went-init
loop-went-init g c = record {
  own = c.thread-thread.ensures ∙ ap (λ (v : SessionView). v.core.thread) c.self.view_is;
  over = sym c.is_over.ensures ∙ c.if-not-is_over.false;
  reader = ap (λ (v : SessionView). v.reader) c.self.view_is;
  few = c.self.invariant.few;
  most = omega arith;
  even = λ some. refl;
  time = λ some. (let same = ap (λ (v : SessionView). time_after v.core.last) c.self.view_is in omega (arith, same));
  size = refl;
  room = omega arith;
  rest = refl;
  taken = taken_first c.args.what.now c.self.view_is c.requires.ready;
}

pub returns-then-out-notes-lt-MOST_PASSED-clause-happens : goal.returns-then-out-notes-lt-MOST_PASSED-clause-happens
returns-then-out-notes-lt-MOST_PASSED-clause-happens g c = happened _ _ _ _ _ _ _ c.loop-went.invariant.reader c.loop-went.invariant.taken

pub returns-in_default-clause-happens : goal.returns-in_default-clause-happens
returns-in_default-clause-happens g c = happened _ _ _ _ _ _ _ c.loop-went.invariant.reader c.loop-went.invariant.taken

pub loop-went-preserved : goal.loop-went-preserved
loop-went-preserved g c =
    let inv = c.loop-went.invariant in
    let left = c.args.what.now.amount - c.loop-went.went in
    let less = c.loop-went-test.true in
    let stamped = stamp_is c.loop-went.self-inside.core c.in-Some.stamp c.in-Some.ensures in
    let much = c.from-went.ensures ∙ ap (λ (o : Occ). o.amount) c.occurrence-o.ensures in
    let part = of_what_is_left left c.from-went.result much in
    let even = inv.even less in
    let so_many = c.len-passed.ensures.length in
    let notes = c.loop-went.notes in
    let same : notes + c.len-passed.result ≡ notes + length c.take-taken.result.passed = ap (λ k. notes + k) so_many in
    let later = ap time_after c.take-taken.ensures.last in
    let at = ap (λ (o : Occ). o.stamp) c.occurrence-o.ensures in
    record {
      own = inv.own;
      over = inv.over;
      reader = inv.reader;
      few = omega (arith, c.take-taken.ensures.taken, stamped.0);
      most = omega (arith, part.0, less);
      even = λ more. (let full = part.1 (omega (arith, more, less)) in omega (arith, full, even));
      time = λ more. (let full = part.1 (omega (arith, more, less)) in omega (arith, full, even, later, at, stamped.1, inv.time less));
      size = c.place.ensures.length ∙ inv.size;
      room = omega (arith, inv.room, c.if-out-notes-lt-MOST_PASSED.false, c.len-passed.ensures.short, so_many, c.place.ensures.length);
      rest = subst (λ k. drop k c.place.new.out ≡ drop k c.args.out.now) (sym same) (c.place.ensures.rest ∙ later_rest c.loop-went.out c.args.out.now notes (length c.take-taken.result.passed) inv.rest);
      taken = taken_next c.args.what.now c.loop-went.went c.take-taken.result.set c.take-taken.result.passed c.occurrence-o.ensures c.from-went.ensures (omega (arith, less)) even stamped.1 (inv.time less)
          inv.own (ap (λ k. take k c.place.new.out) same ∙ c.place.ensures.written) c.take-taken.ensures.shape c.take-taken.ensures.agrees c.take-taken.ensures.stands c.take-taken.ensures.notes inv.taken;
    }

pub returns-clause-happens : goal.returns-clause-happens
returns-clause-happens g c = happened _ _ _ _ _ _ _ c.loop-went.invariant.reader c.loop-went.invariant.taken
