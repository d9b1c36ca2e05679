use Rattle.papi_tools.proofs.Words.{◌≡◌, [], ap, arith, refl, rules, drop_all, All-push, tape_of, IsFresh, IsUnread}
use Rattle.papi_tools.proofs.HoldingLemmas.{both_held, one_opened, same_held}
use Rattle.papi_tools.proofs.OpeningLemmas.{all_open, more_at, start, stopped_at, unread}
use Rattle.papi_tools.proofs.StreamLemmas.{no_items, sources_in-append}
use Rattle.papi_tools.proofs.streams.open_into.Goals as goal

pub loop-name-init : goal.loop-name-init
loop-name-init g c =
    let none : c.args.readers.now.items ≡ [] = no_items c.args.readers.now c.requires.none in
    record {
      found = rw none (start _ _);
      unread = rw none (λ k d small. absurd (omega arith));
      each = c.requires.none;
      room = refl;
      fresh = rw none (λ k d small. absurd (omega arith));
      lent = rw none (omega arith);
      held = same_held _ _ refl;
      misses_stay = omega arith;
      faults_stay = omega arith;
    }

pub returns-in-Err-clause-found : goal.returns-in-Err-clause-found
returns-in-Err-clause-found g c =
    stopped_at _ _ c.args.names.now c.loop-name.name-index c.name-item.result c.as_str.result.now _ _ c.loop-name-test.true c.name-item.is c.as_str.ensures c.loop-name.invariant.found c.in-Err.ensures.found

pub loop-name-preserved : goal.loop-name-preserved
loop-name-preserved g c = record {
  found = rw c.push_reserved.ensures.items (more_at g.F.S.Source.tape c.in-Ok.source _ _ _ c.args.names.now c.loop-name.name-index c.name-item.result c.as_str.result.now _ _ c.loop-name-test.true c.name-item.is c.as_str.ensures c.loop-name.invariant.found c.in-Ok.ensures.found (ap tape_of c.new.ensures.view));
  unread = rw c.push_reserved.ensures.items (All-push IsUnread _ _ c.loop-name.invariant.unread (unread _ _ c.new.ensures.view));
  each = grind arith;
  room = grind arith;
  fresh = rw c.push_reserved.ensures.items (All-push IsFresh _ _ c.loop-name.invariant.fresh (search rules));
  lent = rw (c.push_reserved.ensures.items, sources_in-append, c.new.ensures.view) (let h = c.in-Ok.ensures.looked.lent in omega arith);
  held = both_held _ _ _ c.loop-name.invariant.held (one_opened _ _ c.in-Ok.ensures.held);
  misses_stay = let h = c.in-Ok.ensures.looked.misses_stay in omega arith;
  faults_stay = let h = c.in-Ok.ensures.looked.faults_stay in omega arith;
}

pub returns-clause-found : goal.returns-clause-found
returns-clause-found g c = all_open _ _ c.args.names.now _ _ (drop_all c.loop-name.name-index c.args.names.now (omega arith)) c.loop-name.invariant.found

pub returns-in-Err-clause-held : goal.returns-in-Err-clause-held
returns-in-Err-clause-held g c = both_held _ _ _ c.loop-name.invariant.held (one_opened _ _ c.in-Err.ensures.held)
