use Rattle.thread_registry.proofs.Words.{arith, subst, ◌∙◌, ◌-◌, ◌+◌, ◌≡◌, ◌<◌, ◌∷◌, [], drop, length, map, vec_len, nat_tests, take_all, length-map}
use Rattle.thread_registry.proofs.Words.{Widths, IsOpenedForCalls, IsFresh, before, befores_of, AreWorks, IsWork, calls_of}
use Rattle.thread_registry.proofs.Ends.{drop-cut, front-cut, last-cut, map-at}
use Rattle.thread_registry.proofs.Lent.{before-drop, befores-few, jobs-more, none-yet, work-found}
use Rattle.thread_registry.proofs.Lists.{all-empty, all-more}
use Rattle.thread_registry.proofs.runner.lending.take_out.Goals as goal

pub loop-taken-init : goal.loop-taken-init
loop-taken-init g c = grind (arith, nat_tests, befores-few, take_all, all-empty, none-yet)

pub loop-taken-preserved : goal.loop-taken-preserved
loop-taken-preserved g c =
    let inv = c.loop-taken.invariant in
    let m = vec_len c.args.handlers.now - c.loop-taken._taken in
    let n = vec_len c.args.handlers.now - (c.loop-taken._taken + 1) in
    let handlers = c.args.handlers.now.items in
    let readers = c.args.readers.now.items in
    let works = c.args.works.now.items in
    let handler = c.take_last-handler.result in
    let reader = c.take_last-reader.result in
    let work = c.take_last-work.result in
    let one : m ≡ n + 1 = omega arith in
    let few : n < length readers = omega (arith, c.requires.readers, c.args.readers.now.ok.0) in
    let found : (shape : Widths) → AreWorks shape works → IsWork shape n work =
    λ shape all. work-found shape works n work (drop m works) all (drop-cut _ _ _ _ _ _ inv.works c.take_last-work.ensures.items one (omega (arith, c.requires.works, c.args.works.now.ok.0))) in
    let notes = map (λ b. (goal.Handler-dyn g (b.vtable, b.value)).notes b.value) handlers in
    let told = (goal.Handler-dyn g (handler.vtable, handler.value)).notes handler.value in
    let cut : (shape : Widths) → drop n (befores_of shape readers notes works) ≡ before shape n reader told (calls_of work) ∷ drop m (befores_of shape readers notes works) =
    λ shape. before-drop shape readers notes (map calls_of works) n m reader told (calls_of work) few
    (omega (arith, length-map handlers (λ b. (goal.Handler-dyn g (b.vtable, b.value)).notes b.value), c.requires.readers, c.args.readers.now.ok.0, c.args.handlers.now.ok.0))
    (omega (arith, length-map works calls_of, c.requires.readers, c.requires.works, c.args.readers.now.ok.0, c.args.works.now.ok.0)) one
    (last-cut _ _ _ _ _ _ inv.readers c.take_last-reader.ensures.items one (omega (arith, c.requires.readers, c.args.readers.now.ok.0)) reader)
    (map-at _ handlers n handler [] (omega (arith, c.args.handlers.now.ok.0)) (last-cut _ _ _ _ _ _ inv.handlers c.take_last-handler.ensures.items one (omega (arith, c.args.handlers.now.ok.0)) handler))
    (map-at calls_of works n work [] (omega (arith, c.requires.works, c.args.works.now.ok.0)) (last-cut _ _ _ _ _ _ inv.works c.take_last-work.ensures.items one (omega (arith, c.requires.works, c.args.works.now.ok.0)) work)) in
    record {
      handlers_len = omega arith;
      readers_len = omega arith;
      works_len = omega arith;
      jobs_len = omega (arith, c.push_reserved.ensures.len, inv.jobs_len);
      room = c.push_reserved.ensures.capacity ∙ inv.room;
      capacity = c.take_last-handler.ensures.capacity ∙ inv.capacity;
      reader_capacity = c.take_last-reader.ensures.capacity ∙ inv.reader_capacity;
      handlers = front-cut _ _ _ _ _ _ inv.handlers c.take_last-handler.ensures.items one (omega (arith, c.args.handlers.now.ok.0));
      readers = front-cut _ _ _ _ _ _ inv.readers c.take_last-reader.ensures.items one (omega (arith, c.requires.readers, c.args.readers.now.ok.0));
      works = front-cut _ _ _ _ _ _ inv.works c.take_last-work.ensures.items one (omega (arith, c.requires.works, c.args.works.now.ok.0));
      opened = all-more (λ j. IsOpenedForCalls j.session j.calls.items) _ _ _ c.push_reserved.ensures.items inv.opened c.lend.ensures.opened;
      jobs = λ shape all. jobs-more _ _ _ _ _ _ m n (inv.jobs shape all) c.push_reserved.ensures.items (c.lend.ensures.job shape n (found shape all)) (cut shape);
    }

pub lend-requires-clause-work : goal.lend-requires-clause-work
lend-requires-clause-work g c =
    let m = vec_len c.args.handlers.now - c.loop-taken._taken in
    let n = vec_len c.args.handlers.now - (c.loop-taken._taken + 1) in
    let works = c.args.works.now.items in
    let work = c.take_last-work.result in
    let one : m ≡ n + 1 = omega arith in
    let cut = drop-cut works _ _ work m n c.loop-taken.invariant.works c.take_last-work.ensures.items one (omega (arith, c.requires.works, c.args.works.now.ok.0)) in
    (c.requires.shaped.0, (n, work-found c.requires.shaped.0 works n work (drop m works) c.requires.shaped.1 cut))

pub lend-requires-clause-fresh : goal.lend-requires-clause-fresh
lend-requires-clause-fresh g c =
    let m = vec_len c.args.handlers.now - c.loop-taken._taken in
    let n = vec_len c.args.handlers.now - (c.loop-taken._taken + 1) in
    let readers = c.args.readers.now.items in
    let reader = c.take_last-reader.result in
    let one : m ≡ n + 1 = omega arith in
    let last = last-cut readers _ _ reader m n c.loop-taken.invariant.readers c.take_last-reader.ensures.items one (omega (arith, c.requires.readers, c.args.readers.now.ok.0)) reader in
    subst IsFresh last (c.requires.fresh n reader (omega (arith, c.requires.readers, c.args.readers.now.ok.0)))

pub returns-clause-jobs : goal.returns-clause-jobs
returns-clause-jobs g c = λ shape all. let none : vec_len c.args.handlers.now - c.loop-taken._taken ≡ 0 = omega arith in rw none at (c.loop-taken.invariant.jobs shape all)
