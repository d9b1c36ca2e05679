use Rattle.thread_registry.proofs.Words.{arith, refl, map, ◌∙◌, nat_tests, length-map}
use Rattle.thread_registry.proofs.Scripts.{lines-threads}
use Rattle.thread_registry.proofs.Served.{are-served, can-work}
use Rattle.thread_registry.proofs.Worlds.{counts-all}
use Rattle.thread_registry.proofs.runner.run.run_prepared.Goals as goal

pub run_jobs-requires-clause-shaped : goal.run_jobs-requires-clause-shaped
run_jobs-requires-clause-shaped g c κs within =
    let w = c.requires.works in
    (w.0, w.1, can-work c.args.book.now w.0 c.args.plan.now c.args.readers.now.items _ c.args.prepared.works.items (omega (arith, c.requires.len, c.args.prepared.works.ok.0)) c.requires.dealt w.1 w.2 w.3)

pub returns-then-run_jobs-clause-served : goal.returns-then-run_jobs-clause-served
returns-then-run_jobs-clause-served g c = λ shape all fits.
    let served = are-served c.args.book.now shape _ c.args.plan.now c.args.readers.now.items c.run_jobs.new.readers.items (map (λ b. (goal.Handler-dyn g (b.vtable, b.value)).notes b.value) c.args.handlers.now.items) _ _ c.args.prepared.works.items
    (omega (arith, c.requires.readers, c.args.readers.now.ok.0)) (omega (arith, length-map c.args.handlers.now.items (λ b. (goal.Handler-dyn g (b.vtable, b.value)).notes b.value), c.requires.handlers, c.args.handlers.now.ok.0)) (omega (arith, c.requires.len, c.args.prepared.works.ok.0))
    c.requires.dealt all (c.if-run_jobs.ensures.left shape all) in
    (_, served, tt)

pub merge-requires-clause-counts : goal.merge-requires-clause-counts
merge-requires-clause-counts g c =
    let w = c.requires.works in
    let served = are-served c.args.book.now w.0 _ c.args.plan.now c.args.readers.now.items c.run_jobs.new.readers.items (map (λ b. (goal.Handler-dyn g (b.vtable, b.value)).notes b.value) c.args.handlers.now.items) _ _ c.args.prepared.works.items
    (omega (arith, c.requires.readers, c.args.readers.now.ok.0)) (omega (arith, length-map c.args.handlers.now.items (λ b. (goal.Handler-dyn g (b.vtable, b.value)).notes b.value), c.requires.handlers, c.args.handlers.now.ok.0)) (omega (arith, c.requires.len, c.args.prepared.works.ok.0))
    c.requires.dealt w.1 (c.if-run_jobs.ensures.left w.0 w.1) in
    rw c.as_slice.ensures.value
    (counts-all c.args.book.now w.0 c.args.plan.now c.args.readers.now.items _ _ _ _ _ (omega (arith, c.requires.readers, c.args.readers.now.ok.0)) served refl)

pub marks_of-marks-requires : goal.marks_of-marks-requires
marks_of-marks-requires g c = grind (arith, nat_tests, lines-threads)

pub returns-clause-served : goal.returns-clause-served
returns-clause-served g c = λ shape all fits.
    let served = are-served c.args.book.now shape _ c.args.plan.now c.args.readers.now.items c.run_jobs.new.readers.items (map (λ b. (goal.Handler-dyn g (b.vtable, b.value)).notes b.value) c.args.handlers.now.items) _ _ c.args.prepared.works.items
    (omega (arith, c.requires.readers, c.args.readers.now.ok.0)) (omega (arith, length-map c.args.handlers.now.items (λ b. (goal.Handler-dyn g (b.vtable, b.value)).notes b.value), c.requires.handlers, c.args.handlers.now.ok.0)) (omega (arith, c.requires.len, c.args.prepared.works.ok.0))
    c.requires.dealt all (c.if-run_jobs.ensures.left shape all) in
    (_, served, c.new-answered.ensures.lines ∙ (rw c.as_slice.ensures.value at c.merge.ensures.lines))
