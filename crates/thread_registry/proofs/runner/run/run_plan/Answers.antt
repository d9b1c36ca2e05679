use Rattle.thread_registry.proofs.Words.{arith, rules, ap, refl, sym, subst, ◌∙◌, length-map, lines_by, AreInOrder}
use Rattle.thread_registry.proofs.Scripts.{lines-order}
use Rattle.thread_registry.proofs.Served.{served-as}
use Rattle.thread_registry.proofs.Worlds.{added-all, added-as, begun-all, begun-as, begun-none, faulty-all, grown-all, grown-none, idle-all, if_ok, kept-all, kept-none, lines-all, lines-as, on_ok, possible-streams, some-streams}
use Rattle.thread_registry.proofs.runner.run.run_plan.Goals as goal

pub returns-clause-replies : goal.returns-clause-replies
returns-clause-replies g c =
    let served = c.run_prepared.ensures.served c.args.shape.now c.in_ok-prepared.ensures.works c.requires.fits in
    λ at script streams tells.
    if_ok c.run_prepared.result _ _ served.2
    (λ run whole q.
    q ∙ (ap (lines_by _) c.lines-2.ensures.lines ∙ lines-all at script streams c.args.book.now c.args.shape.now c.args.plan c.args.readers.now.items _ _ _ _ _ (omega (arith, c.requires.readers, c.args.readers.now.ok.0)) (omega (arith, length-map c.args.handlers.now.items (λ b. (goal.Handler-dyn g (b.vtable, b.value)).notes b.value), c.requires.handlers, c.args.handlers.now.ok.0)) (served-as _ _ _ c.args.plan _ _ _ _ _ _ c.lines-2.ensures.lines served.1) whole c.lines.ensures.threads tells))

pub returns-clause-notes : goal.returns-clause-notes
returns-clause-notes g c =
    let served = c.run_prepared.ensures.served c.args.shape.now c.in_ok-prepared.ensures.works c.requires.fits in
    λ at script streams tells.
    on_ok c.run_prepared.result (λ whole. added-all at script streams c.args.book.now c.args.shape.now c.args.plan c.args.readers.now.items _ _ _ _ _ (omega (arith, c.requires.readers, c.args.readers.now.ok.0)) (omega (arith, length-map c.args.handlers.now.items (λ b. (goal.Handler-dyn g (b.vtable, b.value)).notes b.value), c.requires.handlers, c.args.handlers.now.ok.0)) (served-as _ _ _ c.args.plan _ _ _ _ _ _ c.lines-2.ensures.lines served.1) whole tells)

pub returns-clause-begun : goal.returns-clause-begun
returns-clause-begun g c =
    let served = c.run_prepared.ensures.served c.args.shape.now c.in_ok-prepared.ensures.works c.requires.fits in
    λ at script streams tells. begun-all at script streams c.args.book.now c.args.shape.now c.args.plan c.args.readers.now.items _ _ _ _ _ (omega (arith, c.requires.readers, c.args.readers.now.ok.0)) (omega (arith, length-map c.args.handlers.now.items (λ b. (goal.Handler-dyn g (b.vtable, b.value)).notes b.value), c.requires.handlers, c.args.handlers.now.ok.0)) (served-as _ _ _ c.args.plan _ _ _ _ _ _ c.lines-2.ensures.lines served.1) tells

pub returns-clause-possible : goal.returns-clause-possible
returns-clause-possible g c =
    let served = c.run_prepared.ensures.served c.args.shape.now c.in_ok-prepared.ensures.works c.requires.fits in
    let got = served-as _ _ _ c.args.plan _ _ _ _ _ _ c.lines-2.ensures.lines served.1 in
    let before_long = length-map c.args.handlers.now.items (λ b. (goal.Handler-dyn g (b.vtable, b.value)).notes b.value) in
    let p = possible-streams c.args.book.now c.args.shape.now c.args.plan c.args.readers.now.items _ _ _ _ _ (omega (arith, c.requires.readers, c.args.readers.now.ok.0)) got in (
      p.0,
      p.1,
      λ at script from. (
        if_ok c.run_prepared.result _ _ served.2
            (λ run whole q. q ∙ (ap (lines_by _) c.lines-2.ensures.lines ∙ lines-as at script p.0 c.args.book.now c.args.shape.now c.args.plan _ _ _ _ got.replies_len p.2 whole c.lines.ensures.threads from)),
        on_ok c.run_prepared.result (λ whole. added-as at script p.0 c.args.book.now c.args.shape.now c.args.plan _ _ _ _ (omega (arith, before_long, c.requires.handlers, c.args.handlers.now.ok.0)) got.notes_len p.2 whole from),
        begun-as at script p.0 c.args.book.now c.args.shape.now c.args.plan _ _ _ _ (omega (arith, before_long, c.requires.handlers, c.args.handlers.now.ok.0)) got.notes_len p.2 from,
      ),
    )

pub returns-in_err-prepared-clause-possible : goal.returns-in_err-prepared-clause-possible
returns-in_err-prepared-clause-possible g c =
    let p = some-streams c.args.readers.now.items (omega (arith, c.requires.readers, c.args.readers.now.ok.0)) in
    (p.0, p.1, λ at script from. (search rules, search rules, begun-none _ _))

pub returns-clause-grown : goal.returns-clause-grown
returns-clause-grown g c =
    let served = c.run_prepared.ensures.served c.args.shape.now c.in_ok-prepared.ensures.works c.requires.fits in
    grown-all c.args.book.now c.args.shape.now c.args.plan c.args.readers.now.items _ _ _ _ _ (omega (arith, c.requires.readers, c.args.readers.now.ok.0)) (omega (arith, length-map c.args.handlers.now.items (λ b. (goal.Handler-dyn g (b.vtable, b.value)).notes b.value), c.requires.handlers, c.args.handlers.now.ok.0)) (served-as _ _ _ c.args.plan _ _ _ _ _ _ c.lines-2.ensures.lines served.1)

pub returns-clause-idle : goal.returns-clause-idle
returns-clause-idle g c =
    let served = c.run_prepared.ensures.served c.args.shape.now c.in_ok-prepared.ensures.works c.requires.fits in
    idle-all c.args.book.now c.args.shape.now c.args.plan c.args.readers.now.items _ _ _ _ _ (omega (arith, c.requires.readers, c.args.readers.now.ok.0)) (omega (arith, length-map c.args.handlers.now.items (λ b. (goal.Handler-dyn g (b.vtable, b.value)).notes b.value), c.requires.handlers, c.args.handlers.now.ok.0)) (served-as _ _ _ c.args.plan _ _ _ _ _ _ c.lines-2.ensures.lines served.1)

pub returns-clause-order : goal.returns-clause-order
returns-clause-order g c =
    let served = c.run_prepared.ensures.served c.args.shape.now c.in_ok-prepared.ensures.works c.requires.fits in
    if_ok c.run_prepared.result _ _ served.2 (λ run whole q. subst (AreInOrder c.args.plan) (sym (q ∙ ap (lines_by _) c.lines-2.ensures.lines)) (lines-order c.args.plan _))

pub returns-clause-readers : goal.returns-clause-readers
returns-clause-readers g c =
    let served = c.run_prepared.ensures.served c.args.shape.now c.in_ok-prepared.ensures.works c.requires.fits in
    kept-all c.args.book.now c.args.shape.now c.args.plan c.args.readers.now.items _ _ _ _ _ (omega (arith, c.requires.readers, c.args.readers.now.ok.0)) (served-as _ _ _ c.args.plan _ _ _ _ _ _ c.lines-2.ensures.lines served.1)

pub returns-clause-faulty : goal.returns-clause-faulty
returns-clause-faulty g c =
    let served = c.run_prepared.ensures.served c.args.shape.now c.in_ok-prepared.ensures.works c.requires.fits in
    if_ok c.run_prepared.result _ _ served.2
    (λ run whole q. faulty-all c.args.book.now c.args.shape.now c.args.plan c.args.readers.now.items _ _ _ _ _ (omega (arith, c.requires.readers, c.args.readers.now.ok.0)) (served-as _ _ _ c.args.plan _ _ _ _ _ _ c.lines-2.ensures.lines served.1) run.lines (q ∙ ap (lines_by _) c.lines-2.ensures.lines))

pub returns-in_err-prepared-clause-begun : goal.returns-in_err-prepared-clause-begun
returns-in_err-prepared-clause-begun g c = λ at script streams tells. begun-none _ _

pub returns-in_err-prepared-clause-grown : goal.returns-in_err-prepared-clause-grown
returns-in_err-prepared-clause-grown g c = grown-none _

pub returns-in_err-prepared-clause-idle : goal.returns-in_err-prepared-clause-idle
returns-in_err-prepared-clause-idle g c = record { unread = λ t e. refl; untold = λ t e. refl }

pub returns-in_err-prepared-clause-readers : goal.returns-in_err-prepared-clause-readers
returns-in_err-prepared-clause-readers g c = kept-none c.args.readers.now.items

pub run_prepared-requires-clause-works : goal.run_prepared-requires-clause-works
run_prepared-requires-clause-works g c κs within = (c.args.shape.now, c.in_ok-prepared.ensures.works, c.requires.fits, rw c.lines-2.ensures.lines c.requires.good)
