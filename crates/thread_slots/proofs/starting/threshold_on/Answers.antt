use Rattle.thread_slots.proofs.Words.{◌≡◌, ap, sym, ◌∙◌, arith, inl, inr, Some, slice_get, length, number_at}
use Rattle.thread_slots.proofs.Beginning.{threshold_hit, threshold_miss}
use Rattle.thread_slots.proofs.Lists.{get_at}
use Rattle.thread_slots.proofs.starting.threshold_on.Goals as goal
use Rattle.thread_slots.proofs.starting.threshold_on.Goals.{After-threshold-threshold, else-threshold-ne0-via-then-threshold-ne0+else-leads, else-threshold-ne0-via-else-threshold-ne0}

-- the threshold of the event that is looked at
here : (c : After-threshold-threshold) → slice_get c.args.set.now.rest.thresholds c.loop-i.i ≡ Some c.threshold-threshold.result
here c =
    let count = ap length c.events-events.ensures.events in
    let one = c.events-events.ensures.sound.one_threshold_each in
    number_at c.args.set.now.rest.thresholds c.loop-i.i (omega (arith, c.len-i-end.ensures.length)) ∙ ap Some (sym c.threshold-threshold.ensures)

pub returns-then-leads : goal.returns-then-leads
returns-then-leads c =
    let w = goal.at.returns-then-leads c in
    let s = c.args.set.now.rest in
    let e = sym (ap (λ es. slice_get es c.loop-i.i) c.events-events.ensures.events) ∙ c.at.ensures.item in
    let led = sym c.leads.ensures ∙ c.if-leads.true in
    threshold_hit c.args.book.now c.args.n.now s.events s.thresholds c.loop-i.i c.threshold-threshold.result c.at.result e (here w.After-threshold-threshold) c.if-threshold-ne0.true led c.loop-i.invariant

pub loop-i-preserved : goal.loop-i-preserved
loop-i-preserved c =
    let w = goal.at.loop-i-preserved c in
    let s = c.args.set.now.rest in
    let same = c.events-events.ensures.events in
    let t = here w.After-threshold-threshold in
    let count = ap length same in
    let e = get_at s.events c.loop-i.i (omega (arith, c.len-i-end.ensures.length)) in
    let missed = threshold_miss c.args.book.now c.args.n.now s.events s.thresholds c.loop-i.i c.threshold-threshold.result in
    elim c.else-threshold-ne0.branch [
      | else-threshold-ne0-via-then-threshold-ne0+else-leads v ↦
          let led = sym v.leads.ensures ∙ v.if-leads.false in
          missed v.at.result (sym (ap (λ es. slice_get es c.loop-i.i) same) ∙ v.at.ensures.item) t (inr led) c.loop-i.invariant
      | else-threshold-ne0-via-else-threshold-ne0 v ↦ missed e.0 e.1 t (inl v.if-threshold-ne0.false) c.loop-i.invariant
    ]
