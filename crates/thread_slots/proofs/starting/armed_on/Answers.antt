use Rattle.thread_slots.proofs.Words.{ℕ, ◌<◌, ap, sym, subst, ◌∙◌, arith, Some, None, slice_get, length, get_or, get_or_from_slice_get, in_place_put}
use Rattle.thread_slots.proofs.Words.{in_place_skip, number_at, place_of_lead}
use Rattle.thread_slots.proofs.Beginning.{all_armed, armed-none, armed-some, armed_whole, at_threshold, length-all_armed, none_armed, none_at}
use Rattle.thread_slots.proofs.Lists.{get_at}
use Rattle.thread_slots.proofs.starting.armed_on.Goals as goal
use Rattle.thread_slots.proofs.starting.armed_on.Goals.{then-threshold-ne0, else-threshold-ne0}

pub at-requires-then-threshold-ne0 : goal.at-requires-then-threshold-ne0
at-requires-then-threshold-ne0 c =
    let s = c.args.set.now in
    let e = sym (ap (λ es. slice_get es c.loop-i.i) c.events-events.ensures.events) ∙ c.at.ensures.item in
    let count = ap length c.events-events.ensures.events in
    let t = at_threshold s.rest.events s.rest.thresholds c.loop-i.i c.threshold.result c.requires.one_each (omega (arith, c.len-i-end.ensures.length)) c.threshold.ensures c.if-threshold-ne0.true in
    let place = c.lead_place-place.ensures ∙ ap (λ ns. place_of_lead c.args.book.now ns c.at.result) c.natives.ensures.natives in
    (omega arith, subst (λ (k : ℕ). k < length c.args.counters.now) (sym place) (c.requires.exist c.loop-i.i t.0 c.at.result e t.1))

pub arm-requires-clause-counter : goal.arm-requires-clause-counter
arm-requires-clause-counter c =
    let s = c.args.set.now in
    let e = sym (ap (λ es. slice_get es c.loop-i.i) c.events-events.ensures.events) ∙ c.at.ensures.item in
    let count = ap length c.events-events.ensures.events in
    let t = at_threshold s.rest.events s.rest.thresholds c.loop-i.i c.threshold.result c.requires.one_each (omega (arith, c.len-i-end.ensures.length)) c.threshold.ensures c.if-threshold-ne0.true in
    let place = c.lead_place-place.ensures ∙ ap (λ ns. place_of_lead c.args.book.now ns c.at.result) c.natives.ensures.natives in
    let reads = c.from.ensures ∙ sym (get_or_from_slice_get c.args.counters.now c.lead_place-place.result c.at-then-threshold-ne0.result 0 c.at-then-threshold-ne0.ensures.item) ∙ ap (λ (k : ℕ). get_or c.args.counters.now k 0) place in
    subst (λ (k : ℕ). k < 32) (sym reads) (c.requires.small c.loop-i.i t.0 c.at.result e t.1)

pub loop-i-preserved : goal.loop-i-preserved
loop-i-preserved c =
    let s = c.args.set.now in
    let book = c.args.book.now in
    let cs = c.args.counters.now in
    let same = c.events-events.ensures.events in
    let count = ap length same in
    let one = c.requires.one_each in
    let few = c.requires.few_events in
    let t = number_at s.rest.thresholds c.loop-i.i (omega (arith, c.len-i-end.ensures.length)) ∙ ap Some (sym c.threshold.ensures) in
    let d = get_at s.rest.events c.loop-i.i (omega (arith, c.len-i-end.ensures.length)) in
    let all = all_armed book s.natives cs s.rest.events s.rest.thresholds in
    let long = length-all_armed book s.natives cs s.rest.events s.rest.thresholds one few in
    let below : c.loop-i.i < length none_armed = omega (arith, c.len-i-end.ensures.length, long) in
    elim c.if-threshold-ne0.branch [
      | then-threshold-ne0 w ↦
          let e = sym (ap (λ es. slice_get es c.loop-i.i) same) ∙ w.at.ensures.item in
          let place = w.lead_place-place.ensures ∙ ap (λ ns. place_of_lead book ns w.at.result) w.natives.ensures.natives in
          let reads = w.from.ensures ∙ sym (get_or_from_slice_get cs w.lead_place-place.result w.at-then-threshold-ne0.result 0 w.at-then-threshold-ne0.ensures.item) ∙ ap (λ (j : ℕ). get_or cs j 0) place in
          let at = armed-some book s.natives cs s.rest.events s.rest.thresholds c.loop-i.i c.threshold.result w.at.result e t w.if-threshold-ne0.true in
          rw (w.armed-is, w.arm.ensures, reads) (in_place_put all none_armed c.loop-i.armed c.loop-i.i _ long below c.loop-i.invariant at)
      | else-threshold-ne0 w ↦
          let at = armed-none book s.natives cs s.rest.events s.rest.thresholds c.loop-i.i c.threshold.result d.0 d.1 t w.if-threshold-ne0.false in
          rw w.armed-is (in_place_skip all none_armed c.loop-i.armed c.loop-i.i None long below c.loop-i.invariant at (none_at c.loop-i.i below))
    ]

pub returns : goal.returns
returns c =
    let s = c.args.set.now in
    let count = ap length c.events-events.ensures.events in
    c.loop-i.invariant ∙ armed_whole c.args.book.now s.natives c.args.counters.now s.rest.events s.rest.thresholds c.loop-i.i c.requires.one_each (omega (arith, c.len-i-end.ensures.length))
