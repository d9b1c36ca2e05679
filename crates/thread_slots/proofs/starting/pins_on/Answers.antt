use Rattle.thread_slots.proofs.Words.{◌≡◌, ℕ, refl, ap, sym, ◌∙◌, arith, Some, slice_get, length, length-append, Native, threshold_among, Pin, pins_from}
use Rattle.thread_slots.proofs.Searching.{both_more}
use Rattle.thread_slots.proofs.starting.pins_on.Goals as goal

pub loop-i-preserved : goal.loop-i-preserved
loop-i-preserved c =
    let s = c.args.set.now in
    let cs = c.args.counters.now in
    let same = c.natives-natives.ensures.natives in
    let count = ap length same in
    let one = c.requires in
    let counter : slice_get cs c.loop-i.i ≡ Some c.from.result = c.at.ensures.item ∙ ap Some (sym c.from.ensures) in
    let native = sym (ap (λ ns. slice_get ns c.loop-i.i) same) ∙ c.at-native.ensures.item in
    let pin : Native → ℕ → Pin = λ n k. record { native = n; counter = k; threshold = threshold_among c.args.book.now n s.rest.events s.rest.thresholds } in
    rw (c.push.ensures.pushed, c.threshold_on.ensures) record {
      so_far = omega (arith, length-append {A = Pin}, c.loop-i.invariant.so_far);
      done = both_more (pins_from c.args.book.now s.rest) pin (λ n ns k ks. refl) s.natives cs c.loop-i.pins _ c.loop-i.i c.at-native.result c.from.result _ native counter refl c.loop-i.invariant.done;
    }
