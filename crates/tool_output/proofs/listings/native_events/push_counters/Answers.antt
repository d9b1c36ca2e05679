use Rattle.tool_output.proofs.Words.{ℕ, Bool, ◌∙◌, ◌==◌, ◌+◌, ◌∷◌, ◌++◌, ap, map, string_bytes, sym, bit_at, range_with_len, range_more, Text}
use Rattle.event_tables.specs.Views as Views
use Rattle.tool_output.specs.NativeEvents.{counter_text}
use Rattle.tool_output.proofs.Listed.{kept, passed, pushed, unmoved}
use Rattle.tool_output.proofs.Tables.{counter_named}
use Rattle.tool_output.proofs.listings.native_events.push_counters.Goals as goal
use Rattle.tool_output.proofs.listings.native_events.push_counters.Goals.{then-has+in_ok-write, else-has}

pub loop-place-preserved : goal.loop-place-preserved
loop-place-preserved c =
    let k = c.loop-place.place in
    let f = counter_text (map Views.counter_text c.args.counters.now) in
    let p : ℕ → Bool = λ place. bit_at c.args.allowed place == 1 in
    let line = string_bytes c.loop-place.text in
    elim c.if-has.branch [
      | then-has+in_ok-write w ↦
          rw w.text-is
          (pushed f _ _ k (string_bytes c.args.text.now) line _ (kept p (range_with_len 0 k) (range_with_len 0 (k + 1)) k (range_more k) (sym c.has.ensures ∙ w.if-has.true)) c.loop-place.invariant
          (w.in_ok-write.ensures.bytes ∙ ap (λ (t : Text). line ++ 32 ∷ t) (sym (counter_named c.args.counters.now k w.index-counters-place.result c.loop-place-test.true))))
      | else-has w ↦
          rw w.text-is
          (unmoved f _ _ (string_bytes c.args.text.now) line (passed p (range_with_len 0 k) (range_with_len 0 (k + 1)) k (range_more k) (sym c.has.ensures ∙ w.if-has.false)) c.loop-place.invariant)
    ]
