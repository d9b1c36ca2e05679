use Rattle.tool_output.proofs.Words.{◌≡◌, ◌==◌, ◌++◌, filter, map, string_bytes, bit_at, flat_map, range_with_len}
use Rattle.event_tables.specs.Views as Views
use Rattle.tool_output.specs.NativeEvents.{counter_text}
use Rattle.tool_output.proofs.listings.native_events.push_counters.Given as goal

abbrev pub invariant-loop-place : goal.invariant-loop-place
invariant-loop-place l =
    string_bytes l.text ≡ string_bytes l.fn.text ++ flat_map (counter_text (map Views.counter_text l.counters)) (filter (λ place. bit_at l.allowed place == 1) (range_with_len 0 l.place))
