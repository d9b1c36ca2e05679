use Rattle.tool_words.proofs.Words.{◌≡◌, drop, map, list_all, is_event}
use Rattle.tool_words.proofs.regions.are_events.Given as goal

abbrev pub invariant-loop-text : goal.invariant-loop-text
invariant-loop-text l = list_all is_event (map (λ s. s.now) l.texts) ≡ list_all is_event (map (λ s. s.now) (drop l.text-index l.texts))
