use Rattle.std.proofs.Common.{ap, ◌∙◌, map}
use Rattle.tool_words.proofs.EventListLemmas.{one_part}
use Rattle.tool_words.proofs.regions.events_asked.Goals as goal

pub copy_of-requires : goal.copy_of-requires
copy_of-requires c = one_part (λ s. s.now) _ c.in_ok-list.list.now (ap (map (λ s. s.now)) c.as_slice.ensures.value ∙ c.in_ok-parts.ensures)
