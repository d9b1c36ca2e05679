use Rattle.call_laws.proofs.OverTapes.{one_group_over_tape, one_note_over_tape, past_rises, stream_stays, turns_count_per_tick}
use Rattle.call_laws.proofs.tapes.tape_laws.Goals as goal

pub returns : goal.returns
returns c = record { stream = stream_stays; rises = past_rises; notes = one_note_over_tape; ticks = turns_count_per_tick; one_group = one_group_over_tape }
