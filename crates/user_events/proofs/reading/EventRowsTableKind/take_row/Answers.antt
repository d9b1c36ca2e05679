use Rattle.user_events.proofs.Words.{fields_of, length-presets, event_judged, line_of, taking}
use Rattle.user_events.proofs.Taking.{event-line-kept, row-taken}
use Rattle.user_events.proofs.reading.EventRowsTableKind.take_row.Goals as goal

pub take_any_line-requires : goal.take_any_line-requires
take_any_line-requires c = record {
  plain = c.event_row_of.ensures.plain c.requires.plain;
  all = rw c.requires.given.1.presets.entries_are (length-presets event_judged c.args.self.now.cpu.now _);
}

pub returns : goal.returns
returns c = λ above given.
    row-taken c.args.self.now.cpu.now above (line_of (fields_of c.args.row.now)) (taking c.args.taken.now) (taking c.take_any_line.new.taken) c.take_any_line.result
    (event-line-kept _ c.requires.plain) given (rw c.event_row_of.ensures.line at c.take_any_line.ensures)
