use Rattle.preset_csv.proofs.Words.{fields_of, judged, line_of}
use Rattle.preset_csv.proofs.RowsTaken.{row-taken}
use Rattle.preset_csv.proofs.TableKept.{length-presets}
use Rattle.preset_csv.proofs.reading.PresetRowsTableKind.take_row.Goals as goal

pub take_line-requires : goal.take_line-requires
take_line-requires c = record {
  plain = c.row_of.ensures.plain c.requires.plain;
  all = rw c.requires.given.1.entries_are (length-presets judged c.args.self.now.cpu.now _);
}

pub returns : goal.returns
returns c = λ above given.
    row-taken judged c.args.self.now.cpu.now above (line_of (fields_of c.args.row.now)) c.args.taken.now.group c.take_line.new.taken.group
    c.args.taken.now.entries.items c.take_line.new.taken.entries.items c.take_line.result given (rw c.row_of.ensures.line at c.take_line.ensures)
