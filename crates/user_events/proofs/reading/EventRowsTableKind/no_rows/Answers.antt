use Rattle.user_events.proofs.Words.{ap, map, event_view}
use Rattle.user_events.proofs.Taking.{none-taken}
use Rattle.user_events.proofs.reading.EventRowsTableKind.no_rows.Goals as goal

pub returns : goal.returns
returns c = none-taken c.args.self.now.cpu.now _ c.new.ensures c.in_ok-all_missing.ensures (ap (map event_view) c.new-2.ensures.items)
