use Rattle.std.proofs.Common.{◌≡◌, ◌∙◌, ap, string_bytes}
use Rattle.event_tables.proofs.Words.{hash_map_updates_text, str_to_ascii_lowercase}
use Rattle.event_tables.proofs.adding.note_row.Goals as goal

pub returns : goal.returns
returns c = λ q.
    let key : string_bytes c.make_ascii_lowercase.new.self ≡ str_to_ascii_lowercase c.args.name.now =
    c.make_ascii_lowercase.ensures.bytes ∙ ap str_to_ascii_lowercase c.in_ok-lower.ensures.ok in
    rw key at (hash_map_updates_text (string_bytes c.make_ascii_lowercase.new.self) c.args.rows.now c.insert.new.self _ c.in_ok-insert.ensures.updates q)
