use Rattle.event_tables.proofs.Words.{◌≡◌, ◌∙◌, map, ap, is_some, get_by_text, str_to_ascii_lowercase, Text, EventText, same_name, event_text}
use Rattle.event_tables.proofs.Indexing.{any-found}
use Rattle.event_tables.proofs.cause.has_event.Goals as goal

pub returns : goal.returns
returns c =
    let lower : c.as_str.result.now ≡ str_to_ascii_lowercase c.args.name.now = c.as_str.ensures ∙ c.of_name-lower.ensures in
    c.contains_key.ensures ∙ ap (λ (q : Text). is_some (get_by_text c.args.above.now.rows q)) lower
    ∙ ap is_some (c.requires.indexed.rows (str_to_ascii_lowercase c.args.name.now))
    ∙ any-found (λ (e : EventText). same_name e.name c.args.name.now) 0 (map event_text c.args.above.now.events.items)
