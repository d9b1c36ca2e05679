use Rattle.tool_words.proofs.Words.{List, map, string_bytes, Text, app_of}
use Rattle.tool_words.proofs.FormLemmas.{refused, simple_too}
use Rattle.tool_words.proofs.matches.matches_in.Goals as goal

pub returns-in-Ok : goal.returns-in-Ok
returns-in-Ok c = (c.in-Ok.ensures.kinds c.requires, (c.in-Ok.ensures.matches (simple_too (app_of c.args.command) c.requires)).0)

pub returns-in-Err : goal.returns-in-Err
returns-in-Err c =
    let words : List Text = map string_bytes c.args.words.now in
    rw (c.fault_by.ensures, c.kind.ensures) (refused (app_of c.args.command) words _ (c.in-Err.ensures.kinds c.requires))
