use Rattle.script_runner.proofs.Words.{◌∙◌, slice_get, sym}
use Rattle.std.proofs.lemmas.Option.{IfSome_then}
use Rattle.script_runner.proofs.ShownLines.{line_told}
use Rattle.script_runner.proofs.writing.gather_line.Goals as goal
use Rattle.script_runner.proofs.writing.gather_line.Goals.{in-Values, in-Plain, in-Ran}

pub returns-in-Ok-clause-text : goal.returns-in-Ok-clause-text
returns-in-Ok-clause-text c =
    let o = slice_get c.args.lines.now c.args.i in
    let told = c.head_at-head.ensures in
    let shown = c.shown_at.ensures.shown in
    elim c.match-shown_at.branch [
      | in-Values w ↦
          let p = w.push_values_line-done in
          let text = rw (sym w.done-is ∙ c.in-Ok.is) at p.ensures.text c.args.catalog.now in
          let same = rw w.in-Values.is at shown in
          rw w.text-is (line_told o c.args.catalog.now _ _ _ _ _ _ told.line told.thread told.word (IfSome_then o same (λ l h. h.1)) text)
      | in-Plain w ↦
          let p = w.push_plain_line-done in
          let text = rw (sym w.done-is ∙ c.in-Ok.is) at p.ensures.text c.args.catalog.now in
          let same = rw w.in-Plain.is at shown in
          rw w.text-is (line_told o c.args.catalog.now _ _ _ _ _ _ told.line told.thread told.word same text)
      | in-Ran w ↦
          let p = w.push_ran_line-done in
          let text = rw (sym w.done-is ∙ c.in-Ok.is) at p.ensures.text c.args.catalog.now in
          let same = rw w.in-Ran.is at shown in
          rw w.text-is (line_told o c.args.catalog.now _ _ _ _ _ _ told.line told.thread told.word same text)
    ]
