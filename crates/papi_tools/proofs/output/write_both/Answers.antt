use Rattle.papi_tools.proofs.WritingLemmas.{always_on_err, both, part_of_first, part_of_second}
use Rattle.papi_tools.proofs.output.write_both.Goals as goal

pub returns-in_err-write_replies-clause-part : goal.returns-in_err-write_replies-clause-part
returns-in_err-write_replies-clause-part g c =
    always_on_err c.from_residual.result (part_of_first _ _ _ _ c.in_err-write_replies.ensures.part)

pub returns-in_err-write_notes-clause-part : goal.returns-in_err-write_notes-clause-part
returns-in_err-write_notes-clause-part g c =
    always_on_err c.from_residual-in_err-write_notes.result (part_of_second _ _ _ _ _ c.in_ok-write_replies.ensures.ok c.in_err-write_notes.ensures.part)

pub returns-clause-ok : goal.returns-clause-ok
returns-clause-ok g c = both _ _ _ _ _ c.in_ok-write_replies.ensures.ok c.in_ok-write_notes.ensures.ok
