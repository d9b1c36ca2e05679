use Rattle.table_rows.proofs.Words.{◌≡◌, ◌∙◌, Some, None, sym, refl, fields_of, text_at, trimmed, without_front, slice_get}
use Rattle.table_rows.proofs.Trimming.{field_at-slice_get}
use Rattle.table_rows.proofs.field.text_at.Goals as goal

pub returns-in-Some : goal.returns-in-Some
unfolding text_at
returns-in-Some c =
    let some : slice_get (fields_of c.args.row.now) c.args.i ≡ Some c.in-Some.field.now = sym (field_at-slice_get _ _) ∙ sym (rw c.in-Some.is at c.get.ensures.value) in
    rw some c.trimmed.ensures

pub returns-in-None : goal.returns-in-None
unfolding text_at trimmed without_front
returns-in-None c =
    let none : slice_get (fields_of c.args.row.now) c.args.i ≡ None = sym (field_at-slice_get _ _) ∙ sym (rw c.in-None.is at c.get.ensures.value) in
    rw none refl
