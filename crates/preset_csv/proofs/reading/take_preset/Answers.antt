use Rattle.preset_csv.proofs.Words.{◌∙◌, sym, ap, arith, err_from_is_err_and, fields_of, judged_by, row_of}
use Rattle.preset_csv.proofs.RowsTaken.{not-taken, put-taken, unknown-taken}
use Rattle.preset_csv.proofs.reading.take_preset.Goals as goal

pub returns-in_err-judge : goal.returns-in_err-judge
returns-in_err-judge g c =
    let p = err_from_is_err_and c.from_residual.result c.from_residual.ensures.1 in
    rw (p.1, p.2) (not-taken (judged_by g.J.RowJudge.infix_judged) (fields_of c.args.row.now) c.args.holds c.in-Some.place c.in_err-judge.field-0.0 c.if-not-holds.false
    (ap row_of (sym c.text_at.ensures) ∙ sym c.in-Some.ensures.row) c.in_err-judge.ensures)

pub put-requires : goal.put-requires
put-requires g c = omega (arith, c.in-Some.ensures.within, c.requires.all)

pub returns-in_ok-judge : goal.returns-in_ok-judge
returns-in_ok-judge g c =
    put-taken (judged_by g.J.RowJudge.infix_judged) (fields_of c.args.row.now) c.args.holds c.in-Some.place c.in_ok-judge.field-0 c.args.entries.now.items c.put.new.entries.items c.if-not-holds.false
    (ap row_of (sym c.text_at.ensures) ∙ sym c.in-Some.ensures.row) c.in_ok-judge.ensures c.put.ensures

pub returns-in_default : goal.returns-in_default
returns-in_default g c =
    unknown-taken (judged_by g.J.RowJudge.infix_judged) (fields_of c.args.row.now) c.args.holds c.args.entries.now.items c.if-not-holds.false
    (ap row_of (sym c.text_at.ensures) ∙ sym c.symbol_row.ensures.row ∙ c.in_default.is)
