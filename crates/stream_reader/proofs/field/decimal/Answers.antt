use Rattle.std.proofs.Common.{sym}
use Rattle.stream_reader.proofs.Decimals.{decimal-none, decimal-form, decimal-within, decimal-below, decimal-above}
use Rattle.stream_reader.proofs.field.decimal.Goals as goal
use Rattle.stream_reader.proofs.field.decimal.Goals.{else-least-field-via-then-least-field+else-field-greatest, else-least-field-via-else-least-field}

pub returns-in_err-field-clause-value : goal.returns-in_err-field-clause-value
returns-in_err-field-clause-value c = rw c.from_residual.ensures (sym (decimal-none c.args.least c.args.greatest c.args.text.now c.in_err-field.ensures.large))

pub returns-then-not-has_form-clause-value : goal.returns-then-not-has_form-clause-value
returns-then-not-has_form-clause-value c =
    let f = c.in_ok-field.ensures in
    sym (decimal-form c.args.least c.args.greatest c.in_ok-field.field.value c.args.text.now f.value (rw (← f.size) (sym c.if-not-has_form.ensures)))

pub returns-then-field-greatest-clause-value : goal.returns-then-field-greatest-clause-value
returns-then-field-greatest-clause-value c =
    let f = c.in_ok-field.ensures in
    sym (decimal-within c.args.least c.args.greatest c.in_ok-field.field.value c.args.text.now f.value (rw (← f.size) (sym c.if-not-has_form.ensures)) c.if-least-field.true c.if-field-greatest.true)

pub returns-clause-value : goal.returns-clause-value
returns-clause-value c =
    let f = c.in_ok-field.ensures in
    elim c.else-least-field.branch [
      | else-least-field-via-then-least-field+else-field-greatest w ↦ sym (decimal-above c.args.least c.args.greatest c.in_ok-field.field.value c.args.text.now f.value w.if-field-greatest.false)
      | else-least-field-via-else-least-field w ↦ sym (decimal-below c.args.least c.args.greatest c.in_ok-field.field.value c.args.text.now f.value (rw (← f.size) (sym c.if-not-has_form.ensures)) w.if-least-field.false)
    ]
