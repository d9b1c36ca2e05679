use Rattle.stream_reader.proofs.Words.{sym, arith, take_rest}
use Rattle.stream_reader.proofs.Stamps.{stamp-is}
use Rattle.stream_reader.proofs.common_line.read_stamp.Goals as goal

pub returns : goal.returns
returns c =
    stamp-is c.args.text.now c.decimal_digits-stamp.result (omega arith) c.if-text-ne32.false (rw take_rest at c.decimal_digits-stamp.ensures) (rw take_rest at (sym c.if-not-has_form.ensures))
    c.if-stamp.false
