use Rattle.script_runner.proofs.Words.{rules, string_bytes, sym, get_or_from_slice_get, on_err_weaker, replies_text, reply_line_text}
use Rattle.script_runner.proofs.Pieces.{always_on_err, item-part, item-written, last-part, none-part}
use Rattle.script_runner.proofs.ShownLines.{found}
use Rattle.script_runner.proofs.writing.write_replies.Goals as goal

pub returns-in_err-gather_line-clause-part : goal.returns-in_err-gather_line-clause-part
unfolding replies_text
returns-in_err-gather_line-clause-part g c =
    let f = found c.args.lines.now c.loop-i.i (search rules) in
    always_on_err c.from_residual.result
    (item-part (reply_line_text c.args.catalog.now) _ _ _ c.args.lines.now c.loop-i.i f.0 (string_bytes c.loop-i.gathered) (search rules) (sym (get_or_from_slice_get c.args.lines.now c.loop-i.i f.0 f.0 f.1)) c.loop-i.invariant.written (none-part (g.K.Sink.taken c.loop-i.out) _))

pub returns-in_err-write_piece-clause-part : goal.returns-in_err-write_piece-clause-part
unfolding replies_text
returns-in_err-write_piece-clause-part g c =
    let f = found c.args.lines.now c.loop-i.i (search rules) in
    let text = rw f.1 at c.in_ok-gather_line.ensures.text in
    let part = rw text at c.in_err-write_piece.ensures.part in
    always_on_err c.from_residual-in_err-write_piece.result
    (item-part (reply_line_text c.args.catalog.now) _ _ _ c.args.lines.now c.loop-i.i f.0 (string_bytes c.loop-i.gathered) (search rules) (sym (get_or_from_slice_get c.args.lines.now c.loop-i.i f.0 f.0 f.1)) c.loop-i.invariant.written part)

pub loop-i-preserved : goal.loop-i-preserved
loop-i-preserved g c =
    let f = found c.args.lines.now c.loop-i.i (search rules) in
    let text = rw f.1 at c.in_ok-gather_line.ensures.text in
    let more = rw text at c.in_ok-write_piece.ensures.ok in record {
      written = item-written (reply_line_text c.args.catalog.now) _ _ _ c.args.lines.now c.loop-i.i f.0 (string_bytes c.loop-i.gathered) (string_bytes c.write_piece.new.gathered) (search rules) (sym (get_or_from_slice_get c.args.lines.now c.loop-i.i f.0 f.0 f.1)) c.loop-i.invariant.written more;
      quiet = search rules;
    }

pub returns-clause-part : goal.returns-clause-part
unfolding replies_text
returns-clause-part g c =
    on_err_weaker c.write_whole.result (last-part (reply_line_text c.args.catalog.now) _ _ _ c.args.lines.now c.loop-i.i (string_bytes c.loop-i.gathered) (search rules) c.loop-i.invariant.written)
    (rw c.as_bytes.ensures.value at c.write_whole.ensures.part)
