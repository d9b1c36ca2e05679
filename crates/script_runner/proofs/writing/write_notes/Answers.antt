use Rattle.script_runner.proofs.Words.{get_or, rules, string_bytes, get_or_default, on_err_weaker, Note, note_text, notes_text}
use Rattle.script_runner.proofs.Pieces.{always_on_err, item-part, item-written, last-part, none-part}
use Rattle.script_runner.proofs.writing.write_notes.Goals as goal

none : Note
none = record { thread = 0; set = 0; index = 0; pc = 0 }

pub returns-in_err-gather_note-clause-part : goal.returns-in_err-gather_note-clause-part
unfolding notes_text
returns-in_err-gather_note-clause-part g c =
    let notes = c.args.notes.now in
    let i = c.loop-note.note-index in
    let x = get_or notes i none in
    always_on_err c.from_residual.result
    (item-part note_text _ _ _ notes i x (string_bytes c.loop-note.gathered) c.loop-note-test.true (get_or_default notes i none x c.loop-note-test.true) c.loop-note.invariant.written (none-part (g.K.Sink.taken c.loop-note.out) _))

pub returns-in_err-write_piece-clause-part : goal.returns-in_err-write_piece-clause-part
unfolding notes_text none
returns-in_err-write_piece-clause-part g c =
    let notes = c.args.notes.now in
    let i = c.loop-note.note-index in
    let x = get_or notes i none in
    let part = rw c.in_ok-gather_note.ensures.text at c.in_err-write_piece.ensures.part in
    always_on_err c.from_residual-in_err-write_piece.result
    (item-part note_text _ _ _ notes i x (string_bytes c.loop-note.gathered) c.loop-note-test.true (get_or_default notes i none x c.loop-note-test.true) c.loop-note.invariant.written part)

pub loop-note-preserved : goal.loop-note-preserved
unfolding none
loop-note-preserved g c =
    let notes = c.args.notes.now in
    let i = c.loop-note.note-index in
    let x = get_or notes i none in
    let more = rw c.in_ok-gather_note.ensures.text at c.in_ok-write_piece.ensures.ok in record {
      written = item-written note_text _ _ _ notes i x (string_bytes c.loop-note.gathered) (string_bytes c.write_piece.new.gathered) c.loop-note-test.true (get_or_default notes i none x c.loop-note-test.true) c.loop-note.invariant.written more;
      quiet = search rules;
    }

pub returns-clause-part : goal.returns-clause-part
unfolding notes_text
returns-clause-part g c =
    on_err_weaker c.write_whole.result (last-part note_text _ _ _ c.args.notes.now c.loop-note.note-index (string_bytes c.loop-note.gathered) c.loop-note-test.false c.loop-note.invariant.written)
    (rw c.as_bytes.ensures.value at c.write_whole.ensures.part)
