-- Replies and notes as text: this project's own format, docs/FORMATS.md.
use Rattle.std.specs.Prelude.{ℕ, List}
use Rattle.std.specs.List.{flat_map}
use Rattle.component_table.specs.Catalogs.{CatalogView}
use Rattle.overflow_dispatch.specs.declared.handler.Note.{Note}
use Rattle.thread_registry.specs.declared.runner.result.ReplyLine.{ReplyLine}
use Rattle.tool_output.specs.Notes.{note_text}
use Rattle.tool_output.specs.Replies as Texts

-- a reply with its line's number, its thread and its word, as the output of a run has it
abbrev pub reply_line_text : CatalogView → ReplyLine → List ℕ
reply_line_text catalog l = Texts.line_text catalog l.line l.thread l.word l.reply

-- a line for each reply, in order
unfoldable pub replies_text : CatalogView → List ReplyLine → List ℕ
replies_text catalog lines = flat_map (reply_line_text catalog) lines

-- a line for each note, in order
unfoldable pub notes_text : List Note → List ℕ
notes_text notes = flat_map note_text notes
