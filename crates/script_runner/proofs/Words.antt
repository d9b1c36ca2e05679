-- The words that the proofs of this crate share, passed on from one place. Declares nothing.
pub use Rattle.call_type.specs.Calls.{call_with, name_of, name_of_call}
pub use Rattle.call_type.specs.declared.call_name.CallName.{CallName}
pub use Rattle.component_table.specs.Catalogs.{CatalogView, looked_up, shape_of}
pub use Rattle.overflow_dispatch.specs.declared.handler.Note.{Note}
pub use Rattle.papi_base.specs.Outside.{appended}
pub use Rattle.papi_base.specs.Widths.{AreWidths}
pub use Rattle.papi_base.specs.declared.limits.TheConstants.{THREADS}
pub use Rattle.papi_base.specs.declared.native.Native.{Native}
pub use Rattle.postfix_rules.proofs.Joined.{joined-append}
pub use Rattle.postfix_rules.specs.Sameness.{among, joined_by}
pub use Rattle.script_lines.specs.Calls.{Written}
pub use Rattle.script_lines.specs.declared.script.ScriptLine.{ScriptLine}
pub use Rattle.script_runner.specs.Pieces.{IsPartWritten, IsWrittenSoFar}
pub use Rattle.script_runner.specs.Replies.{reply_line_text}
unfoldable pub use Rattle.script_runner.specs.Replies.{notes_text, replies_text}
pub use Rattle.script_runner.specs.Resolving.{AreFirstOf, IsGoodAsk, asked_of, line_of, mentioned_in, setting_of}
unfoldable pub use Rattle.script_runner.specs.Resolving.{lines_of, reply_lines_of}
pub use Rattle.session_model.specs.CallTypes.{Asked, Call}
pub use Rattle.session_model.specs.World.{LineTold, Setting, mentioned_after, mentions_of, mentions_of_call}
pub use Rattle.session_model.specs.declared.line.Line.{Line}
pub use Rattle.std.proofs.Common.{Bool, List, None, Option, Some, [], ap, append_assoc, ap₂, arith, drop, false, get_or, inl, inr, length}
pub use Rattle.std.proofs.Common.{length-append, map, refl, rules, slice_get, string_bytes, subst, sym, take, true, ℕ, ◌++◌, ◌+◌, ◌<◌, ◌∙◌, ◌∷◌, ◌≡◌}
pub use Rattle.std.proofs.Common.{◌≤◌}
pub use Rattle.std.proofs.Math.Seq.{take-append-add}
pub use Rattle.std.proofs.lemmas.Bool.{cases_lt}
pub use Rattle.std.proofs.lemmas.List.{append-nil, drop_more, get_or_default, map-append, take-append-drop, take-append-le, take_all, take_more}
pub use Rattle.std.proofs.lemmas.List.Concat.{flat_map-append}
pub use Rattle.std.proofs.lemmas.List.Elements.{All-map, All-push}
pub use Rattle.std.proofs.lemmas.Option.{get_or_from_slice_get, slice_get_within}
pub use Rattle.std.proofs.lemmas.Result.{on_err_weaker}
pub use Rattle.std.specs.List.{flat_map}
pub use Rattle.std.specs.Prelude.{All, Err, Ok, OnErr, Result, if◌then◌else◌}
pub use Rattle.thread_registry.proofs.Scripts.{firsts, others}
pub use Rattle.thread_registry.specs.Plans.{Ask, IsGoodFor, IsPlanOf, Planned, ask_of, asks_from, planned_by}
pub use Rattle.thread_registry.specs.Runs.{reply_lines}
pub use Rattle.thread_registry.specs.declared.runner.plan.PlanLine.{PlanLine}
pub use Rattle.thread_registry.specs.declared.runner.result.ReplyLine.{ReplyLine}
pub use Rattle.tool_output.specs.Notes.{note_text}
