-- The words that the proofs of this crate share, passed on from one place. Declares nothing.
pub use Rattle.core.proofs.alloc.Calls.{Goes-blank, handle_tells, token, α}
pub use Rattle.core.proofs.alloc.Shapes.{after}
pub use Rattle.core.proofs.atomic.Steps.{fm}
pub use Rattle.core.proofs.option.Made.{Some-of, none_of}
pub use Rattle.papi_base.proofs.Steps.{take_at}
pub use Rattle.papi_base.specs.Codes.{number_of}
pub use Rattle.papi_base.specs.declared.code.Code.{Code}
pub use Rattle.papi_c.specs.Called.{AreGiven, GaveNumber, GaveValues, code_of, count_of}
pub use Rattle.papi_c.specs.Through.{Through}
pub use Rattle.papi_c.specs.contracts.handle.Handle.into_parts.{clauses, ended}
pub use Rattle.papi_calls.specs.Calls.{Made}
pub use Rattle.papi_calls.specs.Codes.{event_code}
pub use Rattle.papi_calls.specs.Libraries.{LibraryView}
pub use Rattle.session_model.specs.CallTypes.{Call}
pub use Rattle.std.proofs.Common.{Some, ap, arith, of_z, rules, to_z, w32, w64, ◌∙◌, ◌≡◌}
pub use Rattle.std.proofs.GlobalToken.{dealloc_token-Testable}
pub use Rattle.std.proofs.lemmas.Bool.Decides.{nat_tests}
pub use Rattle.std.proofs.lemmas.List.{drop-drop, drop-set-lt, length-set, map-append, nil_from_length, take_more_set}
pub use Rattle.std.proofs.raw_atomic.Walks.{leaves, proved_at}
pub use Rattle.std.specs.Prelude.{Err, IfErr, IfOk, None, Ok, OnErr, OnOk, Result, unwrap_or, ℤ}
pub use Rattle.std_alloc.proofs.BoxSteps.Form.{B, Bx, D, P, R, args, box_ty, box_typed, word, τ}
pub use Rattle.std_alloc.proofs.BoxSteps.Steps.{box_in, box_out}
pub use Rattle.std_alloc.proofs.ResultValues.{and_tt}
pub use Rattle.std_alloc.proofs.boxed.Box.from_raw.Met.{met}
pub use Rattle.std_alloc.specs.Box.Ownership.{box_owns}
pub use Rattle.std_heap.specs.contracts.GlobalAllocator.TheImpl.{dict, ghosts}
pub use Rattle.table_rows.proofs.ReaderRows.{rows-few}
pub use Rattle.table_rows.specs.Rows.{rows_of}
unfoldable pub use Rattle.table_rows.specs.Tables.{first_fault}
pub use Rattle.thread_core.specs.Following.{reply_of}
unfoldable pub use Rattle.user_events.specs.Rows.{extended_fault}
pub use base.Fml.{flft, fsep, ftrue}
pub use base.Logic.{SProp, emp, ent, fst∗, guard_i, id⊢, never}
pub use contract.BorrowLft.{◌⊑◌}
pub use contract.Monad.{fact, fact_i, fact_use}
pub use contract.Running.{MachineTables, Running, tables}
pub use denote.Exit.{no, yes}
pub use denote.Param.{bounded}
pub use denote.RattleType.{RattleType, Valss}
pub use denote.RawPtr.{Ptr, RawPtr, Testable, block_ptr, in_a_block, null_ptr, ptr_val, tests_null}
pub use denote.Signature.{Slot, plain}
pub use denote.Steps.{heard, nothing, only}
pub use denote.Struct.Owning.{fields, shape, to}
pub use denote.Struct.Struct.{within}
pub use denote.Struct.Tuple.{Tuple}
pub use denote.Triple.Call.{calls_at, calls_at_last}
pub use denote.Triple.Spec.{triple_of}
pub use denote.Triple.Walked.{Goes-dropped, Stays, stay_dropped, walk_of}
pub use lib.Dec.{T, lit<}
pub use mathlib.Core.List.{List, [], ◌++◌, ◌∷◌}
pub use mir.MapTy.{inst_fn}
pub use mir.Syntax.{Args, Fn, a_type, dcons, dnil, impl, tnil}
pub use mir.Val.{Val, WT, has_ty, of_list, vcons, vnil, vnull, vptr, vstruct}
pub use prog.Model.{Model}
pub use prog.Wp.{WpFn}
pub use seplogic.Ra.Ura.{Ura}
pub use types.ByLocal.{alloc_all, env, free_all, get, get_in, lands_as, lands_last, look_at, pass_all, sets}
pub use types.Kit.{ !, Item, Sq, at_ret, await, by, drop, feq_i, feq_l, fjoin, fpack, fpick, fsplit, given, join, keep, later, learn, move, pick, prop}
pub use types.Kit.{qed, raw, rewrite, some, split, split3, use0, use1, ‵, ◌$◌, ◌∵◌, ◌⊛◌}
pub use types.Logic.{Logic, sem}
pub use types.Match.{live}
pub use types.Part.{agg, sub, whole}
pub use types.Run.{and_then, bin, blocks, branches, enter, exec, first, fld, lit, no_more, of_opd, returns, returns_within, skips, stop}
