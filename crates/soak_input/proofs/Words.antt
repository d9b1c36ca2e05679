-- The words that the proofs of this crate share, passed on from one place. Declares nothing.
pub use Rattle.papi_base.proofs.Growing.{both, item_more, number_more}
pub use Rattle.papi_base.proofs.Steps.{drop_at, drop_item}
pub use Rattle.papi_base.specs.Outside.{Gives}
pub use Rattle.soak_input.specs.Generator.{draw_at}
unfoldable pub use Rattle.soak_input.specs.Generator.{next}
pub use Rattle.soak_input.specs.Occurrences.{fifth, occurrence_after}
unfoldable pub use Rattle.soak_input.specs.Occurrences.{occurrences_after}
pub use Rattle.soak_input.specs.Script.{by_thread, call_lines, round}
pub use Rattle.soak_input.specs.Source.{left_text, well_ended}
pub use Rattle.soak_input.specs.SourceView.{text_left}
pub use Rattle.soak_input.specs.Streams.{Text, line_text, lines_text, six_digits, two_digits}
pub use Rattle.soak_input.specs.Summary.{add_values, sum_of, thread_line, values_text}
unfoldable pub use Rattle.soak_input.specs.Summary.{summary_text, thread_lines}
pub use Rattle.soak_input.specs.declared.occurrence.Occurrence.{Occurrence}
pub use Rattle.soak_input.specs.declared.summary.ThreadTotal.{ThreadTotal}
pub use Rattle.std.proofs.Common.{List, Ok, [], add-zero, ap, append_assoc, ap₂, arith, drop, false, fold, get_or, length, length-append, map, rules}
pub use Rattle.std.proofs.Common.{suc, sym, take, to_z, w64, zero, ℕ, ℤ, ◌%◌, ◌*◌, ◌++◌, ◌+◌, ◌-◌, ◌/◌, ◌<◌, ◌∙◌, ◌∷◌, ◌≡◌, ◌≤◌}
pub use Rattle.std.proofs.Math.Nat.{mod-add-mod}
pub use Rattle.std.proofs.Math.Seq.{take-append-add, take-append_seam}
pub use Rattle.std.proofs.lemmas.Int.{to_z-of_z}
pub use Rattle.std.proofs.lemmas.List.{append-nil, drop-drop, drop_all, length-take-le, take-append-drop, take-append-le, take_all, take_more}
pub use Rattle.std.specs.Fmt.{digit_glyph, signed_decimal}
pub use Rattle.std.specs.Int.{int_wrapping_add}
pub use Rattle.std.specs.List.{flat_map, range_with_len}
pub use Rattle.std.specs.Prelude.{FitsSigned, codes, decimal, string_bytes}
