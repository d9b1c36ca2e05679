-- The text of a line that is told in parts: what stands before its reply, and its reply.
use Rattle.std.proofs.Common.{◌≡◌, ◌++◌, ◌<◌, ℕ, zero, suc, List, [], ◌∷◌, Option, Some, None, IfSome, arith, length, refl, slice_get}
use Rattle.std.specs.Option.{option_map}
use Rattle.call_type.specs.declared.call_name.CallName.{CallName}
use Rattle.component_table.specs.Catalogs.{CatalogView}
use Rattle.session_model.specs.declared.reply.Reply.{Reply}
use Rattle.thread_registry.specs.declared.runner.result.ReplyLine.{ReplyLine}
use Rattle.tool_output.specs.Replies.{line_text}
use Rattle.script_runner.specs.Replies.{reply_line_text}

pub line_told : (o : Option ReplyLine) (catalog : CatalogView) (line thread : ℕ) (word : CallName) (reply : Reply) (before after : List ℕ) → option_map (λ l. l.line) o ≡ Some line → option_map (λ l. l.thread) o ≡ Some thread
    → option_map (λ l. l.word) o ≡ Some word → IfSome o (λ l. l.reply ≡ reply) → after ≡ before ++ line_text catalog line thread word reply → IfSome o (λ l. after ≡ before ++ reply_line_text catalog l)
line_told None catalog line thread word reply before after a b c d e = cc
line_told (Some l) catalog line thread word reply before after a b c d e = cc

-- the item at a place that is there
pub found : {X : Type 0} (xs : List X) (i : ℕ) → i < length xs → (x : X) × (slice_get xs i ≡ Some x)
found [] i inside = absurd (omega (arith, inside))
found (x ∷ xs) zero inside = (x, refl)
found (x ∷ xs) (suc i) inside = found xs i (omega (arith, inside))
