-- The laws of a script, its begins and its readings, put together.
use Rattle.std.proofs.Common.{arith}
use Rattle.call_laws.proofs.Words.{spans_from, CountsByPosition}
use Rattle.call_laws.proofs.Begun.{scripts_are_begun}
use Rattle.call_laws.proofs.LookedUp.{script_is_looked_up}
use Rattle.call_laws.proofs.Spanned.{spans_by_position}

pub counts_by_position : CountsByPosition
counts_by_position at ask streams bytes lines texts events read threads looks some takes fit = grind (arith, script_is_looked_up, spans_from, spans_by_position, scripts_are_begun)
