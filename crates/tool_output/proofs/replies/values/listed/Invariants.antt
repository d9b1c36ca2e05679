use Rattle.tool_output.proofs.Words.{◌≡◌, length, take}
use Rattle.papi_base.specs.declared.limits.TheConstants.{MOST_SET_EVENTS}
use Rattle.tool_output.proofs.replies.values.listed.Given as goal

abbrev pub invariant-loop-i : goal.invariant-loop-i
invariant-loop-i l = record {
  size : length l.items ≡ MOST_SET_EVENTS;
  same : take l.i l.items ≡ take l.i l.values;
}
