use Rattle.tool_output.proofs.replies.hexadecimal.+push_last_hex.Given as goal

abbrev pub decreases-push_last_hex : goal.decreases-push_last_hex
decreases-push_last_hex l = l.digits
