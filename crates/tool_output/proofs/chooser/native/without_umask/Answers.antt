use Rattle.tool_output.proofs.Words.{refl, bits_of, common_of, fixed_of, values_of}
use Rattle.tool_output.proofs.chooser.native.without_umask.Goals as goal

pub returns : goal.returns
unfolding bits_of common_of fixed_of values_of
returns c component = refl
