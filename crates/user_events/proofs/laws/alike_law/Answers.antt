use Rattle.user_events.proofs.SamePresets.{reads_as_presets}
use Rattle.user_events.proofs.laws.alike_law.Goals as goal

pub returns : goal.returns
returns c = reads_as_presets
