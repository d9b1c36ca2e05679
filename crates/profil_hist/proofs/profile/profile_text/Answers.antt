use Rattle.std.specs.Prelude.{string_bytes}
use Rattle.profil_hist.proofs.Profiled.{profiled_text}
use Rattle.profil_hist.proofs.profile.profile_text.Goals as goal

pub returns-clause-profile : goal.returns-clause-profile
returns-clause-profile c pcs is = profiled_text string_bytes _ pcs c.lines_of.result is c.lines_of.ensures
