use Rattle.event_sets.proofs.Sound.{added_is_sound, armed_is_sound, assigned_is_sound, emptied_is_sound, held_fit, new_is_sound, removed_is_sound, with_domain_is_sound, with_slice_is_sound}
use Rattle.std.proofs.Common.{rules}
use Rattle.event_sets.proofs.laws.soundness_laws.Goals as goal

pub returns : goal.returns
returns c = search (rules, new_is_sound, added_is_sound, emptied_is_sound, removed_is_sound, assigned_is_sound, with_domain_is_sound, with_slice_is_sound, armed_is_sound, held_fit)
