use Rattle.counter_unit.specs.declared.selects.Key.TheVariants as key
use Rattle.counter_unit.proofs.Words.{ap, sym, ◌∙◌, bit_at-zero, is_modified, bit_of}
use Rattle.counter_unit.proofs.Places.{at_place-replicate}
use Rattle.counter_unit.proofs.Tables.{AreMarked-none}
use Rattle.counter_unit.proofs.selects.Selects.none.Goals as goal

pub returns : goal.returns
returns c n = record { user = AreMarked-none key.User n; kernel = AreMarked-none key.Kernel n; umasks = AreMarked-none key.Umask n; comps = AreMarked-none key.Comp n; modified = λ k below. bit_at-zero k ∙ sym (ap (λ r. bit_of (is_modified r)) (at_place-replicate n k)) }
