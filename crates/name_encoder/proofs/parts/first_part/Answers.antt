use Rattle.std.proofs.Common.{◌∙◌, sym, ap}
use Rattle.name_encoder.proofs.Cuts.{parts-first, parts_after}
use Rattle.name_encoder.proofs.parts.first_part.Goals as goal

pub returns-in-Some : goal.returns-in-Some
returns-in-Some c = parts-first c.args.text.now ∙ ap (parts_after c.args.text.now) (sym (rw c.in-Some.is at c.cut_at.ensures))

pub returns-in-None : goal.returns-in-None
returns-in-None c = parts-first c.args.text.now ∙ ap (parts_after c.args.text.now) (sym (rw c.in-None.is at c.cut_at.ensures))
