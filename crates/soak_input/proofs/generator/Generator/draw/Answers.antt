use Rattle.soak_input.proofs.Words.{◌≡◌, ap, draw_at}
use Rattle.soak_input.proofs.Drawing.{stepped}
use Rattle.soak_input.proofs.generator.Generator.draw.Goals as goal

pub returns-clause-next : goal.returns-clause-next
returns-clause-next c = let e : c.args.self.now ≡ c.self.inside.number = cc in stepped c.self.inside.number c.args.self.now e

pub returns-clause-draw : goal.returns-clause-draw
returns-clause-draw c = let e : c.args.self.now ≡ c.self.inside.number = cc in ap draw_at (stepped c.self.inside.number c.args.self.now e)
