use Rattle.soak_input.proofs.Drawing.{line_drawn}
use Rattle.soak_input.proofs.source.SoakSource.draw_line.Goals as goal

pub returns-clause-text : goal.returns-clause-text
returns-clause-text c =
    line_drawn c.args.self.now.line.items _ c.args.self.now.given c.args.self.now.left c.args.self.now.generator _ c.draw.result c.requires.given c.requires.left
    c.draw.ensures.drawn c.draw.ensures.after c.line_text-self.ensures.text
