use Rattle.soak_input.proofs.Words.{◌≡◌, drop, take, occurrences_after, lines_text}
use Rattle.soak_input.proofs.Drawing.{front_given}
use Rattle.soak_input.proofs.source.SoakSource.give.Goals as goal

pub returns-clause-text : goal.returns-clause-text
returns-clause-text c =
    let self = c.args.self.now in
    let front : take c.copy_front-count.result c.copy_front-count.new.room ≡ take c.copy_front-count.result (drop self.given self.line.items) =
    rw (c.split_at.ensures.back, c.as_slice.ensures.value) at c.copy_front-count.ensures.1 in
    front_given self.line.items c.copy_front-count.new.room (lines_text (occurrences_after self.left self.generator)) self.given c.copy_front-count.result front
