-- the matching takes what the test says yes of
use Rattle.multiplex.proofs.Words.{◌++◌, ◌∷◌, [], ◌∙◌, is_ok-assignable, masks_push, mask_small}
use Rattle.multiplex.proofs.rotation.joins.Goals as goal

pub returns-clause-fits : goal.returns-clause-fits
returns-clause-fits c =
    let small = mask_small c.args.group.now.counters c.args.mask c.requires.few c.requires.in_range in
    c.is_ok.ensures.value
    ∙ is_ok-assignable c.add.result (c.args.group.now.allowed ++ c.args.mask ∷ [])
    (masks_push c.args.group.now.allowed c.args.mask c.requires.masks small) c.add.ensures.assignable c.add.ensures.not_assignable
