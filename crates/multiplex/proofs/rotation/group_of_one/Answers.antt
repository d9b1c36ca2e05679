-- one native event with a counter fits
use Rattle.multiplex.proofs.Words.{◌++◌, ◌∷◌, [], ap, ◌∙◌, is_assignable, MatchingView, is_assignable_one, mask_small}
use Rattle.multiplex.proofs.rotation.group_of_one.Goals as goal

pub returns : goal.returns
returns c =
    let small = mask_small c.args.counters c.args.mask c.requires.few c.requires.in_range in
    let e = c.empty-group.ensures in
    let is = c.joins-fits.ensures.fits ∙ ap (λ (k : MatchingView). is_assignable (k.allowed ++ c.args.mask ∷ [])) e ∙ is_assignable_one c.args.mask c.requires.some small in
    c.joins-fits.ensures.joined is ∙ ap (λ (k : MatchingView). record k { allowed = k.allowed ++ c.args.mask ∷ [] }) e
