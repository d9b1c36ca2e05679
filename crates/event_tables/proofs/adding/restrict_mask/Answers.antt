use Rattle.event_tables.proofs.Words.{◌≡◌, ◌+◌, ◌-◌, length, ap, arith, restricted, mask_text, UmaskRow}
use Rattle.event_tables.proofs.Growing.{on_last-set}
use Rattle.event_tables.proofs.adding.restrict_mask.Goals as goal

pub returns : goal.returns
returns c =
    let xs = c.args.masks.now.items in
    let at_last : (c.len-last.result - 1) + 1 ≡ length xs = omega arith in
    on_last-set mask_text (restricted c.args.bits) xs (c.len-last.result - 1) _ c.index_mut.result.now at_last
    (ap (λ (m : UmaskRow). restricted c.args.bits (mask_text m)) c.index_mut.ensures.value)
