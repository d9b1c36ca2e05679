use Rattle.event_tables.proofs.Words.{◌≡◌, ◌+◌, ◌-◌, length, ap, arith, fixing, mask_text, UmaskRow}
use Rattle.event_tables.proofs.Growing.{on_last-set}
use Rattle.event_tables.proofs.adding.fix_mask.Goals as goal

pub returns : goal.returns
returns c =
    let xs = c.args.masks.now.items in
    let at_last : (c.len-last.result - 1) + 1 ≡ length xs = omega arith in
    on_last-set mask_text (fixing c.args.fixed) xs (c.len-last.result - 1) _ c.index_mut.result.now at_last
    (ap (λ (m : UmaskRow). fixing c.args.fixed (mask_text m)) c.index_mut.ensures.value)
