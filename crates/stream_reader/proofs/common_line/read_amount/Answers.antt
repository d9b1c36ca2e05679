use Rattle.std.proofs.Common.{refl}
use Rattle.stream_reader.proofs.Amounts.{amount-1, amount-2, amount-3, some-amount}
use Rattle.stream_reader.proofs.common_line.read_amount.Goals as goal

pub returns-then-text-eq32 : goal.returns-then-text-eq32
returns-then-text-eq32 c =
    some-amount _ _ (λ amount h. amount-2 c.args.text.now _ amount c.requires c.if-text-eq32.true
    (rw (c.decimal_or_256-first.ensures.value, c.decimal_or_256-second.ensures.value) refl) h) c.amount_of.result c.amount_of.ensures

pub returns-then-text-eq32-2 : goal.returns-then-text-eq32-2
returns-then-text-eq32-2 c =
    some-amount _ _ (λ amount h. amount-1 c.args.text.now _ amount c.requires c.if-text-eq32-2.true c.decimal_or_256-first.ensures.value h)
    c.amount_of-then-text-eq32-2.result c.amount_of-then-text-eq32-2.ensures

pub returns : goal.returns
returns c =
    some-amount _ _ (λ amount h. amount-3 c.args.text.now _ amount c.requires c.if-text-ne32.false
    (rw (c.decimal_or_256-first.ensures.value, c.decimal_or_256-second.ensures.value, c.decimal_or_256-third.ensures.value) refl) h) c.amount_of-2.result c.amount_of-2.ensures
