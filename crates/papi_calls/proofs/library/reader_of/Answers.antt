use Rattle.std.proofs.Common.{◌∙◌, ◌≡◌, rules, true}
use Rattle.papi_base.specs.Numerals.{is_empty}
use Rattle.papi_calls.proofs.Opening.{ended_says}
use Rattle.papi_calls.proofs.library.reader_of.Goals as goal

pub returns-then-is_empty-clause-coming : goal.returns-then-is_empty-clause-coming
returns-then-is_empty-clause-coming c =
    let none : is_empty c.args.stream.items ≡ true = search rules in
    c.ended.ensures.coming ∙ ended_says c.args.stream.items none
