use Rattle.stream_reader.proofs.LeadingDigits.{digits-are}
use Rattle.stream_reader.proofs.digit_vector.hexadecimal_at.Goals as goal

pub returns : goal.returns
returns c =
    digits-are c.args.text.now c.args.place c.leading_digits-size.result c.joined.result c.digits_or_more-values.result c.requires c.digits_or_more-values.ensures c.leading_digits-size.ensures.value c.joined.ensures
