use Rattle.stream_reader.proofs.Words.{refl, subst, Skipped, HoldsLine}
use Rattle.stream_reader.proofs.CommonLines.{holds-skipped}
use Rattle.stream_reader.proofs.reader.StreamReader.skipped_line.Goals as goal

pub returns : goal.returns
returns g c =
    let within = c.if-not-is_within.ensures refl in
    subst (λ v. HoldsLine v c.in_ok-size.size Skipped) c.self.view_is (holds-skipped _ c.in_ok-size.size c.in_ok-size.ensures within.0 within.1 (c.if-not-begins_skipped.ensures refl))
