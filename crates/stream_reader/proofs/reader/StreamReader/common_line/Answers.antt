use Rattle.stream_reader.proofs.Words.{sym, subst, arith, Occurs, HoldsLine}
use Rattle.stream_reader.proofs.CommonLines.{holds-line}
use Rattle.stream_reader.proofs.reader.StreamReader.common_line.Goals as goal

pub returns : goal.returns
returns g c =
    subst (λ v. HoldsLine v c.in_ok-line.line.size (Occurs c.in_ok-line.line.occ)) c.self.view_is (holds-line _ c.in_ok-line.line c.in_ok-line.ensures (sym c.if-not-is_next_stamp.ensures) (omega (arith, c.if-passed-gt-LARGEST_STREAM.false)))
