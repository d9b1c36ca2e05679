use Rattle.stream_reader.proofs.Words.{◌≡◌, ◌≤◌, true, false, is_some, GaveNothing, faults_of, has_answer, Passes, left_of}
use Rattle.stream_reader.proofs.reader.StreamReader.next.Given as goal

abbrev pub invariant-loop-next : goal.invariant-loop-next
invariant-loop-next g l = record {
  over : l.self.over ≡ false;
  passes : Passes l.fn.self l.self;
  counts : GaveNothing l.fn.self.start l.self.start;
  hand : has_answer l.fn.self ≡ true → (l.self.source ≡ l.fn.self.source) × (has_answer l.self ≡ true);
  asked : l.self.asked ≡ true;
  kept : is_some l.self.source ≡ is_some l.fn.self.source;
  faults : faults_of l.fn.self ≤ faults_of l.self;
}

abbrev pub decreases-loop-next : goal.decreases-loop-next
decreases-loop-next g l = left_of l.self
