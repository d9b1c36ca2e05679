-- What is looked at after a step that ends the call.
use Rattle.papi_tools.proofs.Words.{◌≤◌, ℕ, Err, inl, Rose, FilesSeen, HasFileCause, Looked, StopsByFile, Refusal, NoSuchFile, CannotRead, Stop}
use Rattle.papi_tools.specs.declared.refusal.Stop.TheVariants.{Refused, Memory}
use Rattle.papi_tools.proofs.StreamLemmas.{by_either}

-- a count that rose has risen later
rose_then : (m n k : ℕ) → Rose m n → m ≤ n → n ≤ k → Rose m k
rose_then m n k h a b = by_either {A = Rose m n} {B = Rose n k} m n k (inl h) (λ x. x) (λ x. x) a b

-- what ended the call did so also if more is looked at
caused_then : (refusal : Refusal) (before mid after : FilesSeen) → HasFileCause before mid refusal → before.misses ≤ mid.misses → before.faults ≤ mid.faults → mid.misses ≤ after.misses → mid.faults ≤ after.faults
    → HasFileCause before after refusal
caused_then (NoSuchFile name) before mid after h a b c d = rose_then before.misses mid.misses after.misses h a c
caused_then (CannotRead name) before mid after h a b c d = rose_then before.faults mid.faults after.faults h b d
caused_then other before mid after h a b c d = h

pub stopped_then : {A : Type 0} (s : Stop) (out : ℕ) (before mid after : FilesSeen) → Looked {A = A} (Err s) out before mid → mid.misses ≤ after.misses → mid.faults ≤ after.faults → StopsByFile {A = A} (Err s) before after
stopped_then (Refused refusal) out before mid after h c d = caused_then refusal before mid after h.cause h.misses_stay h.faults_stay c d
stopped_then Memory out before mid after h c d = tt
