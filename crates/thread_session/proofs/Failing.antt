-- The count of a session's source does not fall.
use Rattle.thread_session.proofs.Words.{◌≡◌, ℕ, ◌≤◌, arith, Option, Some, None, is_some, option_map, option_map_or, ReaderView, SourceView, faults_of}
use Rattle.thread_session.proofs.Words.{FaultsKept, fault_count}

abbrev count_of : Option SourceView → Option ℕ
count_of source = option_map (λ (s : SourceView). s.faults) source

abbrev number_of : Option SourceView → ℕ
number_of source = option_map_or (λ (s : SourceView). s.faults) source 0

kept_from : (old mid new : Option SourceView) → FaultsKept (count_of old) (count_of mid) → is_some new ≡ is_some mid → number_of mid ≤ number_of new → FaultsKept (count_of old) (count_of new)
kept_from None None None kept same more = tt
kept_from None None (Some n) kept same more = absurd cc
kept_from None (Some m) new kept same more = absurd kept
kept_from (Some o) None new kept same more = absurd kept
kept_from (Some o) (Some m) None kept same more = absurd cc
kept_from (Some o) (Some m) (Some n) kept same more = omega (arith, kept, more)

pub kept_on : (old mid new : ReaderView) → FaultsKept (fault_count old) (fault_count mid) → is_some new.source ≡ is_some mid.source → faults_of mid ≤ faults_of new → FaultsKept (fault_count old) (fault_count new)
kept_on old mid new kept same more = kept_from old.source mid.source new.source kept same more

kept_self : (source : Option SourceView) → FaultsKept (count_of source) (count_of source)
kept_self None = tt
kept_self (Some s) = omega arith

pub kept_same : (reader : ReaderView) → FaultsKept (fault_count reader) (fault_count reader)
kept_same reader = kept_self reader.source
