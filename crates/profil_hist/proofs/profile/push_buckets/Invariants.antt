use Rattle.profil_hist.proofs.Words.{◌≡◌, ◌++◌, string_bytes, flat_map, range_with_len, bucket_line, count_or_none, range_text}
use Rattle.profil_hist.proofs.profile.push_buckets.Given as goal

abbrev pub invariant-loop-i : goal.invariant-loop-i
invariant-loop-i l =
    string_bytes l.text ≡ string_bytes l.initial.text ++ flat_map (λ i. bucket_line (range_text l.range) i (count_or_none l.hist l.k i)) (range_with_len 0 l.i)
