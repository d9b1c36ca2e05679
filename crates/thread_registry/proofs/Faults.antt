-- Counts of faults along several calls.
use Rattle.thread_registry.proofs.Words.{nat_tests, ◌≤◌, ℕ, Option, arith, Rose, FaultsKept, FaultsRose}

pub kept-kept : (a b c : Option ℕ) → FaultsKept a b → FaultsKept b c → FaultsKept a c
kept-kept = grind (arith, nat_tests)

-- it rose later
later : (x y z : ℕ) → x ≤ y → Rose y z → Rose x z
later x y z rose kept = grind (arith, nat_tests)

pub kept-rose : (a b c : Option ℕ) → FaultsKept a b → FaultsRose b c → FaultsRose a c
kept-rose = grind (arith, nat_tests, later)

-- it rose before
before : (x y z : ℕ) → x ≤ y → Rose x y → y ≤ z → Rose x z
before x y z kept rose still = grind (arith, nat_tests)

pub rose-kept : (a b c : Option ℕ) → FaultsKept a b → FaultsRose a b → FaultsKept b c → FaultsRose a c
rose-kept = grind (arith, nat_tests, before)
