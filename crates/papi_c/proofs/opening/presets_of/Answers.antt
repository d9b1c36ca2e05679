-- A text with no bytes has no faulty row.
use Rattle.std.proofs.Common.{◌≡◌, ℕ, List, None, arith, length, refl}
use Rattle.papi_c.proofs.Words.{nat_tests, nil_from_length, rows-few, rows_of, first_fault, extended_fault}
use Rattle.papi_c.proofs.opening.presets_of.Goals as goal

none-faulty : (name bytes : List ℕ) → length bytes ≡ 0 → extended_fault name bytes ≡ None
unfolding extended_fault first_fault
none-faulty name bytes none =
    let few = rows-few bytes in
    rw (nil_from_length (rows_of bytes) (omega (arith, few, none))) refl

pub returns-then-is_empty-clause-faultless : goal.returns-then-is_empty-clause-faultless
returns-then-is_empty-clause-faultless c =
    let none : length c.args.presets.now ≡ 0 = grind (arith, nat_tests, c.if-is_empty.true, c.is_empty.ensures) in
    none-faulty c.args.cpu.now c.args.presets.now none
