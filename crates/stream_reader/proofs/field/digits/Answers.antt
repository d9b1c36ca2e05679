use Rattle.stream_reader.proofs.Words.{◌≡◌, ◌∙◌, ◌<◌, ℕ, Option, IfSome, false, get_or, subst, sym, arith, rules, nat_tests, is_digit, digits_on}
use Rattle.stream_reader.proofs.DecimalBytes.{digit}
use Rattle.stream_reader.proofs.FieldSteps.{at-space, at-end, at-other, at-digit, too-large}
use Rattle.stream_reader.proofs.field.digits.Goals as goal
use Rattle.stream_reader.proofs.field.digits.Goals.{then-byte-lt48-via-then-byte-lt48, then-byte-lt48-via-else-byte-lt48+then-byte-gt57}
use Rattle.stream_reader.proofs.field.digits.Goals.{then-byte-lt48-via-else-byte-lt48+else-byte-gt57+then-value-greatest}

pub returns-then-byte-eq32 : goal.returns-then-byte-eq32
returns-then-byte-eq32 c =
    let e = at-space is_digit 10 c.args.text.now c.loop-size.size c.loop-size.value c.loop-size-test.true c.if-byte-eq32.true in
    record { large = search rules; value = c.loop-size.invariant.rest ∙ e.value; size = omega (arith, e.long); within = search rules }

pub returns-then-byte-lt48-clause-large : goal.returns-then-byte-lt48-clause-large
returns-then-byte-lt48-clause-large c =
    let P : Option ℕ → Type 0 = λ o. IfSome o (λ n. c.args.greatest < n) in
    let other : is_digit (get_or c.args.text.now c.loop-size.size 0) ≡ false → P (digits_on 0 c.args.text.now) =
    λ no. subst P (sym (c.loop-size.invariant.rest ∙ at-other is_digit 10 c.args.text.now c.loop-size.size c.loop-size.value c.loop-size-test.true c.if-byte-eq32.false no)) tt in
    elim c.then-byte-lt48.branch [
      | then-byte-lt48-via-then-byte-lt48 w ↦ (let low = w.if-byte-lt48.true in other (grind (arith, nat_tests)))
      | then-byte-lt48-via-else-byte-lt48+then-byte-gt57 w ↦ (let high = w.if-byte-gt57.true in other (grind (arith, nat_tests)))
      | then-byte-lt48-via-else-byte-lt48+else-byte-gt57+then-value-greatest w ↦ subst P (sym c.loop-size.invariant.rest) (too-large c.args.greatest c.loop-size.value _ w.if-value-greatest.true)
    ]

pub loop-size-preserved : goal.loop-size-preserved
loop-size-preserved c =
    let d = digit (get_or c.args.text.now c.loop-size.size 0) c.if-byte-lt48.false c.if-byte-gt57.false in
    let g = at-digit is_digit 10 c.args.text.now c.loop-size.size c.loop-size.value c.loop-size-test.true c.if-byte-eq32.false in
    record {
      rest = c.loop-size.invariant.rest ∙ rw (c.from.ensures, ← d.value) (g.value d.test);
      long = omega (arith, g.long);
      small = omega arith;
    }

pub returns : goal.returns
returns c =
    let e = at-end is_digit 10 c.args.text.now c.loop-size.size c.loop-size.value c.loop-size-test.false in
    record { large = search rules; value = c.loop-size.invariant.rest ∙ e.value; size = omega (arith, e.long); within = search rules }
