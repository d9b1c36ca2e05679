use Rattle.stream_reader.proofs.Words.{◌≡◌, ◌∙◌, sym, arith, get_or, inl, inr, length, rules, ltb-true, nat_tests, is_hex_digit}
use Rattle.stream_reader.proofs.FieldSteps.{Ends, at-digit, at-end, at-space}
use Rattle.stream_reader.proofs.Hexadecimals.{Stops, digit-some, digit-no-space, digit-none, hex-few, hex-small, hex-stops, hex-within}
use Rattle.stream_reader.proofs.field.hexadecimal.Goals as goal
use Rattle.stream_reader.proofs.field.hexadecimal.Goals.{then-size-few-via-then-size-few, then-size-few-via-else-size-few+then-text-size-ne32}
use Rattle.stream_reader.proofs.field.hexadecimal.Goals.{then-size-text, else-size-text, else-loop-size-test, then-loop-size-test+in-None}

pub overflow_mul-value : goal.overflow_mul-value
overflow_mul-value c =
    let d = digit-some (get_or c.args.text.now c.loop-size.size 0) c.in-Some.digit c.in-Some.ensures in
    let s = hex-small c.loop-size.size c.args.many c.loop-size.value c.in-Some.digit (omega arith) c.requires c.loop-size.invariant.small d.small in
    omega (arith, s.fits)

pub overflow_add-value : goal.overflow_add-value
overflow_add-value c =
    let d = digit-some (get_or c.args.text.now c.loop-size.size 0) c.in-Some.digit c.in-Some.ensures in
    let s = hex-small c.loop-size.size c.args.many c.loop-size.value c.in-Some.digit (omega arith) c.requires c.loop-size.invariant.small d.small in
    omega (arith, s.fits)

pub loop-size-preserved : goal.loop-size-preserved
loop-size-preserved c =
    let d = digit-some (get_or c.args.text.now c.loop-size.size 0) c.in-Some.digit c.in-Some.ensures in
    let s = hex-small c.loop-size.size c.args.many c.loop-size.value c.in-Some.digit (omega arith) c.requires c.loop-size.invariant.small d.small in
    let g = at-digit is_hex_digit 16 c.args.text.now c.loop-size.size c.loop-size.value (omega arith) (digit-no-space (get_or c.args.text.now c.loop-size.size 0) d.test) in
    record {
      rest = c.loop-size.invariant.rest ∙ rw d.value (g.value d.test);
      long = omega (arith, g.long);
      small = s.below;
      within = omega arith;
    }

pub returns-then-size-few-clause-value : goal.returns-then-size-few-clause-value
returns-then-size-few-clause-value c =
    let stops : Stops c.args.text.now c.args.many c.loop-size.size = elim c.loop-size-test.branch [
      | else-loop-size-test w ↦ inr (omega (arith, c.min-most.ensures, w.loop-size-test.false))
      | then-loop-size-test+in-None w ↦ inl (digit-none (get_or c.args.text.now c.loop-size.size 0) w.in-None.ensures)
    ] in
    sym (elim c.then-size-few.branch [
      | then-size-few-via-then-size-few w ↦ hex-few c.args.few c.args.many c.loop-size.value c.loop-size.size c.args.text.now c.loop-size.invariant.rest c.loop-size.invariant.long stops w.if-size-few.true
      | then-size-few-via-else-size-few+then-text-size-ne32 w ↦ elim w.if-size-text.branch [
        | then-size-text w' ↦ hex-stops c.args.few c.args.many c.loop-size.value c.loop-size.size c.args.text.now c.loop-size.invariant.rest c.loop-size.invariant.long stops w'.if-size-text.true (grind (arith, nat_tests))
        | else-size-text w' ↦ (let less = ltb-true c.loop-size.size (length c.args.text.now) (sym w'.value-is ∙ w.if-text-size-ne32.true) in absurd (omega (arith, less, w'.if-size-text.false)))
      ]
    ])

pub returns : goal.returns
returns c =
    let ends : Ends is_hex_digit 16 c.args.text.now c.loop-size.size c.loop-size.value = elim c.if-size-text.branch [
      | then-size-text w ↦ (let space : get_or c.args.text.now c.loop-size.size 0 ≡ 32 = grind (arith, nat_tests) in at-space is_hex_digit 16 c.args.text.now c.loop-size.size c.loop-size.value w.if-size-text.true space)
      | else-size-text w ↦ at-end is_hex_digit 16 c.args.text.now c.loop-size.size c.loop-size.value w.if-size-text.false
    ] in
    record {
      value = sym (hex-within c.args.few c.args.many c.loop-size.value c.args.text.now (c.loop-size.invariant.rest ∙ ends.value) (omega (arith, ends.long)) (omega (arith, ends.long)));
      size = omega (arith, ends.long);
      most = search rules;
    }
