use Rattle.postfix_rules.proofs.Words.{◌≡◌, ◌∙◌, ◌∷◌, ◌<◌, ℕ, false, true, List, length, drop, sym, ap, subst, arith, slice_index, take_while}
use Rattle.postfix_rules.proofs.Words.{is_digit, Text, InfixPart, in_infix, infix_from, sign_part, constant_part, native_part}
use Rattle.postfix_rules.proofs.InfixParts.{constant-first, digits-numeral, front-first, letter-first, native-first, sign-first, some-digits}
use Rattle.postfix_rules.proofs.infix_part.first_part.Goals as goal
use Rattle.postfix_rules.proofs.infix_part.first_part.Goals.{else-text-eq78-via-then-text-eq78+else-digits-gt0, else-text-eq78-via-else-text-eq78}

pub constant_of-requires : goal.constant_of-requires
constant_of-requires c =
    let d = sym c.is_digit.ensures ∙ c.if-is_digit.true in
    rw c.split_digits.ensures.digits (digits-numeral c.args.text.now (some-digits c.args.text.now c.requires.some d))

pub returns-then-is_digit-clause-part : goal.returns-then-is_digit-clause-part
returns-then-is_digit-clause-part c =
    let text = c.args.text.now in
    let d = sym c.is_digit.ensures ∙ c.if-is_digit.true in (
      in_infix (constant_part c.split_digits.result.0.now),
      constant-first text c.requires.some d
          ∙ ap (λ (t : Text). in_infix (constant_part t) ∷ infix_from true text) (sym c.split_digits.ensures.digits)
          ∙ ap (λ (ps : List InfixPart). in_infix (constant_part c.split_digits.result.0.now) ∷ ps) (sym c.split_digits.ensures.after),
      c.in_infix_order.ensures _ c.constant_of.ensures,
    )

pub returns-then-digits-gt0-clause-part : goal.returns-then-digits-gt0-clause-part
returns-then-digits-gt0-clause-part c =
    let text = c.args.text.now in
    let digits : c.split_digits-2.result.0.now ≡ take_while is_digit (drop 1 text) = c.split_digits-2.ensures.digits ∙ ap (take_while is_digit) c.split_at.ensures.back in
    let some : 0 < length (take_while is_digit (drop 1 text)) = subst (λ (t : Text). 0 < length t) digits c.if-digits-gt0.true in (
      in_infix (native_part c.split_digits-2.result.0.now),
      native-first text c.requires.some c.if-text-eq78.true some
          ∙ ap (λ (t : Text). in_infix (native_part t) ∷ infix_from true (drop 1 text)) (sym digits)
          ∙ ap (λ (ps : List InfixPart). in_infix (native_part c.split_digits-2.result.0.now) ∷ ps) (sym (c.split_digits-2.ensures.after ∙ ap (infix_from true) c.split_at.ensures.back)),
      c.in_infix_order-then-digits-gt0.ensures _ c.native_of.ensures,
    )

pub returns-clause-part : goal.returns-clause-part
returns-clause-part c =
    let text = c.args.text.now in
    let d : is_digit (slice_index text 0) ≡ false = sym c.is_digit.ensures ∙ c.if-is_digit.false in
    let digits : c.split_digits-2.result.0.now ≡ take_while is_digit (drop 1 text) = c.split_digits-2.ensures.digits ∙ ap (take_while is_digit) c.split_at.ensures.back in
    let whole : infix_from false text ≡ sign_part (slice_index text 0) ∷ infix_from false (drop 1 text) =
    elim c.else-text-eq78.branch [
      | else-text-eq78-via-then-text-eq78+else-digits-gt0 w ↦
          let none : length c.split_digits-2.result.0.now ≡ 0 = omega (arith, w.if-digits-gt0.false) in
          letter-first text c.requires.some d c.requires.begins (sym (ap length digits) ∙ none)
      | else-text-eq78-via-else-text-eq78 w ↦ sign-first text c.requires.some d c.requires.begins w.if-text-eq78.false
    ] in
    let first : slice_index c.split_at.result.0.now 0 ≡ slice_index text 0 = ap (λ (t : Text). slice_index t 0) c.split_at.ensures.front ∙ front-first text c.requires.some in (
      sign_part (slice_index c.split_at.result.0.now 0),
      whole
          ∙ ap (λ (b : ℕ). sign_part b ∷ infix_from false (drop 1 text)) (sym first)
          ∙ ap (λ (t : Text). sign_part (slice_index c.split_at.result.0.now 0) ∷ infix_from false t) (sym c.split_at.ensures.back),
      c.sign_of.ensures,
    )
