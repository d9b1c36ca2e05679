-- One token more of a formula in infix order.
use Rattle.postfix_rules.proofs.Words.{◌≡◌, ◌∙◌, ◌<◌, ◌^◌, ◌∷◌, ◌++◌, ℕ, Bool, true, false, List, [], Option, Some, None, length, refl, sym, ap}
use Rattle.postfix_rules.proofs.Words.{arith, append_assoc, append-nil, ltb-true, InfixToken, Waiting, Operator, Token, begins_factor, infix_cause}
use Rattle.postfix_rules.proofs.Words.{open_after, place_of_operand, OrderView, operand_moved, operator_tokens, order_cause, order_moved, sum_moved}
use Rattle.postfix_rules.proofs.Words.{spelling}
use Rattle.std.specs.Prelude.{nat_lt}
use Rattle.postfix_rules.specs.declared.fault.FormulaCause.TheVariants as cause
use Rattle.postfix_rules.specs.declared.infix_token.InfixToken.TheVariants as sign
use Rattle.postfix_rules.specs.declared.token.Operator.TheVariants as op
use Rattle.postfix_rules.specs.declared.token.Token.TheVariants as token
use Rattle.postfix_rules.specs.Infix.{IsPhrase, Written, Number, Native, Inside, factor, tree_of, wording}
use Rattle.postfix_rules.proofs.Spelled.{kept_if}
use Rattle.postfix_rules.proofs.InfixStates.{Frame, Held, IsAdding, IsFine, Small, State, by, done, frame, held, held_tokens, held_words, joined, joined-sum, joined-term}
use Rattle.postfix_rules.proofs.InfixStates.{joined-tokens, joined-words, order_of, outer_tokens, outer_words, state_words, stepped, waits, wants}

-- ---- lists

regroup : {X : Type 0} (a b c d : List X) → (a ++ (b ++ c)) ++ d ≡ a ++ (b ++ (c ++ d))
regroup a b c d = append_assoc a (b ++ c) d ∙ ap (λ t. a ++ t) (append_assoc b c d)

-- a leaf after a sum and a product
leaf-words : (outer : List Frame) (s p : Option Held) (w : Written) (t : InfixToken) → wording w ≡ t ∷ [] → state_words (done outer s (joined p w)) ≡ state_words (wants outer s p) ++ (t ∷ [])
leaf-words outer s p w t is =
    ap (λ (ts : List InfixToken). outer_words outer ++ (held_words s ++ ts)) (sym (joined-words p w) ∙ ap (λ (ts : List InfixToken). held_words p ++ ts) is)
    ∙ sym (regroup (outer_words outer) (held_words s) (held_words p) (t ∷ []))

leaf-tokens : (outer : List Frame) (s p : Option Held) (w : Written) (t : Token) → spelling (tree_of w) ≡ t ∷ []
    → ((outer_tokens outer ++ (held_tokens s ++ held_tokens p)) ++ (t ∷ [])) ++ operator_tokens (by p) ≡ outer_tokens outer ++ (held_tokens s ++ spelling (tree_of (joined p w)))
leaf-tokens outer s p w t is =
    append_assoc (outer_tokens outer ++ (held_tokens s ++ held_tokens p)) (t ∷ []) (operator_tokens (by p))
    ∙ regroup (outer_tokens outer) (held_tokens s) (held_tokens p) (t ∷ operator_tokens (by p))
    ∙ ap (λ (ts : List Token). outer_tokens outer ++ (held_tokens s ++ (held_tokens p ++ (ts ++ operator_tokens (by p))))) (sym is)
    ∙ ap (λ (ts : List Token). outer_tokens outer ++ (held_tokens s ++ ts)) (joined-tokens p w)

-- a term joins the sum before it
sum-words : (outer : List Frame) (s : Option Held) (w : Written) (o : Operator)
    → state_words (wants outer (Some (held (joined s w) o)) None) ≡ state_words (done outer s w) ++ (sign.Token (token.Operator o) ∷ [])
sum-words outer s w o =
    ap (λ (ts : List InfixToken). outer_words outer ++ ts)
    (append-nil (wording (joined s w) ++ (sign.Token (token.Operator o) ∷ []))
    ∙ ap (λ (ts : List InfixToken). ts ++ (sign.Token (token.Operator o) ∷ [])) (sym (joined-words s w)))
    ∙ sym (append_assoc (outer_words outer) (held_words s ++ wording w) (sign.Token (token.Operator o) ∷ []))

sum-tokens : (outer : List Frame) (s : Option Held) (w : Written)
    → (outer_tokens outer ++ (held_tokens s ++ spelling (tree_of w))) ++ operator_tokens (by s)
    ≡ outer_tokens outer ++ (spelling (tree_of (joined s w)) ++ [])
sum-tokens outer s w =
    regroup (outer_tokens outer) (held_tokens s) (spelling (tree_of w)) (operator_tokens (by s))
    ∙ ap (λ (ts : List Token). outer_tokens outer ++ ts) (joined-tokens s w ∙ sym (append-nil (spelling (tree_of (joined s w)))))

product-words : (outer : List Frame) (s : Option Held) (w : Written) (o : Operator)
    → state_words (wants outer s (Some (held w o))) ≡ state_words (done outer s w) ++ (sign.Token (token.Operator o) ∷ [])
product-words outer s w o = sym (regroup (outer_words outer) (held_words s) (wording w) (sign.Token (token.Operator o) ∷ []))

open-words : (outer : List Frame) (s p : Option Held) → state_words (wants (frame s p ∷ outer) None None) ≡ state_words (wants outer s p) ++ (sign.Open ∷ [])
open-words outer s p =
    append-nil (outer_words (frame s p ∷ outer)) ∙ sym (regroup (outer_words outer) (held_words s) (held_words p) (sign.Open ∷ []))

close-words : (outer : List Frame) (t p s : Option Held) (w : Written) → state_words (done outer t (joined p (Inside (joined s w)))) ≡ state_words (done (frame t p ∷ outer) s w) ++ (sign.Close ∷ [])
close-words outer t p s w =
    let inner = wording (joined s w) in
    let close = sign.Close ∷ [] in
    let left : state_words (done outer t (joined p (Inside (joined s w)))) ≡ outer_words outer ++ (held_words t ++ (held_words p ++ (sign.Open ∷ (inner ++ close))))
    = ap (λ (ts : List InfixToken). outer_words outer ++ (held_words t ++ ts)) (sym (joined-words p (Inside (joined s w)))) in
    let right : state_words (done (frame t p ∷ outer) s w) ++ close ≡ (outer_words outer ++ (held_words t ++ (held_words p ++ (sign.Open ∷ [])))) ++ (inner ++ close)
    = append_assoc (outer_words (frame t p ∷ outer)) (held_words s ++ wording w) close ∙ ap (λ (ts : List InfixToken). outer_words (frame t p ∷ outer) ++ (ts ++ close)) (joined-words s w) in
    left ∙ ap (λ (ts : List InfixToken). outer_words outer ++ (held_words t ++ ts)) (sym (append_assoc (held_words p) (sign.Open ∷ []) (inner ++ close)))
    ∙ sym (regroup (outer_words outer) (held_words t) (held_words p ++ (sign.Open ∷ [])) (inner ++ close)) ∙ sym right

close-tokens : (outer : List Frame) (t p s : Option Held) (w : Written)
    → (((outer_tokens outer ++ (held_tokens t ++ held_tokens p)) ++ (held_tokens s ++ spelling (tree_of w))) ++ operator_tokens (by s)) ++ operator_tokens (by p)
    ≡ outer_tokens outer ++ (held_tokens t ++ spelling (tree_of (joined p (Inside (joined s w)))))
close-tokens outer t p s w =
    let all = outer_tokens outer ++ (held_tokens t ++ held_tokens p) in
    ap (λ (ts : List Token). ts ++ operator_tokens (by p))
    (append_assoc all (held_tokens s ++ spelling (tree_of w)) (operator_tokens (by s))
    ∙ ap (λ (ts : List Token). all ++ ts) (append_assoc (held_tokens s) (spelling (tree_of w)) (operator_tokens (by s)) ∙ joined-tokens s w))
    ∙ append_assoc all (spelling (tree_of (joined s w))) (operator_tokens (by p))
    ∙ regroup (outer_tokens outer) (held_tokens t) (held_tokens p) (spelling (tree_of (joined s w)) ++ operator_tokens (by p))
    ∙ ap (λ (ts : List Token). outer_tokens outer ++ (held_tokens t ++ ts)) (joined-tokens p (Inside (joined s w)))

-- ---- what a token without a cause is

abbrev order-with : List Waiting → Waiting → Bool → List Token → OrderView
order-with outer here must tokens = record { tokens = tokens; outer = outer; here = here; must = must }

-- the state after one token more, and how it shows
pub record Moves (natives : ℕ) (s : State) (t : InfixToken) : Type 0 where
  pub words : state_words (stepped s t) ≡ state_words s ++ (t ∷ [])
  pub order : order_moved (order_of s) t ≡ order_of (stepped s t)
  pub fine : IsFine natives (stepped s t)
  pub must : begins_factor (Some t) ≡ (order_of (stepped s t)).must
  pub depth : open_after (length (order_of s).outer) (Some t) ≡ length (order_of (stepped s t)).outer

operand-free : (b : Bool) → place_of_operand b ≡ None → b ≡ true
operand-free b e = (kept_if b None cause.OperandsLeft e).0

small-number : (natives n : ℕ) (must : Bool) (depth : ℕ) → infix_cause natives must depth (Some (sign.Token (token.Constant n))) ≡ None → (n < 2 ^ 63) × (must ≡ true)
unfolding infix_cause
small-number natives n must depth e = let k = kept_if (nat_lt n (2 ^ 63)) (place_of_operand must) cause.ConstantTooLarge e in (ltb-true n (2 ^ 63) k.0, operand-free must k.1)

small-native : (natives i : ℕ) (must : Bool) (depth : ℕ) → infix_cause natives must depth (Some (sign.Token (token.Native i))) ≡ None → (i < natives) × (must ≡ true)
unfolding infix_cause
small-native natives i must depth e = let k = kept_if (nat_lt i natives) (place_of_operand must) cause.NativeRange e in (ltb-true i natives k.0, operand-free must k.1)

after-operand : (natives : ℕ) (o : Operator) (depth : ℕ) → infix_cause natives true depth (Some (sign.Token (token.Operator o))) ≡ None → ⊥
unfolding infix_cause
after-operand natives o depth e = cc e

closes-none : (natives depth : ℕ) → infix_cause natives true depth (Some sign.Close) ≡ None → ⊥
unfolding infix_cause
closes-none natives depth e = cc e

closes-nothing : (natives : ℕ) → infix_cause natives false 0 (Some sign.Close) ≡ None → ⊥
unfolding infix_cause
closes-nothing natives e = cc e

opens-none : (natives depth : ℕ) → infix_cause natives false depth (Some sign.Open) ≡ None → ⊥
unfolding infix_cause
opens-none natives depth e = cc e

wrong : {A : Type 0} → false ≡ true → A
wrong e = cc e

-- a constant or a native is a factor more
operand : (natives : ℕ) (outer : List Frame) (s p : Option Held) (w : Written) (t : Token) → IsFine natives (wants outer s p) → IsPhrase factor w → Small natives w
    → wording w ≡ sign.Token t ∷ [] → spelling (tree_of w) ≡ t ∷ []
    → (state_words (done outer s (joined p w)) ≡ state_words (wants outer s p) ++ (sign.Token t ∷ []))
    × (operand_moved (order_of (wants outer s p)) t ≡ order_of (done outer s (joined p w)))
    × IsFine natives (done outer s (joined p w))
operand natives outer s p w t h alone small words tokens =
    let term = joined-term natives p w h.2 alone small in (
      leaf-words outer s p w (sign.Token t) words,
      ap (order-with (waits outer) (record { sum = by s; product = None }) false) (leaf-tokens outer s p w t tokens),
      (h.0, h.1, term.0, term.1),
    )

-- a sum that waits for a term more
adding : (natives : ℕ) (outer : List Frame) (s : Option Held) (w : Written) (o : Operator) → IsFine natives (done outer s w) → IsAdding o
    → (sum_moved (order_of (done outer s w)) o ≡ order_of (wants outer (Some (held (joined s w) o)) None))
    × IsFine natives (wants outer (Some (held (joined s w) o)) None)
adding natives outer s w o h is =
    let whole = joined-sum natives s w h.1 h.2 h.3 in (
      ap (order-with (waits outer) (record { sum = Some o; product = None }) true) (sum-tokens outer s w),
      (h.0, (whole.0, is, whole.1), tt),
    )

pub moves : (natives : ℕ) (s : State) (t : InfixToken) → IsFine natives s → order_cause natives (order_of s) (Some t) ≡ None → Moves natives s t
unfolding order_moved spelling
moves natives (wants outer s p) (sign.Token (token.Constant n)) h e =
    let made = operand natives outer s p (Number n) (token.Constant n) h tt (small-number natives n true (length (waits outer)) e).0 refl refl in
    record { words = made.0; order = made.1; fine = made.2; must = refl; depth = refl }
moves natives (wants outer s p) (sign.Token (token.Native i)) h e =
    let made = operand natives outer s p (Native i) (token.Native i) h tt (small-native natives i true (length (waits outer)) e).0 refl refl in
    record { words = made.0; order = made.1; fine = made.2; must = refl; depth = refl }
moves natives (wants outer s p) (sign.Token (token.Operator o)) h e = absurd (after-operand natives o (length (waits outer)) e)
moves natives (wants outer s p) sign.Open h e = record {
  words = open-words outer s p;
  order = ap (order-with (record { sum = by s; product = by p } ∷ waits outer) (record { sum = None; product = None }) true)
      (sym (append-nil (outer_tokens outer ++ (held_tokens s ++ held_tokens p))));
  fine = (((h.1, h.2), h.0), tt, tt);
  must = refl;
  depth = omega arith;
}
moves natives (wants outer s p) sign.Close h e = absurd (closes-none natives (length (waits outer)) e)
moves natives (done outer s w) (sign.Token (token.Constant n)) h e = wrong (small-number natives n false (length (waits outer)) e).1
moves natives (done outer s w) (sign.Token (token.Native i)) h e = wrong (small-native natives i false (length (waits outer)) e).1
moves natives (done outer s w) (sign.Token (token.Operator op.Plus)) h e =
    let made = adding natives outer s w op.Plus h tt in
    record { words = sum-words outer s w op.Plus; order = made.0; fine = made.1; must = refl; depth = refl }
moves natives (done outer s w) (sign.Token (token.Operator op.Minus)) h e =
    let made = adding natives outer s w op.Minus h tt in
    record { words = sum-words outer s w op.Minus; order = made.0; fine = made.1; must = refl; depth = refl }
moves natives (done outer s w) (sign.Token (token.Operator op.Times)) h e = record { words = product-words outer s w op.Times; order = refl; fine = (h.0, h.1, (h.2, tt, h.3)); must = refl; depth = refl }
moves natives (done outer s w) (sign.Token (token.Operator op.Over)) h e = record { words = product-words outer s w op.Over; order = refl; fine = (h.0, h.1, (h.2, tt, h.3)); must = refl; depth = refl }
moves natives (done outer s w) sign.Open h e = absurd (opens-none natives (length (waits outer)) e)
moves natives (done [] s w) sign.Close h e = absurd (closes-nothing natives e)
moves natives (done (frame t p ∷ outer) s w) sign.Close h e =
    let whole = joined-sum natives s w h.1 h.2 h.3 in
    let term = joined-term natives p (Inside (joined s w)) h.0.0.1 whole.0 whole.1 in record {
      words = close-words outer t p s w;
      order = ap (order-with (waits outer) (record { sum = by t; product = None }) false) (close-tokens outer t p s w);
      fine = (h.0.1, h.0.0.0, term.0, term.1);
      must = refl;
      depth = omega arith;
    }
