-- Tokens without a fault spell one tree.
use Rattle.postfix_rules.proofs.Words.{◌≡◌, ◌∙◌, ◌+◌, ◌-◌, ◌<◌, ◌≤◌, ◌^◌, ◌∷◌, ℕ, Bool, true, false, List, [], Option, Some, None, length, map, refl}
use Rattle.postfix_rules.proofs.Words.{sym, arith, tests, nat_lt, nat_le, ltb-true, if◌then◌else◌, option_map_or, passed_over, FormulaCause, Operator}
use Rattle.postfix_rules.proofs.Words.{Token, Tree, Constant, Count, Node, pile_from, Part, end_cause, fault_from, height_after, operand_cause}
use Rattle.postfix_rules.proofs.Words.{token_cause, FormulasSpell}
use Rattle.postfix_rules.specs.declared.fault.FormulaCause.TheVariants as cause
use Rattle.postfix_rules.specs.declared.token.Token.TheVariants as token
use Rattle.postfix_rules.proofs.Piles.{one-made}

-- a test passes if the cause is what is left of it
pub kept_if : {X : Type 0} (b : Bool) (o : Option X) (x : X) → (if b then o else Some x) ≡ None → (b ≡ true) × (o ≡ None)
kept_if true o x e = (refl, e)
kept_if false o x e = cc e

-- an operand finds a free place
pub room : (height : ℕ) → operand_cause height ≡ None → height + 1 ≤ 16
room height e = let t = (passed_over (nat_le 16 height) cause.TooDeep None e).0 in grind (arith, tests, t)

pub constant-ok : (natives h n : ℕ) → token_cause natives h (Some (token.Constant n)) ≡ None → (n < 2 ^ 63) × (h + 1 ≤ 16)
unfolding token_cause
constant-ok natives h n e = let k = kept_if (nat_lt n (2 ^ 63)) (operand_cause h) cause.ConstantTooLarge e in (ltb-true n (2 ^ 63) k.0, room h k.1)

pub native-ok : (natives h i : ℕ) → token_cause natives h (Some (token.Native i)) ≡ None → (i < natives) × (h + 1 ≤ 16)
unfolding token_cause
native-ok natives h i e = let k = kept_if (nat_lt i natives) (operand_cause h) cause.NativeRange e in (ltb-true i natives k.0, room h k.1)

pub operator-ok : (natives h : ℕ) (o : Operator) → token_cause natives h (Some (token.Operator o)) ≡ None → 2 ≤ h
unfolding token_cause
operator-ok natives h o e = let p = (passed_over (nat_lt h 2) cause.OperandMissing None e).0 in grind (arith, tests, p)

-- a token without a cause leaves a pile of at most 16
pub few-after : (natives h : ℕ) (t : Token) → h ≤ 16 → token_cause natives h (Some t) ≡ None → height_after h (Some t) ≤ 16
few-after natives h (token.Constant n) few e = (constant-ok natives h n e).1
few-after natives h (token.Native i) few e = (native-ok natives h i e).1
few-after natives h (token.Operator o) few e = omega (arith, few)

pub one-tree : (height : ℕ) → end_cause height ≡ None → height ≡ 1
unfolding end_cause
one-tree height e =
    let p = passed_over (nat_lt height 1) cause.OperandMissing _ e in
    let q = (kept_if (nat_lt height 2) None cause.OperandsLeft p.1).0 in
    grind (arith, tests, p.0, q)

-- a part without a cause, and no fault after it
pub record Clear (natives place height : ℕ) (part : Part) (rest : List Part) : Type 0 where
  pub now : token_cause natives height part ≡ None
  pub next : fault_from natives (place + 1) (height_after height part) rest ≡ None

pub clear-first : (natives place height : ℕ) (part : Part) (rest : List Part) → fault_from natives place height (part ∷ rest) ≡ None → Clear natives place height part rest
unfolding fault_from
clear-first natives place height part rest e = go (token_cause natives height part) refl e
  where
    go : (o : Option FormulaCause) → token_cause natives height part ≡ o
        → option_map_or (λ why. Some (place, why)) o (fault_from natives (place + 1) (height_after height part) rest) ≡ None
        → Clear natives place height part rest
    go None p q = record { now = p; next = q }
    go (Some w) p q = cc q

pub end-one : (natives place height : ℕ) → fault_from natives place height [] ≡ None → height ≡ 1
unfolding fault_from
end-one natives place height e = go (end_cause height) refl e
  where
    paired : FormulaCause → Option (ℕ × FormulaCause)
    paired w = Some (place, w)

    go : (o : Option FormulaCause) → end_cause height ≡ o → option_map_or paired o None ≡ None → height ≡ 1
    go None p q = one-tree height p
    go (Some w) p q = cc q

one-left : (pile : List Tree) → length pile ≡ 1 → (t : Tree) × (Some pile ≡ Some (t ∷ []))
one-left (t ∷ []) e = (t, refl)
one-left pile e = absurd (omega (arith, e))

-- tokens without a fault make one tree
pub one-spelled : (natives place height : ℕ) (pile : List Tree) (tokens : List Token) → height ≡ length pile → fault_from natives place height (map Some tokens) ≡ None
    → (t : Tree) × (pile_from pile tokens ≡ Some (t ∷ []))
unfolding pile_from
one-spelled natives place height pile [] n e = one-left pile (sym n ∙ end-one natives place height e)
one-spelled natives place height pile (token.Constant c ∷ rest) n e =
    one-spelled natives (place + 1) (height + 1) (Constant c ∷ pile) rest (omega (arith, n)) (clear-first natives place height (Some (token.Constant c)) (map Some rest) e).next
one-spelled natives place height pile (token.Native i ∷ rest) n e =
    one-spelled natives (place + 1) (height + 1) (Count i ∷ pile) rest (omega (arith, n)) (clear-first natives place height (Some (token.Native i)) (map Some rest) e).next
one-spelled natives place height [] (token.Operator o ∷ rest) n e =
    absurd (let two = operator-ok natives height o (clear-first natives place height (Some (token.Operator o)) (map Some rest) e).now in omega (arith, n, two))
one-spelled natives place height (y ∷ []) (token.Operator o ∷ rest) n e =
    absurd (let two = operator-ok natives height o (clear-first natives place height (Some (token.Operator o)) (map Some rest) e).now in omega (arith, n, two))
one-spelled natives place height (y ∷ x ∷ pile) (token.Operator o ∷ rest) n e =
    one-spelled natives (place + 1) (height - 1) (Node o x y ∷ pile) rest (omega (arith, n)) (clear-first natives place height (Some (token.Operator o)) (map Some rest) e).next

pub formulas_spell : FormulasSpell
formulas_spell natives tokens e = let one = one-spelled natives 0 0 [] tokens refl e in (one.0, one-made tokens one.0 one.1)
