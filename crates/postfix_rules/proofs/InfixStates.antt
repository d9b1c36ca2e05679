-- What stands of a formula in infix order after some of its tokens.
use Rattle.postfix_rules.proofs.Words.{◌≡◌, ◌<◌, ◌^◌, ◌∷◌, ◌++◌, ℕ, true, false, List, [], Option, Some, None, map, refl, append_assoc, append-nil, ⊤}
use Rattle.postfix_rules.proofs.Words.{AllByRecursion, InfixToken, Waiting, Operator, Token, OrderView, operator_tokens, spelling}
use Rattle.postfix_rules.specs.declared.infix_token.InfixToken.TheVariants as sign
use Rattle.postfix_rules.specs.declared.token.Operator.TheVariants as op
use Rattle.postfix_rules.specs.declared.token.Token.TheVariants as token
use Rattle.postfix_rules.specs.Infix.{IsPhrase, Written, Number, Native, Two, Inside, factor, sum, term, tree_of, wording}

-- what is written on an operator's left, and the operator
pub data Held : Type 0 where
  held : Written → Operator → Held

-- the sum and the product that wait inside one pair of parentheses
pub data Frame : Type 0 where
  frame : Option Held → Option Held → Frame

-- a factor must begin, after a sum and a product that wait; or a term stands, after a sum that waits
pub data State : Type 0 where
  wants : List Frame → Option Held → Option Held → State
  done : List Frame → Option Held → Written → State

abbrev pub joined : Option Held → Written → Written
joined None w = w
joined (Some (held l o)) w = Two o l w

abbrev pub stepped : State → InfixToken → State
stepped (wants outer s p) (sign.Token (token.Constant n)) = done outer s (joined p (Number n))
stepped (wants outer s p) (sign.Token (token.Native i)) = done outer s (joined p (Native i))
stepped (wants outer s p) (sign.Token (token.Operator o)) = wants outer s p
stepped (wants outer s p) sign.Open = wants (frame s p ∷ outer) None None
stepped (wants outer s p) sign.Close = wants outer s p
stepped (done outer s w) (sign.Token (token.Constant n)) = done outer s w
stepped (done outer s w) (sign.Token (token.Native i)) = done outer s w
stepped (done outer s w) (sign.Token (token.Operator op.Plus)) = wants outer (Some (held (joined s w) op.Plus)) None
stepped (done outer s w) (sign.Token (token.Operator op.Minus)) = wants outer (Some (held (joined s w) op.Minus)) None
stepped (done outer s w) (sign.Token (token.Operator op.Times)) = wants outer s (Some (held w op.Times))
stepped (done outer s w) (sign.Token (token.Operator op.Over)) = wants outer s (Some (held w op.Over))
stepped (done outer s w) sign.Open = done outer s w
stepped (done [] s w) sign.Close = done [] s w
stepped (done (frame t p ∷ outer) s w) sign.Close = done outer t (joined p (Inside (joined s w)))

-- ---- its tokens in infix order

abbrev pub held_words : Option Held → List InfixToken
held_words None = []
held_words (Some (held l o)) = wording l ++ (sign.Token (token.Operator o) ∷ [])

abbrev pub outer_words : List Frame → List InfixToken
outer_words [] = []
outer_words (frame s p ∷ outer) = outer_words outer ++ (held_words s ++ (held_words p ++ (sign.Open ∷ [])))

abbrev pub state_words : State → List InfixToken
state_words (wants outer s p) = outer_words outer ++ (held_words s ++ held_words p)
state_words (done outer s w) = outer_words outer ++ (held_words s ++ wording w)

-- ---- its tokens in postfix order, and the operators that wait

abbrev pub held_tokens : Option Held → List Token
held_tokens None = []
held_tokens (Some (held l o)) = spelling (tree_of l)

abbrev pub outer_tokens : List Frame → List Token
outer_tokens [] = []
outer_tokens (frame s p ∷ outer) = outer_tokens outer ++ (held_tokens s ++ held_tokens p)

abbrev pub by : Option Held → Option Operator
by None = None
by (Some (held l o)) = Some o

abbrev pub waiting_of : Frame → Waiting
waiting_of (frame s p) = record { sum = by s; product = by p }

abbrev pub waits : List Frame → List Waiting
waits outer = map waiting_of outer

abbrev pub order_of : State → OrderView
order_of (wants outer s p) = record { tokens = outer_tokens outer ++ (held_tokens s ++ held_tokens p); outer = waits outer; here = record { sum = by s; product = by p }; must = true }
order_of (done outer s w) = record { tokens = outer_tokens outer ++ (held_tokens s ++ spelling (tree_of w)); outer = waits outer; here = record { sum = by s; product = None }; must = false }

-- ---- what it keeps

-- constants and natives are in their ranges
abbrev pub Small : ℕ → Written → Type 0
Small natives (Number n) = n < 2 ^ 63
Small natives (Native i) = i < natives
Small natives (Two o x y) = Small natives x × Small natives y
Small natives (Inside x) = Small natives x

abbrev pub IsAdding : Operator → Type 0
IsAdding op.Plus = ⊤
IsAdding op.Minus = ⊤
IsAdding op.Times = ⊥
IsAdding op.Over = ⊥

abbrev pub IsScaling : Operator → Type 0
IsScaling op.Plus = ⊥
IsScaling op.Minus = ⊥
IsScaling op.Times = ⊤
IsScaling op.Over = ⊤

abbrev pub SumFine : ℕ → Option Held → Type 0
SumFine natives None = ⊤
SumFine natives (Some (held l o)) = IsPhrase sum l × IsAdding o × Small natives l

abbrev pub ProductFine : ℕ → Option Held → Type 0
ProductFine natives None = ⊤
ProductFine natives (Some (held l o)) = IsPhrase term l × IsScaling o × Small natives l

abbrev pub FrameFine : ℕ → Frame → Type 0
FrameFine natives (frame s p) = SumFine natives s × ProductFine natives p

abbrev pub IsFine : ℕ → State → Type 0
IsFine natives (wants outer s p) = AllByRecursion (FrameFine natives) outer × SumFine natives s × ProductFine natives p
IsFine natives (done outer s w) = AllByRecursion (FrameFine natives) outer × SumFine natives s × IsPhrase term w × Small natives w

-- ---- a term joins the sum that waits, and a factor the product

factor-term : (w : Written) → IsPhrase factor w → IsPhrase term w
factor-term (Two o x y) h = absurd h
factor-term (Inside x) h = h
factor-term w h = tt

term-sum : (w : Written) → IsPhrase term w → IsPhrase sum w
term-sum (Number n) h = tt
term-sum (Native i) h = tt
term-sum (Two op.Plus x y) h = absurd h
term-sum (Two op.Minus x y) h = absurd h
term-sum w h = h

pub joined-term : (natives : ℕ) (p : Option Held) (w : Written) → ProductFine natives p → IsPhrase factor w → Small natives w → IsPhrase term (joined p w) × Small natives (joined p w)
joined-term natives None w h f m = (factor-term w f, m)
joined-term natives (Some (held l op.Times)) w h f m = ((h.0, f), (h.2, m))
joined-term natives (Some (held l op.Over)) w h f m = ((h.0, f), (h.2, m))
joined-term natives p w h f m = absurd h.1

pub joined-sum : (natives : ℕ) (s : Option Held) (w : Written) → SumFine natives s → IsPhrase term w → Small natives w → IsPhrase sum (joined s w) × Small natives (joined s w)
joined-sum natives None w h t m = (term-sum w t, m)
joined-sum natives (Some (held l op.Times)) w h t m = absurd h.1
joined-sum natives (Some (held l op.Over)) w h t m = absurd h.1
joined-sum natives s w h t m = ((h.0, t), (h.2, m))

-- ---- the tokens of what is joined

pub joined-words : (p : Option Held) (w : Written) → held_words p ++ wording w ≡ wording (joined p w)
joined-words None w = refl
joined-words (Some (held l o)) w = append_assoc (wording l) (sign.Token (token.Operator o) ∷ []) (wording w)

pub joined-tokens : (p : Option Held) (w : Written) → held_tokens p ++ (spelling (tree_of w) ++ operator_tokens (by p)) ≡ spelling (tree_of (joined p w))
unfolding spelling
joined-tokens None w = append-nil (spelling (tree_of w))
joined-tokens (Some (held l o)) w = refl
