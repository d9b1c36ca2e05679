-- Tokens in infix order write one tree at most.
use Rattle.postfix_rules.proofs.Words.{◌≡◌, ◌∙◌, ◌∷◌, ◌++◌, List, [], Option, Some, None, map, refl, sym, ap, append_assoc, append-nil, InfixToken}
use Rattle.postfix_rules.proofs.Words.{Operator, InfixPart}
use Rattle.postfix_rules.specs.declared.infix_token.InfixToken.TheVariants as sign
use Rattle.postfix_rules.specs.declared.token.Operator.TheVariants as op
use Rattle.postfix_rules.specs.declared.token.Token.TheVariants as token
use Rattle.postfix_rules.specs.Infix.{IsPhrase, OneTree, Written, Number, Native, Two, Inside, factor, sum, term, tree_of, wording}
use Rattle.postfix_rules.proofs.InfixStates.{Frame, Held, State, done, frame, held, joined, stepped, wants}

-- the state after further tokens
abbrev run : State → List InfixToken → State
run s [] = s
run s (t ∷ rest) = run (stepped s t) rest

record Summed (outer : List Frame) (w : Written) (rest : List InfixToken) : Type 0 where
  front : Option Held
  last : Written
  is : joined front last ≡ w
  runs : run (wants outer None None) (wording w ++ rest) ≡ run (done outer front last) rest

abbrev Factored : Written → Type 0
Factored w = (outer : List Frame) (s p : Option Held) (rest : List InfixToken) → run (wants outer s p) (wording w ++ rest) ≡ run (done outer s (joined p w)) rest

abbrev Termed : Written → Type 0
Termed w = (outer : List Frame) (s : Option Held) (rest : List InfixToken) → run (wants outer s None) (wording w ++ rest) ≡ run (done outer s w) rest

-- what a phrase makes of the state before it
record Phrased (w : Written) : Type 0 where
  as_factor : IsPhrase factor w → Factored w
  as_term : IsPhrase term w → Termed w
  as_sum : IsPhrase sum w → (outer : List Frame) (rest : List InfixToken) → Summed outer w rest

two-words : (x y : Written) (o : Operator) (rest : List InfixToken) → wording (Two o x y) ++ rest ≡ wording x ++ (sign.Token (token.Operator o) ∷ (wording y ++ rest))
two-words x y o rest = append_assoc (wording x) (sign.Token (token.Operator o) ∷ wording y) rest

inside-words : (x : Written) (rest : List InfixToken) → wording (Inside x) ++ rest ≡ sign.Open ∷ (wording x ++ (sign.Close ∷ rest))
inside-words x rest = ap (λ (ts : List InfixToken). sign.Open ∷ ts) (append_assoc (wording x) (sign.Close ∷ []) rest)

term-summed : (w : Written) → Termed w → (outer : List Frame) (rest : List InfixToken) → Summed outer w rest
term-summed w t outer rest = record { front = None; last = w; is = refl; runs = t outer None rest }

-- an operator of a product after a term, and one of a sum after a sum
termed-by : (o : Operator) (x y : Written) → ((outer : List Frame) (s : Option Held) (w : Written) → stepped (done outer s w) (sign.Token (token.Operator o)) ≡ wants outer s (Some (held w o)))
    → Termed x → Factored y → Termed (Two o x y)
termed-by o x y step tx fy outer s rest =
    ap (run (wants outer s None)) (two-words x y o rest) ∙ tx outer s (sign.Token (token.Operator o) ∷ (wording y ++ rest))
    ∙ ap (λ (t : State). run t (wording y ++ rest)) (step outer s x) ∙ fy outer s (Some (held x o)) rest

summed-by : (o : Operator) (x y : Written) → ((outer : List Frame) (s : Option Held) (w : Written) → stepped (done outer s w) (sign.Token (token.Operator o)) ≡ wants outer (Some (held (joined s w) o)) None)
    → ((outer : List Frame) (rest : List InfixToken) → Summed outer x rest) → Termed y → (outer : List Frame) (rest : List InfixToken) → Summed outer (Two o x y) rest
summed-by o x y step sx ty outer rest =
    let s = sx outer (sign.Token (token.Operator o) ∷ (wording y ++ rest)) in record {
      front = Some (held (joined s.front s.last) o);
      last = y;
      is = ap (λ (v : Written). Two o v y) s.is;
      runs = ap (run (wants outer None None)) (two-words x y o rest) ∙ s.runs
          ∙ ap (λ (t : State). run t (wording y ++ rest)) (step outer s.front s.last) ∙ ty outer (Some (held (joined s.front s.last) o)) rest;
    }

inside-factored : (x : Written) → ((outer : List Frame) (rest : List InfixToken) → Summed outer x rest) → Factored (Inside x)
inside-factored x sx outer s p rest =
    let i = sx (frame s p ∷ outer) (sign.Close ∷ rest) in
    ap (run (wants outer s p)) (inside-words x rest) ∙ i.runs ∙ ap (λ (v : Written). run (done outer s (joined p (Inside v))) rest) i.is

phrased : (w : Written) → Phrased w
phrased (Number n) =
    let t : Termed (Number n) = λ outer s rest. refl in record { as_factor = λ h outer s p rest. refl; as_term = λ h. t; as_sum = λ h. term-summed (Number n) t }
phrased (Native i) =
    let t : Termed (Native i) = λ outer s rest. refl in record { as_factor = λ h outer s p rest. refl; as_term = λ h. t; as_sum = λ h. term-summed (Native i) t }
phrased (Two op.Plus x y) = let a = phrased x in let b = phrased y in record { as_factor = λ h. absurd h; as_term = λ h. absurd h; as_sum = λ h. summed-by op.Plus x y (λ outer s w. refl) (a.as_sum h.0) (b.as_term h.1) }
phrased (Two op.Minus x y) = let a = phrased x in let b = phrased y in record { as_factor = λ h. absurd h; as_term = λ h. absurd h; as_sum = λ h. summed-by op.Minus x y (λ outer s w. refl) (a.as_sum h.0) (b.as_term h.1) }
phrased (Two op.Times x y) =
    let a = phrased x in
    let b = phrased y in
    let t : IsPhrase term (Two op.Times x y) → Termed (Two op.Times x y) = λ h. termed-by op.Times x y (λ outer s w. refl) (a.as_term h.0) (b.as_factor h.1) in
    record { as_factor = λ h. absurd h; as_term = t; as_sum = λ h. term-summed (Two op.Times x y) (t h) }
phrased (Two op.Over x y) =
    let a = phrased x in
    let b = phrased y in
    let t : IsPhrase term (Two op.Over x y) → Termed (Two op.Over x y) = λ h. termed-by op.Over x y (λ outer s w. refl) (a.as_term h.0) (b.as_factor h.1) in
    record { as_factor = λ h. absurd h; as_term = t; as_sum = λ h. term-summed (Two op.Over x y) (t h) }
phrased (Inside x) =
    let a = phrased x in record {
      as_factor = λ h. inside-factored x (a.as_sum h);
      as_term = λ h outer s rest. inside-factored x (a.as_sum h) outer s None rest;
      as_sum = λ h. term-summed (Inside x) (λ outer s rest. inside-factored x (a.as_sum h) outer s None rest);
    }

-- ---- the state at the end has the whole sum

abbrev written_at : State → Written
written_at (wants outer s p) = Number 0
written_at (done outer s w) = joined s w

whole : (w : Written) → IsPhrase sum w → written_at (run (wants [] None None) (wording w)) ≡ w
whole w h =
    let s = (phrased w).as_sum h [] [] in
    ap (λ (ts : List InfixToken). written_at (run (wants [] None None) ts)) (sym (append-nil (wording w))) ∙ ap written_at s.runs ∙ s.is

abbrev tokens_in : List InfixPart → List InfixToken
tokens_in [] = []
tokens_in (None ∷ rest) = tokens_in rest
tokens_in (Some t ∷ rest) = t ∷ tokens_in rest

tokens-in : (ts : List InfixToken) → tokens_in (map Some ts) ≡ ts
tokens-in [] = refl
tokens-in (t ∷ ts) = ap (λ (us : List InfixToken). t ∷ us) (tokens-in ts)

pub one_tree : OneTree
one_tree parts a b h k =
    let same : wording h.0 ≡ wording k.0 = sym (tokens-in (wording h.0)) ∙ ap tokens_in (sym h.2 ∙ k.2) ∙ tokens-in (wording k.0) in
    let is : h.0 ≡ k.0 = sym (whole h.0 h.1) ∙ ap (λ (ts : List InfixToken). written_at (run (wants [] None None) ts)) same ∙ whole k.0 k.1 in
    h.3 ∙ ap tree_of is ∙ sym k.3
