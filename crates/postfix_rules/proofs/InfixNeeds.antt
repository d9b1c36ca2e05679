-- The places of a stack that the value of a tree needs.
use Rattle.postfix_rules.proofs.Words.{◌≡◌, ◌∙◌, ◌+◌, ◌<◌, ◌≤◌, ◌^◌, ◌∷◌, ◌++◌, ℕ, List, [], Some, None, map, refl, sym, ap, subst, arith, tests, ◌-◌}
use Rattle.postfix_rules.proofs.Words.{append_assoc, append-nil, nat_le, if◌then◌else◌, cond_both, le-ltb, lt-ltb, map-append, Operator, Token}
use Rattle.postfix_rules.proofs.Words.{IsFormula, Part, end_cause, fault_from, operand_cause, token_cause, spelling}
use Rattle.postfix_rules.specs.declared.fault.FormulaCause.TheVariants as cause
use Rattle.postfix_rules.specs.declared.token.Token.TheVariants as token
use Rattle.postfix_rules.specs.Infix.{Written, Number, Native, Two, Inside, need, tree_of}
use Rattle.postfix_rules.proofs.InfixStates.{Small}
use Rattle.postfix_rules.proofs.Spelled.{clear-first, constant-ok, native-ok}
use Rattle.postfix_rules.proofs.SoFar.{fault-next}

free-place : (h : ℕ) → h + 1 ≤ 16 → operand_cause h ≡ None
free-place h le = cond_both (nat_le 16 h) (Some cause.TooDeep) None (λ o. o ≡ None) (λ e. absurd (grind (arith, tests, e))) (λ e. refl)

free-constant : (natives h n : ℕ) → n < 2 ^ 63 → h + 1 ≤ 16 → token_cause natives h (Some (token.Constant n)) ≡ None
unfolding token_cause
free-constant natives h n small le = rw (lt-ltb n (2 ^ 63) small) (free-place h le)

free-native : (natives h i : ℕ) → i < natives → h + 1 ≤ 16 → token_cause natives h (Some (token.Native i)) ≡ None
unfolding token_cause
free-native natives h i small le = rw (lt-ltb i natives small) (free-place h le)

free-operator : (natives h : ℕ) (o : Operator) → token_cause natives (h + 1 + 1) (Some (token.Operator o)) ≡ None
unfolding token_cause
free-operator natives h o = let le : 2 ≤ h + 1 + 1 = omega arith in rw (le-ltb (h + 1 + 1) 2 le) refl

-- the greater of two
record Greater (a b c : ℕ) : Type 0 where
  first : a ≤ c
  second : b ≤ c
  least : (m : ℕ) → a ≤ m → b ≤ m → c ≤ m

greater : (x y : ℕ) → Greater x (1 + y) (if nat_le (1 + y) x then x else 1 + y)
greater x y =
    cond_both (nat_le (1 + y) x) x (1 + y) (Greater x (1 + y))
    (λ e. let le : 1 + y ≤ x = grind (arith, tests, e) in record { first = omega arith; second = le; least = λ m p q. p })
    (λ e. let le : x ≤ 1 + y = grind (arith, tests, e) in record { first = le; second = omega arith; least = λ m p q. q })

node-parts : (x y : List Token) (o : Operator) (rest : List Part) → map Some (x ++ (y ++ (token.Operator o ∷ []))) ++ rest ≡ map Some x ++ (map Some y ++ (Some (token.Operator o) ∷ rest))
node-parts x y o rest =
    ap (λ (ps : List Part). ps ++ rest) (map-append Some x (y ++ (token.Operator o ∷ [])) ∙ ap (λ (ps : List Part). map Some x ++ ps) (map-append Some y (token.Operator o ∷ [])))
    ∙ append_assoc (map Some x) (map Some y ++ (Some (token.Operator o) ∷ [])) rest
    ∙ ap (λ (ps : List Part). map Some x ++ ps) (append_assoc (map Some y) (Some (token.Operator o) ∷ []) rest)

abbrev Fits : ℕ → Written → ℕ → ℕ → List Part → Type 0
Fits natives w place h rest = (p : ℕ) × (fault_from natives place h (map Some (spelling (tree_of w)) ++ rest) ≡ fault_from natives p (h + 1) rest)

-- a tree that finds room leaves one operand
fits : (natives : ℕ) (w : Written) (place h : ℕ) (rest : List Part) → Small natives w → h + need (tree_of w) ≤ 16 → Fits natives w place h rest
unfolding spelling
fits natives (Number n) place h rest s le = (place + 1, fault-next natives place h (Some (token.Constant n)) rest (free-constant natives h n s le))
fits natives (Native i) place h rest s le = (place + 1, fault-next natives place h (Some (token.Native i)) rest (free-native natives h i s le))
fits natives (Inside x) place h rest s le = fits natives x place h rest s le
fits natives (Two o x y) place h rest s le =
    let g = greater (need (tree_of x)) (need (tree_of y)) in
    let a = fits natives x place h (map Some (spelling (tree_of y)) ++ (Some (token.Operator o) ∷ rest)) s.0 (let q = g.first in omega arith) in
    let b = fits natives y a.0 (h + 1) (Some (token.Operator o) ∷ rest) s.1 (let q = g.second in omega arith) in
    let back : h + 1 + 1 - 1 ≡ h + 1 = omega arith in (
      b.0 + 1,
      ap (fault_from natives place h) (node-parts (spelling (tree_of x)) (spelling (tree_of y)) o rest) ∙ a.1 ∙ b.1
          ∙ fault-next natives b.0 (h + 1 + 1) (Some (token.Operator o)) rest (free-operator natives h o)
          ∙ ap (λ (k : ℕ). fault_from natives (b.0 + 1) k rest) back,
    )

record Within (natives : ℕ) (w : Written) (h : ℕ) (rest : List Part) : Type 0 where
  room : h + need (tree_of w) ≤ 16
  place : ℕ
  left : fault_from natives place (h + 1) rest ≡ None

-- and a tree of which no token has a cause finds room
within : (natives : ℕ) (w : Written) (place h : ℕ) (rest : List Part) → fault_from natives place h (map Some (spelling (tree_of w)) ++ rest) ≡ None → Within natives w h rest
unfolding spelling
within natives (Number n) place h rest e =
    let c = clear-first natives place h (Some (token.Constant n)) rest e in record { room = (constant-ok natives h n c.now).1; place = place + 1; left = c.next }
within natives (Native i) place h rest e =
    let c = clear-first natives place h (Some (token.Native i)) rest e in record { room = (native-ok natives h i c.now).1; place = place + 1; left = c.next }
within natives (Inside x) place h rest e = let w = within natives x place h rest e in record { room = w.room; place = w.place; left = w.left }
within natives (Two o x y) place h rest e =
    let a = within natives x place h (map Some (spelling (tree_of y)) ++ (Some (token.Operator o) ∷ rest))
    (sym (ap (fault_from natives place h) (node-parts (spelling (tree_of x)) (spelling (tree_of y)) o rest)) ∙ e) in
    let b = within natives y a.place (h + 1) (Some (token.Operator o) ∷ rest) a.left in
    let c = clear-first natives b.place (h + 1 + 1) (Some (token.Operator o)) rest b.left in
    let back : h + 1 + 1 - 1 ≡ h + 1 = omega arith in
    let g = greater (need (tree_of x)) (need (tree_of y)) in
    record {
      room = let p = a.room in let q = b.room in let few : need (tree_of (Two o x y)) ≤ 16 - h = g.least (16 - h) (omega arith) (omega arith) in omega arith;
      place = b.place + 1;
      left = subst (λ (k : ℕ). fault_from natives (b.place + 1) k rest ≡ None) back c.next;
    }

one-left : (natives place : ℕ) → fault_from natives place 1 [] ≡ None
unfolding fault_from end_cause
one-left natives place = refl

pub few-formula : (natives : ℕ) (w : Written) → Small natives w → need (tree_of w) ≤ 16 → IsFormula natives (spelling (tree_of w))
few-formula natives w s le =
    let room : 0 + need (tree_of w) ≤ 16 = omega arith in
    let f = fits natives w 0 0 [] s room in
    ap (fault_from natives 0 0) (sym (append-nil (map Some (spelling (tree_of w))))) ∙ f.1 ∙ one-left natives f.0

pub formula-few : (natives : ℕ) (w : Written) → IsFormula natives (spelling (tree_of w)) → need (tree_of w) ≤ 16
formula-few natives w e =
    let few = (within natives w 0 0 [] (ap (fault_from natives 0 0) (append-nil (map Some (spelling (tree_of w)))) ∙ e)).room in
    omega arith
