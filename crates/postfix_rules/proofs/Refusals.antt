-- What texts read as, in the words of the definition.
use Rattle.postfix_rules.proofs.Words.{◌≡◌, ◌∙◌, ◌+◌, ℕ, List, Option, Some, None, map, refl, sym, ap, subst, arith, IfErr, IfOk, Result, Ok, Err}
use Rattle.postfix_rules.proofs.Words.{FormulaCause, FormulaFault, At, Token, spelling, FormulaView, IsFault, IsFormula, Part, fault_from, parts_of}
use Rattle.postfix_rules.proofs.Words.{Text, FirstFaults, FromOne, IsTextFault, IsTreeText, ReadsFormula, RefusedFormula, SameTokens, formula_of}
use Rattle.postfix_rules.proofs.Words.{tokens_among, unless_fault}
use Rattle.postfix_rules.proofs.Spelled.{formulas_spell}
use Rattle.postfix_rules.proofs.Faults.{Says, among-some, faults-found, found-faults}

err-one : (a b : RefusedFormula) → ◌≡◌ {A = Result FormulaView RefusedFormula} (Err a) (Err b) → a ≡ b
err-one a b e = cc e

ok-one : (a b : FormulaView) → ◌≡◌ {A = Result FormulaView RefusedFormula} (Ok a) (Ok b) → a ≡ b
ok-one a b e = cc e

refused-fault : (natives : ℕ) (parts : List Part) (o : Option (ℕ × FormulaCause)) (refused : RefusedFormula) → unless_fault natives parts o ≡ Err refused
    → (fault : ℕ × FormulaCause) × (o ≡ Some fault) × (refused.place ≡ fault.0 + 1) × (refused.cause ≡ fault.1)
refused-fault natives parts None refused e = cc e
refused-fault natives parts (Some fault) refused e =
    let same = err-one (record { place = fault.0 + 1; cause = fault.1 }) refused e in
    (fault, refl, ap (λ (r : RefusedFormula). r.place) (sym same), ap (λ (r : RefusedFormula). r.cause) (sym same))

fault-of : (natives : ℕ) (parts : List Part) (fault : ℕ × FormulaCause) → fault_from natives 0 0 parts ≡ Some fault → IsFault natives parts fault.0 fault.1
fault-of natives parts fault e = subst (Says natives parts) e (faults-found natives parts)

pub first_faults : FirstFaults
unfolding formula_of
first_faults natives text k why = (
  λ e.
      let f = refused-fault natives (parts_of text) (fault_from natives 0 0 (parts_of text)) (record { place = k + 1; cause = why }) e in
      let at : f.0.0 ≡ k = omega (arith, f.2) in
      let is = fault-of natives (parts_of text) f.0 f.1 in
      let here = subst (λ (n : ℕ). IsFault natives (parts_of text) n f.0.1) at is in
      subst (IsFault natives (parts_of text) k) (sym f.3) here,
  λ f. ap (unless_fault natives (parts_of text)) (found-faults natives (parts_of text) k why f),
)

pub from_one : FromOne
unfolding formula_of
from_one natives text refused e =
    let f = refused-fault natives (parts_of text) (fault_from natives 0 0 (parts_of text)) refused e in
    omega (arith, f.2)

-- parts without a fault are tokens
pub all-tokens : (natives : ℕ) (parts : List Part) → fault_from natives 0 0 parts ≡ None → parts ≡ map Some (tokens_among parts)
all-tokens natives parts e =
    let says : Says natives parts None = subst (Says natives parts) e (faults-found natives parts) in
    let is : parts ≡ map Some (spelling says.1.0) = says.1.1 in
    let same : tokens_among parts ≡ spelling says.1.0 = ap tokens_among is ∙ among-some (spelling says.1.0) in
    is ∙ ap (map Some) (sym same)

read-none : (natives : ℕ) (parts : List Part) (o : Option (ℕ × FormulaCause)) (f : FormulaView) → unless_fault natives parts o ≡ Ok f
    → (o ≡ None) × (f.tokens ≡ tokens_among parts) × (f.natives ≡ natives)
read-none natives parts (Some fault) f e = cc e
read-none natives parts None f e =
    let same = ok-one (record { tokens = tokens_among parts; natives = natives }) f e in
    (refl, ap (λ (v : FormulaView). v.tokens) (sym same), ap (λ (v : FormulaView). v.natives) (sym same))

abbrev made : List Token → ℕ → Result FormulaView RefusedFormula
made tokens natives = Ok (record { tokens = tokens; natives = natives })

pub reads-tokens : (natives : ℕ) (text : Text) (f : FormulaView) → parts_of text ≡ map Some f.tokens → f.natives ≡ natives → IsFormula natives f.tokens → formula_of natives text ≡ Ok f
unfolding formula_of
reads-tokens natives text f is n e =
    let none : fault_from natives 0 0 (parts_of text) ≡ None = ap (fault_from natives 0 0) is ∙ e in
    let tokens : tokens_among (parts_of text) ≡ f.tokens = ap tokens_among is ∙ among-some f.tokens in
    ap (unless_fault natives (parts_of text)) none
    ∙ ap (λ (ts : List Token). made ts natives) tokens
    ∙ ap (λ (m : ℕ). made f.tokens m) (sym n)

pub same_tokens : SameTokens
unfolding formula_of
same_tokens natives text f = (
  λ e.
      let r = read-none natives (parts_of text) (fault_from natives 0 0 (parts_of text)) f e in
      let all = all-tokens natives (parts_of text) r.0 in
      let is : parts_of text ≡ map Some f.tokens = all ∙ ap (map Some) (sym r.1) in
      (is, r.2, ap (fault_from natives 0 0) (sym is) ∙ r.0),
  λ h. reads-tokens natives text f h.0 h.1 h.2,
)

-- ---- the same of an answer

tree-of : (natives : ℕ) (text : Text) (f : FormulaView) → formula_of natives text ≡ Ok f → IsTreeText text f.tokens
tree-of natives text f e =
    let r = (same_tokens natives text f).0 e in
    (r.0, formulas_spell natives f.tokens r.2)

pub answer_tree : (natives : ℕ) (text : Text) (r : Result FormulaView FormulaFault) → ReadsFormula r natives text → IfOk r (λ f. IsTreeText text f.tokens)
answer_tree natives text (Ok f) e = tree-of natives text f e
answer_tree natives text (Err fault) e = tt

text-fault : (natives : ℕ) (text : Text) (place : ℕ) (cause : FormulaCause) → formula_of natives text ≡ Err (record { place = place; cause = cause }) → IsTextFault natives text (At place cause)
unfolding formula_of
text-fault natives text place cause e =
    let f = refused-fault natives (parts_of text) (fault_from natives 0 0 (parts_of text)) (record { place = place; cause = cause }) e in
    (f.0.0, f.2, subst (IsFault natives (parts_of text) f.0.0) (sym f.3) (fault-of natives (parts_of text) f.0 f.1))

pub answer_fault : (natives : ℕ) (text : Text) (r : Result FormulaView FormulaFault) → ReadsFormula r natives text → IfErr r (λ fault. IsTextFault natives text fault)
answer_fault natives text (Err (At place cause)) e = text-fault natives text place cause e
answer_fault natives text r e = tt
