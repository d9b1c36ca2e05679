-- Reading a text, token by token.
use Rattle.postfix_rules.proofs.Words.{◌≡◌, ◌∙◌, ◌+◌, ◌≤◌, ◌∷◌, ◌++◌, ℕ, List, [], Some, None, length, map, refl, sym, ap, append_assoc, append-nil}
use Rattle.postfix_rules.proofs.Words.{Ok, Err, length-append, map-append, FormulaCause, Token, IsFormula, Part, end_cause, fault_from, height_after}
use Rattle.postfix_rules.proofs.Words.{token_cause, parts_of, Text, formula_of, unless_fault}
use Rattle.postfix_rules.proofs.Refusals.{reads-tokens}
use Rattle.postfix_rules.proofs.Spelled.{few-after}

-- The tokens are the parts before the rest, they have no fault, and leave n operands.
pub record SoFar (natives : ℕ) (text rest : Text) (tokens : List Token) (height : ℕ) : Type 0 where
  pub parts : parts_of text ≡ map Some tokens ++ parts_of rest
  pub faults : fault_from natives 0 0 (parts_of text) ≡ fault_from natives (length tokens) height (parts_of rest)
  pub few : height ≤ 16

pub fault-next : (natives place height : ℕ) (part : Part) (rest : List Part) → token_cause natives height part ≡ None
    → fault_from natives place height (part ∷ rest) ≡ fault_from natives (place + 1) (height_after height part) rest
unfolding fault_from
fault-next natives place height part rest e = rw e refl

fault-here : (natives place height : ℕ) (part : Part) (rest : List Part) (why : FormulaCause) → token_cause natives height part ≡ Some why
    → fault_from natives place height (part ∷ rest) ≡ Some (place, why)
unfolding fault_from
fault-here natives place height part rest why e = rw e refl

fault-end : (natives place height : ℕ) (why : FormulaCause) → end_cause height ≡ Some why → fault_from natives place height [] ≡ Some (place, why)
unfolding fault_from
fault-end natives place height why e = rw e refl

fault-none : (natives place height : ℕ) → end_cause height ≡ None → fault_from natives place height [] ≡ None
unfolding fault_from
fault-none natives place height e = rw e refl

pub so_far-more : (natives : ℕ) (text rest after : Text) (tokens : List Token) (height : ℕ) (part : Part) (t : Token) → parts_of rest ≡ part ∷ parts_of after → part ≡ Some t
    → token_cause natives height part ≡ None → SoFar natives text rest tokens height → SoFar natives text after (tokens ++ t ∷ []) (height_after height (Some t))
so_far-more natives text rest after tokens height part t is token clear s =
    let first : parts_of rest ≡ Some t ∷ parts_of after = is ∙ ap (λ (p : Part). p ∷ parts_of after) token in
    let free : token_cause natives height (Some t) ≡ None = ap (token_cause natives height) (sym token) ∙ clear in
    let pushed : map Some tokens ++ (Some t ∷ parts_of after) ≡ map Some (tokens ++ t ∷ []) ++ parts_of after
    = sym (append_assoc (map Some tokens) (Some t ∷ []) (parts_of after)) ∙ ap (λ (ps : List Part). ps ++ parts_of after) (sym (map-append Some tokens (t ∷ []))) in
    let long : length tokens + 1 ≡ length (tokens ++ t ∷ []) = sym (length-append tokens (t ∷ [])) in record {
      parts = s.parts ∙ ap (λ (ps : List Part). map Some tokens ++ ps) first ∙ pushed;
      faults = s.faults ∙ ap (fault_from natives (length tokens) height) first
          ∙ fault-next natives (length tokens) height (Some t) (parts_of after) free
          ∙ ap (λ (n : ℕ). fault_from natives n (height_after height (Some t)) (parts_of after)) long;
      few = few-after natives height t s.few free;
    }

refused-at : (natives : ℕ) (text : Text) (place : ℕ) (why : FormulaCause) → fault_from natives 0 0 (parts_of text) ≡ Some (place, why)
    → formula_of natives text ≡ Err (record { place = place + 1; cause = why })
unfolding formula_of
refused-at natives text place why e = ap (unless_fault natives (parts_of text)) e

pub so_far-refused : (natives : ℕ) (text rest after : Text) (tokens : List Token) (height : ℕ) (part : Part) (why : FormulaCause) → parts_of rest ≡ part ∷ parts_of after
    → token_cause natives height part ≡ Some why → SoFar natives text rest tokens height → formula_of natives text ≡ Err (record { place = length tokens + 1; cause = why })
so_far-refused natives text rest after tokens height part why is e s =
    refused-at natives text (length tokens) why
    (s.faults ∙ ap (fault_from natives (length tokens) height) is ∙ fault-here natives (length tokens) height part (parts_of after) why e)

pub so_far-unended : (natives : ℕ) (text rest : Text) (tokens : List Token) (height : ℕ) (why : FormulaCause) → parts_of rest ≡ [] → end_cause height ≡ Some why
    → SoFar natives text rest tokens height → formula_of natives text ≡ Err (record { place = length tokens + 1; cause = why })
so_far-unended natives text rest tokens height why is e s =
    refused-at natives text (length tokens) why
    (s.faults ∙ ap (fault_from natives (length tokens) height) is ∙ fault-end natives (length tokens) height why e)

all-parts : (natives : ℕ) (text rest : Text) (tokens : List Token) (height : ℕ) → parts_of rest ≡ [] → SoFar natives text rest tokens height → parts_of text ≡ map Some tokens
all-parts natives text rest tokens height is s = s.parts ∙ ap (λ (ps : List Part). map Some tokens ++ ps) is ∙ append-nil (map Some tokens)

pub so_far-formula : (natives : ℕ) (text rest : Text) (tokens : List Token) (height : ℕ) → parts_of rest ≡ [] → end_cause height ≡ None → SoFar natives text rest tokens height
    → IsFormula natives tokens
so_far-formula natives text rest tokens height is e s =
    ap (fault_from natives 0 0) (sym (all-parts natives text rest tokens height is s))
    ∙ s.faults ∙ ap (fault_from natives (length tokens) height) is ∙ fault-none natives (length tokens) height e

pub so_far-ended : (natives : ℕ) (text rest : Text) (tokens : List Token) (height : ℕ) → parts_of rest ≡ [] → end_cause height ≡ None → SoFar natives text rest tokens height
    → formula_of natives text ≡ Ok (record { tokens = tokens; natives = natives })
so_far-ended natives text rest tokens height is e s =
    reads-tokens natives text (record { tokens = tokens; natives = natives }) (all-parts natives text rest tokens height is s) refl
    (so_far-formula natives text rest tokens height is e s)
