-- Reading a text in infix order, part by part, as the definition does.
use Rattle.postfix_rules.proofs.Words.{◌≡◌, ◌∙◌, ◌+◌, ◌<◌, ◌≤◌, ◌∷◌, ℕ, Bool, true, false, List, [], Option, Some, None, length, map, get_or, drop}
use Rattle.postfix_rules.proofs.Words.{refl, sym, ap, arith, ◌↔◌, IsTrue, Ok, is_some, not, option_map_or, lt-ltb, drop_all, drop_more, none_of}
use Rattle.postfix_rules.proofs.Words.{FormulaCause, InfixToken, Token, IsFormula, end_cause, fault_from, height_after, token_cause, infix_cause}
use Rattle.postfix_rules.proofs.Words.{OrderView, ended_tokens, infix_end, infix_ended, infix_of, moved_by, order_begun, order_cause, order_moved}
use Rattle.postfix_rules.proofs.Words.{refused_at, InfixPart, infix_parts, Text}
use Rattle.postfix_rules.specs.declared.fault.FormulaCause.TheVariants as cause
use Rattle.postfix_rules.proofs.Spelled.{few-after}

-- ---- whether tokens are a formula

-- what a loop over tokens keeps
pub record Checked (natives : ℕ) (tokens : List Token) (i height : ℕ) : Type 0 where
  pub same : fault_from natives 0 0 (map Some tokens) ≡ fault_from natives i height (map Some (drop i tokens))
  pub few : height ≤ 16

pub none-checked : (natives : ℕ) (tokens : List Token) → Checked natives tokens 0 0
none-checked natives tokens = record { same = refl; few = omega arith }

here-cause : (natives i height : ℕ) (t : Token) (rest : List Token) → fault_from natives i height (map Some (t ∷ rest))
    ≡ option_map_or (λ why. Some (i, why)) (token_cause natives height (Some t)) (fault_from natives (i + 1) (height_after height (Some t)) (map Some rest))
unfolding fault_from
here-cause natives i height t rest = refl

pub checked : (natives : ℕ) (tokens : List Token) (i height : ℕ) (d : Token) → i < length tokens → is_some (token_cause natives height (Some (get_or tokens i d))) ≡ false
    → Checked natives tokens i height → Checked natives tokens (i + 1) (height_after height (Some (get_or tokens i d)))
checked natives tokens i height d lt h c =
    let t = get_or tokens i d in
    let none = none_of (token_cause natives height (Some t)) h in
    let parts : drop i tokens ≡ t ∷ drop (i + 1) tokens = drop_more tokens i d lt in
    record {
      same = c.same ∙ ap (λ (ts : List Token). fault_from natives i height (map Some ts)) parts ∙ here-cause natives i height t (drop (i + 1) tokens)
          ∙ ap (λ (o : Option FormulaCause). option_map_or (λ why. Some (i, why)) o (fault_from natives (i + 1) (height_after height (Some t)) (map Some (drop (i + 1) tokens)))) none;
      few = few-after natives height t c.few none;
    }

some-fault : (natives : ℕ) (tokens : List Token) (i height : ℕ) (d : Token) (why : FormulaCause) → i < length tokens → token_cause natives height (Some (get_or tokens i d)) ≡ Some why
    → Checked natives tokens i height → fault_from natives 0 0 (map Some tokens) ≡ Some (i, why)
some-fault natives tokens i height d why lt some c =
    let t = get_or tokens i d in
    let parts : drop i tokens ≡ t ∷ drop (i + 1) tokens = drop_more tokens i d lt in
    c.same ∙ ap (λ (ts : List Token). fault_from natives i height (map Some ts)) parts ∙ here-cause natives i height t (drop (i + 1) tokens)
    ∙ ap (λ (o : Option FormulaCause). option_map_or (λ w. Some (i, w)) o (fault_from natives (i + 1) (height_after height (Some t)) (map Some (drop (i + 1) tokens)))) some

pub no-formula : (natives : ℕ) (tokens : List Token) (i height : ℕ) (d : Token) → i < length tokens → is_some (token_cause natives height (Some (get_or tokens i d))) ≡ true
    → Checked natives tokens i height → IsFormula natives tokens → ⊥
no-formula natives tokens i height d lt some c f = go (token_cause natives height (Some (get_or tokens i d))) refl some
  where
    go : (o : Option FormulaCause) → token_cause natives height (Some (get_or tokens i d)) ≡ o → is_some o ≡ true → ⊥
    go None e s = cc s
    go (Some why) e s = let bad = some-fault natives tokens i height d why lt e c in cc (f, bad)

ended-fault : (natives i height : ℕ) (o : Option FormulaCause) → end_cause height ≡ o → fault_from natives i height [] ≡ option_map_or (λ why. Some (i, why)) o None
unfolding fault_from
ended-fault natives i height o e = rw e refl

pub checked-end : (natives : ℕ) (tokens : List Token) (i height : ℕ) → length tokens ≤ i → Checked natives tokens i height → fault_from natives 0 0 (map Some tokens) ≡ fault_from natives i height []
checked-end natives tokens i height le c = c.same ∙ ap (λ (ts : List Token). fault_from natives i height (map Some ts)) (drop_all i tokens le)

-- the tokens are a formula exactly if there is no fault at the end
pub formula-iff : (natives : ℕ) (tokens : List Token) (i height : ℕ) (b : Bool) → is_some (end_cause height) ≡ not b → length tokens ≤ i
    → Checked natives tokens i height → IsTrue b ↔ IsFormula natives tokens
formula-iff natives tokens i height b h le c = go (end_cause height) b refl h
  where
    go : (o : Option FormulaCause) (d : Bool) → end_cause height ≡ o → is_some o ≡ not d → IsTrue d ↔ IsFormula natives tokens
    go None true e k = (λ t. checked-end natives tokens i height le c ∙ ended-fault natives i height None e, λ f. refl)
    go None false e k = cc k
    go (Some why) true e k = cc k
    go (Some why) false e k = (λ t. cc t, λ f. let bad = checked-end natives tokens i height le c ∙ ended-fault natives i height (Some why) e in cc (f, bad))

-- ---- the end of the parts

end-refused : (natives place : ℕ) (order : OrderView) (why : FormulaCause) → infix_end natives order ≡ Some why → infix_ended natives place order [] ≡ refused_at place why
unfolding infix_ended
end-refused natives place order why e = rw e refl

pub end-missing : (natives place : ℕ) (order : OrderView) → order.must ≡ true → infix_ended natives place order [] ≡ refused_at place cause.OperandMissing
unfolding infix_end
end-missing natives place order m = end-refused natives place order cause.OperandMissing (rw m refl)

pub end-open : (natives place : ℕ) (order : OrderView) → order.must ≡ false → 0 < length order.outer → infix_ended natives place order [] ≡ refused_at place cause.Unbalanced
unfolding infix_end
end-open natives place order m o = end-refused natives place order cause.Unbalanced (rw (m, lt-ltb 0 (length order.outer) o) refl)

pub end-deep : (natives place : ℕ) (order : OrderView) → order.must ≡ false → length order.outer ≡ 0 → (IsFormula natives (ended_tokens order) → ⊥)
    → infix_ended natives place order [] ≡ refused_at place cause.TooDeep
unfolding infix_end
end-deep natives place order m o n = end-refused natives place order cause.TooDeep (rw (m, o, some-of (fault_from natives 0 0 (map Some (ended_tokens order))) n) refl)
  where
    some-of : {A : Type 0} (o : Option A) → (o ≡ None → ⊥) → is_some o ≡ true
    some-of None h = absurd (h refl)
    some-of (Some x) h = refl

pub end-formula : (natives place : ℕ) (order : OrderView) → order.must ≡ false → length order.outer ≡ 0 → IsFormula natives (ended_tokens order)
    → infix_ended natives place order [] ≡ Ok (record { tokens = ended_tokens order; natives = natives })
unfolding infix_ended infix_end
end-formula natives place order m o f = rw (m, o, f) refl

-- ---- one part more

pub part-refused : (natives place : ℕ) (order : OrderView) (part : InfixPart) (rest : List InfixPart) (why : FormulaCause) → order_cause natives order part ≡ Some why
    → infix_ended natives place order (part ∷ rest) ≡ refused_at place why
unfolding infix_ended
part-refused natives place order part rest why e = rw e refl

pub part-taken : (natives place : ℕ) (order : OrderView) (part : InfixPart) (rest : List InfixPart) → order_cause natives order part ≡ None
    → infix_ended natives place order (part ∷ rest) ≡ infix_ended natives (place + 1) (moved_by order part) rest
unfolding infix_ended
part-taken natives place order part rest e = rw e refl

pub cause-in : (natives : ℕ) (order : OrderView) (must : Bool) (depth : ℕ) (part : InfixPart) (o : Option FormulaCause) → must ≡ order.must → depth ≡ length order.outer
    → infix_cause natives must depth part ≡ o → order_cause natives order part ≡ o
cause-in natives order must depth part o m d e = ap (λ (b : Bool). infix_cause natives b (length order.outer) part) (sym m) ∙ ap (λ (n : ℕ). infix_cause natives must n part) (sym d) ∙ e

-- what a loop over the parts keeps
pub record Reads (natives : ℕ) (text rest : Text) (place : ℕ) (order : OrderView) : Type 0 where
  pub same : infix_of natives text ≡ infix_ended natives place order (infix_parts rest)
  pub within : place + length rest ≤ length text

pub reads-none : (natives : ℕ) (text : Text) → Reads natives text text 0 order_begun
unfolding infix_of
reads-none natives text = record { same = refl; within = omega arith }

pub reads-more : (natives : ℕ) (text rest after : Text) (place : ℕ) (order : OrderView) (part : InfixPart) (t : InfixToken) → infix_parts rest ≡ part ∷ infix_parts after → part ≡ Some t
    → order_cause natives order part ≡ None → length after < length rest → Reads natives text rest place order → Reads natives text after (place + 1) (order_moved order t)
reads-more natives text rest after place order part t is token none lt r = record {
  same = r.same ∙ ap (infix_ended natives place order) is ∙ part-taken natives place order part (infix_parts after) none
      ∙ ap (λ (p : InfixPart). infix_ended natives (place + 1) (moved_by order p) (infix_parts after)) token;
  within = let w = r.within in omega arith;
}

pub reads-refused : (natives : ℕ) (text rest after : Text) (place : ℕ) (order : OrderView) (part : InfixPart) (why : FormulaCause) → infix_parts rest ≡ part ∷ infix_parts after
    → order_cause natives order part ≡ Some why → Reads natives text rest place order → infix_of natives text ≡ refused_at place why
reads-refused natives text rest after place order part why is e r = r.same ∙ ap (infix_ended natives place order) is ∙ part-refused natives place order part (infix_parts after) why e

pub reads-ended : (natives : ℕ) (text rest : Text) (place : ℕ) (order : OrderView) → infix_parts rest ≡ [] → Reads natives text rest place order
    → infix_of natives text ≡ infix_ended natives place order []
reads-ended natives text rest place order is r = r.same ∙ ap (infix_ended natives place order) is
