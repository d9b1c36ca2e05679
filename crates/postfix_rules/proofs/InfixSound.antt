-- A formula in infix order is read as its grammar says, and refused at its first fault.
use Rattle.postfix_rules.proofs.Words.{◌≡◌, ◌∙◌, ◌+◌, ◌<◌, ◌∷◌, ◌++◌, ℕ, Bool, true, false, List, [], Option, Some, None, length, map, refl, sym, ap}
use Rattle.postfix_rules.proofs.Words.{subst, arith, append_assoc, append-nil, nat_lt, ltb-false, ltb-true, length-append, map-append, take_at}
use Rattle.postfix_rules.proofs.Words.{fold-append, slice_get_past, get_middle, FormulaCause, FormulaFault, Memory, InfixToken, FormulaView}
use Rattle.postfix_rules.proofs.Words.{IsFormula, IsInfix, Written, need, tree_of, AreClear, HasCauseAt, IsInfixFault, ReadsInfix, WritesTree}
use Rattle.postfix_rules.proofs.Words.{begins_factor, cause_at, infix_cause, must_begin, open_after, open_at_end, AnswersInfix, OrderView}
use Rattle.postfix_rules.proofs.Words.{ended_tokens, infix_ended, infix_of, operator_tokens, order_begun, order_cause, order_moved, refused_at}
use Rattle.postfix_rules.proofs.Words.{InfixPart, infix_parts, RefusedFormula, Tree, spelling, Text}
use Rattle.std.specs.Prelude.{IfOk, Result, Ok, Err, slice_get}
use Rattle.postfix_rules.specs.declared.fault.FormulaCause.TheVariants as cause
use Rattle.postfix_rules.proofs.InfixEnds.{end-deep, end-formula, end-missing, end-open, part-refused, part-taken}
use Rattle.postfix_rules.proofs.InfixNeeds.{few-formula, formula-few}
use Rattle.postfix_rules.proofs.InfixStates.{Held, IsFine, Small, State, by, done, held_tokens, joined, joined-sum, joined-tokens, joined-words, order_of, state_words, stepped, waits, wants}
use Rattle.postfix_rules.proofs.InfixSteps.{moves}

-- the state after some parts, and how it shows
record Follows (natives : ℕ) (before : List InfixPart) (order : OrderView) (s : State) : Type 0 where
  words : map Some (state_words s) ≡ before
  shows : order ≡ order_of s
  must : must_begin before ≡ order.must
  depth : open_at_end before ≡ length order.outer
  fine : IsFine natives s

follows-none : (natives : ℕ) → Follows natives [] order_begun (wants [] None None)
follows-none natives = record { words = refl; shows = refl; must = refl; depth = refl; fine = (tt, tt, tt) }

follows-more : (natives : ℕ) (before : List InfixPart) (order : OrderView) (s : State) (t : InfixToken) → order_cause natives order (Some t) ≡ None → Follows natives before order s
    → Follows natives (before ++ Some t ∷ []) (order_moved order t) (stepped s t)
follows-more natives before order s t e f =
    let m = moves natives s t f.fine (ap (λ (o : OrderView). order_cause natives o (Some t)) (sym f.shows) ∙ e) in
    let shows : order_moved order t ≡ order_of (stepped s t) = ap (λ (o : OrderView). order_moved o t) f.shows ∙ m.order in
    record {
      words = ap (map Some) m.words ∙ map-append Some (state_words s) (t ∷ []) ∙ ap (λ (ps : List InfixPart). ps ++ Some t ∷ []) f.words;
      shows = shows;
      must = fold-append (λ (b : Bool) (p : InfixPart). begins_factor p) true before (Some t ∷ []) ∙ m.must ∙ sym (ap (λ (o : OrderView). o.must) shows);
      depth = fold-append open_after 0 before (Some t ∷ []) ∙ ap (λ (n : ℕ). open_after n (Some t)) (f.depth ∙ ap (λ (o : OrderView). length o.outer) f.shows)
          ∙ m.depth ∙ sym (ap (λ (o : OrderView). length o.outer) shows);
      fine = m.fine;
    }

-- ---- places

here : (natives : ℕ) (before rest : List InfixPart) (part : InfixPart) (order : OrderView) → must_begin before ≡ order.must → open_at_end before ≡ length order.outer
    → cause_at natives (before ++ part ∷ rest) (length before) part ≡ order_cause natives order part
here natives before rest part order m d =
    ap (λ (ps : List InfixPart). infix_cause natives (must_begin ps) (open_at_end ps) part) (take_at before (part ∷ rest) _ refl)
    ∙ ap (λ (b : Bool). infix_cause natives b (open_at_end before) part) m
    ∙ ap (λ (n : ℕ). infix_cause natives order.must n part) d

clear-more : (natives : ℕ) (before rest : List InfixPart) (part : InfixPart) → cause_at natives (before ++ part ∷ rest) (length before) part ≡ None
    → AreClear natives (before ++ part ∷ rest) (length before)
    → AreClear natives ((before ++ part ∷ []) ++ rest) (length (before ++ part ∷ []))
clear-more natives before rest part none clear =
    subst (λ (ps : List InfixPart). AreClear natives ps (length (before ++ part ∷ []))) (sym (append_assoc before (part ∷ []) rest)) (λ j q lt at. go j q lt at (nat_lt j (length before)) refl)
  where
    go : (j : ℕ) (q : InfixPart) → j < length (before ++ part ∷ []) → slice_get (before ++ part ∷ rest) j ≡ Some q → (b : Bool) → nat_lt j (length before) ≡ b
        → cause_at natives (before ++ part ∷ rest) j q ≡ None
    go j q lt at true e = clear j q (ltb-true j (length before) e) at
    go j q lt at false e =
        let le = ltb-false j (length before) e in
        let is : j ≡ length before = omega (arith, length-append before (part ∷ [])) in
        let same : Some part ≡ Some q = sym (get_middle before part rest) ∙ ap (slice_get (before ++ part ∷ rest)) (sym is) ∙ at in
        let q_is : q ≡ part = cc same in
        ap (λ (k : ℕ). cause_at natives (before ++ part ∷ rest) k q) is ∙ ap (λ (p : InfixPart). cause_at natives (before ++ part ∷ rest) (length before) p) q_is ∙ none

-- ---- what is read

abbrev pub Says : ℕ → List InfixPart → Result FormulaView RefusedFormula → Type 0
Says natives parts (Ok f) = (tree : Tree) × WritesTree natives parts tree × (f.tokens ≡ spelling tree) × (f.natives ≡ natives)
Says natives parts (Err r) = (k : ℕ) × (r.place ≡ k + 1) × IsInfixFault natives parts k r.cause

fault-end : (natives : ℕ) (before : List InfixPart) (why : FormulaCause) → HasCauseAt natives before (length before) why None
    → AreClear natives before (length before) → IsInfixFault natives before (length before) why
fault-end natives before why h clear = record { here = subst (HasCauseAt natives before (length before) why) (sym (slice_get_past before (length before) (omega arith))) h; first = clear }

refuses : (natives place : ℕ) (before : List InfixPart) (why : FormulaCause) → place ≡ length before → HasCauseAt natives before (length before) why None → AreClear natives before (length before)
    → Says natives before (refused_at place why)
refuses natives place before why n h clear = (length before, ap (λ (k : ℕ). k + 1) n, fault-end natives before why h clear)

-- the tokens at the end, if no parenthesis is open
end-tokens : (s : Option Held) (w : Written) → ended_tokens (order_of (done [] s w)) ≡ spelling (tree_of (joined s w))
end-tokens s w = append_assoc (held_tokens s) (spelling (tree_of w)) (operator_tokens (by s)) ∙ joined-tokens s w

ended : (natives place : ℕ) (before : List InfixPart) (s : State) → place ≡ length before → Follows natives before (order_of s) s → AreClear natives before (length before)
    → Says natives before (infix_ended natives place (order_of s) [])
ended natives place before (wants outer s p) n f clear =
    subst (Says natives before) (sym (end-missing natives place (order_of (wants outer s p)) refl)) (refuses natives place before cause.OperandMissing n (refl, f.must) clear)
ended natives place before (done (g ∷ outer) s w) n f clear =
    let some : 0 < length (waits (g ∷ outer)) = omega arith in
    let deep : 0 < open_at_end before = subst (λ (k : ℕ). 0 < k) (sym f.depth) some in
    subst (Says natives before) (sym (end-open natives place (order_of (done (g ∷ outer) s w)) refl some)) (refuses natives place before cause.Unbalanced n (refl, (f.must, deep)) clear)
ended natives place before (done [] s w) n f clear = go (nat_lt 16 (need (tree_of (joined s w)))) refl
  where
    whole : IsInfix before (tree_of (joined s w)) × Small natives (joined s w)
    whole =
        let j = joined-sum natives s w f.fine.1 f.fine.2 f.fine.3 in
        ((joined s w, j.0, sym f.words ∙ ap (map Some) (joined-words s w), refl), j.1)

    go : (b : Bool) → nat_lt 16 (need (tree_of (joined s w))) ≡ b → Says natives before (infix_ended natives place (order_of (done [] s w)) [])
    go true e =
        let many = ltb-true 16 (need (tree_of (joined s w))) e in
        let none : IsFormula natives (ended_tokens (order_of (done [] s w))) → ⊥ =
        λ i. let few = formula-few natives (joined s w) (subst (IsFormula natives) (end-tokens s w) i) in omega arith in
        subst (Says natives before) (sym (end-deep natives place (order_of (done [] s w)) refl refl none))
        (refuses natives place before cause.TooDeep n (refl, (f.must, f.depth, (tree_of (joined s w), whole.0, many))) clear)
    go false e =
        let few = ltb-false 16 (need (tree_of (joined s w))) e in
        let is : IsFormula natives (ended_tokens (order_of (done [] s w))) = subst (IsFormula natives) (sym (end-tokens s w)) (few-formula natives (joined s w) whole.1 few) in
        subst (Says natives before) (sym (end-formula natives place (order_of (done [] s w)) refl refl is))
        (tree_of (joined s w), record { writes = whole.0; clear = clear; few = few }, end-tokens s w, refl)

unknown-part : (natives : ℕ) (must : Bool) (depth : ℕ) → infix_cause natives must depth None ≡ Some cause.UnknownToken
unfolding infix_cause
unknown-part natives must depth = refl

refused-here : (natives place : ℕ) (before rest : List InfixPart) (part : InfixPart) (order : OrderView) (why : FormulaCause) → place ≡ length before → order_cause natives order part ≡ Some why
    → cause_at natives (before ++ part ∷ rest) (length before) part ≡ Some why → AreClear natives (before ++ part ∷ rest) (length before)
    → Says natives (before ++ part ∷ rest) (infix_ended natives place order (part ∷ rest))
refused-here natives place before rest part order why n e at clear =
    let has : HasCauseAt natives (before ++ part ∷ rest) (length before) why (slice_get (before ++ part ∷ rest) (length before)) =
    subst (HasCauseAt natives (before ++ part ∷ rest) (length before) why) (sym (get_middle before part rest)) at in
    subst (Says natives (before ++ part ∷ rest)) (sym (part-refused natives place order part rest why e)) (length before, ap (λ (k : ℕ). k + 1) n, record { here = has; first = clear })

says : (natives place : ℕ) (before rest : List InfixPart) (order : OrderView) (s : State) → place ≡ length before → Follows natives before order s → AreClear natives (before ++ rest) (length before)
    → Says natives (before ++ rest) (infix_ended natives place order rest)
says natives place before [] order s n f clear =
    let parts : before ++ [] ≡ before = append-nil before in
    let f2 : Follows natives before (order_of s) s = subst (λ (o : OrderView). Follows natives before o s) f.shows f in
    let all = ended natives place before s n f2 (subst (λ (ps : List InfixPart). AreClear natives ps (length before)) parts clear) in
    subst (λ (ps : List InfixPart). Says natives ps (infix_ended natives place order [])) (sym parts)
    (subst (λ (o : OrderView). Says natives before (infix_ended natives place o [])) (sym f.shows) all)
says natives place before (None ∷ rest) order s n f clear =
    let why = here natives before rest None order f.must f.depth in
    let at : cause_at natives (before ++ None ∷ rest) (length before) None ≡ Some cause.UnknownToken = why ∙ unknown-part natives order.must (length order.outer) in
    refused-here natives place before rest None order cause.UnknownToken n (unknown-part natives order.must (length order.outer)) at clear
says natives place before (Some t ∷ rest) order s n f clear =
    go (order_cause natives order (Some t)) refl
    (λ e. says natives (place + 1) (before ++ Some t ∷ []) rest (order_moved order t) (stepped s t) (omega (arith, n, length-append before (Some t ∷ []))) (follows-more natives before order s t e f)
    (clear-more natives before rest (Some t) (here natives before rest (Some t) order f.must f.depth ∙ e) clear))
  where
    go : (o : Option FormulaCause) → order_cause natives order (Some t) ≡ o
        → (order_cause natives order (Some t) ≡ None → Says natives ((before ++ Some t ∷ []) ++ rest) (infix_ended natives (place + 1) (order_moved order t) rest))
        → Says natives (before ++ Some t ∷ rest) (infix_ended natives place order (Some t ∷ rest))
    go None e more =
        subst (Says natives (before ++ Some t ∷ rest)) (sym (part-taken natives place order (Some t) rest e))
        (subst (λ (ps : List InfixPart). Says natives ps (infix_ended natives (place + 1) (order_moved order t) rest)) (append_assoc before (Some t ∷ []) rest) (more e))
    go (Some why) e more = refused-here natives place before rest (Some t) order why n e (here natives before rest (Some t) order f.must f.depth ∙ e) clear

-- ---- the answer to a text

pub text-says : (natives : ℕ) (text : Text) → Says natives (infix_parts text) (infix_of natives text)
unfolding infix_of
text-says natives text = says natives 0 [] (infix_parts text) order_begun (wants [] None None) refl (follows-none natives) (λ j part lt at. absurd (omega arith))

pub answer_infix : (natives : ℕ) (text : Text) (r : Result FormulaView FormulaFault) → AnswersInfix r (infix_of natives text) → ReadsInfix r natives text
answer_infix natives text (Err Memory) e = tt
answer_infix natives text r e = subst (Says natives (infix_parts text)) e (text-says natives text)

pub answer_natives : (natives : ℕ) (text : Text) (r : Result FormulaView FormulaFault) → AnswersInfix r (infix_of natives text) → IfOk r (λ f. f.natives ≡ natives)
answer_natives natives text (Ok f) e = let s = subst (Says natives (infix_parts text)) e (text-says natives text) in s.3
answer_natives natives text (Err fault) e = tt
