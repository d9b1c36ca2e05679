-- Wrapped sums, one call after another.
use Rattle.call_laws.proofs.Words.{◌≡◌, ℕ, zero, suc, ◌%◌, ◌^◌, ◌<◌, ◌⊎◌, inl, inr, ℤ, pos, ◌+ℤ◌, true, false, List, [], ◌∷◌, map, refl, sym, ap, ap₂}
use Rattle.call_laws.proofs.Words.{◌∙◌, arith, Option, Some, cast_signed, cast_unsigned, int_wrap, int_wrapping_add, w64, Fits-of_z, add-mod-mod}
use Rattle.call_laws.proofs.Words.{mod_below, SFits-int_wrap, int_wrap-add_left, int_wrap-add_right, ints, to_z-of_z, wrapping_add_is}
use Rattle.call_laws.proofs.Words.{wrapping_add-bits, EventRef, Native, Rule, Operator, Book, event_value, natives_of_event, rule_of_event}
use Rattle.call_laws.proofs.Words.{first_less_others, rule_value, Tree, Constant, Count, Node, pile_from, applied, divided, top_value, tree_value}
use Rattle.call_laws.proofs.Words.{wrapped, sums, plus, wrapped_sums}
use Rattle.std.specs.Prelude.{◌==◌, FitsSigned, int_div, replicate, slice_index_or, unsigned_abs, if◌then◌else◌}
use Rattle.postfix_rules.specs.declared.rule.Rule.TheVariants as rule
use Rattle.postfix_rules.specs.declared.token.Operator.TheVariants as op

-- A value that may be added: a natural number, or one of signed 64 bits.
abbrev pub Addable : ℤ → Type 0
Addable x = ((n : ℕ) × (x ≡ pos n)) ⊎ FitsSigned w64 x

-- ---- the values of events may be added

abbrev counts_of : (Native → ℕ) → List Native → List ℤ
counts_of count ns = map (λ n. pos (count n)) ns

count_at : (count : Native → ℕ) (ns : List Native) (i : ℕ) → (n : ℕ) × (slice_index_or (counts_of count ns) i (pos 0) ≡ pos n)
count_at count [] i = (0, refl)
count_at count (n ∷ ns) zero = (count n, refl)
count_at count (n ∷ ns) (suc i) = count_at count ns i

applied_addable : (o : Operator) (x y : ℤ) → Addable (applied o x y)
unfolding divided
applied_addable op.Over x y = elim (unsigned_abs y == 0) as (λ b. Addable (if b then pos 0 else wrapped (int_div x y))) [ true ↦ inl (0, refl) | false ↦ inr (SFits-int_wrap w64 _) ]
applied_addable o x y = inr (SFits-int_wrap w64 _)

tree_addable : (count : Native → ℕ) (ns : List Native) (tree : Tree) → Addable (tree_value (counts_of count ns) tree)
unfolding tree_value
tree_addable count ns (Constant n) = inl (n, refl)
tree_addable count ns (Count i) = inl (count_at count ns i)
tree_addable count ns (Node o x y) = applied_addable o _ _

top_addable : (count : Native → ℕ) (ns : List Native) (pile : Option (List Tree)) → Addable (top_value (counts_of count ns) pile)
top_addable count ns (Some (tree ∷ below)) = tree_addable count ns tree
top_addable count ns pile = inl (0, refl)

less_addable : (count : Native → ℕ) (ns : List Native) → Addable (first_less_others (counts_of count ns))
less_addable count [] = inl (0, refl)
less_addable count (n ∷ ns) = inr (SFits-int_wrap w64 _)

rule_addable : (r : Rule) (count : Native → ℕ) (ns : List Native) → Addable (rule_value r (counts_of count ns))
rule_addable rule.Plain count ns = inl (count_at count ns 0)
rule_addable rule.Sum count ns = inr (SFits-int_wrap w64 _)
rule_addable rule.Sub count ns = less_addable count ns
rule_addable (rule.Postfix f) count ns = top_addable count ns (pile_from [] f.tokens)

pub value_addable : (book : Book) (count : Native → ℕ) (e : EventRef) → Addable (event_value book count e)
value_addable book count e = rule_addable (rule_of_event book e) count (natives_of_event book e)

-- ---- one more addition

-- a natural number of any size is added by its lowest 64 bits
add_natural : (y : ℤ) (m : ℕ) → int_wrapping_add w64 (wrapped y) (pos m) ≡ wrapped (pos m +ℤ y)
unfolding int_wrap
add_natural y m =
    let fits : FitsSigned w64 (int_wrap w64 y) = SFits-int_wrap w64 y in
    let u : ℕ = cast_unsigned w64 (int_wrap w64 y) in
    let small : u < 2 ^ 64 = (Fits-of_z {w = w64} {z = int_wrap w64 y} fits).fits in
    let low : m % 2 ^ 64 < 2 ^ 64 = mod_below m (2 ^ 64) (omega arith) in
    ap (cast_signed w64) (sym (add-mod-mod u m (2 ^ 64)))
    ∙ wrapping_add-bits w64 u (m % 2 ^ 64) small low
    ∙ ap (λ z. int_wrap w64 (z +ℤ int_wrap w64 (pos m))) (to_z-of_z w64 (int_wrap w64 y) fits)
    ∙ int_wrap-add_right w64 (int_wrap w64 y) (pos m)
    ∙ int_wrap-add_left w64 y (pos m)
    ∙ ap (int_wrap w64) (let e : y +ℤ pos m ≡ pos m +ℤ y = omega (arith, ints) in e)

-- what is added to a wrapped sum, wrapped, is the wrapped sum of both
add_wrapped : (y x : ℤ) → Addable x → int_wrapping_add w64 (wrapped y) x ≡ wrapped (x +ℤ y)
add_wrapped y x (inr fits) =
    wrapping_add_is w64 (wrapped y) x (SFits-int_wrap w64 y) fits
    ∙ int_wrap-add_left w64 y x
    ∙ ap (int_wrap w64) (let e : y +ℤ x ≡ x +ℤ y = omega (arith, ints) in e)
add_wrapped y x (inl n) = rw (n.1) (add_natural y n.0)

pub sums_more : (f : EventRef → ℤ) → ((e : EventRef) → Addable (f e)) → (ys : List ℤ) (es : List EventRef) → sums (map wrapped ys) (map f es) ≡ map wrapped (plus (map f es) ys)
sums_more f ok [] [] = refl
sums_more f ok [] (e ∷ es) = refl
sums_more f ok (y ∷ ys) [] = refl
sums_more f ok (y ∷ ys) (e ∷ es) = ap₂ (λ (v : ℤ) (vs : List ℤ). v ∷ vs) (add_wrapped y (f e) (ok e)) (sums_more f ok ys es)

-- no rows add up to zeros
pub wrapped_zeros : (n : ℕ) → wrapped_sums n [] ≡ replicate n (pos 0)
unfolding int_wrap
wrapped_zeros zero = refl
wrapped_zeros (suc n) = ap (λ zs. pos 0 ∷ zs) (wrapped_zeros n)
