-- The entry of a formula in infix order, by the laws of its grammar.
use Rattle.user_events.proofs.Words.{◌≡◌, ◌+◌, ◌-◌, ℕ, false, List, length, refl, ap, sym, ◌∙◌, arith, Option, Some, None, Text, FormulaView}
use Rattle.user_events.proofs.Words.{IsInfixFault, FirstInfixFaults, FromOneInfix, SameTree, infix_of, infix_parts, RefusedFormula, FormulaCause}
use Rattle.user_events.proofs.Words.{def_entry, formula_entry, Entry, PresetCause, BadFormula, has_rate, infix_entry, EntriesAreByGrammar}
use Rattle.std.specs.Prelude.{Result, Ok, Err}
use Rattle.preset_csv.specs.declared.entry.Entry.TheVariants as entry
use Rattle.preset_csv.specs.declared.kind.Kind.TheVariants as kind

-- the formula that an entry has, if it has one
abbrev formula_in : Result Entry PresetCause → Option FormulaView
formula_in (Ok (entry.Def d)) = d.formula
formula_in other = None

-- an entry with a formula is one of that formula
read_of : (natives : List Text) (r : Result FormulaView RefusedFormula) (f : FormulaView)
    → formula_entry natives r ≡ Ok (def_entry kind.Postfix (Some f) natives) → r ≡ Ok f
read_of natives (Ok g) f e = let same : Some g ≡ Some f = ap formula_in e in cc
read_of natives (Err refused) f e = cc

-- a refused entry is one of a formula that was refused for this cause
refused_of : (natives : List Text) (r : Result FormulaView RefusedFormula) (why : FormulaCause)
    → formula_entry natives r ≡ Err (BadFormula why) → (place : ℕ) × (r ≡ Err (record { place = place; cause = why }))
refused_of natives (Ok g) why e = cc
refused_of natives (Err refused) why e =
    let same : refused.cause ≡ why = cc in
    (refused.place, ap (λ (w : FormulaCause). Err (let r : RefusedFormula = record { place = refused.place; cause = w } in r)) same)

entry_is : (formula : Text) (natives : List Text) → has_rate formula ≡ false → infix_entry formula natives ≡ formula_entry natives (infix_of (length natives) formula)
entry_is formula natives e = rw e refl

-- the laws of the grammar, of an entry
pub entries_are_by_grammar : SameTree → FirstInfixFaults → FromOneInfix → EntriesAreByGrammar
entries_are_by_grammar same_tree first_infix_faults from_one_infix formula natives whole = record {
  computed = λ f. (
    (λ e. (same_tree n formula f).0 (read_of natives (infix_of n formula) f (sym is ∙ e))),
    λ h. is ∙ ap (formula_entry natives) ((same_tree n formula f).1 h),
  );
  refused = λ why. ((λ e. first why (refused_of natives (infix_of n formula) why (sym is ∙ e))), λ (place, h). is ∙ ap (formula_entry natives) ((first_infix_faults n formula place why).1 h));
} where
  n : ℕ
  n = length natives

  is : infix_entry formula natives ≡ formula_entry natives (infix_of n formula)
  is = entry_is formula natives whole

  first : (why : FormulaCause) → (place : ℕ) × (infix_of n formula ≡ Err (record { place = place; cause = why })) → (k : ℕ) × IsInfixFault n (infix_parts formula) k why
  first why (place, e) =
      let counts = from_one_infix n formula (record { place = place; cause = why }) e in
      let next : place ≡ place - 1 + 1 = omega (arith, counts) in
      (place - 1, (first_infix_faults n formula (place - 1) why).0 (e ∙ ap (λ (k : ℕ). Err (let r : RefusedFormula = record { place = k; cause = why } in r)) next))
