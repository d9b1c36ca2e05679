-- The entry of a formula in infix order can stand in a table.
use Rattle.user_events.proofs.Words.{◌≡◌, ◌+◌, ◌∷◌, ℕ, Bool, true, false, List, [], Option, Some, None, length, map, refl, sym, subst, option_map_or}
use Rattle.user_events.proofs.Words.{cond_both, Text, FormulaCause, FormulaView, IsFormula, fault_from, OrderView, ended_tokens, infix_end}
use Rattle.user_events.proofs.Words.{infix_ended, infix_of, moved_by, order_begun, order_cause, refused_at, InfixPart, infix_parts, RefusedFormula}
use Rattle.user_events.proofs.Words.{FitsKind, formula_entry, InfixKept, Keeps, formula-kept, has_rate, infix_entry}
use Rattle.std.specs.Prelude.{Ok, Err, Result, is_some, if◌then◌else◌, nat_lt, ⊤}
use Rattle.postfix_rules.specs.declared.fault.FormulaCause.TheVariants as cause
use Rattle.preset_csv.specs.declared.entry.Entry.TheVariants as entry
use Rattle.preset_csv.specs.declared.kind.Kind.TheVariants as kind

abbrev IsOne : ℕ → Result FormulaView RefusedFormula → Type 0
IsOne natives (Ok f) = (f.natives ≡ natives) × IsFormula natives f.tokens
IsOne natives (Err r) = ⊤

end-one : (natives place : ℕ) (order : OrderView) → IsOne natives (option_map_or (refused_at place) (infix_end natives order) (Ok (record { tokens = ended_tokens order; natives = natives })))
unfolding infix_end
end-one natives place order = go order.must (nat_lt 0 (length order.outer)) (fault_from natives 0 0 (map Some (ended_tokens order))) refl
  where
    go : (m d : Bool) (o : Option (ℕ × FormulaCause)) → fault_from natives 0 0 (map Some (ended_tokens order)) ≡ o
        → IsOne natives (option_map_or (refused_at place) (if m then Some cause.OperandMissing else if d then Some cause.Unbalanced else if is_some o then Some cause.TooDeep else None) (Ok (record { tokens = ended_tokens order; natives = natives })))
    go true d o e = tt
    go false true o e = tt
    go false false None e = (refl, e)
    go false false (Some f) e = tt

all-one : (natives place : ℕ) (order : OrderView) (parts : List InfixPart) → IsOne natives (infix_ended natives place order parts)
unfolding infix_ended
all-one natives place order [] = end-one natives place order
all-one natives place order (part ∷ rest) = go (order_cause natives order part) (all-one natives (place + 1) (moved_by order part) rest)
  where
    go : (o : Option FormulaCause) → IsOne natives (infix_ended natives (place + 1) (moved_by order part) rest)
        → IsOne natives (option_map_or (refused_at place) o (infix_ended natives (place + 1) (moved_by order part) rest))
    go None h = h
    go (Some why) h = tt

pub infix-agrees : (natives : List Text) (text : Text) (f : FormulaView) → infix_of (length natives) text ≡ Ok f → FitsKind kind.Postfix (Some f) natives
unfolding infix_of
infix-agrees natives text f e =
    let one = subst (IsOne (length natives)) e (all-one (length natives) 0 order_begun (infix_parts text)) in
    (one.0, subst (λ (n : ℕ). IsFormula n f.tokens) (sym one.0) one.1)

pub infix-kept : InfixKept infix_entry
infix-kept text natives ready =
    cond_both (has_rate text) (Ok entry.Uncomputed) (formula_entry natives (infix_of (length natives) text)) Keeps (λ b. tt)
    (λ b. formula-kept natives (infix_of (length natives) text) ready (infix-agrees natives text))
