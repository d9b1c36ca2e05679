-- The values that rules give of counts, and what derived events keep: papi_events.csv.
use Rattle.std.specs.Prelude.{ℕ, ◌≡◌, ◌<◌, ◌≤◌, ℤ, pos, ◌-ℤ◌, List, [], ◌∷◌, length, slice_index_or, All, ⊤}
use Rattle.papi_base.specs.declared.native.Native.{Native}
use Rattle.postfix_rules.specs.declared.derived.TheConstants.{MOST_NATIVES}
use Rattle.postfix_rules.specs.declared.rule.Rule.{Rule}
use Rattle.postfix_rules.specs.declared.rule.Rule.TheVariants as rule
use Rattle.postfix_rules.specs.Values.{formula_value, signed_sum, wrapped}

-- the first less all others
abbrev pub first_less_others : List ℤ → ℤ
first_less_others [] = pos 0
first_less_others (x ∷ xs) = wrapped (x -ℤ signed_sum xs)

-- the value that a rule gives of its natives' counts, in their order
abbrev pub rule_value : Rule → List ℤ → ℤ
rule_value rule.Plain counts = slice_index_or counts 0 (pos 0)
rule_value rule.Sum counts = wrapped (signed_sum counts)
rule_value rule.Sub counts = first_less_others counts
rule_value (rule.Postfix f) counts = formula_value counts f.tokens

-- the rule can be given n counts: a formula is over n natives
abbrev pub TakesCounts : Rule → ℕ → Type 0
TakesCounts (rule.Postfix f) n = f.natives ≡ n
TakesCounts r n = ⊤

-- the rule can be over n natives: a plain rule is over one
abbrev pub CanBeOver : Rule → ℕ → Type 0
CanBeOver rule.Plain n = n ≡ 1
CanBeOver (rule.Postfix f) n = f.natives ≡ n
CanBeOver r n = ⊤

-- all natives are of one component
abbrev pub OfOneComponent : List Native → Type 0
OfOneComponent natives = (comp : ℕ) × All (λ n. n.comp ≡ comp) natives

-- what contracts see of a derived event
pub record DerivedView : Type 0 where
  pub natives : List Native
  pub rule : Rule

-- from 1 to MOST_NATIVES natives of one component, of which a plain rule has one, and a formula as many as it is over
pub record IsDerived (d : DerivedView) : Type 0 where
  pub some : 0 < length d.natives
  pub few : length d.natives ≤ MOST_NATIVES
  pub one_component : (comp : ℕ) × All (λ n. n.comp ≡ comp) d.natives
  pub plain : d.rule ≡ rule.Plain → length d.natives ≡ 1
  pub fits : TakesCounts d.rule (length d.natives)
