-- Values of presets and user events. Worked rows over the lab unit, for papi_events.csv.
use Rattle.std.specs.Prelude.{pos, [], ◌∷◌, ◌++◌, ◌≡◌, Some}
use Rattle.postfix_rules.specs.Values.{formula_value}
use Rattle.postfix_rules.specs.declared.token.Token.TheVariants as token
use Rattle.postfix_rules.specs.declared.token.Operator.TheVariants as op
use Rattle.call_type.specs.declared.call.Call.TheVariants.{Create, Add, Remove, Start, Stop, Read, Assign, Run}
use Rattle.session_model.specs.Step.{replies_to}
use Rattle.call_laws.specs.Lab.{inst, cycles, cache, shape, book, stall2, preset, occ, thread_of, ok, number, values, ran, assigned, replies_by_book}

-- presets that share a native
abbrev pub PresetsShareNatives : Type 0
PresetsShareNatives = replies_by_book (occ 0xc0 3 0 ∷ occ 0x3c 10 1 ∷ occ 0x2e 2 2 ∷ occ 0xc0 4 3 ∷ occ 0x3c 1 4 ∷ occ 0x2e 6 5 ∷ [])
    (Create ∷ Add 0 (preset 21) ∷ Add 0 (preset 23) ∷ Assign 0 ∷ Start 0 ∷ Run 3 ∷ Stop 0 ∷ Remove 0 (preset 21) ∷ Assign 0 ∷ Start 0 ∷ Run 3 ∷ Read 0
    ∷ [])
    ≡ number 0 ∷ ok ∷ ok ∷ assigned (cycles ∷ inst ∷ cache ∷ []) (0 ∷ 2 ∷ 1 ∷ []) ∷ ok ∷ ran 3 0 ∷ values (pos 7 ∷ pos 5 ∷ []) ∷ ok ∷ assigned (cache
    ∷ inst ∷ []) (1 ∷ 0 ∷ []) ∷ ok ∷ ran 3 0 ∷ values (pos 10 ∷ []) ∷ []

-- the first values of the presets
abbrev pub ThreeOfPresets : Type 0
ThreeOfPresets = replies_by_book (occ 0xc0 3 0 ∷ occ 0x3c 10 1 ∷ occ 0x2e 2 2 ∷ [])
    (Create ∷ Add 0 (preset 21) ∷ Add 0 (preset 23) ∷ Start 0 ∷ Run 3 ∷ Read 0 ∷ [])
    ≡ number 0 ∷ ok ∷ ok ∷ ok ∷ ran 3 0 ∷ values (pos 7 ∷ pos 5 ∷ []) ∷ []

-- a formula of two operators
abbrev pub UserFormula : Type 0
UserFormula =
    replies_to (book ++ Some stall2 ∷ []) shape (thread_of (occ 0xc0 3 0 ∷ occ 0x3c 10 1 ∷ occ 0x2e 2 2 ∷ [])) (Create
    ∷ Add 0 (preset 26) ∷ Start 0 ∷ Run 3 ∷ Read 0 ∷ [])
    ≡ number 0 ∷ ok ∷ ok ∷ ran 3 0 ∷ values (pos 14 ∷ []) ∷ []

-- the values of formulas on 7 and 3
abbrev pub FormulaValues : Type 0
FormulaValues =
    formula_value (pos 7 ∷ pos 3 ∷ []) (token.Native 0 ∷ token.Native 1 ∷ token.Operator op.Minus ∷ token.Constant 2
    ∷ token.Operator op.Times ∷ []) ∷ formula_value (pos 7 ∷ pos 3 ∷ []) (token.Native 0 ∷ token.Constant 0 ∷ token.Operator op.Over ∷ []) ∷ []
    ≡ pos 8 ∷ pos 0 ∷ []
