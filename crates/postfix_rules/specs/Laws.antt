-- Laws of equal events, of the natives of a list of events, and of formulas.
use Rattle.std.specs.Prelude.{ℕ, ℤ, ◌≡◌, ◌↔◌, true, List, [], ◌∷◌, ◌++◌, length, take, slice_get, Some}
use Rattle.papi_base.specs.declared.native.Native.{Native}
use Rattle.papi_base.specs.declared.native.EventRef.{EventRef}
use Rattle.postfix_rules.specs.declared.token.Token.{Token}
use Rattle.postfix_rules.specs.Faults.{IsFormula}
use Rattle.postfix_rules.specs.Sameness.{among, joined_by, same_event, same_native}
use Rattle.postfix_rules.specs.Presets.{Book, natives_of, natives_of_event}
use Rattle.postfix_rules.specs.Trees.{Tree, spelling}
use Rattle.postfix_rules.specs.Values.{IsTreeValue, formula_value}

-- the test for equal natives is true exactly of equal ones
abbrev pub SameNatives : Type 0
SameNatives = (m n : Native) → (same_native m n ≡ true) ↔ (m ≡ n)

-- the test for equal events is true exactly of equal ones
abbrev pub SameEvents : Type 0
SameEvents = (e f : EventRef) → (same_event e f ≡ true) ↔ (e ≡ f)

-- an event added to a list of events appends those of its natives that the list did not have
abbrev pub OneMoreJoins : Type 0
OneMoreJoins = (book : Book) (es : List EventRef) (e : EventRef) → natives_of book (es ++ e ∷ []) ≡ joined_by (natives_of book es) (natives_of_event book e)

-- the natives of a list of events begin those of the list with one more
abbrev pub EarlierStay : Type 0
EarlierStay = (book : Book) (es : List EventRef) (e : EventRef) → take (length (natives_of book es)) (natives_of book (es ++ e ∷ [])) ≡ natives_of book es

-- each native of each event of a list is among the natives of the list
abbrev pub EachIsAmong : Type 0
EachIsAmong =
    (book : Book) (es : List EventRef) (i : ℕ) (e : EventRef) (n : Native)
    → slice_get es i ≡ Some e → among n (natives_of_event book e) ≡ true → among n (natives_of book es) ≡ true

-- no native stands twice among the natives of a list of events
abbrev pub NoneTwice : Type 0
NoneTwice =
    (book : Book) (es : List EventRef) (i j : ℕ) (n : Native)
    → slice_get (natives_of book es) i ≡ Some n → slice_get (natives_of book es) j ≡ Some n → i ≡ j

-- the tokens of a formula are those of one tree
abbrev pub FormulasSpell : Type 0
FormulasSpell = (natives : ℕ) (tokens : List Token) → IsFormula natives tokens → (tree : Tree) × (tokens ≡ spelling tree)

-- what tokens are worth is the value of every tree that they spell
abbrev pub TreesValued : Type 0
TreesValued = (counts : List ℤ) (tokens : List Token) → IsTreeValue counts tokens (formula_value counts tokens)
