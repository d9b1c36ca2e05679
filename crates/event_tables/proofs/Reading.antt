-- The components of some rows and of one row more.
use Rattle.event_tables.proofs.Words.{◌≡◌, ◌∙◌, ◌∷◌, ◌++◌, List, [], Ok, Err, Option, map, sym, ap, subst, refl, arith, OnOk, Result, AllByRecursion}
use Rattle.event_tables.proofs.Words.{RefusesRow, TakesRow, RowRefusal, GiveComponents, IsIndexed, IsLine, IsTables, Line, with_line, ComponentText}
use Rattle.event_tables.proofs.Words.{cause_in, components_in, row_cause, component_text, Component, RowCause}
use Rattle.event_tables.proofs.Keeping.{kept}
use Rattle.event_tables.proofs.RowsMore.{components-more}

pub none-read : GiveComponents [] []
unfolding components_in
none-read = (refl, record { tables = record { few = omega arith; each = tt; names_distinct = tt; pmus_distinct = tt }; indexed = tt })

pub row-taken : (above : List Line) (line : Line) (old new : List Component) (result : Result Unit (RowRefusal RowCause)) → IsLine line → GiveComponents above old
    → TakesRow (cause_in (map component_text old) line) (map component_text new ≡ with_line (map component_text old) line) result → OnOk result (AllByRecursion IsIndexed new)
    → TakesRow (row_cause above line) (GiveComponents (above ++ line ∷ []) new) result
row-taken above line old new (Ok u) good read takes indexed =
    let same = ap (λ (cs : List ComponentText). cause_in cs line) read.0 in (
      sym same ∙ takes.0,
      (
        takes.1 ∙ ap (λ (cs : List ComponentText). with_line cs line) read.0 ∙ sym (components-more above line),
        record { tables = subst IsTables (sym takes.1) (kept (map component_text old) line good takes.0 read.1.tables); indexed = indexed },
      ),
    )
row-taken above line old new (Err why) good read takes indexed =
    subst (λ (cause : Option RowCause). RefusesRow cause why) (ap (λ (cs : List ComponentText). cause_in cs line) read.0) takes
