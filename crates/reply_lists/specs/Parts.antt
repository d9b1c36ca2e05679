-- Parts of lists.
use Rattle.std.specs.Prelude.{◌≡◌, ◌≤◌, ◌+◌, List, drop, length, take}
use Rattle.papi_base.specs.declared.limits.TheConstants.{MOST_ITEMS}
use Rattle.reply_lists.specs.declared.kept.Span.{Span}

-- what stands in the part
abbrev pub part : {X : Type 0} → Span → List X → List X
part s xs = take s.len (drop s.from xs)

-- the part lies in the list, and is short
pub record IsPart {X : Type 0} (s : Span) (xs : List X) : Type 0 where
  pub short : s.len ≤ MOST_ITEMS
  pub inside : s.from + s.len ≤ length xs

-- the part lies in the list, and has these items
pub record HoldsAt {X : Type 0} (s : Span) (xs items : List X) : Type 0 where
  pub lies : IsPart s xs
  pub has : part s xs ≡ items
