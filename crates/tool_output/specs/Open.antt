-- A set over a catalog, and its native events on the counters of a component, to which more can be added.
use Rattle.std.specs.Prelude.{◌≡◌, ◌≤◌, ℕ, None, Option, false, length}
use Rattle.papi_base.specs.declared.limits.TheConstants.{MOST_COUNTERS}
use Rattle.component_table.specs.Catalogs.{CatalogView, shape_of}
use Rattle.counter_alloc.specs.Masks.{masks_of}
use Rattle.counter_alloc.specs.Matchings.{MatchingView}
use Rattle.event_sets.specs.AtRest.{is_other, widths_at}
use Rattle.event_sets.specs.Sets.{SetView, set_view}

-- the set's natives and counters are those of the catalog, and it is not multiplexed
pub record IsOver (catalog : CatalogView) (s : SetView) : Type 0 where
  pub view : s ≡ set_view catalog.book (shape_of catalog.tables) s.rest
  pub unshared : s.rest.slice ≡ None

-- the set has no other component, and its natives are on counters of this one
pub record IsOpen (catalog : CatalogView) (s : SetView) (matching : MatchingView) (component : Option ℕ) : Type 0 where
  pub over : IsOver catalog s
  pub own : is_other s.rest.component component ≡ false
  pub few : matching.counters ≤ MOST_COUNTERS
  pub counters : matching.counters ≡ length (widths_at (shape_of catalog.tables) component)
  pub natives : matching.allowed ≡ masks_of s.natives
