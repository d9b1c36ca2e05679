use Rattle.std.proofs.Common.{◌≡◌, subst, true}
use Rattle.event_tables.specs.Tables.{shape_of}
use Rattle.postfix_rules.specs.Fitting.{Fits}
use Rattle.postfix_rules.specs.Sameness.{among}
use Rattle.papi_calls.specs.Libraries.{LibraryView}
use Rattle.papi_calls.proofs.Known.{found_has, found_known}
use Rattle.papi_calls.proofs.library.Library.event_of.Goals as goal

pub returns-in-Some-native_of-clause-known : goal.returns-in-Some-native_of-clause-known
returns-in-Some-native_of-clause-known c =
    subst (λ (l : LibraryView). among c.in-Some-native_of.native l.mentioned ≡ true) c.self.view_is
    (found_known _ _ _ _ c.count.ensures.count c.in-Some-native_of.ensures.native)

pub returns-in-Some-native_of-clause-fits : goal.returns-in-Some-native_of-clause-fits
returns-in-Some-native_of-clause-fits c =
    subst (λ (l : LibraryView). Fits (shape_of l.catalog.tables) c.in-Some-native_of.native) c.self.view_is
    (found_has _ _ _ _ c.count.ensures.count c.in-Some-native_of.ensures.native (Fits (shape_of c.self.inside.catalog.tables)) c.self.invariant.fit)
