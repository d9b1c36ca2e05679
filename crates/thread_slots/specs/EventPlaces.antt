-- Where the natives of each event of a set stand among those of the set.
use Rattle.std.specs.Prelude.{ℕ, List, [], ◌∷◌, ◌++◌, map}
use Rattle.std.specs.List.{position_or_len}
use Rattle.papi_base.specs.declared.native.EventRef.{EventRef}
use Rattle.papi_base.specs.declared.native.Native.{Native}
use Rattle.postfix_rules.specs.Presets.{Book, natives_of_event}
use Rattle.postfix_rules.specs.Sameness.{same_native}

-- the places of an event's natives
abbrev pub places_of_event : Book → List Native → EventRef → List ℕ
places_of_event book natives e = map (λ n. position_or_len (same_native n) natives) (natives_of_event book e)

-- those of several events, one event after the other
abbrev pub places_of : Book → List Native → List EventRef → List ℕ
places_of book natives [] = []
places_of book natives (e ∷ es) = places_of_event book natives e ++ places_of book natives es
