-- What the register of a counter shows: the counters of Intel's manual, and PAPI_overflow(3).
use Rattle.std.specs.Prelude.{ℕ, ◌&&◌, ◌==◌, nat_lt, if◌then◌else◌, List, [], ◌∷◌, Option, slice_get, slice_index}
use Rattle.std.specs.Option.{option_map_or}
use Rattle.std.specs.List.{position_or_len}
use Rattle.papi_base.specs.declared.occurrence.Occ.{Occ}
use Rattle.papi_base.specs.declared.native.Native.{Native}
use Rattle.papi_base.specs.declared.native.EventRef.{EventRef}
use Rattle.postfix_rules.specs.Presets.{Book}
use Rattle.counter_unit.specs.Counting.{register_at}
use Rattle.event_sets.specs.Assigning.{counters_for}
use Rattle.event_sets.specs.AtRest.{Widths, AtRest, set_natives, widths_at, leads}
use Rattle.session_model.specs.Account.{Kept}
use Rattle.session_model.specs.Counts.{count}

-- the threshold on a native, or 0
abbrev pub threshold_among : Book → Native → List EventRef → List ℕ → ℕ
threshold_among book n [] ts = 0
threshold_among book n (e ∷ es) [] = 0
threshold_among book n (e ∷ es) (t ∷ ts) = if (nat_lt 0 t && leads book n e) then t else threshold_among book n es ts

-- the native on a counter, if there is one
abbrev pub native_on : Book → ℕ → AtRest → Option Native
native_on book c s = slice_get (set_natives book s) (position_or_len (λ k. k == c) (counters_for (set_natives book s)))

-- the register of a native on a counter of a running set
abbrev pub register_with : Book → Widths → List Occ → Kept → ℕ → Native → ℕ
register_with book shape past s c n =
    let width = slice_index (widths_at shape s.set.component) c in
    let threshold = threshold_among book n s.set.events s.set.thresholds in
    (register_at width n s.set.domain threshold (count past s n)).value

-- the register of a counter of a running set
abbrev pub register_of : Book → Widths → List Occ → Kept → ℕ → ℕ
register_of book shape past s c = option_map_or (register_with book shape past s c) (native_on book c s.set) 0
