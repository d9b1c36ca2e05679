-- The codes of native events, by the order of their first mentions: PAPI_event_name_to_code(3).
use Rattle.std.specs.Prelude.{ℕ, ◌+◌, ◌-◌, nat_le, if◌then◌else◌, List, Option, None, slice_get}
use Rattle.std.specs.List.{position_or_len}
use Rattle.papi_base.specs.declared.limits.TheConstants.{FIRST_NATIVE_CODE}
use Rattle.papi_base.specs.declared.native.Native.{Native}
use Rattle.postfix_rules.specs.Sameness.{same_native}

-- a native's code is its rank among the mentions, from PAPI_NATIVE_MASK of papi.h on
abbrev pub native_code : List Native → Native → ℕ
native_code mentioned n = FIRST_NATIVE_CODE + position_or_len (same_native n) mentioned

-- the native of a code, if it is mentioned: PAPI_event_code_to_name(3)
abbrev pub native_named : List Native → ℕ → Option Native
native_named mentioned c = if nat_le FIRST_NATIVE_CODE c then slice_get mentioned (c - FIRST_NATIVE_CODE) else None
