-- Native events that a call mentions, and those that were mentioned.
use Rattle.std.proofs.Common.{◌≡◌, ℕ, true, List, refl, ap, if◌then◌else◌, Some, None, slice_get, nat_le, Bool, ◌-◌, false, subst, take, length, sym, ◌∙◌}
use Rattle.std.proofs.Math.Seq.{take-length}
use Rattle.std.proofs.lemmas.Option.{slice_get_within, get_or_from_slice_get}
use Rattle.papi_base.specs.declared.code.Code.{Code}
use Rattle.papi_base.specs.declared.native.EventRef.{EventRef}
use Rattle.papi_base.specs.declared.native.EventRef.TheVariants as event
use Rattle.papi_base.specs.declared.native.Native.{Native}
use Rattle.postfix_rules.specs.Sameness.{among}
use Rattle.postfix_rules.specs.NativeCodes.{native_named}
use Rattle.session_model.specs.World.{mentions_of, mentions_of_call}
use Rattle.call_type.specs.declared.call.Asked.TheVariants.{CodeOf}
use Rattle.call_type.specs.declared.call.Call.TheVariants as call
use Rattle.postfix_rules.proofs.Joined.{is_among}
use Rattle.std.specs.Prelude.{All, Ok, Result}

-- what is mentioned if a threshold is set is what its event's name mentions
pub armed_mentions : (set : ℕ) (e : Result EventRef Code) (threshold : ℕ) → mentions_of_call (call.Overflow set e threshold) ≡ mentions_of (CodeOf e)
armed_mentions set (Ok (event.Native n)) threshold = refl
armed_mentions set e threshold = refl

-- a native event of a code is in the list
named_at : (b : Bool) (mentioned : List Native) (k : ℕ) (n : Native) → (if b then slice_get mentioned k else None) ≡ Some n → slice_get mentioned k ≡ Some n
named_at true mentioned k n e = e
named_at false mentioned k n e = cc

-- if it is looked for among all that were mentioned
module _ (mentioned : List Native) (count code : ℕ) (n : Native) (all : count ≡ length mentioned) (found : Some n ≡ native_named (take count mentioned) code) where
  place : slice_get mentioned (code - 0x40000000) ≡ Some n
  place =
      named_at (nat_le 0x40000000 code) mentioned (code - 0x40000000) n
      (sym (found ∙ ap (λ (ns : List Native). native_named ns code) (ap (λ k. take k mentioned) all ∙ take-length mentioned)))

  pub found_known : among n mentioned ≡ true
  found_known = is_among n mentioned (code - 0x40000000) place

  pub found_has : (P : Native → Type 0) → All P mentioned → P n
  found_has P each =
      subst P (get_or_from_slice_get mentioned (code - 0x40000000) n n place) (each (code - 0x40000000) n (slice_get_within mentioned (code - 0x40000000) n place))
