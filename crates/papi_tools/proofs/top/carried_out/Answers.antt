use Rattle.papi_tools.proofs.Words.{refl}
-- tools/make_tools: begin uses
use Rattle.papi_tools.specs.Choosing.{chooser_verdict}
use Rattle.papi_tools.specs.Decoding.{decode_verdict}
use Rattle.papi_tools.specs.Encoding.{encode_verdict}
use Rattle.papi_tools.specs.NativeListing.{native_avail_verdict}
use Rattle.papi_tools.specs.PresetListing.{avail_verdict}
use Rattle.papi_tools.specs.RegionCounts.{regions_verdict}
-- tools/make_tools: end uses
use Rattle.papi_tools.proofs.HoldingLemmas.{same_held}
use Rattle.papi_tools.proofs.SettlingLemmas.{text_shows}
use Rattle.papi_tools.proofs.StepLemmas.{quiet_tells}
use Rattle.papi_tools.proofs.top.carried_out.Goals as goal

-- tools/make_tools: begin rows
pub returns-in-Run-clause-tells : goal.returns-in-Run-clause-tells
returns-in-Run-clause-tells g c = rw c.in-Run.is c.run.ensures.tells

pub returns-in-Profil-clause-tells : goal.returns-in-Profil-clause-tells
returns-in-Profil-clause-tells g c = rw c.in-Profil.is c.profile.ensures.tells

pub returns-in-Regions-clause-tells : goal.returns-in-Regions-clause-tells
returns-in-Regions-clause-tells g c = rw c.in-Regions.is (quiet_tells _ _ _ c.count_regions.result (λ o. regions_verdict o _) _ _ c.count_regions.ensures.said c.count_regions.ensures.shows)

pub returns-in-Avail-clause-tells : goal.returns-in-Avail-clause-tells
returns-in-Avail-clause-tells g c = rw c.in-Avail.is (quiet_tells _ _ _ c.list_presets.result (λ o. avail_verdict o _) _ _ c.list_presets.ensures.said (text_shows _ c.list_presets.result _ _ c.list_presets.ensures.textual))

pub returns-in-NativeAvail-clause-tells : goal.returns-in-NativeAvail-clause-tells
returns-in-NativeAvail-clause-tells g c = rw c.in-NativeAvail.is (quiet_tells _ _ _ c.list_natives.result (λ o. native_avail_verdict o _) _ _ c.list_natives.ensures.said (text_shows _ c.list_natives.result _ _ c.list_natives.ensures.textual))

pub returns-in-EventChooser-clause-tells : goal.returns-in-EventChooser-clause-tells
returns-in-EventChooser-clause-tells g c = rw c.in-EventChooser.is (quiet_tells _ _ _ c.choose_events.result (λ o. chooser_verdict o _) _ _ c.choose_events.ensures.said (text_shows _ c.choose_events.result _ _ c.choose_events.ensures.textual))

pub returns-in-Decode-clause-tells : goal.returns-in-Decode-clause-tells
returns-in-Decode-clause-tells g c = rw c.in-Decode.is (quiet_tells _ _ _ c.decode_presets.result (λ o. decode_verdict o _) _ _ c.decode_presets.ensures.said (text_shows _ c.decode_presets.result _ _ c.decode_presets.ensures.textual))

pub returns-in-Encode-clause-tells : goal.returns-in-Encode-clause-tells
returns-in-Encode-clause-tells g c = rw c.in-Encode.is (quiet_tells _ _ _ c.encode_names.result (λ o. encode_verdict o _) _ _ c.encode_names.ensures.said (text_shows _ c.encode_names.result _ _ c.encode_names.ensures.textual))

pub returns-in-Soak-clause-tells : goal.returns-in-Soak-clause-tells
returns-in-Soak-clause-tells g c = rw c.in-Soak.is (c.soak.ensures.tells _ _ _)

-- tools/make_tools: end rows

pub returns-in-Soak-clause-held : goal.returns-in-Soak-clause-held
returns-in-Soak-clause-held g c = same_held _ _ refl
