use Rattle.papi_tools.proofs.Words.{map, refl, string_bytes, verdict_for, form}
use Rattle.papi_tools.proofs.HoldingLemmas.{same_held}
use Rattle.papi_tools.proofs.SettlingLemmas.{refused_as, refused_shows, settled_as, settled_shows, starved_as}
use Rattle.papi_tools.proofs.top.said_of.Goals as goal

pub returns-clause-said : goal.returns-clause-said
returns-clause-said g c =
    settled_as _ _ c.in-Ok.command _ _ _ _ c.carried_out-answer.result _ (rw c.as_slice.ensures.value at c.in-Ok.ensures) c.carried_out-answer.ensures.tells.ran c.carried_out-answer.ensures.looked c.settled.ensures

pub returns-clause-shows : goal.returns-clause-shows
returns-clause-shows g c =
    settled_shows _ c.in-Ok.command c.carried_out-answer.result _ _ _ (rw c.as_slice.ensures.value at c.in-Ok.ensures) c.carried_out-answer.ensures.tells.shows c.carried_out-answer.ensures.looked c.settled.ensures

pub returns-in-Err-BadWords-clause-said : goal.returns-in-Err-BadWords-clause-said
returns-in-Err-BadWords-clause-said g c =
    refused_as _ _ _ _ _ c.refused.result (rw (c.in-Err-BadWords.field-0-is, c.as_slice.ensures.value) at c.in-Err-BadWords.ensures) c.refused.ensures

pub returns-in-Err-BadWords-clause-shows : goal.returns-in-Err-BadWords-clause-shows
returns-in-Err-BadWords-clause-shows g c = refused_shows _ c.refused.result _ _ c.refused.ensures

pub returns-in-Err-Memory-clause-said : goal.returns-in-Err-Memory-clause-said
returns-in-Err-Memory-clause-said g c = starved_as _ (λ o. verdict_for o (form (map string_bytes c.args.words.now.items))) _ _ _ _

pub returns-in-Err-BadWords-clause-held : goal.returns-in-Err-BadWords-clause-held
returns-in-Err-BadWords-clause-held g c = same_held _ _ refl

pub returns-in-Err-Memory-clause-held : goal.returns-in-Err-Memory-clause-held
returns-in-Err-Memory-clause-held g c = same_held _ _ refl
