-- What the fields of a line say.
use Rattle.stream_reader.proofs.Words.{◌≡◌, ◌∙◌, ℕ, Bool, true, false, List, Option, Some, None, refl, if◌then◌else◌, option_map_or, Occ, LineStart}
use Rattle.stream_reader.proofs.Words.{Bad, fields_judged, fields_of, has_fields, occ_of, occurrence_judged, occurrence_on}
use Rattle.papi_base.specs.declared.occurrence.LineCause.TheVariants as cause
use Rattle.stream_reader.proofs.OneByOne.{occurrence-read}

pub judged-some : (start : LineStart) (t : List ℕ) (o : Occ) → Some o ≡ occurrence_on start.stamped start.given t → fields_judged start (fields_of t) ≡ occurrence_judged start o
unfolding fields_judged
judged-some start t o e = go (has_fields start.stamped (fields_of t)) (occ_of start.stamped start.given (fields_of t)) (e ∙ occurrence-read start.stamped start.given t)
  where
    go : (x : Bool) (r : Option Occ) → Some o ≡ (if x then r else None) → (if x then option_map_or (occurrence_judged start) r (Bad cause.Field) else Bad cause.Fields) ≡ occurrence_judged start o
    go true (Some p) h = let same : o ≡ p = cc in rw same refl
    go true None h = cc h
    go false r h = cc h

pub judged-none : (start : LineStart) (t : List ℕ) → None ≡ occurrence_on start.stamped start.given t
    → fields_judged start (fields_of t) ≡ Bad (if has_fields start.stamped (fields_of t) then cause.Field else cause.Fields)
unfolding fields_judged
judged-none start t e = go (has_fields start.stamped (fields_of t)) (occ_of start.stamped start.given (fields_of t)) (e ∙ occurrence-read start.stamped start.given t)
  where
    go : (x : Bool) (r : Option Occ) → None ≡ (if x then r else None)
        → (if x then option_map_or (occurrence_judged start) r (Bad cause.Field) else Bad cause.Fields) ≡ Bad (if x then cause.Field else cause.Fields)
    go true (Some p) h = cc h
    go true None h = refl
    go false r h = refl
