-- Attributes one by one.
use Rattle.name_encoder.proofs.Words.{◌≡◌, ◌<◌, ◌∷◌, ℕ, List, [], Option, Some, None, length, option_map, refl, arith, option_or}
use Rattle.name_encoder.proofs.Words.{str_eq_ignore_ascii_case, str_to_ascii_lowercase, Text, MaskText, position_from-lt, Attributes, attribute_of}
use Rattle.name_encoder.proofs.Words.{mask_row, meaning_of, modifier_of, said_of, saids_of, all_given, given_next, said_given}
use Rattle.std.specs.Prelude.{Ok}
use Rattle.name_encoder.specs.Names as Names

-- a umask's row is one of the table's
pub meaning-row : (masks : List MaskText) (name : Text) (row : ℕ) → meaning_of masks name ≡ Some (Names.mask row) → row < length masks
unfolding meaning_of
meaning-row masks name row e = go (mask_row masks name) (modifier_of (str_to_ascii_lowercase name)) refl e
  where
    go : (o : Option ℕ) (m : Option Names.Modifier) → mask_row masks name ≡ o → option_or (option_map Names.mask o) (option_map Names.modifier m) ≡ Some (Names.mask row) → row < length masks
    go (Some k) m is q =
        let same : k ≡ row = cc q in
        let lt = position_from-lt (λ (x : MaskText). str_eq_ignore_ascii_case x.name name) 0 masks k is in
        omega (arith, same, lt)
    go None None is q = cc q
    go None (Some m) is q = cc q

pub all-step : (masks : List MaskText) (g : Attributes) (parts : List Text) (a : Text) (more : List Text) → parts ≡ a ∷ more
    → all_given masks g (saids_of masks parts) ≡ given_next (λ n. all_given masks n (saids_of masks more)) (said_given masks g (said_of masks (attribute_of a)))
unfolding all_given
all-step masks g parts a more e = rw e refl

pub all-done : (masks : List MaskText) (g : Attributes) → all_given masks g (saids_of masks []) ≡ Ok g
unfolding all_given
all-done masks g = refl
