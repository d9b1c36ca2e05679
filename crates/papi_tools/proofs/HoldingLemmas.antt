-- What the files hold stays.
use Rattle.papi_tools.proofs.Words.{◌≡◌, ◌∙◌, ◌+◌, ℕ, zero, suc, List, Option, None, Some, refl, sym, ap, arith, zero-add, option_map, Held}
use Rattle.papi_tools.proofs.Words.{renumbered, StaysHeld, held_after, refused_after}
use Rattle.papi_base.specs.Outside as Outside

none_past : (held : Option Held) → held ≡ option_map (held_after 0) held
none_past None = refl
none_past (Some h) = refl

-- nothing was opened
pub same_held : (before after : Option Held) → after ≡ before → StaysHeld before after
same_held before after e = record { openings = 0; held = e ∙ none_past before }

one_past : (held : Option Held) → option_map Outside.opened held ≡ option_map (held_after 1) held
one_past None = refl
one_past (Some h) = refl

pub one_opened : (before after : Option Held) → after ≡ option_map Outside.opened before → StaysHeld before after
one_opened before after e = record { openings = 1; held = e ∙ one_past before }

refused_both : (m n : ℕ) (refused : List ℕ) → refused_after n (refused_after m refused) ≡ refused_after (m + n) refused
refused_both zero n refused = ap (λ k. refused_after k refused) (sym (zero-add n))
refused_both (suc m) n refused =
    let one_more : suc (m + n) ≡ suc m + n = omega arith in
    refused_both m n (renumbered refused) ∙ ap (λ k. refused_after k refused) one_more

both_past : (m n : ℕ) (held : Option Held) → option_map (held_after n) (option_map (held_after m) held) ≡ option_map (held_after (m + n)) held
both_past m n None = refl
both_past m n (Some h) =
    let with_refused : List ℕ → Option Held = λ refused. Some (record { tapes = h.tapes; refused = refused }) in
    ap with_refused (refused_both m n h.refused)

-- one step after the other
pub both_held : (before mid after : Option Held) → StaysHeld before mid → StaysHeld mid after → StaysHeld before after
both_held before mid after one two =
    record { openings = one.openings + two.openings; held = two.held ∙ (ap (option_map (held_after two.openings)) one.held ∙ both_past one.openings two.openings before) }

-- and then nothing was opened
pub held_then : (before mid after : Option Held) → StaysHeld before mid → after ≡ mid → StaysHeld before after
held_then before mid after one e = record { openings = one.openings; held = e ∙ one.held }
