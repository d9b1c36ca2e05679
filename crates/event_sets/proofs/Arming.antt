-- Thresholds of events, one item more.
use Rattle.event_sets.proofs.Words.{◌≡◌, ℕ, ◌+◌, ◌<◌, ◌||◌, ◌&&◌, not, min, List, [], ◌∷◌, ◌++◌, length, take, drop, refl, ap, ap₂, sym, ◌∙◌, arith}
use Rattle.event_sets.proofs.Words.{slice_get, Some, nat_lt, Native, EventRef, Book, same_event, armed_elsewhere, leads, least_width, drop_at}
use Rattle.event_sets.proofs.Words.{take_at}

least_push : (ws : List ℕ) (w : ℕ) → 0 < length ws → least_width (ws ++ w ∷ []) ≡ min (least_width ws) w
least_push [] w some = absurd (omega arith)
least_push (v ∷ []) w some = refl
least_push (v ∷ u ∷ ws) w some = let rest : least_width (u ∷ (ws ++ w ∷ [])) ≡ min (least_width (u ∷ ws)) w = least_push (u ∷ ws) w (omega arith) in omega (arith, rest)

-- the first width, and a later one
pub least_first : (ws : List ℕ) (w : ℕ) → slice_get ws 0 ≡ Some w → w ≡ least_width (take 1 ws)
least_first ws w e = sym (ap least_width (take_at ws 0 w e))

pub least_next : (ws : List ℕ) (i w least : ℕ) → slice_get ws i ≡ Some w → 0 < length (take i ws) → least ≡ least_width (take i ws) → min least w ≡ least_width (take (i + 1) ws)
least_next ws i w least e some is = ap (λ l. min l w) is ∙ (sym (least_push (take i ws) w some) ∙ sym (ap least_width (take_at ws i w e)))

-- the event at i has a threshold on the native, or a later one does
pub armed_at : (book : Book) (e : EventRef) (n : Native) (es : List EventRef) (ts : List ℕ) (i t : ℕ) (f : EventRef) → slice_get es i ≡ Some f → slice_get ts i ≡ Some t
    → armed_elsewhere book e n (drop i es) (drop i ts) ≡ ((not (same_event e f) && nat_lt 0 t && leads book n f) || armed_elsewhere book e n (drop (i + 1) es) (drop (i + 1) ts))
armed_at book e n es ts i t f there here = ap₂ (armed_elsewhere book e n) (drop_at es i f there) (drop_at ts i t here)
