-- The values of events by the places of their natives.
use Rattle.thread_slots.proofs.Words.{◌≡◌, ℕ, ◌≤◌, List, ◌++◌, length, get_or, map, take, drop, ap, sym, ◌∙◌, arith, pos, length-append, Native}
use Rattle.thread_slots.proofs.Words.{EventRef, Book, position_or_len, same_native, number_in, event_value, drop-append_seam, take-append_seam}
use Rattle.thread_slots.proofs.Words.{length-map, map-map, natives_of_event, rule_of_event, rule_value, places_of_event}

count_is : (book : Book) (natives : List Native) (e : EventRef) → length (places_of_event book natives e) ≡ length (natives_of_event book e)
count_is book natives e = length-map (natives_of_event book e) (λ n. position_or_len (same_native n) natives)

pub next_inside : (book : Book) (natives : List Native) (e : EventRef) (places rest : List ℕ) → places ≡ places_of_event book natives e ++ rest → length (natives_of_event book e) ≤ length places
next_inside book natives e places rest is = omega (arith, ap length is, length-append (places_of_event book natives e) rest, count_is book natives e)

-- its value is that of the numbers at these places
pub next_value : (book : Book) (natives : List Native) (numbers : List ℕ) (e : EventRef) (places rest : List ℕ) → places ≡ places_of_event book natives e ++ rest
    → rule_value (rule_of_event book e) (map (λ p. pos (get_or numbers p 0)) (take (length (natives_of_event book e)) places)) ≡ event_value book (number_in natives numbers) e
next_value book natives numbers e places rest is =
    let own = places_of_event book natives e in
    ap (λ ps. rule_value (rule_of_event book e) (map (λ p. pos (get_or numbers p 0)) ps))
    (ap (take (length (natives_of_event book e))) is ∙ ap (λ (k : ℕ). take k (own ++ rest)) (sym (count_is book natives e)) ∙ take-append_seam own rest)
    ∙ ap (rule_value (rule_of_event book e)) (map-map (λ p. pos (get_or numbers p 0)) (λ n. position_or_len (same_native n) natives) (natives_of_event book e))

-- the rest comes after it
pub next_rest : (book : Book) (natives : List Native) (e : EventRef) (places rest : List ℕ) → places ≡ places_of_event book natives e ++ rest → drop (length (natives_of_event book e)) places ≡ rest
next_rest book natives e places rest is =
    let own = places_of_event book natives e in
    ap (drop (length (natives_of_event book e))) is ∙ ap (λ (k : ℕ). drop k (own ++ rest)) (sym (count_is book natives e)) ∙ drop-append_seam own rest
