-- Flags of threads, and threads without lines.
use Rattle.region_report.proofs.Words.{◌≡◌, ◌∙◌, ◌<◌, ◌+◌, ◌∷◌, ℕ, Bool, false, List, [], ap, get_or, length, map, refl, sym, take, or_parts}
use Rattle.region_report.proofs.Words.{list_any_more, flat_map, list_any, is_begin, name_of, region_text, thread_text, with_begin, with_name, Span}
use Rattle.region_report.proofs.Words.{has_spans}
use Rattle.std.specs.Prelude.{◌==◌, ◌&&◌, ◌||◌, fold, if◌then◌else◌}

any_seen : {X Y : Type 0} (view : X → Y) (q : Y → Bool) (xs : List X) → list_any q (map view xs) ≡ list_any (λ x. q (view x)) xs
any_seen view q [] = refl
any_seen view q (x ∷ xs) = ap (λ b. q (view x) || b) (any_seen view q xs)

-- the flags after one item more
pub flags_more : {X : Type 0} (p : X → ℕ) (xs : List X) (k t : ℕ) (x : X) (before after : Bool) → k < length xs → x ≡ get_or xs k x → after ≡ (before || (p x == t))
    → before ≡ list_any (λ y. p y == t) (take k xs) → after ≡ list_any (λ y. p y == t) (take (k + 1) xs)
flags_more p xs k t x before after inside is step so_far =
    step ∙ ap (λ b. b || (p x == t)) so_far ∙ ap (λ y. list_any (λ z. p z == t) (take k xs) || (p y == t)) is ∙ sym (list_any_more (λ y. p y == t) xs k x inside)

-- the same of items as they are seen
pub flags_more_seen : {X Y : Type 0} (view : X → Y) (p : Y → ℕ) (xs : List X) (k t : ℕ) (x : X) (before after : Bool) → k < length xs → x ≡ get_or xs k x
    → after ≡ (before || (p (view x) == t)) → before ≡ list_any (λ y. p y == t) (map view (take k xs)) → after ≡ list_any (λ y. p y == t) (map view (take (k + 1) xs))
flags_more_seen view p xs k t x before after inside is step so_far =
    flags_more (λ y. p (view y)) xs k t x before after inside is step (so_far ∙ any_seen view (λ y. p y == t) (take k xs)) ∙ sym (any_seen view (λ y. p y == t) (take (k + 1) xs))

-- a thread without spans has no region
no_names : (thread : ℕ) (names : List (List ℕ)) (spans : List Span) → has_spans spans thread ≡ false → fold (with_begin thread) names spans ≡ names
no_names thread names [] none = refl
no_names thread names (s ∷ spans) none =
    let parts = or_parts (s.line.thread == thread) (has_spans spans thread) none in
    ap (λ b. fold (with_begin thread) (if (b && is_begin s.line.call) then with_name names (name_of s.line.call) else names) spans) parts.0 ∙ no_names thread names spans parts.1

pub no_regions : (events : ℕ) (spans : List Span) (thread : ℕ) → has_spans spans thread ≡ false → thread_text events spans thread ≡ []
no_regions events spans thread none = ap (flat_map (region_text events spans thread)) (no_names thread [] spans none)
