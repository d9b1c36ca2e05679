-- What a row of a unit file keeps, by itself.
use Rattle.event_tables.proofs.Words.{◌≡◌, ◌<◌, ◌^◌, ℕ, List, Option, Some, None, length, refl, arith, option_map_or, bytes_eq, and_parts, cond_both}
use Rattle.event_tables.proofs.Words.{not-true, Text, decimal_in, hex_in, is_decimal, is_name, is_skipped, text_at, decimal_in-range, hex_in-range}
use Rattle.event_tables.proofs.Words.{option_both, skipped, bad, component, counter, event, umask, umask_counters, umask_modifiers, are_names}
use Rattle.event_tables.proofs.Words.{component_line, counter_line, event_line, fixed_mods_of, fixes_one, flags_of, is_description, line_of, mask_of}
use Rattle.event_tables.proofs.Words.{umask_counters_line, umask_line, umask_modifiers_line, words_of, IsLine, IsWidth}
use Rattle.std.specs.Prelude.{◌&&◌, ◌||◌, ◌==◌, IfSome, if◌then◌else◌, codes}

component_line-kept : (name pmu : Text) → IsLine (component_line name pmu)
component_line-kept name pmu = cond_both (is_name name && is_name pmu) (component name pmu) bad IsLine (λ e. and_parts _ _ e) (λ e. tt)

width-kept : (width : Text) (o : Option ℕ) → decimal_in 16 48 width ≡ o → IfSome o IsWidth
width-kept width None e = tt
width-kept width (Some n) e = decimal_in-range 16 48 width n e

counter_line-kept : (name width kind : Text) → IsLine (counter_line name width kind)
counter_line-kept name width kind =
    cond_both (is_name name && is_decimal width && (bytes_eq kind (codes "P") || bytes_eq kind (codes "F"))) (counter name (decimal_in 16 48 width) (bytes_eq kind (codes "F"))) bad IsLine
    (λ e. ((and_parts _ _ (and_parts _ _ e).0).0, width-kept width (decimal_in 16 48 width) refl)) (λ e. tt)

byte-small : (t : Text) (n : ℕ) → hex_in 1 2 t ≡ Some n → n < 2 ^ 8
byte-small t n e = let h = hex_in-range 1 2 t n e in omega (arith, h)

event_line-kept : (name select counters text : Text) → IsLine (event_line name select counters text)
event_line-kept name select counters text =
    option_both IsLine (λ n. if is_name name && are_names (words_of counters) && is_description text then event name n (words_of counters) text else bad) (hex_in 1 2 select) bad
    (λ n e. cond_both (is_name name && are_names (words_of counters) && is_description text) (event name n (words_of counters) text) bad IsLine
    (λ h. let p = and_parts _ _ (and_parts _ _ h).0 in record { named = p.0; byte = byte-small select n e; some = not-true _ (and_parts _ _ p.1).0 }) (λ h. tt)) tt

umask_line-kept : (name bits letters text : Text) → IsLine (umask_line name bits letters text)
umask_line-kept name bits letters text =
    option_both IsLine (λ n. option_map_or (λ f. if is_name name && is_description text then umask (mask_of name n f text) else bad) (flags_of letters) bad) (hex_in 1 2 bits) bad
    (λ n e. option_both IsLine (λ f. if is_name name && is_description text then umask (mask_of name n f text) else bad) (flags_of letters) bad
    (λ f d. cond_both (is_name name && is_description text) (umask (mask_of name n f text)) bad IsLine (λ h. record { named = (and_parts _ _ h).0; byte = byte-small bits n e; free = refl }) (λ h. tt)) tt) tt

umask_counters_line-kept : (counters : Text) → IsLine (umask_counters_line counters)
umask_counters_line-kept counters = cond_both (are_names (words_of counters)) (umask_counters (words_of counters)) bad IsLine (λ e. not-true _ (and_parts _ _ e).0) (λ e. tt)

umask_modifiers_line-kept : (letters amount : Text) → IsLine (umask_modifiers_line letters amount)
umask_modifiers_line-kept letters amount =
    option_both IsLine (λ n. option_map_or (λ f. if fixes_one f then umask_modifiers f else bad) (fixed_mods_of letters n) bad) (decimal_in 0 255 amount) bad
    (λ n e. option_both IsLine (λ f. if fixes_one f then umask_modifiers f else bad) (fixed_mods_of letters n) bad
    (λ f d. cond_both (fixes_one f) (umask_modifiers f) bad IsLine (λ h. tt) (λ h. tt)) tt) tt

pub line_of-kept : (fields : List Text) → IsLine (line_of fields)
unfolding line_of
line_of-kept fields =
    let at : ℕ → Text = text_at fields in
    cond_both (is_skipped (at 0)) skipped _ IsLine (λ b. tt)
    (λ b. cond_both (bytes_eq (at 0) (codes "COMPONENT") && (length fields == 3)) (component_line (at 1) (at 2)) _ IsLine (λ d. component_line-kept (at 1) (at 2))
    (λ d. cond_both (bytes_eq (at 0) (codes "COUNTER") && (length fields == 4)) (counter_line (at 1) (at 2) (at 3)) _ IsLine (λ e. counter_line-kept (at 1) (at 2) (at 3))
    (λ e. cond_both (bytes_eq (at 0) (codes "EVENT") && (length fields == 5)) (event_line (at 1) (at 2) (at 3) (at 4)) _ IsLine (λ f. event_line-kept (at 1) (at 2) (at 3) (at 4))
    (λ f. cond_both (bytes_eq (at 0) (codes "UMASK") && (length fields == 5)) (umask_line (at 1) (at 2) (at 3) (at 4)) _ IsLine (λ g. umask_line-kept (at 1) (at 2) (at 3) (at 4))
    (λ g. cond_both (bytes_eq (at 0) (codes "UMASK_COUNTERS") && (length fields == 2)) (umask_counters_line (at 1)) _ IsLine (λ h. umask_counters_line-kept (at 1))
    (λ h. cond_both (bytes_eq (at 0) (codes "UMASK_MODIFIERS") && (length fields == 3)) (umask_modifiers_line (at 1) (at 2)) bad IsLine (λ k. umask_modifiers_line-kept (at 1) (at 2)) (λ k. tt)))))))
