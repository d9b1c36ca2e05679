use Rattle.name_encoder.proofs.Words.{◌≡◌, ◌∙◌, Err, Some, length, sym, ap, rules, arith, length-map, shape_of, IsComponent, IsEvent, counter_text}
use Rattle.name_encoder.proofs.Words.{mask_text, native_next, FitsShape, found_from, names, split, found_text, parts_split}
use Rattle.name_encoder.proofs.Encoded.{encoded, names-fit, names-none, ok-of}
use Rattle.name_encoder.proofs.Finds.{found-kept}
use Rattle.name_encoder.proofs.encoder.encode.Goals as goal
use Rattle.name_encoder.proofs.encoder.encode.Goals.{After-find, After-given_by, After-native_of, In-Some}

is_split : (c : After-find) → parts_split c.parts_of-parts.result ≡ split c.args.text.now
is_split c = c.parts_of-parts.ensures ∙ ap split c.as_bytes.ensures.value

found : (c : In-Some) → found_from (parts_split c.parts_of-parts.result) 0 c.args.t.now ≡ Some (found_text c.in-Some.found)
found c = sym (rw c.in-Some.is at c.find.ensures.found)

kept : (c : In-Some) → IsComponent (found_text c.in-Some.found).component × IsEvent (length (found_text c.in-Some.found).component.counters) (found_text c.in-Some.found).event
kept c = found-kept (parts_split c.parts_of-parts.result) 0 c.args.t.now (found_text c.in-Some.found) (found c) c.find.ensures.kept.each

-- what was given, or its fault, comes to what the name stands for
given : (c : After-given_by) → native_next (found_text c.in-Some.found) c.given_by.result ≡ names c.args.t.now c.args.text.now
given c =
    let w = goal.at.After-given_by c in
    encoded c.args.t.now c.args.text.now (parts_split c.parts_of-parts.result) (found_text c.in-Some.found) c.given_by.result (is_split w.After-find) (found w.In-Some) (kept w.In-Some).1.few
    (rw c.as_slice.ensures.value at c.given_by.ensures)

pub returns-in_default-clause-names : goal.returns-in_default-clause-names
returns-in_default-clause-names c =
    sym (names-none c.args.t.now c.args.text.now _ (is_split (goal.at.returns-in_default-clause-names c).After-find) (sym (rw c.in_default.is at c.find.ensures.found)))

pub given_by-requires : goal.given_by-requires
given_by-requires c = omega (arith, (kept (goal.at.given_by-requires c).In-Some).1.few, length-map c.in-Some.found.event.now.masks.items mask_text)

pub returns-in_err-given-clause-names : goal.returns-in_err-given-clause-names
returns-in_err-given-clause-names c =
    let same : c.from_residual.result ≡ Err c.in_err-given.field-0.0 = search rules in
    same ∙ ap (native_next (found_text c.in-Some.found)) (sym c.in_err-given.was) ∙ given (goal.at.returns-in_err-given-clause-names c).After-given_by

pub native_of-requires-clause-few_counters : goal.native_of-requires-clause-few_counters
native_of-requires-clause-few_counters c =
    omega (arith, (kept (goal.at.native_of-requires-clause-few_counters c).In-Some).0.few_counters, length-map c.in-Some.found.component.now.counters.items counter_text)

pub native_of-requires-clause-few_masks : goal.native_of-requires-clause-few_masks
native_of-requires-clause-few_masks c =
    omega (arith, (kept (goal.at.native_of-requires-clause-few_masks c).In-Some).1.few, length-map c.in-Some.found.event.now.masks.items mask_text)

named : (c : After-native_of) → c.native_of.result ≡ names c.args.t.now c.args.text.now
named c = c.native_of.ensures ∙ ap (native_next (found_text c.in-Some.found)) (sym c.in_ok-given.was) ∙ given (goal.at.After-native_of c).After-given_by

pub returns-clause-names : goal.returns-clause-names
returns-clause-names c = named c

pub returns-clause-fits : goal.returns-clause-fits
returns-clause-fits c =
    ok-of c.native_of.result (FitsShape (shape_of c.args.t.now)) (λ n e. names-fit c.args.t.now c.args.text.now n c.find.ensures.kept (sym (named c) ∙ e))
