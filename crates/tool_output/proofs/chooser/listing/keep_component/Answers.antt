use Rattle.tool_output.proofs.Words.{◌≡◌, ◌∙◌, ◌<◌, ◌++◌, [], ℕ, List, Some, Option, filter, get_or, length, map, slice_get, sym, ap, arith, flat_map}
use Rattle.tool_output.proofs.Words.{range_with_len, option_and_then, option_map_or, append-nil, length-map, slice_get-get_or, slice_get-map}
use Rattle.tool_output.proofs.Words.{ComponentText, EventText, component_text, event_text, EventRow, EventRef, takes}
use Rattle.std.specs.Prelude.{option_map}
use Rattle.tool_output.specs.Candidates.{found, natives_in_row, natives_of_component, natives_of_event}
use Rattle.tool_output.proofs.Natives.{component_events, component_not_taken}
use Rattle.tool_output.proofs.Rows.{kept_more}
use Rattle.tool_output.proofs.chooser.listing.keep_component.Goals as goal
use Rattle.tool_output.proofs.chooser.listing.keep_component.Goals.{In-Some}

row_at : (items : List EventRow) (row : ℕ) (e : EventRow) → row < length items → e ≡ get_or items row e → slice_get (map event_text items) row ≡ Some (event_text e)
row_at items row e small is = slice_get-map event_text items row ∙ ap (option_map event_text) (slice_get-get_or items row e small ∙ ap Some (sym is))

all_rows : (comp : ℕ) (c : ComponentText) (n : ℕ) → length c.events ≡ n → natives_of_component comp c ≡ flat_map (natives_in_row comp c) (range_with_len 0 n)
unfolding natives_of_component
all_rows comp c n is = ap (λ k. flat_map (natives_in_row comp c) (range_with_len 0 k)) is

-- the component is in the tables
here : (c : In-Some) → slice_get c.args.catalog.now.tables c.args.comp ≡ Some (component_text c.in-Some.component.now)
here c = sym (ap (λ (ts : List ComponentText). slice_get ts c.args.comp) c.tables.ensures.tables) ∙ sym c.in-Some.ensures

pub returns-in_default-opened : goal.returns-in_default-opened
returns-in_default-opened c =
    let comp = c.args.comp in
    let keeps = takes c.args.catalog.now c.args.set.now.rest in
    let component = component_text c.in-Some.component.now in
    let here = here (goal.at.returns-in_default-opened c).In-Some in
    sym (ap (λ (es : List EventRef). c.args.events.now.items ++ es)
    (ap (λ o. filter keeps (option_map_or (natives_of_component comp) o [])) here
    ∙ component_not_taken c.args.catalog.now c.args.set.now.rest comp c.in_default-opened.ensures.other component) ∙ append-nil c.args.events.now.items)

pub overflow_cast-row : goal.overflow_cast-row
overflow_cast-row c =
    let comp = c.args.comp in
    let tables = c.args.catalog.now.tables in
    let component = component_text c.in-Some.component.now in
    let here = here (goal.at.overflow_cast-row c).In-Some in
    let few = component_events tables comp component c.requires.kept here in
    omega (arith, few, length-map c.in-Some.component.now.events.items event_text, c.loop-row-test.true, c.len-row-end.ensures)

pub keep_natives-requires-clause-here : goal.keep_natives-requires-clause-here
keep_natives-requires-clause-here c =
    let comp = c.args.comp in
    let row = c.loop-row.row in
    let items = c.in-Some.component.now.events.items in
    let component = component_text c.in-Some.component.now in
    let here = here (goal.at.keep_natives-requires-clause-here c).In-Some in
    ap (option_and_then (λ (x : ComponentText). slice_get x.events row)) here
    ∙ row_at items row c.index-event.result.now (omega (arith, c.loop-row-test.true, c.len-row-end.ensures)) c.index-event.ensures

pub keep_natives-requires-clause-among : goal.keep_natives-requires-clause-among
keep_natives-requires-clause-among c = here (goal.at.keep_natives-requires-clause-among c).In-Some

pub loop-row-preserved : goal.loop-row-preserved
loop-row-preserved c =
    let comp = c.args.comp in
    let row = c.loop-row.row in
    let keeps = takes c.args.catalog.now c.args.set.now.rest in
    let component = component_text c.in-Some.component.now in
    let at = row_at c.in-Some.component.now.events.items row c.index-event.result.now (omega (arith, c.loop-row-test.true, c.len-row-end.ensures)) c.index-event.ensures in
    kept_more keeps (natives_in_row comp component) row c.args.events.now.items c.loop-row.events.items c.keep_natives.new.events.items c.loop-row.invariant
    (c.in_ok-keep_natives.ensures
    ∙ ap (λ (o : Option EventText). c.loop-row.events.items ++ filter keeps (option_map_or (λ e. natives_of_event (found comp row component e)) o [])) (sym at))

pub returns : goal.returns
returns c =
    let comp = c.args.comp in
    let keeps = takes c.args.catalog.now c.args.set.now.rest in
    let component = component_text c.in-Some.component.now in
    let here = here (goal.at.returns c).In-Some in
    let all : length component.events ≡ c.loop-row.row =
    omega (arith, length-map c.in-Some.component.now.events.items event_text, c.loop-row-test.false, c.loop-row.auto.row-end, c.len-row-end.ensures) in
    c.loop-row.invariant
    ∙ ap (λ (es : List EventRef). c.args.events.now.items ++ filter keeps es) (sym (all_rows comp component c.loop-row.row all))
    ∙ ap (λ (o : Option ComponentText). c.args.events.now.items ++ filter keeps (option_map_or (natives_of_component comp) o [])) (sym here)
