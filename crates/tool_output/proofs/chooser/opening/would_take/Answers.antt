-- what is found is what the definition of the refusals says
use Rattle.tool_output.proofs.Words.{◌≡◌, ◌∙◌, ◌<◌, ◌++◌, Some, slice_get, ap, ap₂, length, sym, arith, list_any, option_map, shape_of, is_other}
use Rattle.tool_output.proofs.Words.{widths_at, SetView, Ready, all_in_range, held_have_natives, held_fit, Native, Book, component_of_event}
use Rattle.tool_output.proofs.Words.{natives_of_event, joined_by, same_event}
use Rattle.tool_output.proofs.Openings.{takes_is}
use Rattle.tool_output.proofs.chooser.opening.would_take.Goals as goal
use Rattle.tool_output.proofs.chooser.opening.would_take.Goals.{After-joining-further}

-- the first native event of the event
first : (c : After-joining-further) → (n : Native) × (slice_get (natives_of_event c.args.catalog.now.book c.args.event.now) 0 ≡ Some n)
first c = held_have_natives c.args.catalog.now.book c.args.event.now c.requires.held

component : (c : After-joining-further) → component_of_event c.args.catalog.now.book c.args.event.now ≡ Some (first c).0.comp
component c = ap (option_map (λ (m : Native). m.comp)) (first c).1

ready : (c : After-joining-further) → Ready c.args.catalog.now.book (shape_of c.args.catalog.now.tables) c.args.event.now c.args.set.now (first c).0
ready c =
    let view = c.requires.open.over.view in
    record {
      held = c.requires.held;
      fits = held_fit c.args.catalog.now.book (shape_of c.args.catalog.now.tables) c.args.event.now c.book.ensures.fits c.requires.held c.requires.fits;
      natives = ap (λ (v : SetView). v.natives) view;
      known = ap (λ (v : SetView). v.counters) view;
      sound = c.natives-natives.ensures.sound;
      first = (first c).1;
      own = ap (is_other c.args.set.now.rest.component) (sym (component c)) ∙ c.requires.open.own;
      absent = ap (list_any (same_event c.args.event.now)) (sym c.events-events.ensures.events) ∙ sym c.has_event.ensures ∙ c.if-has_event.false;
    }

joins : (c : After-joining-further) → c.natives-natives.result.now ++ c.joining-further.result ≡ joined_by c.args.set.now.natives (natives_of_event c.args.catalog.now.book c.args.event.now)
joins c =
    c.joining-further.ensures
    ∙ ap₂ joined_by c.natives-natives.ensures.natives (c.natives_of.ensures ∙ ap (λ (b : Book). natives_of_event b c.args.event.now) c.book.ensures.book)

pub fits-requires-clause-few : goal.fits-requires-clause-few
fits-requires-clause-few c = c.requires.open.few

pub fits-requires-clause-in_range : goal.fits-requires-clause-in_range
fits-requires-clause-in_range c =
    let w = (goal.at.fits-requires-clause-in_range c).After-joining-further in
    let counters = c.requires.open.counters ∙ ap (λ o. length (widths_at (shape_of c.args.catalog.now.tables) o)) (component w) in
    all_in_range _ _ _ _ _ (ready w) _ (joins w) c.args.matching.now.counters counters

pub returns : goal.returns
returns c =
    let w = (goal.at.returns c).After-joining-further in
    let few : length c.args.set.now.rest.events < 32 = omega (arith, c.len.ensures.length, c.if-len.false, ap length c.events-events.ensures.events) in
    c.fits.ensures ∙ sym (takes_is _ _ _ _ _ (ready w) _ (joins w) few c.requires.open.over.unshared)
