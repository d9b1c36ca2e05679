use Rattle.std.proofs.Common.{length, refl, ap, ◌∙◌, sym, arith}
use Rattle.thread_slots.proofs.counting.count_place.Goals as goal

pub count_turn-requires : goal.count_turn-requires
count_turn-requires c =
    let h = (c.requires c.in-Some.slot c.in-Some.is).turning c.in-InTurns.rotation c.in-InTurns.begun c.in-InTurns.kept c.in-InTurns.is in
    let natives = sym (ap length c.natives.ensures.natives) in
    let places = c.running_places-places.ensures.places in
    record {
      same_length = h.same_length ∙ natives;
      room = h.room;
      rises = places.rises;
      within = let short = places.within in omega (arith, h.grouped ∙ natives);
    }

pub returns-in-InTurns-clause-place : goal.returns-in-InTurns-clause-place
returns-in-InTurns-clause-place c =
    let h = (c.requires c.in-Some.slot c.in-Some.is).turning c.in-InTurns.rotation c.in-InTurns.begun c.in-InTurns.kept c.in-InTurns.is in
    let grouped = h.grouped ∙ sym (ap length c.natives.ensures.natives) in
    let counts = c.count_turn.ensures c.in-InTurns.rotation.numbers _ grouped c.running_places-places.ensures.places in
    rw (c.in-Some.is, c.in-InTurns.is, c.running_places-places.ensures.same, counts, c.domain-domain.ensures, c.natives.ensures.natives, c.saturating_sub.ensures) refl
