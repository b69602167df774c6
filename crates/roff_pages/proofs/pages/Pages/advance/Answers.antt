use Rattle.std.proofs.Common.{◌≡◌, ◌+◌, ◌-◌, ◌<◌, ap, subst, sym, ◌∙◌, arith, ◌^◌}
use Rattle.page_model.specs.Stops.{next_stop}
use Rattle.roff_pages.specs.Pages.Kept.{Kept}
use Rattle.roff_pages.specs.Pages.Advancing.{way_on}
use Rattle.roff_pages.proofs.NextStop.{next_stop-stays, next_stop_le}
use Rattle.roff_pages.proofs.Standing.{goes_on_standing, none_sprung}
use Rattle.roff_pages.proofs.pages.Pages.advance.Goals as goal

pub invariant_of-self : goal.invariant_of-self
invariant_of-self c =
    let a = c.self.inside in
    let inv = c.self.invariant in
    let way : c.args.way ≡ next_stop a.length a.place a.traps.items - a.place = c.requires ∙ ap way_on (sym c.self.view_is) in
    let before : a.place + c.args.lines < next_stop a.length a.place a.traps.items = omega (arith, way, c.if-lines-way.true) in
    let last = next_stop_le a.length a.place a.traps.items in
    record {
      begun = inv.begun;
      short = inv.short;
      place = omega (arith, before, last, inv.short);
      stop = inv.stop ∙ sym (next_stop-stays a.length a.place (a.place + c.args.lines) a.traps.items (omega arith) before);
      known = inv.known;
      traps = inv.traps;
      traps_room = inv.traps_room;
      stops_room = inv.stops_room;
      outer = inv.outer;
      outer_room = inv.outer_room;
      free = omega arith;
      room = omega (arith, inv.room);
      listed = λ some. absurd (omega (arith, some));
      mode = λ some. absurd (omega (arith, some));
      none_open = inv.none_open;
    }

pub returns-then-lines-way-clause-stands : goal.returns-then-lines-way-clause-stands
returns-then-lines-way-clause-stands c L boxes s count =
    let k : Kept = c.args.self.now in
    let place = k.place + c.args.lines in
    let short : k.length < 2 ^ 32 = subst (λ (k : Kept). k.length < 2 ^ 32) c.self.view_is c.self.invariant.short in
    let at : c.self.inside.place ≡ k.place = ap (λ (k : Kept). k.place) c.self.view_is in
    let last = next_stop_le k.length k.place k.traps in
    let before : place < next_stop k.length k.place k.traps = omega (arith, c.requires, c.if-lines-way.true) in
    goes_on_standing L boxes k _ place s short (omega (arith, before, last, short, count)) (omega (arith, before, last))
    (ap (λ (k : Kept). record k { place = k.place + c.args.lines }) (sym c.self.view_is))

pub returns-then-lines-way-clause-springs : goal.returns-then-lines-way-clause-springs
returns-then-lines-way-clause-springs c L boxes s count =
    let k : Kept = c.args.self.now in
    let place = k.place + c.args.lines in
    let short : k.length < 2 ^ 32 = subst (λ (k : Kept). k.length < 2 ^ 32) c.self.view_is c.self.invariant.short in
    let last = next_stop_le k.length k.place k.traps in
    let before : place < next_stop k.length k.place k.traps = omega (arith, c.requires, c.if-lines-way.true) in
    none_sprung L boxes k place s short (omega (arith, before, last, short, count)) before
