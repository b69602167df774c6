use Rattle.std.proofs.Common.{◌≡◌, ◌≤◌, ℕ, Option, None, ap, subst, sym, ◌∙◌, arith, if◌then◌else◌}
use Rattle.roff_num.specs.declared.short_name.ShortName.{ShortName}
use Rattle.page_model.specs.Springs.{first_met, is_passed}
use Rattle.roff_pages.specs.Pages.Kept.{Kept}
use Rattle.roff_pages.specs.Pages.KnownStops.{IsFirstAt}
use Rattle.roff_pages.proofs.NextStop.{next_stop-full}
use Rattle.roff_pages.proofs.KnownStops.{met_at_stop}
use Rattle.roff_pages.proofs.Standing.{goes_on_standing, turns_standing, turn_sprung, trap_sprung}
use Rattle.roff_pages.proofs.pages.Pages.advance_past_stop.Goals as goal

pub invariant_of-self : goal.invariant_of-self
invariant_of-self c =
    let a = c.self.inside in
    let inv = c.self.invariant in
    let place = c.place_behind-self-inside.result in
    let full : a.length ≤ place = omega (arith, c.if-self-from.true, c.from.ensures) in
    record {
      begun = inv.begun;
      short = inv.short;
      place = omega (arith, c.place_behind-self-inside.ensures);
      stop = c.from-self-inside.ensures ∙ sym (next_stop-full a.length place a.traps.items full);
      known = record {
        trap = λ before. absurd (omega (arith, c.from-self-inside.ensures, before));
        beyond = inv.known.beyond;
        few = inv.known.few;
        top = inv.known.top;
      };
      traps = inv.traps;
      traps_room = inv.traps_room;
      stops_room = inv.stops_room;
      outer = inv.outer;
      outer_room = inv.outer_room;
      free = omega arith;
      room = omega (arith, inv.room);
      listed = λ some. absurd (omega (arith, some));
      mode = λ some. absurd (omega (arith, some));
      none_open = inv.none_open;
    }

pub returns-then-self-from-clause-stands : goal.returns-then-self-from-clause-stands
returns-then-self-from-clause-stands c L boxes s count =
    let a = c.self.inside in
    let k : Kept = c.args.self.now in
    let place = c.place_behind-self-inside.result in
    let at : a.place ≡ k.place = ap (λ (k : Kept). k.place) c.self.view_is in
    let long : a.length ≡ k.length = ap (λ (k : Kept). k.length) c.self.view_is in
    turns_standing L boxes k _ c.turn.new.self place s (omega arith) (omega (arith, c.from.ensures))
    (ap (λ (k : Kept). record k { place = place }) (sym c.self.view_is)) c.turn.ensures.stands

pub returns-then-self-from-clause-springs : goal.returns-then-self-from-clause-springs
returns-then-self-from-clause-springs c L boxes s count =
    let a = c.self.inside in
    let k : Kept = c.args.self.now in
    let place = c.place_behind-self-inside.result in
    let at : a.place ≡ k.place = ap (λ (k : Kept). k.place) c.self.view_is in
    let long : a.length ≡ k.length = ap (λ (k : Kept). k.length) c.self.view_is in
    turn_sprung L boxes k _ place c.turn.result s (omega arith) (omega (arith, c.from.ensures))
    (ap (λ (k : Kept). record k { place = place }) (sym c.self.view_is)) c.turn.ensures.springs

pub returns-clause-springs : goal.returns-clause-springs
returns-clause-springs c L boxes s count =
    let a = c.self.inside in
    let k : Kept = c.args.self.now in
    let place = c.place_behind-self-inside.result in
    let at : a.place ≡ k.place = ap (λ (k : Kept). k.place) c.self.view_is in
    let long : a.length ≡ k.length = ap (λ (k : Kept). k.length) c.self.view_is in
    let answer = c.passed_since.ensures ∙ ap (λ (k : Kept). if k.is_over then None else first_met (is_passed k.place place) k.length k.traps) c.self.view_is in
    trap_sprung L boxes k place c.passed_since.result s (omega (arith, c.self.invariant.short)) (omega arith) (omega (arith, c.from.ensures)) answer

pub returns-then-self-clause-springs : goal.returns-then-self-clause-springs
returns-then-self-clause-springs c L boxes s count =
    let a = c.self.inside in
    let inv = c.self.invariant in
    let k : Kept = c.args.self.now in
    let place = c.place_behind-self-inside.result in
    let at : a.place ≡ k.place = ap (λ (k : Kept). k.place) c.self.view_is in
    let long : a.length ≡ k.length = ap (λ (k : Kept). k.length) c.self.view_is in
    let here : place ≡ a.stop = c.if-self.true in
    let first = subst (λ (stop : ℕ). IsFirstAt a.length stop a.traps.items a.stops.trap) (sym here) inv.known.trap in
    let met = met_at_stop a.length a.place place a.stops.trap a.traps.items (here ∙ inv.stop) (omega (arith, inv.place)) (omega (arith, c.from.ensures)) first in
    let answer = c.sprung_at.ensures ∙ (ap (λ (r : Option ShortName). if a.is_over then None else r) met
    ∙ ap (λ (k : Kept). if k.is_over then None else first_met (is_passed k.place place) k.length k.traps) c.self.view_is) in
    trap_sprung L boxes k place c.sprung_at.result s (omega (arith, inv.short)) (omega arith) (omega (arith, c.from.ensures)) answer

pub returns-clause-stands : goal.returns-clause-stands
returns-clause-stands c L boxes s count =
    let a = c.self.inside in
    let k : Kept = c.args.self.now in
    let place = c.place_behind-self-inside.result in
    let at : a.place ≡ k.place = ap (λ (k : Kept). k.place) c.self.view_is in
    let long : a.length ≡ k.length = ap (λ (k : Kept). k.length) c.self.view_is in
    goes_on_standing L boxes k _ place s (omega (arith, c.self.invariant.short)) (omega arith) (omega (arith, c.from.ensures))
    (ap (λ (k : Kept). record k { place = place }) (sym c.self.view_is))
