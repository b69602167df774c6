use Rattle.std.proofs.Common.{◌≡◌, List, ap, subst, sym, ◌∙◌, vec_capacity, arith}
use Rattle.page_model.specs.declared.trap.Trap.{Trap}
use Rattle.page_model.specs.Springs.{first_met, is_on_top}
use Rattle.roff_pages.specs.declared.stops.Stops.{Stops}
use Rattle.roff_pages.specs.Pages.Kept.{Kept}
use Rattle.roff_pages.specs.Pages.KnownStops.{AreKnown, BeginsWith}
use Rattle.roff_pages.proofs.pages.Pages.begin_page.Goals as goal

pub invariant_of-self : goal.invariant_of-self
invariant_of-self c =
    let a = c.self.inside in
    let inv = c.self.invariant in
    let lent : c.as_slice-2.result.now ≡ a.traps.items = c.as_slice-2.ensures.value in
    let before = subst (λ (traps : List Trap). AreKnown a.length a.stop traps a.stops) (sym lent) inv.known in
    let top = subst (λ (traps : List Trap). BeginsWith a.length traps c.begin-top.result) lent (c.begin-top.ensures.top a.stop before) in
    record {
      begun = omega (arith, c.min-self-inside.ensures);
      short = inv.short;
      place = omega arith;
      stop = top.stop.place;
      known = subst (λ (traps : List Trap). AreKnown a.length c.begin-top.result.stop.place traps c.begin-top.new.self) lent (c.begin-top.ensures.known a.stop before);
      traps = inv.traps;
      traps_room = inv.traps_room;
      stops_room = omega (arith, inv.stops_room, ap (λ (known : Stops). vec_capacity known.beyond) c.begin-top.ensures.after);
      outer = inv.outer;
      outer_room = inv.outer_room;
      free = omega arith;
      room = omega (arith, inv.room);
      listed = λ some. absurd (omega (arith, some));
      mode = λ some. absurd (omega (arith, some));
      none_open = inv.none_open;
    }

pub returns-clause-met : goal.returns-clause-met
returns-clause-met c L s =
    let a = c.self.inside in
    let lent : c.as_slice-2.result.now ≡ a.traps.items = c.as_slice-2.ensures.value in
    let before = subst (λ (traps : List Trap). AreKnown a.length a.stop traps a.stops) (sym lent) c.self.invariant.known in
    let top = subst (λ (traps : List Trap). BeginsWith a.length traps c.begin-top.result) lent (c.begin-top.ensures.top a.stop before) in
    top.name ∙ (ap (λ (k : Kept). first_met is_on_top k.length k.traps) c.self.view_is
    ∙ (ap (λ (traps : List Trap). first_met is_on_top c.args.self.now.length traps) s.traps ∙ ap (λ n. first_met is_on_top n L.traps) s.length))
