use Rattle.std.proofs.Common.{◌≡◌, ◌<◌, ℕ, Option, None, ◌∷◌, [], ◌++◌, refl, ap, subst, sym, ◌∙◌, arith, w32, to_z, of_z}
use Rattle.std.proofs.lemmas.Int.{ints}
use Rattle.page_model.specs.Stops.{nearer_stop, place_of}
use Rattle.roff_pages.specs.Pages.KnownStops.{IsFirstAt}
use Rattle.roff_pages.proofs.KnownStops.{all_forgotten, planted_further, planted_nearer, planted_stop}
use Rattle.roff_pages.proofs.NextStop.{nearer_le}
use Rattle.roff_pages.proofs.stops.Stops.plant.Goals as goal

pub returns-then-nearer-stop-clause-stop : goal.returns-then-nearer-stop-clause-stop
returns-then-nearer-stop-clause-stop c traps is =
    let given : to_z w32 (of_z w32 c.args.trap.place) ≡ c.args.trap.place = omega (arith, ints) in
    planted_stop c.args.lines c.args.place c.args.stop c.nearer_stop-nearer.result traps c.args.trap c.place_of.result
    (c.place_of.ensures ∙ ap (place_of c.args.lines) given) c.nearer_stop-nearer.ensures is

pub returns-then-nearer-stop-clause-known : goal.returns-then-nearer-stop-clause-known
returns-then-nearer-stop-clause-known c traps counted is known =
    let given : to_z w32 (of_z w32 c.args.trap.place) ≡ c.args.trap.place = omega (arith, ints) in
    let lies : c.place_of.result ≡ place_of c.args.lines c.args.trap.place = c.place_of.ensures ∙ ap (place_of c.args.lines) given in
    let at : c.nearer_stop-nearer.result ≡ nearer_stop c.args.place (place_of c.args.lines c.args.trap.place) c.args.stop =
    c.nearer_stop-nearer.ensures ∙ ap (λ (o : Option ℕ). nearer_stop c.args.place o c.args.stop) lies in
    let near : nearer_stop c.args.place (place_of c.args.lines c.args.trap.place) c.args.stop < c.args.stop = omega (arith, at, c.if-nearer-stop.true) in
    let first = planted_nearer c.args.lines c.args.place c.args.stop c.args.count traps c.args.trap counted is near in
    let there : IsFirstAt c.args.lines c.nearer_stop-nearer.result (traps ++ c.args.trap ∷ []) c.args.count =
    subst (λ (s : ℕ). IsFirstAt c.args.lines s (traps ++ c.args.trap ∷ []) c.args.count) (sym at) first in
    all_forgotten c.args.lines c.nearer_stop-nearer.result (traps ++ c.args.trap ∷ []) (record { trap = c.args.count; beyond = c.clear.new.self; top = None }) there c.clear.ensures.items refl

pub returns-else-nearer-stop-clause-stop : goal.returns-else-nearer-stop-clause-stop
returns-else-nearer-stop-clause-stop c traps is =
    let given : to_z w32 (of_z w32 c.args.trap.place) ≡ c.args.trap.place = omega (arith, ints) in
    planted_stop c.args.lines c.args.place c.args.stop c.nearer_stop-nearer.result traps c.args.trap c.place_of.result
    (c.place_of.ensures ∙ ap (place_of c.args.lines) given) c.nearer_stop-nearer.ensures is

pub returns-else-nearer-stop-clause-known : goal.returns-else-nearer-stop-clause-known
returns-else-nearer-stop-clause-known c traps counted is known =
    let at : c.nearer_stop-nearer.result ≡ nearer_stop c.args.place c.place_of.result c.args.stop = c.nearer_stop-nearer.ensures in
    let same : c.args.stop ≡ c.nearer_stop-nearer.result = omega (arith, at, c.if-nearer-stop.false, nearer_le c.args.place c.place_of.result c.args.stop) in
    let first = planted_further c.args.lines c.args.place c.args.stop c.args.self.now.trap traps c.args.trap is known.trap in
    let there : IsFirstAt c.args.lines c.nearer_stop-nearer.result (traps ++ c.args.trap ∷ []) c.args.self.now.trap =
    subst (λ (s : ℕ). IsFirstAt c.args.lines s (traps ++ c.args.trap ∷ []) c.args.self.now.trap) same first in
    all_forgotten c.args.lines c.nearer_stop-nearer.result (traps ++ c.args.trap ∷ []) (record { trap = c.args.self.now.trap; beyond = c.clear.new.self; top = None }) there c.clear.ensures.items refl
