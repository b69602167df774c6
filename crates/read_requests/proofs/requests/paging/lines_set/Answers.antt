use Rattle.std.proofs.Common.{◌≡◌, ◌*ℤ◌, ◌∙◌, Ok, ap, pos, rules, to_z, of_z, w32, w64, FitsSigned}
use Rattle.std.proofs.lemmas.Int.{to_z-of_z}
use Rattle.run_model.specs.Registers.{in_heights, place_down}
use Rattle.read_requests.proofs.PageLengths.{lines_of, lines_set-known}
use Rattle.read_requests.proofs.requests.paging.lines_set.Goals as goal

pub returns-in-Ok : goal.returns-in-Ok
returns-in-Ok c = λ k as_given knows.
    let fits : FitsSigned w32 c.place_down.result = search rules in
    let place : to_z w32 (of_z w32 c.place_down.result) ≡ place_down k = to_z-of_z w32 c.place_down.result fits ∙ c.place_down.ensures k knows.place in
    let units : to_z w64 (of_z w64 (to_z w64 (of_z w64 c.from.result) *ℤ to_z w64 (of_z w64 c.from-2.result))) ≡ pos (in_heights k.layout.length) = search rules in
    let height : to_z w32 (of_z w32 c.in-Ok.height) ≡ c.in-Ok.height = to_z-of_z w32 c.in-Ok.height (search rules) in
    let rounded : Ok c.lines_in.result ≡ lines_of c.in-Ok.height = c.lines_in.ensures ∙ ap lines_of height in
    lines_set-known k c.args.text.now _ _ c.in-Ok.height c.lines_in.result place units c.in-Ok.ensures rounded
