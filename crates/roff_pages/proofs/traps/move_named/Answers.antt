use Rattle.std.proofs.Common.{◌≡◌, ℕ, ℤ, List, length, set, ap, ◌∙◌, arith, w32, to_z, of_z}
use Rattle.std.proofs.lemmas.Int.{ints}
use Rattle.page_model.specs.declared.trap.Trap.{Trap}
use Rattle.page_model.specs.Turning.{is_named, moved_to}
use Rattle.roff_pages.specs.Pages.FirstTraps.{first_index}
use Rattle.roff_pages.proofs.FirstTraps.{changed_there, nothing_changed}
use Rattle.roff_pages.proofs.traps.move_named.Goals as goal

pub returns-then-index-len-clause-traps : goal.returns-then-index-len-clause-traps
returns-then-index-len-clause-traps c =
    let items : List Trap = c.args.traps.now.items in
    let index : ℕ = c.index_of-index.result in
    let is : index ≡ first_index (is_named c.args.name) items = c.index_of-index.ensures.index ∙ ap (first_index (is_named c.args.name)) c.as_slice.ensures.value in
    let sized : length c.as_slice.result.now ≡ length items = ap length c.as_slice.ensures.value in
    nothing_changed (is_named c.args.name) (moved_to c.args.place) items index is (omega (arith, c.as_slice.ensures.len))

pub returns-clause-traps : goal.returns-clause-traps
returns-clause-traps c =
    let items : List Trap = c.args.traps.now.items in
    let index : ℕ = c.index_of-index.result in
    let is : index ≡ first_index (is_named c.args.name) items = c.index_of-index.ensures.index ∙ ap (first_index (is_named c.args.name)) c.as_slice.ensures.value in
    let sized : length c.as_slice.result.now ≡ length items = ap length c.as_slice.ensures.value in
    let place : to_z w32 (of_z w32 c.args.place) ≡ c.args.place = omega (arith, ints) in
    let found : Trap = c.index-found.result.now in
    ap (λ (z : ℤ). set items index (record found { place = z })) place
    ∙ changed_there (is_named c.args.name) (moved_to c.args.place) items index found is (omega (arith, c.as_slice.ensures.len)) c.index-found.ensures
