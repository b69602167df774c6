use Rattle.std.proofs.Common.{◌≡◌, ℕ, List, length, ap, ◌∙◌, arith}
use Rattle.page_model.specs.declared.trap.Trap.{Trap}
use Rattle.roff_pages.specs.Pages.FirstTraps.{first_index, is_sought}
use Rattle.roff_pages.proofs.FirstTraps.{removed_there, nothing_removed}
use Rattle.roff_pages.proofs.traps.remove_first.Goals as goal

pub returns-then-index-len-clause-traps : goal.returns-then-index-len-clause-traps
returns-then-index-len-clause-traps c =
    let items : List Trap = c.args.traps.now.items in
    let index : ℕ = c.index_of-index.result in
    let is : index ≡ first_index (is_sought c.args.sought) items = c.index_of-index.ensures.index ∙ ap (first_index (is_sought c.args.sought)) c.as_slice.ensures.value in
    let sized : length c.as_slice.result.now ≡ length items = ap length c.as_slice.ensures.value in
    nothing_removed (is_sought c.args.sought) items index is (omega (arith, c.as_slice.ensures.len))

pub returns-clause-traps : goal.returns-clause-traps
returns-clause-traps c =
    let items : List Trap = c.args.traps.now.items in
    let index : ℕ = c.index_of-index.result in
    let is : index ≡ first_index (is_sought c.args.sought) items = c.index_of-index.ensures.index ∙ ap (first_index (is_sought c.args.sought)) c.as_slice.ensures.value in
    let sized : length c.as_slice.result.now ≡ length items = ap length c.as_slice.ensures.value in
    c.remove.ensures.items ∙ removed_there (is_sought c.args.sought) items index is (omega (arith, c.as_slice.ensures.len))
