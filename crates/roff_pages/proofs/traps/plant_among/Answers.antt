use Rattle.std.proofs.Common.{◌≡◌, ℕ, ℤ, List, [], ◌∷◌, ◌++◌, length, set, ap, ◌∙◌, arith, rules, w32, to_z, of_z, length-append, length-set}
use Rattle.std.proofs.lemmas.Int.{ints}
use Rattle.page_model.specs.declared.trap.Trap.{Trap}
use Rattle.page_model.specs.Turning.{is_given, with_trap}
use Rattle.roff_pages.specs.Pages.FirstTraps.{first_index}
use Rattle.roff_pages.proofs.FirstTraps.{found_there, not_found, planted_there, planted_last}
use Rattle.roff_pages.proofs.traps.plant_among.Goals as goal

pub returns-then-index-len-clause-traps : goal.returns-then-index-len-clause-traps
returns-then-index-len-clause-traps c =
    let items : List Trap = c.args.traps.now.items in
    let index : ℕ = c.index_of-index.result in
    let place : to_z w32 (of_z w32 c.args.trap.place) ≡ c.args.trap.place = omega (arith, ints) in
    let is : index ≡ first_index (is_given c.args.trap.place) items =
    c.index_of-index.ensures.index ∙ (ap (λ (z : ℤ). first_index (is_given z) c.as_slice.result.now) place ∙ ap (first_index (is_given c.args.trap.place)) c.as_slice.ensures.value) in
    let sized : length c.as_slice.result.now ≡ length items = ap length c.as_slice.ensures.value in
    planted_there c.args.trap items index is (omega (arith, c.as_slice.ensures.len))

pub returns-then-index-len-clause-within : goal.returns-then-index-len-clause-within
returns-then-index-len-clause-within c =
    let items : List Trap = c.args.traps.now.items in
    let index : ℕ = c.index_of-index.result in
    let place : to_z w32 (of_z w32 c.args.trap.place) ≡ c.args.trap.place = omega (arith, ints) in
    let is : index ≡ first_index (is_given c.args.trap.place) items =
    c.index_of-index.ensures.index ∙ (ap (λ (z : ℤ). first_index (is_given z) c.as_slice.result.now) place ∙ ap (first_index (is_given c.args.trap.place)) c.as_slice.ensures.value) in
    let sized : length c.as_slice.result.now ≡ length items = ap length c.as_slice.ensures.value in
    let whole : length (set items index c.args.trap) ≡ length (with_trap c.args.trap items) =
    ap length (planted_there c.args.trap items index is (omega (arith, c.as_slice.ensures.len))) in
    omega (arith, whole, length-set items index c.args.trap, c.requires.few)

pub returns-then-len-most-clause-full : goal.returns-then-len-most-clause-full
returns-then-len-most-clause-full c =
    let items : List Trap = c.args.traps.now.items in
    let index : ℕ = c.index_of-index.result in
    let place : to_z w32 (of_z w32 c.args.trap.place) ≡ c.args.trap.place = omega (arith, ints) in
    let is : index ≡ first_index (is_given c.args.trap.place) items =
    c.index_of-index.ensures.index ∙ (ap (λ (z : ℤ). first_index (is_given z) c.as_slice.result.now) place ∙ ap (first_index (is_given c.args.trap.place)) c.as_slice.ensures.value) in
    let sized : length c.as_slice.result.now ≡ length items = ap length c.as_slice.ensures.value in
    let whole : length (items ++ c.args.trap ∷ []) ≡ length (with_trap c.args.trap items) =
    ap length (planted_last c.args.trap items index is (omega (arith, c.as_slice.ensures.len))) in
    omega (arith, whole, length-append {A = Trap} items (c.args.trap ∷ []), c.as_slice.ensures.len)

pub returns-clause-traps : goal.returns-clause-traps
returns-clause-traps c =
    let items : List Trap = c.args.traps.now.items in
    let index : ℕ = c.index_of-index.result in
    let place : to_z w32 (of_z w32 c.args.trap.place) ≡ c.args.trap.place = omega (arith, ints) in
    let is : index ≡ first_index (is_given c.args.trap.place) items =
    c.index_of-index.ensures.index ∙ (ap (λ (z : ℤ). first_index (is_given z) c.as_slice.result.now) place ∙ ap (first_index (is_given c.args.trap.place)) c.as_slice.ensures.value) in
    let sized : length c.as_slice.result.now ≡ length items = ap length c.as_slice.ensures.value in
    let pushed : c.push.new.self.items ≡ items ++ c.args.trap ∷ [] = search rules in
    pushed ∙ planted_last c.args.trap items index is (omega (arith, c.as_slice.ensures.len))

pub returns-clause-within : goal.returns-clause-within
returns-clause-within c =
    let items : List Trap = c.args.traps.now.items in
    let index : ℕ = c.index_of-index.result in
    let place : to_z w32 (of_z w32 c.args.trap.place) ≡ c.args.trap.place = omega (arith, ints) in
    let is : index ≡ first_index (is_given c.args.trap.place) items =
    c.index_of-index.ensures.index ∙ (ap (λ (z : ℤ). first_index (is_given z) c.as_slice.result.now) place ∙ ap (first_index (is_given c.args.trap.place)) c.as_slice.ensures.value) in
    let sized : length c.as_slice.result.now ≡ length items = ap length c.as_slice.ensures.value in
    let whole : length (items ++ c.args.trap ∷ []) ≡ length (with_trap c.args.trap items) =
    ap length (planted_last c.args.trap items index is (omega (arith, c.as_slice.ensures.len))) in
    omega (arith, whole, length-append {A = Trap} items (c.args.trap ∷ []), c.as_slice.ensures.len)

pub returns-then-index-len-clause-given : goal.returns-then-index-len-clause-given
returns-then-index-len-clause-given c =
    let items : List Trap = c.args.traps.now.items in
    let index : ℕ = c.index_of-index.result in
    let place : to_z w32 (of_z w32 c.args.trap.place) ≡ c.args.trap.place = omega (arith, ints) in
    let is : index ≡ first_index (is_given c.args.trap.place) items =
    c.index_of-index.ensures.index ∙ (ap (λ (z : ℤ). first_index (is_given z) c.as_slice.result.now) place ∙ ap (first_index (is_given c.args.trap.place)) c.as_slice.ensures.value) in
    let sized : length c.as_slice.result.now ≡ length items = ap length c.as_slice.ensures.value in
    found_there (is_given c.args.trap.place) items index is (omega (arith, c.as_slice.ensures.len))

pub returns-clause-given : goal.returns-clause-given
returns-clause-given c =
    let items : List Trap = c.args.traps.now.items in
    let index : ℕ = c.index_of-index.result in
    let place : to_z w32 (of_z w32 c.args.trap.place) ≡ c.args.trap.place = omega (arith, ints) in
    let is : index ≡ first_index (is_given c.args.trap.place) items =
    c.index_of-index.ensures.index ∙ (ap (λ (z : ℤ). first_index (is_given z) c.as_slice.result.now) place ∙ ap (first_index (is_given c.args.trap.place)) c.as_slice.ensures.value) in
    let sized : length c.as_slice.result.now ≡ length items = ap length c.as_slice.ensures.value in
    not_found (is_given c.args.trap.place) items index is (omega (arith, c.as_slice.ensures.len))
