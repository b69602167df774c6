-- How many traps are planted on pages behind what happens.
use Rattle.std.proofs.Common.{◌≡◌, ◌≤◌, ℕ, Bool, true, false, List, [], ◌∷◌, length, Option, Some, None, refl, sym, subst, arith, nat_le, option_map, if◌then◌else◌}
use Rattle.page_model.specs.Lines.{Finished}
use Rattle.page_model.specs.Happenings.{Happening, Places}
use Rattle.page_model.specs.Layout.{Box, Layout, page_place}
use Rattle.page_model.specs.Puts.{Put, appended}
use Rattle.page_model.specs.Turning.{behind_put, next_behind, page_begun, unput, with_boxes, with_first, without_first}
use Rattle.page_model.specs.declared.trap.Trap.{Trap}
use Rattle.run_model.specs.Layouts.{laid_out}
use Rattle.law_runs.proofs.PutHolds.{put-holds}
use Rattle.page_model.specs.Stops.{is_diverted}

-- a page that ends leaves them as they are
pub traps-turned : (full closing : Bool) (N : Layout)
    → (if full then (if closing then record N { is_over = true } else page_begun N) else N).traps ≡ N.traps
traps-turned true true N = refl
traps-turned true false N = refl
traps-turned false closing N = refl

-- so does what is put
pub traps-put : (most : ℕ) (x : Happening) (p : Option Put) (boxes : List Box) (L : Layout) → length L.traps ≤ most
    → length (unput x L).traps ≤ most
    → length (behind_put x p boxes L).traps ≤ most
traps-put most x None boxes L put unput = unput
traps-put most x (Some p) boxes L put unput =
    let N : Layout = with_boxes x boxes (record L { next = next_behind x L.next }) in
    put-holds (λ (M : Layout). length M.traps ≤ most) (is_diverted x L) N put
    (subst (λ (traps : List Trap). length traps ≤ most) (sym (traps-turned (nat_le N.length (page_place N)) N.is_closing N)) put)

-- and a line that is placed
pub traps-placed : (x : Option Finished) (L : Layout) → (laid_out (option_map Places x) L).traps ≡ L.traps
traps-placed None L = refl
traps-placed (Some line) L =
    let x : Happening = Places line in
    let N : Layout = with_boxes x (appended x L) (record L { next = next_behind x L.next }) in
    put-holds (λ (M : Layout). M.traps ≡ L.traps) (is_diverted x L) N refl (traps-turned (nat_le N.length (page_place N)) N.is_closing N)

-- as many where one changes, and one fewer where one goes
changed-if : (c : Bool) (t u : Trap) (traps others : List Trap) → length others ≡ length traps
    → length (if c then t ∷ traps else u ∷ others) ≡ length (u ∷ traps)
changed-if true t u traps others same = omega arith
changed-if false t u traps others same = omega (arith, same)

pub length-with_first : (is_it : Trap → Bool) (change : Trap → Trap) (traps : List Trap)
    → length (with_first is_it change traps) ≡ length traps
length-with_first is_it change [] = refl
length-with_first is_it change (t ∷ traps) =
    changed-if (is_it t) (change t) t traps (with_first is_it change traps) (length-with_first is_it change traps)

removed-if : (c : Bool) (t : Trap) (traps others : List Trap) → length others ≤ length traps
    → length (if c then traps else t ∷ others) ≤ length (t ∷ traps)
removed-if true t traps others few = omega arith
removed-if false t traps others few = omega (arith, few)

pub length-without_first : (is_it : Trap → Bool) (traps : List Trap) → length (without_first is_it traps) ≤ length traps
length-without_first is_it [] = omega arith
length-without_first is_it (t ∷ traps) = removed-if (is_it t) t traps (without_first is_it traps) (length-without_first is_it traps)
