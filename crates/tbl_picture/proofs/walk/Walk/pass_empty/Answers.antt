use Rattle.std.proofs.Common.{◌≡◌, ◌<◌, ℕ, None, get_or, length, ap, sym, subst, ◌∙◌, arith}
use Rattle.std.proofs.lemmas.List.{get_or_read}
use Rattle.tbl_picture.specs.Walks.{KeptWalk, RowSteps, lent_row, passed}
use Rattle.tbl_picture.proofs.CellSteps.{none-steps}
use Rattle.tbl_picture.proofs.ColumnSteps.{column-there}
use Rattle.tbl_picture.proofs.walk.Walk.pass_empty.Goals as goal
use Rattle.tbl_text.specs.declared.block_parts.BlockPlace.{BlockPlace}
use Rattle.tbl_text.specs.declared.block_parts.BlockPlace.TheVariants.{AtLine}

pub index-place-requires : goal.index-place-requires
index-place-requires c =
    let there = column-there (lent_row c.args.row.now) c.args.self.now c.requires.line c.requires.left in
    let at = ap (λ (k : KeptWalk). length k.behind) c.self.view_is in
    let all = ap (λ (k : KeptWalk). length k.places) c.self.view_is in
    omega (arith, there.few, at, all, c.len.ensures, c.self.inside.behind.ok.0, c.self.inside.places.ok.0)

pub returns : goal.returns
returns c = λ frame pieces.
    let row = lent_row c.args.row.now in
    let a = c.self.inside in
    let w = c.args.self.now in
    let there = column-there row w c.requires.line c.requires.left in
    let r = there.column in
    let empty = c.requires.empty r there.at in
    let at : c.len.result ≡ length a.behind.items = omega (arith, c.len.ensures, a.behind.ok.0) in
    let some : c.len.result < length a.places.items =
    omega (arith, at, there.few, ap (λ (k : KeptWalk). length k.behind) c.self.view_is, ap (λ (k : KeptWalk). length k.places) c.self.view_is) in
    let place : r.place ≡ c.index-place.result.now =
    there.place ∙ ap (λ (k : KeptWalk). get_or k.places (length k.behind) (AtLine 0 None)) (sym c.self.view_is)
    ∙ ap (λ (n : ℕ). get_or a.places.items n (AtLine 0 None)) (sym at)
    ∙ sym (get_or_read a.places.items c.len.result c.index-place.result.now some c.index-place.ensures (AtLine 0 None)) in
    let steps = none-steps row w r there.at c.requires.next frame pieces r.place empty.none empty.moved there.at.within in
    subst (λ (k : KeptWalk). RowSteps frame row w k pieces pieces) (sym c.skip.ensures)
    (subst (λ (p : BlockPlace). RowSteps frame row w (passed row.bars.has_any p w.place w) pieces pieces) place steps)
