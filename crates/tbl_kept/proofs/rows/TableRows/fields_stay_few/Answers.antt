use Rattle.std.proofs.Common.{◌<◌, ◌^◌, length, ap, subst, arith}
use Rattle.tbl_kept.specs.Rows.{KeptRows, entries_in}
use Rattle.tbl_kept.proofs.RowPlaces.{entries_in-between}
use Rattle.tbl_kept.proofs.rows.TableRows.fields_stay_few.Goals as goal

pub returns : goal.returns
returns c =
    let a = c.self.inside in
    let sound = c.self.invariant in
    let all = entries_in-between a.entries.items 0 a.row_start a.elements.items sound.start sound.rows in
    let same = ap length c.as_slice.ensures.value in
    let few : length a.entries.items < 2 ^ 60 = omega (arith, same, c.as_slice.type_inv.1) in
    subst (λ (k : KeptRows). entries_in k.elements < 2 ^ 60) c.self.view_is (omega (arith, all, few, sound.start))
