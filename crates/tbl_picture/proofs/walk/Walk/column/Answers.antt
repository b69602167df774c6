use Rattle.std.proofs.Common.{◌≡◌, ◌<◌, length, sym, ap, subst, arith}
use Rattle.tbl_picture.specs.Walks.{AtColumn, InLine, KeptWalk, kept_by, lent_format, lent_row}
use Rattle.tbl_picture.proofs.ColumnSteps.{column-there}
use Rattle.tbl_picture.proofs.ColumnRead.{column-read}
use Rattle.tbl_lines.proofs.GivenFields.{given-within}
use Rattle.tbl_picture.proofs.walk.Walk.column.Goals as goal

pub column_at-requires-clause-place : goal.column_at-requires-clause-place
column_at-requires-clause-place c =
    let row = c.args.row.now in
    let w = c.args.self.now in
    let left = given-within (lent_format row) row.entries.now (length w.behind) c.requires.given in
    let there = column-there (lent_row row) w c.requires.line left in
    let at = ap (λ (k : KeptWalk). length k.behind) c.self.view_is in
    let all = ap (λ (k : KeptWalk). length k.places) c.self.view_is in
    omega (arith, there.few, at, all, c.len.ensures, c.self.inside.behind.ok.0, ap length c.as_slice.ensures.value)

pub returns : goal.returns
returns c =
    let row = lent_row c.args.row.now in
    let w = kept_by c.self.inside in
    let r = c.column_at.result in
    let line : InLine row w = subst (λ (k : KeptWalk). InLine row k) (sym c.self.view_is) c.requires.line in
    let within = given-within (lent_format c.args.row.now) c.args.row.now.entries.now (length c.args.self.now.behind) c.requires.given in
    let left : length w.behind < length row.entries = subst (λ (k : KeptWalk). length k.behind < length row.entries) (sym c.self.view_is) within in
    let same : c.len.result ≡ length w.behind = omega (arith, c.len.ensures, c.self.inside.behind.ok.0) in
    subst (λ (k : KeptWalk). AtColumn row k r) c.self.view_is
    (column-read row w r c.as_slice.result.now c.len.result line left same c.as_slice.ensures.value c.column_at.ensures)
