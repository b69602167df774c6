use Rattle.std.proofs.Common.{◌≡◌, length, sym, ap, subst, ◌∙◌, arith}
use Rattle.tbl_picture.specs.Walks.{InLine, IsUnderWay, KeptWalk, WalkedRow, lent_row}
use Rattle.tbl_picture.specs.Nexts.{AtCell, Next, next_by}
use Rattle.tbl_picture.specs.declared.walk.Next.{Next as KeptNext}
use Rattle.tbl_lines.proofs.RowColumns.{length-places}
use Rattle.tbl_picture.proofs.walk.Walk.step_in_row.Goals as goal

-- a walk at a column
in-line : (row : WalkedRow) (w : KeptWalk) → w.next ≡ AtCell → IsUnderWay w.next row w → InLine row w
in-line row w is can = subst (λ (n : Next). IsUnderWay n row w) is can

pub end_line-requires-clause-all : goal.end_line-requires-clause-all
end_line-requires-clause-all c =
    let row = lent_row c.args.row.now in
    let w = c.args.self.now in
    let line = in-line row w (sym (ap (λ (k : KeptWalk). k.next) c.self.view_is) ∙ ap (λ (n : KeptNext). next_by n c.self.inside.rule) c.in-AtCell.is) c.requires.can in
    omega (
      arith,
      c.if-len.true,
      c.len.ensures,
      c.len-in-AtCell.ensures,
      c.self.inside.behind.ok.0,
      c.self.inside.places.ok.0,
      ap (λ (k : KeptWalk). length k.behind) c.self.view_is,
      ap (λ (k : KeptWalk). length k.places) c.self.view_is,
      length-places row.bytes row.entries w.places line.on.before.places,
    )

pub give_cell-requires-clause-left : goal.give_cell-requires-clause-left
give_cell-requires-clause-left c =
    let row = lent_row c.args.row.now in
    let w = c.args.self.now in
    let line = in-line row w (sym (ap (λ (k : KeptWalk). k.next) c.self.view_is) ∙ ap (λ (n : KeptNext). next_by n c.self.inside.rule) c.in-AtCell.is) c.requires.can in
    omega (
      arith,
      c.if-len.false,
      c.len.ensures,
      c.len-in-AtCell.ensures,
      c.self.inside.behind.ok.0,
      c.self.inside.places.ok.0,
      ap (λ (k : KeptWalk). length k.behind) c.self.view_is,
      ap (λ (k : KeptWalk). length k.places) c.self.view_is,
      length-places row.bytes row.entries w.places line.on.before.places,
      line.on.column,
    )
