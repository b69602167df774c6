use Rattle.std.proofs.Common.{sym, ap, ◌∙◌, arith, Some, None, Bool, if◌then◌else◌}
use Rattle.tbl_layout.specs.declared.entry.EntryKind.{EntryKind}
use Rattle.tbl_lines.specs.RowsLeft.{joined_kinds}
use Rattle.tbl_line_cells.proofs.CellsKept.{joined-before, joined-behind, joined-kept, no-ruled}
use Rattle.tbl_line_cells.proofs.cells.CellLeft.joined.Goals as goal

pub returns-then-self-gt0 : goal.returns-then-self-gt0
returns-then-self-gt0 c = λ bytes l m is next. sym (joined-behind bytes c.args.self c.args.next l m is next c.if-self-gt0.true)

pub returns-then-next-gt0 : goal.returns-then-next-gt0
returns-then-next-gt0 c = λ bytes l m is next. sym (joined-before bytes c.args.self c.args.next l m is next c.if-next-gt0.true)

pub returns-then-is_ruled : goal.returns-then-is_ruled
returns-then-is_ruled c = λ bytes l m is next.
    sym (joined-kept bytes c.args.self c.args.next l m is next (omega (arith, c.if-self-gt0.false)) (omega (arith, c.if-next-gt0.false))
    ∙ ap (λ (k : EntryKind). joined_kinds k c.args.next.entry.kind) c.in-Ruled.is
    ∙ ap (λ (b : Bool). if b then Some c.in-Ruled.sign else None) (sym c.is_ruled.ensures ∙ c.if-is_ruled.true))

pub returns-else-is_ruled : goal.returns-else-is_ruled
returns-else-is_ruled c = λ bytes l m is next.
    sym (joined-kept bytes c.args.self c.args.next l m is next (omega (arith, c.if-self-gt0.false)) (omega (arith, c.if-next-gt0.false))
    ∙ ap (λ (k : EntryKind). joined_kinds k c.args.next.entry.kind) c.in-Ruled.is
    ∙ ap (λ (b : Bool). if b then Some c.in-Ruled.sign else None) (sym c.is_ruled.ensures ∙ c.if-is_ruled.false))

pub returns-in_default : goal.returns-in_default
returns-in_default c = λ bytes l m is next.
    sym (joined-kept bytes c.args.self c.args.next l m is next (omega (arith, c.if-self-gt0.false)) (omega (arith, c.if-next-gt0.false))
    ∙ no-ruled c.args.self.entry.kind c.args.next.entry.kind c.in_default.not-Ruled)
