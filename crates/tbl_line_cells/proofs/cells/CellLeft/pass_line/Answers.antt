use Rattle.std.proofs.Common.{◌≡◌, ◌∙◌, sym, subst, ap, arith, drop, List, ℕ}
use Rattle.tbl_layout.specs.KeptEntries.{measure_by, no_entry}
use Rattle.tbl_lines.specs.CellsLeft.{behind_line}
use Rattle.tbl_line_cells.proofs.CellsKept.{behind-block, behind-lead, behind-other}
use Rattle.tbl_line_cells.proofs.cells.CellLeft.pass_line.Goals as goal
use Rattle.tbl_line_cells.specs.KeptCells.{IsLeft}
use Rattle.tbl_text.specs.BlockLines.{lines_of}
use Rattle.tbl_text.specs.BlockPlaces.{IsWithin, parts_at}
use Rattle.tbl_text.specs.declared.block_parts.BlockPlace.TheVariants.{AtEnd}

pub returns-then-self-gt0-clause-left : goal.returns-then-self-gt0-clause-left
returns-then-self-gt0-clause-left c = λ l is.
    behind-lead c.args.bytes.now c.args.self.now l is c.if-self-gt0.true

pub returns-in-Block-clause-left : goal.returns-in-Block-clause-left
returns-in-Block-clause-left c = λ l is.
    let place = c.args.self.now.place in
    let next = c.behind_block_line-self.result in
    let b = c.in-Block.field-0 in
    let measure : c.from-measure.result ≡ b.measure
    = c.from-measure.ensures ∙ c.measure.ensures ∙ ap measure_by c.in-Block.is in
    let in_text = c.block_bytes-block.ensures.value in
    let within = subst (λ (t : List ℕ). IsWithin t next) in_text c.behind_block_line-self.ensures.within in
    let lines = subst (λ (m : ℕ). lines_of m (parts_at c.block_bytes-block.result.now next) ≡ drop 1 (lines_of m
    (parts_at c.block_bytes-block.result.now place)))
    measure c.behind_block_line-self.ensures.lines in
    let text_lines = subst (λ (t : List ℕ). lines_of b.measure (parts_at t next) ≡ drop 1 (lines_of b.measure (parts_at t place))) in_text lines in
    let here : c.args.self.now.lead ≡ 0 = omega (arith, c.if-self-gt0.false) in
    subst (λ (n : ℕ). IsLeft c.args.bytes.now (record c.args.self.now { lead = n; place = next }) (behind_line l)) (sym here)
    (behind-block c.args.bytes.now c.args.self.now l next is here b c.in-Block.is within c.behind_block_line-self.ensures.all text_lines)

pub returns-in_default-clause-left : goal.returns-in_default-clause-left
returns-in_default-clause-left c = λ l is.
    let here : c.args.self.now.lead ≡ 0 = omega (arith, c.if-self-gt0.false) in
    subst (λ (n : ℕ). IsLeft c.args.bytes.now (record c.args.self.now { entry = no_entry; lead = n; place = AtEnd }) (behind_line l)) (sym here)
    (behind-other c.args.bytes.now c.args.self.now l is here c.in_default.not-Block)
