use Rattle.std.proofs.Common.{◌≡◌, ℕ, ◌-◌, ◌==◌, Bool, length, ap, sym, ◌∙◌, arith, eq-eqb, ne_eqb, if◌then◌else◌}
use Rattle.tbl_tall.proofs.KeysOf.{key-made, key-read}
use Rattle.tbl_tall.proofs.next_cells.key_of.Goals as goal
use Rattle.tbl_tall.proofs.next_cells.key_of.Goals.{else-cell-keys, then-cell-keys}

pub returns-in-Some : goal.returns-in-Some
returns-in-Some c = λ columns few.
    let read = c.in-Some.ensures.lookup in
    key-read c.args.keys.now c.args.last_bars columns c.args.cell c.in-Some.key.now read.3.0 read.1

pub returns-after-cell-keys : goal.returns-after-cell-keys
returns-after-cell-keys c = λ columns few.
    let keys = c.args.keys.now in
    let past = c.in-None.ensures.lookup.3 in
    let by : Bool → ℕ = λ b. if b then c.args.last_bars else 0 in
    let first : by ((c.args.cell - length keys) == 0) ≡ c.if-cell-keys.result = elim c.if-cell-keys.branch [
      | then-cell-keys w ↦ ap by (eq-eqb (c.args.cell - length keys) 0 (omega (arith, past, w.if-cell-keys.true))) ∙ sym w.result-is
      | else-cell-keys w ↦ ap by (ne_eqb (c.args.cell - length keys) 0 (λ same. w.if-cell-keys.false (omega (arith, past, same)))) ∙ sym w.result-is
    ] in
    key-made keys c.args.last_bars columns c.args.cell c.if-cell-keys.result c.end_of.result past few first c.end_of.ensures.value
