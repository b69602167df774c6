use Rattle.std.proofs.Common.{◌≡◌, ◌<◌, ◌-◌, suc, Bool, true, length, sym, ap, ◌∙◌, arith, if◌then◌else◌}
use Rattle.tbl_tall.proofs.StopsSet.{start-is, used-is}
use Rattle.tbl_tall.proofs.stops.first_from.Goals as goal
use Rattle.tbl_tall.specs.StopsKept.{is_used_at, start_in}

pub returns-then-not-cells-at : goal.returns-then-not-cells-at
returns-then-not-cells-at c =
    let cells = c.args.cells.now in
    let at = c.args.at in
    ap (λ (t : Bool). if t then start_in cells at else c.args.next) (sym (used-is cells at _ _ c.requires c.if-not-cells-at.true))

pub returns : goal.returns
returns c =
    let cells = c.args.cells.now in
    let at = c.args.at in
    let last = at - 1 in
    let next : at ≡ suc last = omega (arith, c.if-at-eq0.false) in
    let some : last < length cells = omega (arith, c.requires) in
    let used : is_used_at cells at ≡ true = used-is cells at _ _ c.requires c.if-not-cells-at.false in
    sym (ap (λ (t : Bool). if t then start_in cells at else c.args.next) used ∙ ap (start_in cells) next ∙ start-is 0 cells last _ some)
