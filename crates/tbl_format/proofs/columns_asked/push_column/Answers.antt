use Rattle.std.proofs.Common.{◌≡◌, ◌∷◌, [], length, sym, ap, ◌∙◌, arith, length-append}
use Rattle.tbl_format.specs.Format.{nothing_asked}
use Rattle.tbl_format.proofs.FormatBlocks.{with_columns-kept, with_columns-longer}
use Rattle.tbl_format.proofs.columns_asked.push_column.Goals as goal

pub push_reserved-requires : goal.push_reserved-requires
push_reserved-requires c =
    let asked = c.args.asked.now in
    let same : c.args.count ≡ length asked.items = omega (arith, c.if-count-len.true, c.len.ensures, asked.ok.0) in
    let longer = ap length (with_columns-longer asked.items c.args.count same) in
    omega (arith, c.requires.room, longer, length-append asked.items (nothing_asked ∷ []), asked.ok.0)

pub returns-then-count-len-clause-items : goal.returns-then-count-len-clause-items
returns-then-count-len-clause-items c =
    let asked = c.args.asked.now in
    let same : c.args.count ≡ length asked.items = omega (arith, c.if-count-len.true, c.len.ensures, asked.ok.0) in
    c.push_reserved.ensures.items ∙ sym (with_columns-longer asked.items c.args.count same)

pub returns-else-count-len-clause-items : goal.returns-else-count-len-clause-items
returns-else-count-len-clause-items c =
    let asked = c.args.asked.now in
    sym (with_columns-kept asked.items c.args.count c.requires.few (λ same. c.if-count-len.false (omega (arith, same, c.len.ensures, asked.ok.0))))
