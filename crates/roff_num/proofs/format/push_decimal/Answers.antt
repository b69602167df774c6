use Rattle.std.proofs.Common.{ℕ, List, ◌++◌, ap, sym, ◌∙◌, arith}
use Rattle.roff_num.proofs.SmallNumbers.{field-small}
use Rattle.roff_num.proofs.format.push_decimal.Goals as goal

pub returns-then-size-lt10-clause-text : goal.returns-then-size-lt10-clause-text
returns-then-size-lt10-clause-text c =
    let old = c.args.text.now.items in
    c.push.ensures.items
    ∙ ap (λ (digits : List ℕ). old ++ digits) (sym (field-small c.args.digits c.args.size (omega (arith, c.if-digits-eq1.true)) (omega (arith, c.if-size-lt10.true))))
