use Rattle.std.proofs.Common.{ap, sym, ◌∙◌}
use Rattle.tbl_table.specs.declared.begun.Begun.TheVariants.{Front}
use Rattle.tbl_table.proofs.BegunLines.{front-end, front-on}
use Rattle.tbl_table.proofs.begun.front_behind.Goals as goal

pub returns-then-ends_options-clause-value : goal.returns-then-ends_options-clause-value
returns-then-ends_options-clause-value c = λ begun.
    c.keys_behind.ensures.value ∙ front-end c.args.line.now c.args.byte c.args.inside begun (sym c.ends_options.ensures ∙ c.if-ends_options.true)

pub returns-clause-value : goal.returns-clause-value
returns-clause-value c = λ begun.
    ap (λ i. Front i) c.bracketed.ensures
    ∙ front-on c.args.line.now c.args.byte c.args.inside begun (sym c.ends_options.ensures ∙ c.if-ends_options.false)
