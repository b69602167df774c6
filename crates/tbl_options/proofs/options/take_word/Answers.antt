use Rattle.std.proofs.Common.{[], ◌-◌, ap, arith}
use Rattle.tbl_options.specs.declared.options.OptionsRead.{OptionsRead}
use Rattle.tbl_options.proofs.Words.{count-ignored}
use Rattle.tbl_options.proofs.options.take_word.Goals as goal

pub returns-clause-few : goal.returns-clause-few
returns-clause-few c =
    let few = rw c.ignores_before.ensures at c.push_if.ensures.few in
    let span = ap (λ (r : OptionsRead). r.to - r.from) c.with_word.ensures.value in
    omega (arith, few, span, count-ignored c.args.block.now c.args.read c.args.from c.args.to c.requires.held c.requires.order c.requires.block [])
