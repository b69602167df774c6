use Rattle.std.proofs.Common.{ap}
use Rattle.roff_num.specs.declared.num.Num.{Num}
use Rattle.roff_num.specs.declared.num.Scale.TheVariants.{Units}
use Rattle.run_model.specs.Numbers.{value_beside}
use Rattle.read_obeying.proofs.numbering.value_beside.Goals as goal

pub returns-in-Some-eq43-default : goal.returns-in-Some-eq43-default
returns-in-Some-eq43-default c = λ l h stands.
    ap (λ (v : Num). value_beside v.0 Units c.args.text.now) (c.value_now.ensures l h stands)

pub returns-in-Some-eq45-default : goal.returns-in-Some-eq45-default
returns-in-Some-eq45-default c = λ l h stands.
    ap (λ (v : Num). value_beside v.0 Units c.args.text.now) (c.value_now-in-Some-eq45-default.ensures l h stands)
