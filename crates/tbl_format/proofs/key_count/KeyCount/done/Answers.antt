use Rattle.std.proofs.Common.{refl, sym, subst}
use Rattle.tbl_format.specs.Format.{asked_by, done, said_by}
use Rattle.tbl_format.specs.KeyCounts.{Counts}
use Rattle.tbl_format.specs.declared.format_step.Does.{Does}
use Rattle.tbl_format.specs.declared.format_step.Does.TheVariants.{DropWidth, Equalize, Separate, Stand, Widen}
use Rattle.tbl_format.proofs.KeyCounting.{counts_asked, counts_said}
use Rattle.tbl_format.proofs.key_count.KeyCount.done.Goals as goal

pub returns-in-Separate-clause-value : goal.returns-in-Separate-clause-value
returns-in-Separate-clause-value c = λ f counts.
    subst (λ (does : Does). Counts (done does f) c.args.self) (sym c.in-Separate.is) (counts_asked (asked_by (Separate c.in-Separate.field-0)) f c.args.self counts)

pub returns-in-Widen-clause-value : goal.returns-in-Widen-clause-value
returns-in-Widen-clause-value c = λ f counts.
    subst (λ (does : Does). Counts (done does f) c.args.self) (sym c.in-Widen.is) (counts_asked (asked_by (Widen c.in-Widen.field-0)) f c.args.self counts)

pub returns-in-Equalize-clause-value : goal.returns-in-Equalize-clause-value
returns-in-Equalize-clause-value c = λ f counts.
    subst (λ (does : Does). Counts (done does f) c.args.self) (sym c.in-Equalize.is) (counts_asked (asked_by Equalize) f c.args.self counts)

pub returns-in-DropWidth-clause-value : goal.returns-in-DropWidth-clause-value
returns-in-DropWidth-clause-value c = λ f counts.
    subst (λ (does : Does). Counts (done does f) c.args.self) (sym c.in-DropWidth.is) (counts_said (said_by DropWidth) (λ k. refl) f c.args.self counts)

pub returns-in-Stand-clause-value : goal.returns-in-Stand-clause-value
returns-in-Stand-clause-value c = λ f counts.
    subst (λ (does : Does). Counts (done does f) c.args.self) (sym c.in-Stand.is) (counts_said (said_by (Stand c.in-Stand.field-0)) (λ k. refl) f c.args.self counts)
