use Rattle.std.proofs.Common.{sym, ap, subst}
use Rattle.page_model.specs.declared.settings.Param.{Param}
use Rattle.page_model.specs.Settings.{temporary_with}
use Rattle.roff_lines.specs.Env.Kept.{Kept, kept_by}
use Rattle.roff_lines.specs.Env.Stands.{Stands}
use Rattle.roff_lines.proofs.SameText.{Stands-set_as, temporary_with-other}
use Rattle.roff_lines.proofs.env.Env.set.Goals as goal

pub returns-in-TemporaryIndent : goal.returns-in-TemporaryIndent
returns-in-TemporaryIndent c line_cap h s =
    let k : Kept = kept_by c.self.inside in
    Stands-set_as c.args.param k c.with-self-inside.result _ c.change.new.self c.with-self-inside.ensures
    (ap (λ (p : Param). temporary_with p k.temporary_indent) (sym c.in-TemporaryIndent.is)) c.change.ensures
    line_cap h (subst (Stands line_cap h) (sym c.self.view_is) s)

pub returns-in_default : goal.returns-in_default
returns-in_default c line_cap h s =
    let k : Kept = kept_by c.self.inside in
    Stands-set_as c.args.param k c.with-self-inside.result k.temporary_indent c.change.new.self c.with-self-inside.ensures
    (temporary_with-other c.args.param k.temporary_indent c.in_default.not-TemporaryIndent) c.change.ensures
    line_cap h (subst (Stands line_cap h) (sym c.self.view_is) s)
