use Rattle.std.proofs.Common.{Some, sym, ap, ◌∙◌, option_map}
use Rattle.roff_store.specs.Texts.{kind_given}
use Rattle.roff_store.proofs.Naming.{kind_in, kind-of-entry}
use Rattle.roff_store.proofs.text_store.TextStore.get.Goals as goal

pub returns-in_err-strand : goal.returns-in_err-strand
returns-in_err-strand c =
    ap (option_map kind_given) c.from_residual.ensures
    ∙ (sym (ap (option_map kind_in) c.in_err-strand.was) ∙ kind-of-entry c.self.invariant c.self.view_is c.args.name.now c.get.ensures)

pub returns-in-Body : goal.returns-in-Body
returns-in-Body c =
    sym (ap (option_map kind_in) (c.in_ok-strand.was ∙ ap Some c.in-Body.is))
    ∙ kind-of-entry c.self.invariant c.self.view_is c.args.name.now c.get.ensures

pub returns-in-Request : goal.returns-in-Request
returns-in-Request c =
    sym (ap (option_map kind_in) (c.in_ok-strand.was ∙ ap Some c.in-Request.is))
    ∙ kind-of-entry c.self.invariant c.self.view_is c.args.name.now c.get.ensures
