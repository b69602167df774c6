use Rattle.std.proofs.Common.{◌≡◌, sym, subst}
use Rattle.roff_store.specs.Texts.{Texts, used}
use Rattle.roff_store.proofs.Keeping.{used-kept}
use Rattle.roff_store.proofs.text_store.TextStore.used.Goals as goal

pub returns-clause-value : goal.returns-clause-value
returns-clause-value c =
    subst (λ (x : Texts). c.self.inside.used ≡ used x) c.self.view_is (sym (used-kept c.self.invariant))
