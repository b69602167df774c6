use Rattle.std.proofs.Common.{None, refl}
use Rattle.page_model.specs.declared.layout_event.LayoutEvent.TheVariants.{Divert}
use Rattle.run_state.specs.declared.due_text.DueText.TheVariants.{Begins}
use Rattle.run_events.proofs.Quiet.{sets_text}
use Rattle.run_events.proofs.formatter.diverting.divert.Goals as goal

pub returns-in-Ok : goal.returns-in-Ok
returns-in-Ok c = rw c.diverting.ensures (sets_text (Divert c.args.name c.args.appends) _ _ (record { text = Begins; sprung = None }) refl
    c.in-Ok.ensures.ok c.in-Ok.ensures.within refl (λ L stands. refl) (λ L es rs stands. refl))
