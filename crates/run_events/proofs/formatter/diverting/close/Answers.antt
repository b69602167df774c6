use Rattle.std.proofs.Common.{◌∙◌, None, refl, rules, sym}
use Rattle.page_model.specs.declared.layout_event.LayoutEvent.TheVariants.{Close}
use Rattle.run_state.specs.declared.due_text.DueText.TheVariants.{Drops}
use Rattle.run_events.proofs.Diverting.{all_dropped, none_dropped}
use Rattle.run_events.proofs.Quiet.{sets_text, springs-none}
use Rattle.run_events.proofs.formatter.diverting.close.Goals as goal

pub returns-then-not-diverts : goal.returns-then-not-diverts
returns-then-not-diverts c = (
  c.close.ensures,
  tt,
  record {
    untold = λ L stands. none_dropped L.diversions (sym (c.is_diverting-diverts.ensures.layout L stands) ∙ search rules);
    springs = λ L stands. springs-none Close L refl;
  },
)

pub returns : goal.returns
returns c =
    rw c.diverting.ensures (sets_text Close _ _ (record { text = Drops; sprung = None }) refl c.close.ensures tt refl
    (λ L stands. rw (all_dropped L.diversions (sym (c.is_diverting-diverts.ensures.layout L stands) ∙ search rules)) refl)
    (λ L es rs stands. sym (all_dropped L.diversions (sym (c.is_diverting-diverts.ensures.layout L stands) ∙ search rules))))
