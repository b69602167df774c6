use Rattle.std.proofs.Common.{◌∙◌, None, Some, ap, refl, rules, sym, ◌≡◌, ℕ}
use Rattle.page_model.specs.DueTexts.{Ends}
use Rattle.page_model.specs.Happenings.{Does}
use Rattle.page_model.specs.Turning.{with_event}
use Rattle.page_model.specs.declared.layout_event.LayoutEvent.TheVariants.{EndDivert}
use Rattle.run_state.specs.declared.due_text.DueText.TheVariants.{Ends as EndsDue}
use Rattle.run_events.proofs.Diverting.{none_ends, one_ends}
use Rattle.run_events.proofs.Quiet.{sets_text, springs-none}
use Rattle.run_events.proofs.formatter.diverting.end_divert.Goals as goal

pub returns-in-None : goal.returns-in-None
returns-in-None c = (
  c.end_divert.ensures,
  tt,
  record {
    untold = λ L stands. none_ends L.diversions (sym (c.innermost.ensures L stands) ∙ search rules);
    springs = λ L stands. springs-none EndDivert L refl;
  },
)

pub returns-in-Some : goal.returns-in-Some
returns-in-Some c =
    let found : c.innermost.result ≡ Some (c.in-Some.name, c.in-Some.appends) = search rules in
    rw c.diverting.ensures (sets_text EndDivert _ _ (record { text = EndsDue c.diversion_count.result c.in-Some.name c.in-Some.appends; sprung = None }) refl
    c.end_divert-in-Some.ensures tt refl
    (λ L stands. rw (one_ends L.diversions c.in-Some.name c.in-Some.appends (sym (c.innermost.ensures L stands) ∙ found)) refl)
    (λ L es rs stands. ap (λ (n : ℕ). Some (Ends n c.in-Some.name c.in-Some.appends))
    (c.diversion_count.ensures.layout (with_event (Does EndDivert) L) (c.end_divert-in-Some.ensures.stands L stands))
    ∙ sym (one_ends L.diversions c.in-Some.name c.in-Some.appends (sym (c.innermost.ensures L stands) ∙ found))))
