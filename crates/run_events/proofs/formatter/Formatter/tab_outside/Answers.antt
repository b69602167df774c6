use Rattle.std.proofs.Common.{◌∙◌, ◌≡◌, ap, refl, rules, sym, option_map}
use Rattle.roff_num.specs.declared.limit.Limit.TheVariants.{Line}
use Rattle.page_model.specs.Behind.{length_reached}
use Rattle.page_model.specs.Happenings.{Places}
use Rattle.page_model.specs.declared.event.Event.TheVariants.{Tab}
use Rattle.run_model.specs.Output.{text_of}
use Rattle.run_model.specs.declared.event.PageEvent.TheVariants.{Text}
use Rattle.run_events.specs.declared.formatter.Formatter.{Formatter}
use Rattle.run_events.proofs.DoneEvents.{lines_behind, not_above, text_changes_here, text_stopped_here}
use Rattle.run_events.proofs.DoneFirst.{only_first, only_page, ready_then}
use Rattle.run_events.proofs.formatter.Formatter.tab_outside.Goals as goal

pub tab_outside-requires : goal.tab_outside-requires
tab_outside-requires c =
    ap (λ (f : Formatter). f.composer.environments.in_force.lines.field) (c.in-None.ensures (Text Tab) (λ h. refl)).others ∙ c.requires

pub returns-in-Some : goal.returns-in-Some
returns-in-Some c = λ told. only_page (Text Tab) _ _ _ told c.in-Some.name _ refl (λ g. refl) (c.in-Some.ensures (Text Tab) (λ h. refl)) c.stopped_by.ensures.due c.stopped_by.ensures.is

pub returns-in-Ok : goal.returns-in-Ok
returns-in-Ok c = λ told. only_first (Text Tab) (Text Tab) _ _ _ _ _ (λ rs. refl) (λ g. refl) (λ sprung is. refl) (λ g. refl)
    (ready_then _ _ _ c.begin_first.new.self _ _ _ _ (c.in-None.ensures (Text Tab) (λ h. refl))
    (text_changes_here Tab _ _ told
    (λ l h stood. not_above l.line (length_reached Tab (text_of h))
    (λ above. let wrong = (c.in-Ok.ensures.limit l.line (text_of h) stood.environments.in_force.lines).1 above in cc))
    (lines_behind Tab c.begin_first.new.self.composer _ (λ trap. refl) c.in-Ok.ensures.stands) (search rules)
    (λ l h stood. ap (option_map Places) (sym (c.in-Ok.ensures.line l.line (text_of h) stood.environments.in_force.lines))) (λ h. refl)))

pub returns-in-Err : goal.returns-in-Err
returns-in-Err c = λ told.
    let is_line : c.in-Err.limit ≡ Line = search rules in
    rw is_line (only_first (Text Tab) (Text Tab) _ _ _ _ _ (λ rs. refl) (λ g. refl) (λ sprung is. refl) (λ g. refl)
    (ready_then _ _ _ c.begin_first.new.self _ _ _ _ (c.in-None.ensures (Text Tab) (λ h. refl))
    (text_stopped_here Tab _ _ told
    (λ l h stood. (c.in-Err.ensures.limit l.line (text_of h) stood.environments.in_force.lines).0 refl))))
