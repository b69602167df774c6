use Rattle.std.proofs.Common.{refl, rules, ◌≡◌}
use Rattle.roff_num.specs.declared.limit.Limit.TheVariants.{Line}
use Rattle.page_model.specs.declared.event.Event.TheVariants.{Print}
use Rattle.run_model.specs.Output.{text_of}
use Rattle.run_model.specs.declared.event.PageEvent.TheVariants.{Text}
use Rattle.run_events.proofs.DoneEvents.{lines_behind, reached_behind, text_changes_here, text_stopped_here}
use Rattle.run_events.proofs.DoneFirst.{only_first, only_page, ready_then}
use Rattle.run_events.proofs.formatter.Formatter.glyph.Goals as goal

pub returns-in-Some : goal.returns-in-Some
returns-in-Some c = λ told. only_page (Text (Print c.args.glyph)) _ _ _ told c.in-Some.name _ refl (λ g. refl) (c.in-Some.ensures (Text (Print c.args.glyph)) (λ h. refl)) c.stopped_by.ensures.due c.stopped_by.ensures.is

pub returns-in-Ok : goal.returns-in-Ok
returns-in-Ok c = λ told. only_first (Text (Print c.args.glyph)) (Text (Print c.args.glyph)) _ _ _ _ _ (λ rs. refl) (λ g. refl) (λ sprung is. refl) (λ g. refl)
    (ready_then _ _ _ c.begin_first.new.self _ _ _ _ (c.in-None.ensures (Text (Print c.args.glyph)) (λ h. refl))
    (text_changes_here (Print c.args.glyph) _ _ told
    (reached_behind (Print c.args.glyph) c.begin_first.new.self.composer _ (λ h. refl) c.in-Ok.ensures.stands)
    (lines_behind (Print c.args.glyph) c.begin_first.new.self.composer _ (λ trap. refl) c.in-Ok.ensures.stands) (search rules) (λ l h stood. refl) (λ h. refl)))

pub returns-in-Err : goal.returns-in-Err
returns-in-Err c = λ told.
    let is_line : c.in-Err.limit ≡ Line = search rules in
    rw is_line (only_first (Text (Print c.args.glyph)) (Text (Print c.args.glyph)) _ _ _ _ _ (λ rs. refl) (λ g. refl) (λ sprung is. refl) (λ g. refl)
    (ready_then _ _ _ c.begin_first.new.self _ _ _ _ (c.in-None.ensures (Text (Print c.args.glyph)) (λ h. refl))
    (text_stopped_here (Print c.args.glyph) _ _ told
    (λ l h stood. (c.in-Err.ensures.limit l.line (text_of h) stood.environments.in_force.lines).0 refl))))
