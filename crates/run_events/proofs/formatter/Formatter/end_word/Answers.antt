use Rattle.std.proofs.Common.{refl}
use Rattle.page_model.specs.declared.event.Event.TheVariants.{WordEnd}
use Rattle.run_model.specs.Output.{text_of}
use Rattle.run_model.specs.declared.event.PageEvent.TheVariants.{Text}
use Rattle.run_events.proofs.DoneEvents.{lines_behind, reached_behind, text_put_here}
use Rattle.run_events.proofs.DoneFirst.{only_first, only_page, ready_then, word_first, word_page}
use Rattle.run_events.proofs.formatter.Formatter.end_word.Goals as goal

pub returns-in-Some-clause-performs : goal.returns-in-Some-clause-performs
returns-in-Some-clause-performs g c = only_page (Text WordEnd) _ _ _ _ c.in-Some.name _ refl (λ g. refl) c.in-Some.ensures c.stopped_by.ensures.due c.stopped_by.ensures.is

pub returns-in-Some-clause-own : goal.returns-in-Some-clause-own
returns-in-Some-clause-own g c = word_page _ _ _ _ c.in-Some.name _ c.in-Some.ensures c.stopped_by.ensures.due c.stopped_by.ensures.is

pub returns-in-None-clause-performs : goal.returns-in-None-clause-performs
returns-in-None-clause-performs g c = only_first (Text WordEnd) (Text WordEnd) _ _ _ _ _ (λ rs. refl) (λ g. refl) (λ sprung is. refl) (λ g. refl) (ready_then _ _ _ c.begin_first_for.new.self _ _ _ _ c.in-None.ensures
    (text_put_here WordEnd _ _ _ _ _ _ (λ h. refl) (λ l h stood. c.end_word-line.ensures.line l.line (text_of h) stood.environments.in_force.lines)
    (reached_behind WordEnd c.begin_first_for.new.self.composer _ (λ h. refl) c.end_word-line.follows.holds-at-none)
    (lines_behind WordEnd c.begin_first_for.new.self.composer _ (λ trap. refl) c.end_word-line.follows.holds-at-none)
    c.put_finished.ensures))

pub returns-in-None-clause-own : goal.returns-in-None-clause-own
returns-in-None-clause-own g c = word_first _ c.begin_first_for.new.self _ _ _ _ c.in-None.ensures c.end_word-line.follows.holds-at-none
    (text_put_here WordEnd _ _ _ _ _ _ (λ h. refl) (λ l h stood. c.end_word-line.ensures.line l.line (text_of h) stood.environments.in_force.lines)
    (reached_behind WordEnd c.begin_first_for.new.self.composer _ (λ h. refl) c.end_word-line.follows.holds-at-none)
    (lines_behind WordEnd c.begin_first_for.new.self.composer _ (λ trap. refl) c.end_word-line.follows.holds-at-none)
    c.put_finished.ensures)
