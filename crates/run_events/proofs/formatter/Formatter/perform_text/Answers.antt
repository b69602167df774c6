use Rattle.std.proofs.Common.{rules, refl}
use Rattle.page_model.specs.declared.event.Event.TheVariants.{Count, FieldEnd, Print, Tab, WordEnd, Interrupt, Resume, Set}
use Rattle.run_model.specs.declared.event.PageEvent.TheVariants.{Text}
use Rattle.run_events.proofs.DoneEvents.{lines_behind, text_changes_only}
use Rattle.run_events.proofs.Springing.{one_alone}
use Rattle.run_events.proofs.formatter.Formatter.perform_text.Goals as goal

pub returns-in-Print : goal.returns-in-Print
returns-in-Print g c = rw c.in-Print.is (one_alone (Text (Print c.in-Print.glyph)) _ _ _ _ _ (λ h. refl) (c.glyph.ensures (g.O.ByteSink.sunk c.args.out.now)))

pub returns-in-Tab : goal.returns-in-Tab
returns-in-Tab g c = rw c.in-Tab.is (one_alone (Text Tab) _ _ _ _ _ (λ h. refl) c.tab.ensures)

pub returns-in-FieldEnd : goal.returns-in-FieldEnd
returns-in-FieldEnd g c = rw c.in-FieldEnd.is (one_alone (Text FieldEnd) _ _ _ _ _ (λ h. refl) (c.end_field.ensures (g.O.ByteSink.sunk c.args.out.now)))

pub returns-in-WordEnd : goal.returns-in-WordEnd
returns-in-WordEnd g c = rw c.in-WordEnd.is (one_alone (Text WordEnd) _ _ _ _ _ (λ h. refl) c.end_word.ensures.performs)

pub returns-in-Gap : goal.returns-in-Gap
returns-in-Gap g c = rw c.in-Gap.is c.gap_behind_own.ensures

pub returns-in-LineEnd : goal.returns-in-LineEnd
returns-in-LineEnd g c = rw c.in-LineEnd.is c.line_end_behind_own.ensures

pub returns-in-Count : goal.returns-in-Count
returns-in-Count g c = rw c.in-Count.is (one_alone (Text Count) _ _ _ _ _ (λ h. refl) (c.count.ensures (g.O.ByteSink.sunk c.args.out.now)))

pub returns-in-Break : goal.returns-in-Break
returns-in-Break g c = rw c.in-Break.is c.break_behind_own.ensures

pub returns-in-Interrupt : goal.returns-in-Interrupt
returns-in-Interrupt g c = rw c.in-Interrupt.is (one_alone (Text Interrupt) _ _ _ _ _ (λ h. refl) (text_changes_only Interrupt _ _ _ (λ g. refl) (λ h. refl) (λ h. refl) (λ h. refl) (λ h. refl)
    (lines_behind Interrupt c.args.self.now.composer _ (λ trap. refl) c.interrupt.ensures) (search rules)))

pub returns-in-Resume : goal.returns-in-Resume
returns-in-Resume g c = rw c.in-Resume.is (one_alone (Text Resume) _ _ _ _ _ (λ h. refl) (text_changes_only Resume _ _ _ (λ g. refl) (λ h. refl) (λ h. refl) (λ h. refl) (λ h. refl)
    (lines_behind Resume c.args.self.now.composer _ (λ trap. refl) c.resume.ensures) (search rules)))

pub returns-in-Set : goal.returns-in-Set
returns-in-Set g c = rw c.in-Set.is (one_alone (Text (Set c.in-Set.param)) _ _ _ _ _ (λ h. refl) (text_changes_only (Set c.in-Set.param) _ _ _ (λ g. refl) (λ h. refl) (λ h. refl) (λ h. refl) (λ h. refl)
    (lines_behind (Set c.in-Set.param) c.args.self.now.composer _ (λ trap. refl) c.set.ensures) (search rules)))
