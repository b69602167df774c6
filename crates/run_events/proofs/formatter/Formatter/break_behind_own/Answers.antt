use Rattle.std.proofs.Common.{◌≡◌, refl, rules}
use Rattle.roff_num.specs.declared.limit.Limit.TheVariants.{Line}
use Rattle.run_model.specs.Output.{text_of}
use Rattle.page_model.specs.declared.event.Event.TheVariants.{Break, FieldEnd}
use Rattle.run_model.specs.declared.event.PageEvent.TheVariants.{Text}
use Rattle.run_events.proofs.DoneEvents.{lines_behind, with_lines}
use Rattle.run_events.proofs.FieldsEnding.{field_stopped, field_then}
use Rattle.run_events.proofs.Springing.{own_halted, own_sprung, own_then}
use Rattle.run_events.proofs.formatter.Formatter.break_behind_own.Goals as goal

pub returns-in-Err : goal.returns-in-Err
returns-in-Err g c =
    let is_line : c.in-Err.limit ≡ Line = search rules in
    rw is_line (field_stopped (Text Break) (λ h. refl) (λ h. refl) _ _ _
    (λ l h stood. (c.in-Err.ensures.limit l.line (text_of h) stood.environments.in_force.lines).0 refl))

pub returns-in-Ok-None : goal.returns-in-Ok-None
returns-in-Ok-None g c = field_then (Text Break) (λ h. refl) (λ h. refl) c.args.self.now (record c.args.self.now { composer = with_lines c.args.self.now.composer c.end_field.new.self }) _ _ _ _
    (lines_behind FieldEnd c.args.self.now.composer c.end_field.new.self (λ trap. refl) c.in_default.ensures.stands) refl
    (own_then (Text Break) (λ h. refl) _ c.end_open_word.new.self _ _ _ _ c.end_open_word.result _ (search rules) c.end_open_word.ensures c.brk.ensures)

pub returns-in-Ok-Some : goal.returns-in-Ok-Some
returns-in-Ok-Some g c = field_then (Text Break) (λ h. refl) (λ h. refl) c.args.self.now (record c.args.self.now { composer = with_lines c.args.self.now.composer c.end_field.new.self }) _ _ _ _
    (lines_behind FieldEnd c.args.self.now.composer c.end_field.new.self (λ trap. refl) c.in_default.ensures.stands) refl
    (own_sprung (Text Break) (λ h. refl) _ _ _ _ c.in-Ok-Some.sprung c.end_open_word.result (search rules) c.end_open_word.ensures)

pub returns-in-Err-end_open_word : goal.returns-in-Err-end_open_word
returns-in-Err-end_open_word g c = field_then (Text Break) (λ h. refl) (λ h. refl) c.args.self.now (record c.args.self.now { composer = with_lines c.args.self.now.composer c.end_field.new.self }) _ _ _ _
    (lines_behind FieldEnd c.args.self.now.composer c.end_field.new.self (λ trap. refl) c.in_default.ensures.stands) refl
    (own_halted (Text Break) (λ h. refl) _ _ _ _ c.in-Err-end_open_word.halt c.in-Err-end_open_word.ensures)
