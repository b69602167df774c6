use Rattle.std.proofs.Common.{◌≡◌, true, false, rules, refl, ap, None, Ok}
use Rattle.run_model.specs.Registers.{Known}
use Rattle.run_model.specs.Reading.{undropped_taking}
use Rattle.run_model.specs.Reading.ControlLines.{behind_called, ends_name, name_ended_taking}
use Rattle.run_model.specs.Reading.Items.{Taking}
use Rattle.run_model.specs.declared.line_state.LineState.TheVariants.{Name}
use Rattle.roff_num.specs.declared.short_name.ShortName.{ShortName}
use Rattle.run_model.specs.declared.step.Step.TheVariants.{Nothing}
use Rattle.read_lines.proofs.TakesAs.{TakesAs-as}
use Rattle.read_steps.proofs.control_lines.end_name.Goals as goal

pub returns-then-ends_name : goal.returns-then-ends_name
returns-then-ends_name c =
    let i = c.args.unread.now.input in
    let b = c.args.byte in
    let done = c.read_behind_name in
    let name : ShortName = record { first = c.args.first; second = None } in
    let ends : ends_name b ≡ true = search rules in
    TakesAs-as (λ k. name_ended_taking k i c.args.breaks name b) (λ k. undropped_taking k (Name c.args.breaks c.args.first) i b) c.args.composer.now c.args.reader.now done.new.reader
    c.args.unread.now done.new.unread done.result (λ k. rw ends refl) done.ensures

pub returns : goal.returns
returns c =
    let es = c.args.composer.now in
    let old = c.args.reader.now in
    let u = c.args.unread.now in
    let breaks = c.args.breaks in
    let begun = c.begin_called in
    let behind : Known → Taking = λ k. behind_called u.input breaks c.called_by.result in
    let goes_on : ends_name c.args.byte ≡ false = search rules in
    TakesAs-as behind (λ k. undropped_taking k (Name breaks c.args.first) u.input c.args.byte) es old begun.new.reader u begun.new.unread (Ok Nothing)
    (λ k. rw goes_on (ap (behind_called u.input breaks) c.called_by.ensures))
    (begun.ensures es)
