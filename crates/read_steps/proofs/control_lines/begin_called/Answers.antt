use Rattle.std.proofs.Common.{◌≡◌, Ok, ap, refl, rules, sym, ◌∙◌}
use Rattle.input_model.specs.Input.Calls.{last_result, without_last}
use Rattle.read_names.specs.NamesRead.{input_begun, is_deciding}
use Rattle.run_model.specs.declared.step.Step.TheVariants.{Nothing}
use Rattle.run_model.specs.Reading.Branches.{branch_of, reads_else}
use Rattle.run_model.specs.Reading.ControlLines.{behind_called}
use Rattle.run_model.specs.Reading.Items.{going_on}
use Rattle.read_lines.proofs.TakesAs.{NoMore-half_begun, NoMore-without_last, TakesAs-as}
use Rattle.read_lines.proofs.LinesTaken.{TakesAs-gone_on}
use Rattle.read_steps.proofs.control_lines.begin_called.Goals as goal

pub returns-in-Some : goal.returns-in-Some
returns-in-Some c = λ es.
    let i = c.args.unread.now.input in
    let reading = c.in-Some.reading in
    let begun = c.begin_deciding in
    let done = c.go_on in
    TakesAs-as (λ k. going_on (input_begun reading i) reading) (λ k. behind_called i c.args.breaks c.args.called) es c.args.reader.now done.new.self
    c.args.unread.now begun.new.unread (Ok Nothing) (λ k. sym (c.in-Some.ensures.leads i))
    (TakesAs-gone_on (input_begun reading i) reading es c.args.reader.now done.new.self c.args.unread.now begun.new.unread (NoMore-half_begun (is_deciding reading) i)
    begun.ensures done.ensures)

pub returns-in-None : goal.returns-in-None
returns-in-None c = λ es.
    let i = c.args.unread.now.input in
    let taken = c.take_result in
    let done = c.go_on-in-None in
    let so : c.eq.result ≡ reads_else (last_result i) = search rules in
    TakesAs-as (λ k. going_on (without_last i) (branch_of (reads_else (last_result i)))) (λ k. behind_called i c.args.breaks c.args.called) es c.args.reader.now done.new.self
    c.args.unread.now taken.new.self (Ok Nothing) (λ k. sym (c.in-None.ensures.other refl i))
    (TakesAs-gone_on (without_last i) (branch_of (reads_else (last_result i))) es c.args.reader.now done.new.self c.args.unread.now taken.new.self (NoMore-without_last i)
    taken.ensures.change (rw (c.branch-eq.ensures ∙ ap branch_of so) at done.ensures))
