use Rattle.std.proofs.Common.{◌∙◌, Ok, ap, sym}
use Rattle.run_model.specs.Events.Steps.{events_of, messages_of}
use Rattle.run_model.specs.Reading.{undropped_taking}
use Rattle.run_model.specs.Reading.Items.{meaning_events}
use Rattle.run_model.specs.declared.line_state.LineState.{LineState}
use Rattle.run_model.specs.declared.line_state.LineState.TheVariants.{Text as InText}
use Rattle.run_model.specs.declared.step.Step.{Step}
use Rattle.read_lines.proofs.TakesAs.{TakesAs-where}
use Rattle.read_lines.proofs.TextTaken.{TakesAs-named, plain-found}
use Rattle.read_steps.proofs.bytes.read_plain.Goals as goal

pub returns : goal.returns
returns c = λ es u none_half.
    let old = c.args.reader.now in
    let b = c.args.byte in
    let done = c.step_on in
    let taken = c.taking in
    let place : LineState = InText c.args.line in
    TakesAs-where (λ k r. undropped_taking k r u.input b) place es old done.new.self u u (Ok done.result) c.requires.line
    (TakesAs-named (λ k. undropped_taking k place u.input b) taken.result.0 es old done.new.self u done.result
    (λ kept k. sym (plain-found k place u.input b none_half c.requires.no_escape) ∙ taken.ensures.means u.input kept
    ∙ ap (λ (s : Step). meaning_events u.input taken.result.0 (events_of kept s)) (sym done.ensures.step))
    (λ kept. ap (messages_of kept) done.ensures.step ∙ taken.ensures.quiet kept) done.ensures.reading)
