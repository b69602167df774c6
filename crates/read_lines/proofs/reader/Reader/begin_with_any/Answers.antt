use Rattle.std.proofs.Common.{◌≡◌, ◌==◌, ◌∙◌, false, None, Some, ap, rules, sym}
use Rattle.run_model.specs.Events.Steps.{events_of, messages_of}
use Rattle.run_model.specs.Reading.Beginnings.{line_begun_as}
use Rattle.run_model.specs.Reading.Items.{meaning_events}
use Rattle.run_model.specs.Reading.TextLines.{text_taking}
use Rattle.run_model.specs.declared.line_state.TextLine.{TextLine}
use Rattle.run_model.specs.declared.step.Step.{Step}
use Rattle.read_lines.proofs.TextTaken.{TakesAs-named, begins-text}
use Rattle.read_lines.proofs.reader.Reader.begin_with_any.Goals as goal

pub returns-in-None : goal.returns-in-None
returns-in-None c = λ u.
    let b = c.args.byte in
    let es = c.args.composer.now in
    let old = c.args.self.now in
    let done = c.step_on in
    let taken = c.taking in
    let no_dot : (b == 46) ≡ false = search rules in
    let no_apostrophe : (b == 39) ≡ false = search rules in
    begins-text b u es old done.new.self done.result no_dot no_apostrophe None
    (λ l h rs i stands. sym c.in-None.is ∙ c.interrupted_line.ensures l h stands.environments)
    (TakesAs-named (λ k. text_taking u.input (line_begun_as None) b) taken.result.0 es old done.new.self u done.result
    (λ kept k. ap (λ (line : TextLine). text_taking u.input line b) (sym c.new.ensures) ∙ taken.ensures.means u.input kept
    ∙ ap (λ (s : Step). meaning_events u.input taken.result.0 (events_of kept s)) (sym done.ensures.step))
    (λ kept. ap (messages_of kept) done.ensures.step ∙ taken.ensures.quiet kept) done.ensures.reading)

pub returns-in-Some : goal.returns-in-Some
returns-in-Some c = λ u.
    let b = c.args.byte in
    let es = c.args.composer.now in
    let old = c.args.self.now in
    let done = c.go_on_with in
    let no_dot : (b == 46) ≡ false = search rules in
    let no_apostrophe : (b == 39) ≡ false = search rules in
    begins-text b u es old done.new.self done.result no_dot no_apostrophe (Some c.in-Some.line)
    (λ l h rs i stands. sym c.in-Some.is ∙ c.interrupted_line.ensures l h stands.environments) (done.ensures es u)
