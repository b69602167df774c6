use Rattle.std.proofs.Common.{◌≡◌, ℕ, Ok, ap, rules, ◌∙◌}
use Rattle.run_model.specs.Reading.Beginnings.{escape_begun, first_escape}
use Rattle.run_model.specs.Reading.TextLines.{escape_taking}
use Rattle.run_model.specs.Registers.{Known}
use Rattle.read_lines.proofs.Strings.{other}
use Rattle.read_lines.proofs.TakesAs.{TakesAs-as}
use Rattle.read_lines.proofs.LinesTaken.{TakesAs-begun, TakesAs-meant, first_escape-any}
use Rattle.read_lines.proofs.reader.Reader.begin_with_escape.Goals.{in_default-via-in-Branch+in_default, in_default-via-in_default}
use Rattle.read_lines.proofs.reader.Reader.begin_with_escape.Goals as goal

pub returns-then-byte-eq10 : goal.returns-then-byte-eq10
returns-then-byte-eq10 c = λ u.
    let at = c.args.at in
    let byte = c.args.byte in
    TakesAs-meant (λ k. first_escape k u.input at byte) c.behind_newline.result c.args.composer.now c.args.self.now c.read_on.new.self u c.read_on.result
    (λ k. ap (λ (b : ℕ). first_escape k u.input at b) c.if-byte-eq10.true ∙ c.behind_newline.ensures k u.input)
    c.read_on.ensures.reading c.read_on.ensures.step

pub returns-in_default : goal.returns-in_default
returns-in_default c = λ u.
    let b = c.args.byte in
    let es = c.args.composer.now in
    let old = c.args.self.now in
    let done = c.begin_text in
    let no_newline = other b 10 c.if-byte-eq10.false in
    let as_defined : (k : Known) → escape_begun k u.input b ≡ first_escape k u.input c.args.at b = λ k. elim c.in_default.branch [
      | in_default-via-in-Branch+in_default w ↦ first_escape-any k u.input c.args.at b (λ at. search rules) no_newline
      | in_default-via-in_default w ↦ first_escape-any k u.input c.args.at b (λ at. absurd (search rules)) no_newline
    ] in
    TakesAs-as (λ k. escape_begun k u.input b) (λ k. first_escape k u.input c.args.at b) es old done.new.self u u (Ok done.result) as_defined
    (TakesAs-begun (λ i line. escape_taking i line b) c.escape-step.result c.interrupted_line-interrupted.result c.begun_as.result es old done.new.self u done.result
    (λ l h stands. c.interrupted_line-interrupted.ensures l h stands.environments) c.begun_as.ensures c.escape-step.ensures done.ensures.now done.ensures.says done.ensures.events)
