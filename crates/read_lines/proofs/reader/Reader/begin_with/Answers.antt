use Rattle.std.proofs.Common.{◌≡◌, Ok, rules}
use Rattle.run_model.specs.Reading.Beginnings.{first_taking, line_begun}
use Rattle.run_model.specs.Registers.{Known}
use Rattle.read_lines.proofs.TakesAs.{TakesAs-as}
use Rattle.read_lines.proofs.LinesTaken.{first_taking-any}
use Rattle.read_lines.proofs.reader.Reader.begin_with.Goals.{in_default-via-in-Branch+in_default, in_default-via-in-Braced+in_default, in_default-via-in_default}
use Rattle.read_lines.proofs.reader.Reader.begin_with.Goals as goal

pub returns-in_default : goal.returns-in_default
returns-in_default c = λ u.
    let b = c.args.byte in
    let any = c.begin_with_any in
    let as_defined : (k : Known) → line_begun k u.input b ≡ first_taking k u.input c.args.at b = λ k. elim c.in_default.branch [
      | in_default-via-in-Branch+in_default w ↦ first_taking-any k u.input c.args.at b (λ at. search rules) (λ at. absurd (search rules))
      | in_default-via-in-Braced+in_default w ↦ first_taking-any k u.input c.args.at b (λ at. absurd (search rules)) (λ at. search rules)
      | in_default-via-in_default w ↦ first_taking-any k u.input c.args.at b (λ at. absurd (search rules)) (λ at. absurd (search rules))
    ] in
    TakesAs-as (λ k. line_begun k u.input b) (λ k. first_taking k u.input c.args.at b) c.args.composer.now c.args.self.now any.new.self u u (Ok any.result) as_defined
    (any.ensures u)
