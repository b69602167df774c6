use Rattle.std.proofs.Common.{Ok, refl, rules}
use Rattle.input_model.specs.Input.{without_arguments}
use Rattle.input_model.specs.Input.Calls.{calling_body}
use Rattle.input_model.specs.Input.Names.{body_named}
use Rattle.roff_num.specs.ShortNames.{name_bytes}
use Rattle.run_model.specs.Reading.Items.{going_on}
use Rattle.run_model.specs.declared.line_state.LineState.TheVariants.{LineStart}
use Rattle.run_model.proofs.InputCounts.{NoMore-released}
use Rattle.read_lines.proofs.TakesAs.{TakesAs-less}
use Rattle.read_lines.proofs.LinesTaken.{TakesAs-changed}
use Rattle.read_lines.proofs.reader.Reader.read_last_body.Goals as goal

pub returns : goal.returns
returns c = λ es.
    let old = c.args.self.now in
    let u = c.args.unread.now in
    let there = record u { input = without_arguments u.input } in
    let called = calling_body (body_named (name_bytes c.args.name) there.input) there.input in
    TakesAs-less there.input (λ k. going_on called LineStart) es old c.read_on.new.self u c.call.new.self (Ok c.read_on.result) (NoMore-released u.input) refl refl
    (TakesAs-changed called LineStart es old c.read_on.new.self there c.call.new.self c.read_on.result c.in_ok-call.field-0 (search rules) c.read_on.ensures.reading c.read_on.ensures.step)
