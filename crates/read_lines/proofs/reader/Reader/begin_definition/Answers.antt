use Rattle.std.proofs.Common.{◌≡◌, Err, Some, rules}
use Rattle.run_model.specs.Reading.Strings.{string_begun}
use Rattle.run_model.specs.declared.line_state.LineState.{LineState}
use Rattle.run_model.specs.declared.line_state.LineState.TheVariants.{Collecting}
use Rattle.run_model.specs.declared.purpose.Purpose.TheVariants.{Defining}
use Rattle.read_lines.proofs.Strings.{TakesAs-became, TakesAs-not_became}
use Rattle.read_lines.proofs.reader.Reader.begin_definition.Goals as goal

pub returns-in_err-begin_string : goal.returns-in_err-begin_string
returns-in_err-begin_string c = λ es.
    let old = c.args.self.now in
    let u = c.args.unread.now in
    let name = c.args.name in
    let place : LineState = Collecting (Defining name c.args.appends c.args.end (Some 0)) in
    let refused : c.from_residual.result ≡ Err c.in_err-begin_string.field-0.0 = search rules in
    rw refused
    (TakesAs-not_became (string_begun name u.input) place es old old u c.begin_string.new.unread c.in_err-begin_string.field-0.0 c.in_err-begin_string.ensures)

pub returns : goal.returns
returns c = λ es.
    let u = c.args.unread.now in
    let name = c.args.name in
    let place : LineState = Collecting (Defining name c.args.appends c.args.end (Some 0)) in
    let done = c.read_on in
    TakesAs-became (string_begun name u.input) place es c.args.self.now done.new.self u c.begin_string.new.unread done.result c.in_ok-begin_string.field-0
    c.in_ok-begin_string.ensures done.ensures.reading done.ensures.step
