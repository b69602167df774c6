use Rattle.std.proofs.Common.{◌≡◌, Err, rules}
use Rattle.run_model.specs.Reading.DefinedLines.{behind_definition}
use Rattle.read_steps.proofs.EndedDefinitions.{TakesAs-entered, TakesAs-not_entered}
use Rattle.read_steps.proofs.definitions.end_definition.Goals as goal

pub returns-in_err-enter_string : goal.returns-in_err-enter_string
returns-in_err-enter_string c =
    let limit = c.in_err-enter_string.field-0.0 in
    let refused : c.from_residual.result ≡ Err limit = search rules in
    rw refused
    (TakesAs-not_entered c.args.name c.args.appends c.args.end c.args.byte c.args.composer.now c.args.reader.now c.args.reader.now c.args.unread.now
    c.enter_string.new.unread limit c.requires c.in_err-enter_string.ensures)

pub returns : goal.returns
returns c =
    let done = c.read_behind_definition in
    TakesAs-entered (λ k i. behind_definition k i c.args.end c.args.byte) c.args.name c.args.appends c.args.composer.now c.args.reader.now done.new.reader
    c.args.unread.now c.enter_string.new.unread done.new.unread c.in_ok-enter_string.field-0 done.result c.in_ok-enter_string.ensures done.ensures
