use Rattle.std.proofs.Common.{◌≡◌, rules, subst, sym}
use Rattle.read_lines.specs.Reader.Taken.{TakesAs}
use Rattle.run_model.specs.Reading.Arguments.{arguments_ended, line_ended}
use Rattle.run_model.specs.Requests.{row_of}
use Rattle.run_model.specs.declared.request.LineReading.{LineReading}
use Rattle.run_model.specs.declared.request.LineReading.TheVariants.{ByLines}
use Rattle.read_lines.proofs.BegunDefinitions.{arguments_ended-obeyed}
use Rattle.read_lines.proofs.TakesAs.{TakesAs-as}
use Rattle.read_steps.proofs.line_ends.end_arguments.Goals as goal

pub returns-in-ByLines : goal.returns-in-ByLines
returns-in-ByLines c =
    let u = c.args.unread.now in
    let done = c.begin_lines in
    let line : (row_of c.args.request).line ≡ ByLines c.in-ByLines.lines = search rules in
    subst (λ (l : LineReading). TakesAs (λ k. arguments_ended k u.input c.args.breaks c.args.request l) c.args.composer.now c.args.reader.now done.new.self u
    done.new.unread done.result) (sym line) (done.ensures c.args.composer.now)

pub returns-in_default : goal.returns-in_default
returns-in_default c =
    let u = c.args.unread.now in
    let breaks = c.args.breaks in
    let request = c.args.request in
    let done = c.obey in
    TakesAs-as (λ k. line_ended k u.input breaks request) (λ k. arguments_ended k u.input breaks request (row_of request).line) c.args.composer.now c.args.reader.now
    done.new.reader u done.new.unread done.result (λ k. arguments_ended-obeyed k u.input breaks request (row_of request).line (λ lines is. search rules)) done.ensures
