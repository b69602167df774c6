use Rattle.std.proofs.Common.{◌≡◌, Some, None, ap, rules}
use Rattle.run_model.specs.Reading.DefinedLines.{definition_found, definition_line}
use Rattle.run_model.specs.Reading.Units.{no_unit_found, unit_in, unit_or}
use Rattle.run_model.specs.declared.line_state.LineState.{LineState}
use Rattle.run_model.specs.declared.line_state.LineState.TheVariants.{Collecting}
use Rattle.run_model.specs.declared.purpose.Purpose.TheVariants.{Defining}
use Rattle.read_lines.proofs.TakesAs.{TakesAs-as}
use Rattle.read_steps.proofs.definitions.read_definition.Goals as goal

pub returns-in-Some : goal.returns-in-Some
returns-in-Some c =
    let u = c.args.unread.now in
    let place : LineState = Collecting (Defining c.args.name c.args.appends c.args.end c.args.matched) in
    let found = c.args.found in
    let done = c.read_unit_of_definition in
    let is : Some c.in-Some.unit ≡ unit_in found = search rules in
    TakesAs-as (λ k. definition_line k u.input c.args.name c.args.appends c.args.end c.args.matched c.in-Some.unit)
    (λ k. definition_found k u.input c.args.name c.args.appends c.args.end c.args.matched found) c.args.composer.now c.args.reader.now done.new.reader u done.new.unread done.result
    (λ k. ap (unit_or (definition_line k u.input c.args.name c.args.appends c.args.end c.args.matched) (no_unit_found k u.input place found)) is) done.ensures

pub returns-in-None : goal.returns-in-None
returns-in-None c =
    let u = c.args.unread.now in
    let place : LineState = Collecting (Defining c.args.name c.args.appends c.args.end c.args.matched) in
    let found = c.args.found in
    let done = c.read_in_arguments in
    let is : None ≡ unit_in found = search rules in
    TakesAs-as (λ k. no_unit_found k u.input place found) (λ k. definition_found k u.input c.args.name c.args.appends c.args.end c.args.matched found) c.args.composer.now c.args.reader.now
    done.new.self u done.new.unread done.result
    (λ k. ap (unit_or (definition_line k u.input c.args.name c.args.appends c.args.end c.args.matched) (no_unit_found k u.input place found)) is) done.ensures
