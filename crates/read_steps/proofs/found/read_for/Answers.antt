use Rattle.std.proofs.Common.{◌≡◌, ◌∙◌, ap, rules}
use Rattle.run_model.specs.Reading.Collecting.{collected}
use Rattle.run_model.specs.Reading.Found.{found_in}
use Rattle.run_model.specs.declared.line_state.LineState.{LineState}
use Rattle.run_model.specs.declared.line_state.LineState.TheVariants.{Collecting}
use Rattle.run_model.specs.declared.purpose.Purpose.{Purpose}
use Rattle.run_model.specs.declared.purpose.Purpose.TheVariants.{Defining}
use Rattle.read_lines.proofs.TakesAs.{TakesAs-as}
use Rattle.read_steps.proofs.Placed.{TakesAs-for, found-collected}
use Rattle.read_steps.proofs.found.read_for.Goals as goal

pub returns-in-Defining : goal.returns-in-Defining
returns-in-Defining c =
    let u = c.args.unread.now in
    let done = c.read_definition in
    let purpose : Purpose = Defining c.in-Defining.name c.in-Defining.appends c.in-Defining.end c.in-Defining.matched in
    let is : c.args.purpose ≡ purpose = search rules in
    TakesAs-for (λ k p. found_in k u.input (Collecting p) c.args.found) c.args.purpose purpose c.args.composer.now c.args.reader.now done.new.reader u done.new.unread done.result is
    done.ensures

pub returns-in_default : goal.returns-in_default
returns-in_default c =
    let old = c.args.reader.now in
    let u = c.args.unread.now in
    let purpose = c.args.purpose in
    let done = c.read_collected in
    TakesAs-as (λ k. collected k u.input old.reading c.args.found) (λ k. found_in k u.input (Collecting purpose) c.args.found) c.args.composer.now old done.new.reader u done.new.unread
    done.result
    (λ k. ap (λ (r : LineState). collected k u.input r c.args.found) c.requires
    ∙ found-collected k u.input purpose c.args.found (λ name appends end matched is. c.in_default.not-Defining name appends end matched is)) done.ensures
