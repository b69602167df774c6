use Rattle.std.proofs.Common.{◌≡◌, ◌∙◌, ap, refl, rules, sym}
use Rattle.run_model.specs.Reading.Collecting.{unit_taking}
use Rattle.run_model.specs.Reading.Items.{going_on}
use Rattle.run_model.specs.declared.line_state.LineState.{LineState}
use Rattle.run_model.specs.declared.line_state.LineState.TheVariants.{Collecting}
use Rattle.run_model.specs.declared.purpose.Purpose.{Purpose}
use Rattle.run_model.specs.declared.purpose.Purpose.TheVariants.{Arguments as InArguments, Calling, Defining, StringName, StringText, Telling}
use Rattle.run_model.specs.declared.step.Step.TheVariants.{Nothing}
use Rattle.read_steps.proofs.Placed.{TakesAs-for}
use Rattle.read_lines.proofs.LinesTaken.{TakesAs-meant}
use Rattle.read_steps.proofs.found.read_unit_for.Goals as goal

pub returns-in-Arguments : goal.returns-in-Arguments
returns-in-Arguments c =
    let u = c.args.unread.now in
    let done = c.read_unit in
    let purpose : Purpose = InArguments c.in-Arguments.breaks c.in-Arguments.request in
    let is : c.args.purpose ≡ purpose = search rules in
    TakesAs-for (λ k p. unit_taking k u.input (Collecting p) c.args.unit) c.args.purpose purpose c.args.composer.now c.args.reader.now done.new.reader u done.new.unread done.result is
    done.ensures

pub returns-in-StringName : goal.returns-in-StringName
returns-in-StringName c =
    let es = c.args.composer.now in
    let u = c.args.unread.now in
    let done = c.read_unit_of_string_name in
    let purpose : Purpose = StringName c.in-StringName.appends in
    let is : c.args.purpose ≡ purpose = search rules in
    TakesAs-for (λ k p. unit_taking k u.input (Collecting p) c.args.unit) c.args.purpose purpose es c.args.reader.now done.new.self u done.new.unread done.result is (done.ensures es)

pub returns-in-StringText : goal.returns-in-StringText
returns-in-StringText c =
    let es = c.args.composer.now in
    let u = c.args.unread.now in
    let done = c.read_unit_of_string in
    let purpose : Purpose = StringText c.in-StringText.name c.in-StringText.appends c.in-StringText.is_front in
    let is : c.args.purpose ≡ purpose = search rules in
    TakesAs-for (λ k p. unit_taking k u.input (Collecting p) c.args.unit) c.args.purpose purpose es c.args.reader.now done.new.self u done.new.unread done.result is (done.ensures es)

pub returns-in-Telling : goal.returns-in-Telling
returns-in-Telling c =
    let es = c.args.composer.now in
    let u = c.args.unread.now in
    let done = c.read_unit_of_message in
    let purpose : Purpose = Telling c.in-Telling.aborts c.in-Telling.is_front in
    let is : c.args.purpose ≡ purpose = search rules in
    TakesAs-for (λ k p. unit_taking k u.input (Collecting p) c.args.unit) c.args.purpose purpose es c.args.reader.now done.new.self u done.new.unread done.result is (done.ensures es)

pub returns-in-Calling : goal.returns-in-Calling
returns-in-Calling c =
    let es = c.args.composer.now in
    let u = c.args.unread.now in
    let done = c.read_unit_of_call in
    let purpose : Purpose = Calling c.in-Calling.name in
    let is : c.args.purpose ≡ purpose = search rules in
    TakesAs-for (λ k p. unit_taking k u.input (Collecting p) c.args.unit) c.args.purpose purpose es c.args.reader.now done.new.self u done.new.unread done.result is (done.ensures es)

pub returns-in-Defining : goal.returns-in-Defining
returns-in-Defining c =
    let old = c.args.reader.now in
    let u = c.args.unread.now in
    let purpose : Purpose = Defining c.in-Defining.name c.in-Defining.appends c.in-Defining.end c.in-Defining.matched in
    let is : c.args.purpose ≡ purpose = search rules in
    let reads : old.reading ≡ Collecting purpose = c.requires ∙ ap (λ (p : Purpose). Collecting p) is in
    TakesAs-for (λ k p. unit_taking k u.input (Collecting p) c.args.unit) c.args.purpose purpose c.args.composer.now old old u u _ is
    (TakesAs-meant (λ k. unit_taking k u.input (Collecting purpose) c.args.unit) old.reading c.args.composer.now old old u Nothing
    (λ k. ap (λ (reading : LineState). going_on u.input reading) (sym reads)) refl refl)
