use Rattle.std.proofs.Common.{◌≡◌, Ok, Err, refl, ap, rules, ◌∙◌}
use Rattle.input_source.specs.Bytes.{newline}
use Rattle.input_model.specs.Input.Calls.{arguments_given}
use Rattle.run_model.specs.Reading.{undropped_taking}
use Rattle.run_model.specs.Reading.Ends.{end_taking}
use Rattle.run_model.specs.Reading.Items.{going_on}
use Rattle.run_model.specs.Reading.Strings.{string_entered, string_line_ended}
use Rattle.roff_num.specs.ShortNames.{name_at}
use Rattle.run_model.specs.declared.line_state.LineState.{LineState}
use Rattle.run_model.specs.declared.line_state.LineState.TheVariants.{Collecting, LineStart}
use Rattle.run_model.specs.declared.purpose.Purpose.{Purpose}
use Rattle.run_model.specs.declared.purpose.Purpose.TheVariants.{Defining, StringName, StringText}
use Rattle.read_steps.proofs.Placed.{TakesAs-for}
use Rattle.read_lines.proofs.TakesAs.{TakesAs-as}
use Rattle.read_lines.proofs.LinesTaken.{TakesAs-last_line, TakesAs-no_last_line, end_taking-collected, string_line_ended-going}
use Rattle.read_steps.proofs.ends.end_collected.Goals as goal

pub returns-in-Defining : goal.returns-in-Defining
returns-in-Defining c =
    let es = c.args.composer.now in
    let old = c.args.reader.now in
    let u = c.args.unread.now in
    let done = c.drop_definition in
    let purpose : Purpose = Defining c.in-Defining.name c.in-Defining.appends c.in-Defining.end c.in-Defining.matched in
    let is : c.args.purpose ≡ purpose = search rules in
    TakesAs-for (λ k p. end_taking k (Collecting p) u.input) c.args.purpose purpose es old done.new.reader u done.new.unread (Ok done.result) is (done.ensures es)

pub returns-in_ok-end_string_line-in-StringName : goal.returns-in_ok-end_string_line-in-StringName
returns-in_ok-end_string_line-in-StringName c =
    let es = c.args.composer.now in
    let old = c.args.reader.now in
    let u = c.args.unread.now in
    let purpose : Purpose = StringName c.in-StringName.appends in
    let is : c.args.purpose ≡ purpose = search rules in
    let t = string_line_ended u.input c.in-StringName.appends (name_at 0 (arguments_given u.input)) in
    let line = c.end_string_line.new in
    let done = c.end_interrupted in
    TakesAs-for (λ k p. end_taking k (Collecting p) u.input) c.args.purpose purpose es old done.new.reader u line.unread (Ok done.result) is
    (TakesAs-last_line t es old line.self done.new.reader u line.unread c.in_ok-end_string_line-in-StringName.field-0 done.result
    (string_line_ended-going u.input c.in-StringName.appends (name_at 0 (arguments_given u.input)))
    (c.in_ok-end_string_line-in-StringName.ensures es) done.ensures)

pub returns-in_err-end_string_line-in-StringName : goal.returns-in_err-end_string_line-in-StringName
returns-in_err-end_string_line-in-StringName c =
    let es = c.args.composer.now in
    let old = c.args.reader.now in
    let u = c.args.unread.now in
    let purpose : Purpose = StringName c.in-StringName.appends in
    let is : c.args.purpose ≡ purpose = search rules in
    let t = string_line_ended u.input c.in-StringName.appends (name_at 0 (arguments_given u.input)) in
    let line = c.end_string_line.new in
    let limit = c.in_err-end_string_line-in-StringName.field-0.0 in
    let refused : c.from_residual.result ≡ Err limit = search rules in
    rw refused
    (TakesAs-for (λ k p. end_taking k (Collecting p) u.input) c.args.purpose purpose es old line.self u line.unread (Err limit) is
    (TakesAs-no_last_line t es old line.self u line.unread limit
    (string_line_ended-going u.input c.in-StringName.appends (name_at 0 (arguments_given u.input)))
    (c.in_err-end_string_line-in-StringName.ensures es)))

pub returns-in_ok-read_unit_of_string-in-StringText : goal.returns-in_ok-read_unit_of_string-in-StringText
returns-in_ok-read_unit_of_string-in-StringText c =
    let es = c.args.composer.now in
    let old = c.args.reader.now in
    let u = c.args.unread.now in
    let purpose : Purpose = StringText c.in-StringText.name c.in-StringText.appends c.in-StringText.is_front in
    let is : c.args.purpose ≡ purpose = search rules in
    let t = going_on (string_entered c.in-StringText.name c.in-StringText.appends u.input) LineStart in
    let line = c.read_unit_of_string.new in
    let done = c.end_interrupted-in-StringText in
    TakesAs-for (λ k p. end_taking k (Collecting p) u.input) c.args.purpose purpose es old done.new.reader u line.unread (Ok done.result) is
    (TakesAs-last_line t es old line.self done.new.reader u line.unread c.in_ok-read_unit_of_string-in-StringText.field-0 done.result
    refl (c.in_ok-read_unit_of_string-in-StringText.ensures es) done.ensures)

pub returns-in_err-read_unit_of_string-in-StringText : goal.returns-in_err-read_unit_of_string-in-StringText
returns-in_err-read_unit_of_string-in-StringText c =
    let es = c.args.composer.now in
    let old = c.args.reader.now in
    let u = c.args.unread.now in
    let purpose : Purpose = StringText c.in-StringText.name c.in-StringText.appends c.in-StringText.is_front in
    let is : c.args.purpose ≡ purpose = search rules in
    let t = going_on (string_entered c.in-StringText.name c.in-StringText.appends u.input) LineStart in
    let line = c.read_unit_of_string.new in
    let limit = c.in_err-read_unit_of_string-in-StringText.field-0.0 in
    let refused : c.from_residual-in_err-read_unit_of_string-in-StringText.result ≡ Err limit = search rules in
    rw refused
    (TakesAs-for (λ k p. end_taking k (Collecting p) u.input) c.args.purpose purpose es old line.self u line.unread (Err limit) is
    (TakesAs-no_last_line t es old line.self u line.unread limit refl
    (c.in_err-read_unit_of_string-in-StringText.ensures es)))

pub returns-in_default : goal.returns-in_default
returns-in_default c =
    let old = c.args.reader.now in
    let u = c.args.unread.now in
    let purpose = c.args.purpose in
    let done = c.read_undropped in
    TakesAs-as (λ k. undropped_taking k old.reading u.input newline) (λ k. end_taking k (Collecting purpose) u.input) c.args.composer.now old done.new.reader u done.new.unread done.result
    (λ k. ap (λ (r : LineState). undropped_taking k r u.input newline) c.requires
    ∙ end_taking-collected k purpose u.input (λ appends is. c.in_default.not-StringName appends is) (λ name appends is_front is. c.in_default.not-StringText name appends is_front is)
    (λ name appends end matched is. c.in_default.not-Defining name appends end matched is)) done.ensures
