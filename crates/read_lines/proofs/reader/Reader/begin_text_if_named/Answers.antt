use Rattle.std.proofs.Common.{◌≡◌, Err, Some, Option, true, ap, rules, sym}
use Rattle.roff_num.specs.declared.short_name.ShortName.{ShortName}
use Rattle.run_model.specs.Reading.Items.{going_on}
use Rattle.run_model.specs.Reading.Strings.{name_read, string_begun, string_name_behind}
use Rattle.run_model.specs.declared.line_state.LineState.TheVariants.{Collecting}
use Rattle.run_model.specs.declared.purpose.Purpose.TheVariants.{StringText}
use Rattle.read_lines.proofs.Strings.{TakesAs-not_became}
use Rattle.read_lines.proofs.TakesAs.{TakesAs-as}
use Rattle.read_lines.proofs.reader.Reader.begin_text_if_named.Goals as goal

pub returns-in_err-begin_string-in-Some : goal.returns-in_err-begin_string-in-Some
returns-in_err-begin_string-in-Some c = λ es.
    let u = c.args.unread.now in
    let name = c.in-Some.name in
    let appends = c.args.appends in
    let limit = c.in_err-begin_string-in-Some.field-0.0 in
    let named : name_read u.input ≡ Some name = search rules in
    let refused : c.from_residual.result ≡ Err limit = search rules in
    rw refused
    (TakesAs-as (λ k. going_on (string_begun name u.input) (Collecting (StringText name appends true))) (λ k. string_name_behind u.input appends (name_read u.input)) es c.args.self.now
    c.args.self.now u c.begin_string.new.unread (Err limit) (λ k. ap (λ (read : Option (Option ShortName)). string_name_behind u.input appends read) (sym named))
    (TakesAs-not_became (string_begun name u.input) (Collecting (StringText name appends true)) es c.args.self.now c.args.self.now u c.begin_string.new.unread limit (search rules)))
