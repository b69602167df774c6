use Rattle.std.proofs.Common.{◌≡◌, Ok, Err, false, rules}
use Rattle.input_escapes.specs.declared.open_escape.CopyUnit.TheVariants.{Byte}
use Rattle.run_model.specs.Reading.Items.{going_on}
use Rattle.run_model.specs.Reading.Strings.{string_entered, string_grown, string_unit}
use Rattle.run_model.specs.declared.line_state.LineState.TheVariants.{LineStart, Collecting}
use Rattle.run_model.specs.declared.purpose.Purpose.TheVariants.{StringText}
use Rattle.read_lines.proofs.Strings.{TakesAs-became, TakesAs-not_became, string_unit-grown}
use Rattle.read_lines.proofs.TakesAs.{TakesAs-as}
use Rattle.read_lines.proofs.reader.Reader.read_unit_of_string.Goals.{in_default-via-in-Byte-eq32+else-is_front, in_default-via-in-Byte-eq34+else-is_front-2, in_default-via-in-Byte+in_default, in_default-via-in_default}
use Rattle.read_lines.proofs.reader.Reader.read_unit_of_string.Goals as goal

pub returns-in_ok-grow_string-in_default : goal.returns-in_ok-grow_string-in_default
returns-in_ok-grow_string-in_default c = λ es.
    let u = c.args.unread.now in
    let name = c.args.name in
    let appends = c.args.appends in
    let is_front = c.args.is_front in
    let unit = c.args.unit in
    let done = c.read_on-in_default in
    let grown : going_on (string_grown name unit u.input) (Collecting (StringText name appends false)) ≡ string_unit u.input name appends is_front unit = elim c.in_default.branch [
      | in_default-via-in-Byte-eq32+else-is_front w ↦ string_unit-grown u.input name appends is_front unit (λ is. search rules) (λ is front. search rules) (λ is front. search rules)
      | in_default-via-in-Byte-eq34+else-is_front-2 w ↦ string_unit-grown u.input name appends is_front unit (λ is. search rules) (λ is front. search rules) (λ is front. search rules)
      | in_default-via-in-Byte+in_default w ↦ string_unit-grown u.input name appends is_front unit (λ is. search rules) (λ is front. search rules) (λ is front. search rules)
      | in_default-via-in_default w ↦ string_unit-grown u.input name appends is_front unit (λ is. search rules) (λ is front. search rules) (λ is front. search rules)
    ] in
    TakesAs-as (λ k. going_on (string_grown name unit u.input) (Collecting (StringText name appends false))) (λ k. string_unit u.input name appends is_front unit) es c.args.self.now
    done.new.self u c.grow_string.new.unread (Ok done.result) (λ k. grown)
    (TakesAs-became (string_grown name unit u.input) (Collecting (StringText name appends false)) es c.args.self.now done.new.self u c.grow_string.new.unread done.result
    c.in_ok-grow_string-in_default.field-0 (search rules) (search rules) done.ensures.step)

pub returns-in_err-grow_string-in_default : goal.returns-in_err-grow_string-in_default
returns-in_err-grow_string-in_default c = λ es.
    let u = c.args.unread.now in
    let name = c.args.name in
    let appends = c.args.appends in
    let is_front = c.args.is_front in
    let unit = c.args.unit in
    let limit = c.in_err-grow_string-in_default.field-0.0 in
    let grown : going_on (string_grown name unit u.input) (Collecting (StringText name appends false)) ≡ string_unit u.input name appends is_front unit = elim c.in_default.branch [
      | in_default-via-in-Byte-eq32+else-is_front w ↦ string_unit-grown u.input name appends is_front unit (λ is. search rules) (λ is front. search rules) (λ is front. search rules)
      | in_default-via-in-Byte-eq34+else-is_front-2 w ↦ string_unit-grown u.input name appends is_front unit (λ is. search rules) (λ is front. search rules) (λ is front. search rules)
      | in_default-via-in-Byte+in_default w ↦ string_unit-grown u.input name appends is_front unit (λ is. search rules) (λ is front. search rules) (λ is front. search rules)
      | in_default-via-in_default w ↦ string_unit-grown u.input name appends is_front unit (λ is. search rules) (λ is front. search rules) (λ is front. search rules)
    ] in
    let refused : c.from_residual-in_err-grow_string-in_default.result ≡ Err limit = search rules in
    rw refused
    (TakesAs-as (λ k. going_on (string_grown name unit u.input) (Collecting (StringText name appends false))) (λ k. string_unit u.input name appends is_front unit) es c.args.self.now
    c.args.self.now u c.grow_string.new.unread (Err limit) (λ k. grown)
    (TakesAs-not_became (string_grown name unit u.input) (Collecting (StringText name appends false)) es c.args.self.now c.args.self.now u c.grow_string.new.unread limit (search rules)))

pub returns-in_ok-enter_string-in-Byte-eq10 : goal.returns-in_ok-enter_string-in-Byte-eq10
returns-in_ok-enter_string-in-Byte-eq10 c = λ es.
    let u = c.args.unread.now in
    let is : c.args.unit ≡ Byte 10 = search rules in
    rw is
    (TakesAs-became (string_entered c.args.name c.args.appends u.input) LineStart es c.args.self.now c.read_on.new.self u c.enter_string.new.unread c.read_on.result
    c.in_ok-enter_string-in-Byte-eq10.field-0 c.in_ok-enter_string-in-Byte-eq10.ensures c.read_on.ensures.reading c.read_on.ensures.step)

pub returns-in_err-enter_string-in-Byte-eq10 : goal.returns-in_err-enter_string-in-Byte-eq10
returns-in_err-enter_string-in-Byte-eq10 c = λ es.
    let old = c.args.self.now in
    let u = c.args.unread.now in
    let limit = c.in_err-enter_string-in-Byte-eq10.field-0.0 in
    let is : c.args.unit ≡ Byte 10 = search rules in
    let refused : c.from_residual.result ≡ Err limit = search rules in
    rw (is, refused)
    (TakesAs-not_became (string_entered c.args.name c.args.appends u.input) LineStart es old old u c.enter_string.new.unread limit
    c.in_err-enter_string-in-Byte-eq10.ensures)
