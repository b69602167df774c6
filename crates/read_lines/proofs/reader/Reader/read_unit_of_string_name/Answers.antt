use Rattle.std.proofs.Common.{◌≡◌, rules}
use Rattle.input_escapes.specs.declared.open_escape.CopyUnit.TheVariants.{Byte}
use Rattle.run_model.specs.Reading.Strings.{name_read, string_name_or_text, string_name_unit}
use Rattle.run_model.specs.Reading.Units.{settling}
use Rattle.run_model.specs.declared.line_state.LineState.TheVariants.{Collecting}
use Rattle.run_model.specs.declared.purpose.Purpose.TheVariants.{StringName}
use Rattle.read_lines.proofs.Strings.{string_name_unit-other, string_name_unit-quote}
use Rattle.read_lines.proofs.TakesAs.{TakesAs-as, TakesAs-settled}
use Rattle.read_lines.proofs.reader.Reader.read_unit_of_string_name.Goals as goal

pub returns-in-Byte-eq10 : goal.returns-in-Byte-eq10
returns-in-Byte-eq10 c = λ es. let is : c.args.unit ≡ Byte 10 = search rules in rw is (c.end_string_line.ensures es)

pub returns-in-Byte-eq34 : goal.returns-in-Byte-eq34
returns-in-Byte-eq34 c = λ es.
    let u = c.args.unread.now in
    let done = c.read_name_or_string in
    let is : c.args.unit ≡ Byte 34 = search rules in
    TakesAs-as (λ k. string_name_or_text u.input c.args.appends c.args.unit (name_read u.input)) (λ k. string_name_unit u.input c.args.appends c.args.unit) es
    c.args.self.now done.new.self u done.new.unread done.result (λ k. string_name_unit-quote u.input c.args.appends c.args.unit is) (done.ensures es)

pub returns-in_default : goal.returns-in_default
returns-in_default c = λ es.
    let old = c.args.self.now in
    let u = c.args.unread.now in
    let appends = c.args.appends in
    let unit = c.args.unit in
    let done = c.read_name_or_string-in_default in
    TakesAs-as (λ k. string_name_or_text (settling u.input) appends unit (name_read (settling u.input))) (λ k. string_name_unit u.input appends unit) es old done.new.self u
    done.new.unread done.result (λ k. string_name_unit-other u.input appends unit (λ is. search rules) (λ is. search rules))
    (TakesAs-settled (Collecting (StringName appends)) (λ k i. string_name_or_text i appends unit (name_read i)) es old done.new.self u c.settle.new.self done.new.unread done.result
    c.settle.ensures.change (done.ensures es))
