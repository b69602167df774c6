use Rattle.std.proofs.Common.{◌≡◌, ℕ, ◌+◌, ◌<◌, ◌≤◌, true, Some, None, Ok, Err, rules, sym, subst, ap}
use Rattle.input_model.specs.Input.Names.{stored}
use Rattle.roff_num.specs.declared.limit.Limit.TheVariants.{Store}
use Rattle.run_model.specs.Reading.Strings.{name_read, string_begun, string_name_behind, string_name_or_text, string_unit}
use Rattle.run_model.specs.Reading.Units.{holding}
use Rattle.read_names.proofs.InputsChanged.{InputCameTo-changing}
use Rattle.read_lines.proofs.Strings.{TakesAs-elsewhere}
use Rattle.read_lines.proofs.StringRefusals.{TakesAs-no_room, TakesAs-not_begun, TakesAs-not_held}
use Rattle.read_lines.proofs.TakesAs.{TakesAs-as}
use Rattle.read_lines.proofs.reader.Reader.read_name_or_string.Goals as goal

pub returns-in_err-begin_string-in-Some : goal.returns-in_err-begin_string-in-Some
returns-in_err-begin_string-in-Some c = λ es.
    let u = c.args.unread.now in
    let name = c.in-Some.name in
    let found : name_read u.input ≡ Some name = search rules in
    let refused : c.from_residual.result ≡ Err c.in_err-begin_string-in-Some.field-0.0 = search rules in
    rw refused
    (TakesAs-as (λ k. string_unit (string_begun name u.input) name c.args.appends true c.args.unit)
    (λ k. string_name_or_text u.input c.args.appends c.args.unit (name_read u.input)) es c.args.self.now c.args.self.now u
    c.begin_string.new.unread (Err c.in_err-begin_string-in-Some.field-0.0)
    (λ k. ap (string_name_or_text u.input c.args.appends c.args.unit) (sym found))
    (TakesAs-not_begun name c.args.appends c.args.unit es c.args.self.now c.args.self.now u c.begin_string.new.unread
    c.in_err-begin_string-in-Some.field-0.0 c.requires.line_goes_on
    (subst (λ (n : ℕ). stored u.input + n ≤ u.limits.store) c.first_bytes.ensures (c.is_store_full.ensures.room c.if-is_store_full.false)) c.in_err-begin_string-in-Some.ensures))

pub returns-then-is_store_full : goal.returns-then-is_store_full
returns-then-is_store_full c = λ es.
    let u = c.args.unread.now in
    let name = c.in-Some.name in
    let found : name_read u.input ≡ Some name = search rules in
    TakesAs-as (λ k. string_unit (string_begun name u.input) name c.args.appends true c.args.unit)
    (λ k. string_name_or_text u.input c.args.appends c.args.unit (name_read u.input)) es c.args.self.now c.args.self.now u u (Err Store)
    (λ k. ap (string_name_or_text u.input c.args.appends c.args.unit) (sym found))
    (TakesAs-no_room name c.args.appends c.args.unit es c.args.self.now c.args.self.now u u c.requires.line_goes_on c.stays_within.ensures.stored
    (subst (λ (n : ℕ). u.limits.store < stored u.input + n) c.first_bytes.ensures (c.is_store_full.ensures.full c.if-is_store_full.true)))

pub returns-in_err-hold-in-None : goal.returns-in_err-hold-in-None
returns-in_err-hold-in-None c = λ es.
    let u = c.args.unread.now in
    let unit = c.args.unit in
    let none : name_read u.input ≡ None = search rules in
    let refused : c.from_residual-in_err-hold-in-None.result ≡ Err c.in_err-hold-in-None.field-0.0 = search rules in
    rw refused
    (TakesAs-as (λ k. string_name_behind (holding unit u.input) c.args.appends (name_read (holding unit u.input)))
    (λ k. string_name_or_text u.input c.args.appends unit (name_read u.input)) es c.args.self.now c.args.self.now u
    c.hold.new.self (Err c.in_err-hold-in-None.field-0.0) (λ k. ap (string_name_or_text u.input c.args.appends unit) (sym none))
    (TakesAs-not_held c.args.appends unit es c.args.self.now c.args.self.now u c.hold.new.self c.in_err-hold-in-None.field-0.0 c.requires.apart none
    (InputCameTo-changing (holding unit u.input) u c.hold.new.self (Err c.in_err-hold-in-None.field-0.0) c.in_err-hold-in-None.ensures.change)))

pub returns-in_ok-begin_string-in-Some : goal.returns-in_ok-begin_string-in-Some
returns-in_ok-begin_string-in-Some c = λ es.
    let u = c.args.unread.now in
    let name = c.in-Some.name in
    let done = c.read_unit_of_string in
    let became = c.in_ok-begin_string-in-Some.ensures in
    let found : name_read u.input ≡ Some name = search rules in
    TakesAs-as (λ k. string_unit (string_begun name u.input) name c.args.appends true c.args.unit)
    (λ k. string_name_or_text u.input c.args.appends c.args.unit (name_read u.input)) es c.args.self.now done.new.self u done.new.unread done.result
    (λ k. ap (string_name_or_text u.input c.args.appends c.args.unit) (sym found))
    (TakesAs-elsewhere (λ i. string_unit i name c.args.appends true c.args.unit) (string_begun name u.input) es c.args.self.now done.new.self u
    c.begin_string.new.unread done.new.unread c.in_ok-begin_string-in-Some.field-0 done.result became (done.ensures es))

pub returns-in_ok-hold-in-None : goal.returns-in_ok-hold-in-None
returns-in_ok-hold-in-None c = λ es.
    let u = c.args.unread.now in
    let unit = c.args.unit in
    let done = c.begin_text_if_named in
    let held = InputCameTo-changing (holding unit u.input) u c.hold.new.self (Ok c.in_ok-hold-in-None.field-0) c.in_ok-hold-in-None.ensures.change in
    let none : name_read u.input ≡ None = search rules in
    TakesAs-as (λ k. string_name_behind (holding unit u.input) c.args.appends (name_read (holding unit u.input)))
    (λ k. string_name_or_text u.input c.args.appends unit (name_read u.input)) es c.args.self.now done.new.self u done.new.unread done.result
    (λ k. ap (string_name_or_text u.input c.args.appends unit) (sym none))
    (TakesAs-elsewhere (λ i. string_name_behind i c.args.appends (name_read i)) (holding unit u.input) es c.args.self.now done.new.self u
    c.hold.new.self done.new.unread c.in_ok-hold-in-None.field-0 done.result held (done.ensures es))
