use Rattle.std.proofs.Common.{◌≡◌, ◌∙◌, ◌<◌, ◌≤◌, length, ap, arith, Ok, Err, rules}
use Rattle.std.proofs.lemmas.List.{length-reverse}
use Rattle.read_lines.specs.Reader.Taken.{TakesAs}
use Rattle.run_model.specs.Reading.Items.{PageUnread, going_on}
use Rattle.run_model.specs.Reading.Calls.{call_unit, holding_call}
use Rattle.run_model.specs.declared.line_state.LineState.TheVariants.{Collecting}
use Rattle.run_model.specs.declared.purpose.Purpose.TheVariants.{Calling}
use Rattle.input_escapes.specs.declared.open_escape.CopyUnit.TheVariants.{Byte}
use Rattle.read_lines.proofs.CalledBodies.{TakesAs-call_full, TakesAs-call_held, TakesAs-call_not_held, TakesAs-call_other, TakesAs-call_quote}
use Rattle.read_lines.proofs.reader.Reader.read_unit_of_call.Goals.{in-Byte-eq34, in_default, then-len-lt-CALL_ARGUMENTS+in_ok-hold, else-len-lt-CALL_ARGUMENTS}
use Rattle.read_lines.proofs.reader.Reader.read_unit_of_call.Goals as goal

pub returns-in_err-hold : goal.returns-in_err-hold
returns-in_err-hold c = λ es.
    let old = c.args.self.now in
    let u = c.args.unread.now in
    let mid = c.match-unit.unread in
    let unit = c.args.unit in
    let name = c.args.name in
    let behind = c.hold.new.self in
    let limit = c.in_err-hold.field-0.0 in
    let refused : c.from_residual.result ≡ Err limit = search rules in
    let count = ap length c.arguments.ensures ∙ length-reverse mid.input.arguments.whole in
    let few : length mid.input.arguments.whole < 9 = omega (arith, count, c.len.ensures) in
    let took = TakesAs-call_not_held unit name es old old mid behind limit few c.in_err-hold.ensures.change in
    rw refused (elim c.match-unit.branch [
      | in-Byte-eq34 w ↦ TakesAs-call_quote unit name es old old u mid behind (Err limit) w.unread-is (search rules) took
      | in_default w ↦ TakesAs-call_other unit name es old old u mid behind (Err limit) (w.unread-is ∙ w.settle.ensures.change) (λ is. search rules) (λ is. search rules) took
    ])

pub returns : goal.returns
returns c = λ es.
    let old = c.args.self.now in
    let u = c.args.unread.now in
    let mid = c.match-unit.unread in
    let unit = c.args.unit in
    let name = c.args.name in
    let read = c.read_on in
    let new = read.new.self in
    let count = ap length c.arguments.ensures ∙ length-reverse mid.input.arguments.whole in
    let behind_line : (behind : PageUnread) → TakesAs (λ k. going_on (holding_call unit mid.input) (Collecting (Calling name))) es old new mid behind (Ok read.result)
    → TakesAs (λ k. call_unit u.input name unit) es old new u behind (Ok read.result) =
    λ behind took. elim c.match-unit.branch [
      | in-Byte-eq34 w ↦ TakesAs-call_quote unit name es old new u mid behind (Ok read.result) w.unread-is (search rules) took
      | in_default w ↦ TakesAs-call_other unit name es old new u mid behind (Ok read.result) (w.unread-is ∙ w.settle.ensures.change) (λ is. search rules) (λ is. search rules) took
    ] in
    elim c.if-len-lt-CALL_ARGUMENTS.branch [
      | then-len-lt-CALL_ARGUMENTS+in_ok-hold w ↦
          let few : length mid.input.arguments.whole < 9 = omega (arith, count, c.len.ensures) in
          rw w.unread-is
          (behind_line w.hold.new.self
          (TakesAs-call_held unit name es old new mid w.hold.new.self read.result w.in_ok-hold.field-0 few w.in_ok-hold.ensures.change
          read.ensures.reading read.ensures.step))
      | else-len-lt-CALL_ARGUMENTS w ↦
          let full : 9 ≤ length mid.input.arguments.whole = omega (arith, count, c.len.ensures) in
          rw w.unread-is
          (behind_line mid (TakesAs-call_full unit name es old new mid read.result full read.ensures.reading read.ensures.step))
    ]

pub returns-in-Byte-eq10 : goal.returns-in-Byte-eq10
returns-in-Byte-eq10 c = λ es.
    let is : c.args.unit ≡ Byte 10 = search rules in
    rw is (c.call_body.ensures es)
