use Rattle.std.proofs.Common.{◌≡◌, ◌∙◌, Ok, ap, rules, subst, sym}
use Rattle.input_escapes.specs.declared.open_escape.CopyUnit.TheVariants.{Byte}
use Rattle.input_escapes.specs.declared.open_escape.Found.{Found}
use Rattle.input_escapes.specs.declared.open_escape.Found.TheVariants.{Unit as OneUnit}
use Rattle.run_model.specs.Events.Steps.{events_of, messages_of}
use Rattle.read_lines.specs.Reader.State.{ReaderState}
use Rattle.read_lines.specs.Reader.Taken.{TakesAs}
use Rattle.run_model.specs.Reading.Items.{meaning_events}
use Rattle.run_model.specs.Reading.TextLines.{motion_taking, name_taking, text_found, text_taking}
use Rattle.run_model.specs.declared.step.Step.{Step}
use Rattle.run_model.specs.declared.line_state.LineState.TheVariants.{Text}
use Rattle.read_lines.proofs.TakesAs.{TakesAs-set}
use Rattle.read_lines.proofs.LinesTaken.{TakesAs-stepped}
use Rattle.read_lines.proofs.TextTaken.{TakesAs-named}
use Rattle.read_lines.proofs.reader.Reader.read_text.Goals as goal

pub returns-in-Unit-Byte : goal.returns-in-Unit-Byte
returns-in-Unit-Byte c =
    let es = c.args.composer.now in
    let old = c.args.self.now in
    let u = c.args.unread.now in
    let line = c.args.line in
    let b = c.in-Unit-Byte.byte in
    let done = c.step_on in
    let taken = c.taking in
    let is : c.args.found ≡ OneUnit (Byte b) = search rules in
    subst (λ (found : Found). TakesAs (λ k. text_found k u.input line found) es old done.new.self u u (Ok done.result)) (sym is)
    (TakesAs-named (λ k. text_taking u.input line b) taken.result.0 es old done.new.self u done.result
    (λ kept k. taken.ensures.means u.input kept ∙ ap (λ (s : Step). meaning_events u.input taken.result.0 (events_of kept s)) (sym done.ensures.step))
    (λ kept. ap (messages_of kept) done.ensures.step ∙ taken.ensures.quiet kept) done.ensures.reading)

pub returns-in-Holds : goal.returns-in-Holds
returns-in-Holds c = rw c.in-Holds.is (c.hold_text.ensures c.args.composer.now)

pub returns-in-Motion : goal.returns-in-Motion
returns-in-Motion c =
    rw c.in-Motion.is
    (TakesAs-stepped (λ i. motion_taking i c.args.line c.in-Motion.columns c.in-Motion.remark) c.motion.result c.args.composer.now c.args.self.now c.step.new.self
    c.args.unread.now c.step.result c.motion.ensures c.step.ensures.now c.step.ensures.says c.step.ensures.events)

pub returns-in-Measures : goal.returns-in-Measures
returns-in-Measures c = rw c.in-Measures.is (c.measure.ensures c.args.composer.now)

pub returns-in-Tells : goal.returns-in-Tells
returns-in-Tells c = rw c.in-Tells.is (c.tell.ensures c.args.composer.now c.args.unread.now)

pub returns-in-Asks : goal.returns-in-Asks
returns-in-Asks c =
    let u = c.args.unread.now in
    let set : ReaderState = record { reading = Text c.args.line; registers = c.self.inside.lasting; meaning = c.self.inside.meaning } in
    rw c.in-Asks.is
    (TakesAs-set (λ k. name_taking k u.input (Text c.args.line) c.args.line c.in-Asks.purpose c.in-Asks.name) c.args.composer.now c.args.self.now set c.read_name.new.self u
    c.read_name.new.unread c.read_name.result (ap (λ (s : ReaderState). s.registers) c.self.view_is) c.read_name.ensures)
