use Rattle.std.proofs.Common.{◌≡◌, ap, rules, subst, sym}
use Rattle.input_escapes.specs.declared.open_escape.CopyUnit.TheVariants.{Byte, Kept}
use Rattle.input_escapes.specs.declared.open_escape.Found.{Found}
use Rattle.input_escapes.specs.declared.open_escape.Found.TheVariants.{Unit as OneUnit}
use Rattle.read_lines.specs.Reader.State.{ReaderState}
use Rattle.read_lines.specs.Reader.Taken.{TakesAs}
use Rattle.run_model.specs.Reading.Titles.{title_found, title_name}
use Rattle.run_model.specs.declared.line_state.LineState.TheVariants.{Title as InTitle}
use Rattle.read_lines.proofs.TakesAs.{TakesAs-set}
use Rattle.read_steps.proofs.titles.read_title.Goals as goal

pub returns-in-Unit-Byte : goal.returns-in-Unit-Byte
returns-in-Unit-Byte c =
    let u = c.args.unread.now in
    let done = c.read_byte_of_title in
    let is : c.args.found ≡ OneUnit (Byte c.in-Unit-Byte.byte) = search rules in
    subst (λ (found : Found). TakesAs (λ k. title_found k u.input c.args.delimiter found) c.args.composer.now c.args.reader.now done.new.reader u done.new.unread done.result) (sym is)
    done.ensures

pub returns-in-Unit-Kept : goal.returns-in-Unit-Kept
returns-in-Unit-Kept c =
    let u = c.args.unread.now in
    let done = c.read_escape_of_title in
    let is : c.args.found ≡ OneUnit (Kept c.in-Unit-Kept.byte) = search rules in
    subst (λ (found : Found). TakesAs (λ k. title_found k u.input c.args.delimiter found) c.args.composer.now c.args.reader.now done.new.reader u u done.result) (sym is)
    (done.ensures c.args.composer.now u)

pub returns-in-Escape : goal.returns-in-Escape
returns-in-Escape c = rw c.in-Escape.is (c.read_escape_of_title-in-Escape.ensures c.args.composer.now c.args.unread.now)

pub returns-in-Holds : goal.returns-in-Holds
returns-in-Holds c = rw c.in-Holds.is (c.hold_text.ensures c.args.composer.now)

pub returns-in-Motion : goal.returns-in-Motion
returns-in-Motion c = rw c.in-Motion.is (c.read_motion_of_title.ensures c.args.composer.now c.args.unread.now)

pub returns-in-Measures : goal.returns-in-Measures
returns-in-Measures c = rw c.in-Measures.is (c.measure.ensures c.args.composer.now)

pub returns-in-Tells : goal.returns-in-Tells
returns-in-Tells c = rw c.in-Tells.is (c.tell.ensures c.args.composer.now c.args.unread.now)

pub returns-in-Asks : goal.returns-in-Asks
returns-in-Asks c =
    let u = c.args.unread.now in
    let done = c.read_name_of_title in
    let set : ReaderState = record { reading = InTitle c.args.delimiter; registers = c.reader.inside.lasting; meaning = c.reader.inside.meaning } in
    rw c.in-Asks.is
    (TakesAs-set (λ k. title_name k u.input c.args.delimiter c.in-Asks.purpose c.in-Asks.name) c.args.composer.now c.args.reader.now set done.new.reader u
    done.new.unread done.result (ap (λ (s : ReaderState). s.registers) c.reader.view_is) done.ensures)
