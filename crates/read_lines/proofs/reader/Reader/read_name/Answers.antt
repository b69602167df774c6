use Rattle.run_model.specs.Reading.TextLines.{character_taking, left_out_taking, other_taking}
use Rattle.read_lines.proofs.LinesTaken.{TakesAs-stepped}
use Rattle.read_lines.proofs.reader.Reader.read_name.Goals as goal

pub returns-in-Character : goal.returns-in-Character
returns-in-Character c =
    rw c.in-Character.is
    (TakesAs-stepped (λ i. character_taking i c.args.line c.args.name) c.character.result c.args.composer.now c.args.self.now c.step.new.self c.args.unread.now c.step.result
    c.character.ensures c.step.ensures.now c.step.ensures.says c.step.ensures.events)

pub returns-in-Font : goal.returns-in-Font
returns-in-Font c =
    rw c.in-Font.is
    (TakesAs-stepped (λ i. other_taking i c.args.line) c.other.result c.args.composer.now c.args.self.now c.step-in-Font.new.self c.args.unread.now c.step-in-Font.result
    c.other.ensures c.step-in-Font.ensures.now c.step-in-Font.ensures.says c.step-in-Font.ensures.events)

pub returns-in-LeftOut : goal.returns-in-LeftOut
returns-in-LeftOut c =
    rw c.in-LeftOut.is
    (TakesAs-stepped (λ i. left_out_taking i c.args.line c.in-LeftOut.byte) c.left_out.result c.args.composer.now c.args.self.now c.step-in-LeftOut.new.self c.args.unread.now c.step-in-LeftOut.result
    c.left_out.ensures c.step-in-LeftOut.ensures.now c.step-in-LeftOut.ensures.says c.step-in-LeftOut.ensures.events)

pub returns-in-Register : goal.returns-in-Register
returns-in-Register c = rw c.in-Register.is (rw c.in-Register.is at c.ask.ensures)

pub returns-in-Text : goal.returns-in-Text
returns-in-Text c = rw c.in-Text.is (rw c.in-Text.is at c.ask-in-Text.ensures)

pub returns-in-Argument : goal.returns-in-Argument
returns-in-Argument c = rw c.in-Argument.is (rw c.in-Argument.is at c.ask-in-Argument.ensures)
