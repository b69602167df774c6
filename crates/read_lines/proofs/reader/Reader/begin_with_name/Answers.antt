use Rattle.run_model.specs.Reading.TextLines.{character_taking, left_out_taking, other_taking}
use Rattle.read_lines.proofs.LinesTaken.{TakesAs-begun}
use Rattle.read_lines.proofs.reader.Reader.begin_with_name.Goals as goal

pub returns-in-Character : goal.returns-in-Character
returns-in-Character c =
    let done = c.begin_text in
    rw c.in-Character.is
    (TakesAs-begun (λ i line. character_taking i line c.args.name) c.character.result c.interrupted_line-interrupted.result c.begun_as-line.result c.args.composer.now c.args.self.now
    done.new.self c.args.unread.now done.result (λ l h stands. c.interrupted_line-interrupted.ensures l h stands.environments) c.begun_as-line.ensures c.character.ensures done.ensures.now
    done.ensures.says done.ensures.events)

pub returns-in-Font : goal.returns-in-Font
returns-in-Font c =
    let done = c.begin_text-in-Font in
    rw c.in-Font.is
    (TakesAs-begun (λ i line. other_taking i line) c.other.result c.interrupted_line-interrupted.result c.begun_as-line.result c.args.composer.now c.args.self.now
    done.new.self c.args.unread.now done.result (λ l h stands. c.interrupted_line-interrupted.ensures l h stands.environments) c.begun_as-line.ensures c.other.ensures done.ensures.now
    done.ensures.says done.ensures.events)

pub returns-in-LeftOut : goal.returns-in-LeftOut
returns-in-LeftOut c =
    let done = c.begin_text-in-LeftOut in
    rw c.in-LeftOut.is
    (TakesAs-begun (λ i line. left_out_taking i line c.in-LeftOut.byte) c.left_out.result c.interrupted_line-interrupted.result c.begun_as-line.result c.args.composer.now c.args.self.now
    done.new.self c.args.unread.now done.result (λ l h stands. c.interrupted_line-interrupted.ensures l h stands.environments) c.begun_as-line.ensures c.left_out.ensures done.ensures.now
    done.ensures.says done.ensures.events)

pub returns-in-Register : goal.returns-in-Register
returns-in-Register c = rw c.in-Register.is (rw c.in-Register.is at c.ask.ensures)

pub returns-in-Text : goal.returns-in-Text
returns-in-Text c = rw c.in-Text.is (rw c.in-Text.is at c.ask-in-Text.ensures)

pub returns-in-Argument : goal.returns-in-Argument
returns-in-Argument c = rw c.in-Argument.is (rw c.in-Argument.is at c.ask-in-Argument.ensures)
