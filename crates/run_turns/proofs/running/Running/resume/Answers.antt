use Rattle.std.proofs.Common.{◌≡◌, true, false, sym, ap, ◌∙◌}
use Rattle.run_model.specs.Reading.Returns.{is_text}
use Rattle.run_turns.proofs.Returning.{goes_back-other, goes_back-text}
use Rattle.run_turns.proofs.running.Running.resume.Goals as goal

pub returns-then-is_text : goal.returns-then-is_text
returns-then-is_text c =
    let so : is_text c.args.self.now.interpreter.reader.reading ≡ true = ap is_text (sym c.reading.ensures) ∙ sym c.is_text.ensures ∙ c.if-is_text.true in
    goes_back-text c.args.self.now c.resume.new.self so c.resume.ensures

pub returns-else-is_text : goal.returns-else-is_text
returns-else-is_text c =
    let so : is_text c.args.self.now.interpreter.reader.reading ≡ false = ap is_text (sym c.reading.ensures) ∙ sym c.is_text.ensures ∙ c.if-is_text.false in
    goes_back-other c.args.self.now so
