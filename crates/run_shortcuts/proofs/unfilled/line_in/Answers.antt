use Rattle.run_shortcuts.proofs.LinesAtOnce.{line_in_of}
use Rattle.run_shortcuts.proofs.unfilled.line_in.Goals as goal

pub returns : goal.returns
returns c = line_in_of c.args.front.now c.args.interpreter.now c.line_in_front.result (c.reads_text.ensures c.if-not-reads_text.false) c.line_in_front.ensures
