use Rattle.run_events.proofs.Performed.{performs_nothing}
use Rattle.run_events.proofs.formatter.Formatter.perform_step.Goals as goal

pub returns-in-Glyph : goal.returns-in-Glyph
returns-in-Glyph g c = rw c.in-Glyph.is (c.glyph_behind.ensures (g.O.ByteSink.sunk c.args.out.now))

pub returns-in-Tab : goal.returns-in-Tab
returns-in-Tab g c = rw c.in-Tab.is c.tab_behind.ensures

pub returns-in-Gap : goal.returns-in-Gap
returns-in-Gap g c = rw c.in-Gap.is c.gap_behind_word.ensures

pub returns-in-Break : goal.returns-in-Break
returns-in-Break g c = rw c.in-Break.is c.break_behind_word.ensures

pub returns-in-LineEnd : goal.returns-in-LineEnd
returns-in-LineEnd g c = rw c.in-LineEnd.is c.end_text_line.ensures

pub returns-in-BlankLine : goal.returns-in-BlankLine
returns-in-BlankLine g c = rw c.in-BlankLine.is c.blank_line.ensures

pub returns-in-Nothing : goal.returns-in-Nothing
returns-in-Nothing g c = rw c.in-Nothing.is (performs_nothing c.args.self.now (g.O.ByteSink.sunk c.args.out.now))

pub returns-in-Meaning : goal.returns-in-Meaning
returns-in-Meaning g c = rw c.in-Meaning.is (performs_nothing c.args.self.now (g.O.ByteSink.sunk c.args.out.now))
