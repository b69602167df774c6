use Rattle.std.proofs.Common.{sym, ◌∙◌}
use Rattle.run_turns.proofs.ComingFurther.{comes_none}
use Rattle.run_shortcuts.proofs.GlyphsTold.{is_run-silent}
use Rattle.run_shortcuts.proofs.Turned.{goes_past_turned}
use Rattle.run_shortcuts.proofs.glyphs.pass_silent.Goals as goal

pub returns-then-not-is_behind_glyph-clause-past : goal.returns-then-not-is_behind_glyph-clause-past
returns-then-not-is_behind_glyph-clause-past g c = λ out err. comes_none _ _ _ _

pub take_silent_escape-requires : goal.take_silent_escape-requires
take_silent_escape-requires g c = c.requires.half_read

pub returns-clause-past : goal.returns-clause-past
returns-clause-past g c = λ out err.
    let took = c.take_silent_escape.ensures in
    goes_past_turned _ _ _ _ _ _ out err c.args.run.now _ _ took.past took.notes took.failures

pub returns-clause-run : goal.returns-clause-run
returns-clause-run g c =
    is_run-silent c.take_silent_escape.result c.args.run.now.interpreter.reader.reading _ _ (sym c.is_behind_glyph.ensures ∙ c.if-not-is_behind_glyph.false)
    c.take_silent_escape.ensures.reads c.take_silent_escape.ensures.half
