use Rattle.std.proofs.Common.{false}
use Rattle.run_turns.proofs.ComingFurther.{comes_both}
use Rattle.run_shortcuts.proofs.glyphs.tell_line_behind.Goals as goal

pub returns-in-Untold : goal.returns-in-Untold
returns-in-Untold g c = λ out err. c.tell_glyphs.ensures.past out err

pub returns-in-Other : goal.returns-in-Other
returns-in-Other g c = λ out err. c.tell_glyphs.ensures.past out err

pub returns-in-Escape : goal.returns-in-Escape
returns-in-Escape g c = λ out err. comes_both false (c.tell_glyphs.ensures.past out err) (c.read_escape.ensures out err)

pub read_named-requires : goal.read_named-requires
read_named-requires g c = c.tell_glyphs.ensures.run

pub returns-in-Named : goal.returns-in-Named
returns-in-Named g c = λ out err. comes_both false (c.tell_glyphs.ensures.past out err) (c.read_named.ensures out err)
