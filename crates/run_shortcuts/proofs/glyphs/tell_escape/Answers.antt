use Rattle.std.proofs.Common.{false, ap}
use Rattle.read_lines.specs.Reader.State.{ReaderState}
use Rattle.roff_scan.specs.declared.run_kind.RunKind.TheVariants.{Text}
use Rattle.run_turns.proofs.ComingFurther.{comes_both}
use Rattle.run_shortcuts.proofs.PutRegisters.{run-kept}
use Rattle.run_shortcuts.proofs.glyphs.tell_escape.Goals as goal

pub returns-then-tell_glyph-clause-run : goal.returns-then-tell_glyph-clause-run
returns-then-tell_glyph-clause-run g c =
    run-kept Text c.args.run.now c.tell_glyph.new.run (ap (λ (r : ReaderState). r.reading) c.tell_glyph.ensures.reads) c.tell_glyph.ensures.half c.requires

pub pass_silent-requires : goal.pass_silent-requires
pass_silent-requires g c =
    run-kept Text c.args.run.now c.tell_glyph.new.run (ap (λ (r : ReaderState). r.reading) c.tell_glyph.ensures.reads) c.tell_glyph.ensures.half c.requires

pub returns-clause-past : goal.returns-clause-past
returns-clause-past g c = λ out err. comes_both false (c.tell_glyph.ensures.past out err) (c.pass_silent.ensures.past out err)
