use Rattle.std.proofs.Common.{false, ap}
use Rattle.read_lines.specs.Reader.State.{ReaderState}
use Rattle.roff_scan.specs.declared.run_kind.RunKind.TheVariants.{Text}
use Rattle.run_shortcuts.proofs.PutRegisters.{run-kept}
use Rattle.run_turns.proofs.ComingFurther.{comes_both}
use Rattle.run_shortcuts.proofs.glyphs.tell_behind_glyph.Goals as goal

pub tell_glyphs-requires : goal.tell_glyphs-requires
tell_glyphs-requires g c =
    run-kept Text c.args.run.now c.tell_front.new.run (ap (λ (r : ReaderState). r.reading) c.tell_front.ensures.reads) c.tell_front.ensures.half c.requires

pub returns-in-Untold-tell_glyphs-clause-past : goal.returns-in-Untold-tell_glyphs-clause-past
returns-in-Untold-tell_glyphs-clause-past g c = λ out err.
    comes_both false (c.tell_front.ensures.past out err) (c.tell_glyphs.ensures.past out err)

pub returns-in_default : goal.returns-in_default
returns-in_default g c = record {
  past = λ out err. comes_both false (c.tell_front.ensures.past out err) (c.tell_glyphs.ensures.past out err);
  run = c.tell_glyphs.ensures.run;
}
