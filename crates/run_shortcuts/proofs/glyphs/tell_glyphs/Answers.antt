use Rattle.std.proofs.Common.{false, ap}
use Rattle.read_lines.specs.Reader.State.{ReaderState}
use Rattle.roff_scan.specs.declared.run_kind.RunKind.TheVariants.{Text}
use Rattle.run_turns.proofs.ComingFurther.{comes_both, comes_none}
use Rattle.run_shortcuts.proofs.PutRegisters.{run-kept}
use Rattle.run_shortcuts.proofs.glyphs.tell_glyphs.Goals as goal

pub loop-left-init : goal.loop-left-init
loop-left-init g c = (λ out err. comes_none _ _ _ _, c.requires)

pub returns-then-not-tell_escape-clause-past : goal.returns-then-not-tell_escape-clause-past
returns-then-not-tell_escape-clause-past g c = λ out err. comes_both false (c.loop-left.invariant.0 out err) (c.tell_escape.ensures.past out err)

pub loop-left-preserved : goal.loop-left-preserved
loop-left-preserved g c = (
  λ out err. comes_both false
      (comes_both false (c.loop-left.invariant.0 out err) (c.tell_escape.ensures.past out err)) (c.tell_front.ensures.past out err),
  run-kept Text c.tell_escape.new.run c.tell_front.new.run (ap (λ (r : ReaderState). r.reading) c.tell_front.ensures.reads) c.tell_front.ensures.half c.tell_escape.ensures.run,
)

pub returns-in_default : goal.returns-in_default
returns-in_default g c = record {
  past = λ out err. comes_both false
      (comes_both false (c.loop-left.invariant.0 out err) (c.tell_escape.ensures.past out err)) (c.tell_front.ensures.past out err);
  run = run-kept Text c.tell_escape.new.run c.tell_front.new.run (ap (λ (r : ReaderState). r.reading) c.tell_front.ensures.reads) c.tell_front.ensures.half c.tell_escape.ensures.run;
}
