use Rattle.std.proofs.Common.{false, ap}
use Rattle.read_lines.specs.Reader.State.{ReaderState}
use Rattle.roff_scan.specs.declared.run_kind.RunKind.TheVariants.{Text}
use Rattle.run_shortcuts.proofs.PutRegisters.{run-kept}
use Rattle.run_turns.proofs.ComingFurther.{comes_both, comes_further}
use Rattle.run_shortcuts.proofs.fronts.tell_text.Goals as goal

pub returns-in-Untold : goal.returns-in-Untold
returns-in-Untold g c = c.tell_front.ensures.past

pub returns-in-Other : goal.returns-in-Other
returns-in-Other g c = c.tell_front.ensures.past

pub returns-in-Escape : goal.returns-in-Escape
returns-in-Escape g c = λ out err. comes_both false (c.tell_front.ensures.past out err) (c.tell_text_behind.ensures out err)

pub tell_text_behind-requires : goal.tell_text_behind-requires
tell_text_behind-requires g c =
    run-kept Text c.args.run.now c.tell_front.new.run (ap (λ (r : ReaderState). r.reading) c.tell_front.ensures.reads) c.tell_front.ensures.half c.requires

pub read_named-requires : goal.read_named-requires
read_named-requires g c =
    run-kept Text c.args.run.now c.tell_front.new.run (ap (λ (r : ReaderState). r.reading) c.tell_front.ensures.reads) c.tell_front.ensures.half c.requires

pub returns-in-Named : goal.returns-in-Named
returns-in-Named g c = λ out err. comes_both false (c.tell_front.ensures.past out err) (comes_further (c.read_named.ensures out err))
