use Rattle.std.proofs.Common.{false, ap, arith}
use Rattle.read_lines.specs.Reader.State.{ReaderState}
use Rattle.roff_scan.specs.declared.run_kind.RunKind.TheVariants.{Text}
use Rattle.run_shortcuts.proofs.PutRegisters.{run-kept}
use Rattle.run_turns.proofs.ComingFurther.{comes_both, comes_further}
use Rattle.run_shortcuts.proofs.stepping.tell_other.Goals as goal

pub tell_stepped-requires : goal.tell_stepped-requires
tell_stepped-requires g c =
    run-kept Text c.args.run.now c.tell_string.new.run (ap (λ (r : ReaderState). r.reading) c.tell_string.ensures.reads) c.tell_string.ensures.half c.requires

pub returns-clause-further : goal.returns-clause-further
returns-clause-further g c = λ out err. comes_both false (comes_further (c.tell_string.ensures.further out err)) (c.tell_stepped.ensures.further out err)

pub returns-clause-more : goal.returns-clause-more
returns-clause-more g c =
    let told = c.tell_string.ensures.more in
    let stepped = c.tell_stepped.ensures.more in
    omega (arith, told, stepped)
