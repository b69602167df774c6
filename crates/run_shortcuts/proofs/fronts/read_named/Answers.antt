use Rattle.std.proofs.Common.{false}
use Rattle.roff_scan.specs.declared.run_kind.RunKind.TheVariants.{Text}
use Rattle.run_shortcuts.proofs.PutRegisters.{run-kept}
use Rattle.run_turns.proofs.ComingFurther.{comes_both, comes_further, comes_on}
use Rattle.run_shortcuts.proofs.fronts.read_named.Goals as goal

pub tell_rest-requires : goal.tell_rest-requires
tell_rest-requires g c =
    run-kept Text c.args.run.now c.take_named.new.run c.take_named.ensures.reads c.take_named.ensures.half c.requires

pub returns-then-take_named : goal.returns-then-take_named
returns-then-take_named g c = λ out err.
    comes_on _ _ c.if-take_named.true (c.take_named.ensures.further out err) (c.tell_rest.ensures out err)

pub returns : goal.returns
returns g c = λ out err. comes_both false (comes_further (c.take_named.ensures.further out err)) (c.read_escape.ensures out err)
