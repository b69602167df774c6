use Rattle.std.proofs.Common.{◌≡◌, Ok, ap, rules}
use Rattle.page_bytes.specs.Told.{told_by}
use Rattle.run_shortcuts.specs.declared.passed.Passed.TheVariants.{Line, Not, On}
use Rattle.run_turns.proofs.ComingFurther.{comes_further, comes_kept, comes_none}
use Rattle.run_shortcuts.proofs.PassedOver.{comes_passed_as}
use Rattle.run_shortcuts.proofs.beginnings.tell_behind.Goals as goal

pub returns-then-byte-eq10 : goal.returns-then-byte-eq10
returns-then-byte-eq10 g c = comes_none _ _ _ _

pub returns-in-Ok-Not : goal.returns-in-Ok-Not
returns-in-Ok-Not g c =
    let not_one : c.in-Ok-Not.field-0 ≡ Not = search rules in
    let kept = c.in-Ok-Not.ensures.unchanged (ap Ok not_one) in
    let said = c.in-Ok-Not.ensures.sinks (ap Ok not_one) in
    let out = g.O.ByteSink.sunk c.args.out.now in
    let err = told_by g.E.MessageSink c.args.err.now in
    let past = rw kept.1 at (c.tell_on.ensures out err) in
    let comes = comes_kept kept.0 past in
    rw (said.0, said.1) comes

pub returns-in-Ok-On : goal.returns-in-Ok-On
returns-in-Ok-On g c =
    let is : c.in-Ok-On.field-0 ≡ On = search rules in
    absurd (c.in-Ok-On.ensures.all (ap Ok is))

pub returns-in-Ok-Line : goal.returns-in-Ok-Line
returns-in-Ok-Line g c =
    let is : c.in-Ok-Line.field-0 ≡ Line = search rules in
    comes_further (comes_passed_as (ap Ok is) c.in-Ok-Line.ensures.ends)

pub returns-in-Err : goal.returns-in-Err
returns-in-Err g c = c.in-Err.ensures.ends
