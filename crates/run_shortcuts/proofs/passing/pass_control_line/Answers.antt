use Rattle.std.proofs.Common.{false, subst, sym, ap, ◌∙◌}
use Rattle.read_shortcuts.specs.ControlFronts.{BeginsControl, TakesAtBeginning}
use Rattle.run_model.specs.Reading.Ends.{due}
use Rattle.run_turns.specs.declared.running.Running.{Running as Coded}
use Rattle.run_turns.proofs.ComingFurther.{comes_both}
use Rattle.page_bytes.specs.Told.{told_by}
use Rattle.run_shortcuts.proofs.passing.pass_control_line.Goals as goal

pub pass_control_front-requires-clause-begins : goal.pass_control_front-requires-clause-begins
pass_control_front-requires-clause-begins g c =
    subst (λ (run : Coded). BeginsControl run.interpreter.reader.reading) (sym c.take_branch_blanks.ensures.others) c.requires.begins

pub pass_control_front-requires-clause-none_due : goal.pass_control_front-requires-clause-none_due
pass_control_front-requires-clause-none_due g c =
    ap (λ (run : Coded). due run.interpreter.reader.reading) c.take_branch_blanks.ensures.others ∙ c.requires.none_due

pub pass_control_front-requires-clause-takes : goal.pass_control_front-requires-clause-takes
pass_control_front-requires-clause-takes g c =
    subst (λ (run : Coded). TakesAtBeginning run.interpreter.reader.reading) (sym c.take_branch_blanks.ensures.others) c.requires.takes

pub returns : goal.returns
returns g c =
    let out = g.O.ByteSink.sunk c.args.out.now in
    let err = told_by g.E.MessageSink c.args.err.now in
    comes_both false (c.take_branch_blanks.ensures.past out err) c.pass_control_front.ensures
