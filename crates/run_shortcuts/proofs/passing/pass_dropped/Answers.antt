use Rattle.std.proofs.Common.{false, ap, sym, subst, ◌∙◌}
use Rattle.read_lines.specs.Reader.State.{ReaderState}
use Rattle.run_model.specs.Reading.Ends.{due}
use Rattle.run_model.specs.Stages.{EndsByNewline}
use Rattle.run_shortcuts.proofs.Turned.{goes_past_turned}
use Rattle.run_turns.proofs.ComingFurther.{comes_both}
use Rattle.run_shortcuts.proofs.passing.pass_dropped.Goals as goal

pub end_dropped-requires-clause-ends : goal.end_dropped-requires-clause-ends
end_dropped-requires-clause-ends g c =
    subst (λ (r : ReaderState). EndsByNewline r.reading) (sym c.take_run.ensures.kept) (c.requires.does.1 c.if-not-within_block.true)

pub end_dropped-requires-clause-none_due : goal.end_dropped-requires-clause-none_due
end_dropped-requires-clause-none_due g c = ap (λ (r : ReaderState). due r.reading) c.take_run.ensures.kept ∙ c.requires.none_due

pub returns-then-not-has_open_escape : goal.returns-then-not-has_open_escape
returns-then-not-has_open_escape g c = λ out err.
    let took = c.take_run.ensures in
    comes_both false
    (goes_past_turned _ _ _ _ _ _ out err c.args.run.now _ _ took.past took.notes took.failures) (c.end_dropped.ensures out err)

pub returns-else-not-within_block : goal.returns-else-not-within_block
returns-else-not-within_block g c = λ out err.
    let took = c.take_run.ensures in
    goes_past_turned _ _ _ _ _ _ out err c.args.run.now _ _ took.past took.notes took.failures
