use Rattle.std.proofs.Common.{◌≡◌, Option, ap, sym, ◌∙◌, is_some}
use Rattle.run_model.specs.Environments.{interrupted_line}
use Rattle.run_model.specs.Reading.Ends.{is_left}
use Rattle.run_model.specs.Run.{known_at}
use Rattle.run_model.specs.declared.line_state.TextLine.{TextLine}
use Rattle.run_model.specs.declared.phase.Phase.{Phase}
use Rattle.run_items.proofs.interpreter.Interpreter.is_unfinished.Goals as goal
use Rattle.run_items.proofs.interpreter.Interpreter.is_unfinished.Goals.{in-Reading, in-LastMacro, in-Closing}

pub returns : goal.returns
returns c = λ l h rs i stood.
    let left : is_left c.args.phase (interrupted_line h) ≡ c.match-phase.left = elim c.match-phase.branch [
      | in-Reading w ↦
          ap (λ (p : Phase). is_left p (interrupted_line h)) w.in-Reading.is
          ∙ ap (λ (line : Option TextLine). is_some line) (sym (w.interrupted_line.ensures l h stood.environments)) ∙ sym w.is_some-left.ensures ∙ sym w.left-is
      | in-LastMacro w ↦
          ap (λ (p : Phase). is_left p (interrupted_line h)) w.in-LastMacro.is
          ∙ ap (λ (line : Option TextLine). is_some line) (sym (w.interrupted_line-in-LastMacro.ensures l h stood.environments)) ∙ sym w.is_some-left-in-LastMacro.ensures ∙ sym w.left-is
      | in-Closing w ↦ ap (λ (p : Phase). is_left p (interrupted_line h)) w.in-Closing.is ∙ sym w.left-is
    ] in
    c.is_unfinished.ensures c.args.phase (known_at h rs i) left
