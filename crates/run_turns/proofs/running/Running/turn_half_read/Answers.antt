use Rattle.std.proofs.Common.{ap, sym, ◌∙◌}
use Rattle.input_escapes.specs.declared.open_escape.Waiting.{Waiting}
use Rattle.run_model.specs.Run.{read_waiting}
use Rattle.run_turns.specs.Running.Turning.{state_at}
use Rattle.run_items.proofs.Sighted.{sees-taking}
use Rattle.run_turns.proofs.Waiting.{waiting_decides}
use Rattle.run_turns.proofs.ComingFurther.{turn_as}
use Rattle.run_turns.proofs.running.Running.turn_half_read.Goals as goal

pub turn_in_front-requires : goal.turn_in_front-requires
turn_in_front-requires g c =
    let old = c.args.self.now in sees-taking old.interpreter.reader.reading old.unread.input (sym c.waiting.ensures ∙ c.in-Takes.is)

pub returns-in-Takes : goal.returns-in-Takes
returns-in-Takes g c =
    let old = c.args.self.now in
    turn_as _ _ old
    (λ tape h ms. ap (λ (w : Waiting). read_waiting old.limits w (state_at tape old h ms)) (sym c.waiting.ensures ∙ c.in-Takes.is)) c.turn_in_front.ensures

pub returns-in-Waits : goal.returns-in-Waits
returns-in-Waits g c =
    let old = c.args.self.now in
    turn_as _ _ old
    (λ tape h ms. ap (λ (w : Waiting). read_waiting old.limits w (state_at tape old h ms)) (sym c.waiting.ensures ∙ c.in-Waits.is)) c.turn_waiting.ensures

pub returns-in-Decides : goal.returns-in-Decides
returns-in-Decides g c = waiting_decides _ c.args.self.now _ _ _ _ _ _ _ (sym c.waiting.ensures ∙ c.in-Decides.is) (c.end_escape.ensures _)
