use Rattle.std.proofs.Common.{Bool, ap, ◌∙◌, if◌then◌else◌}
use Rattle.input_escapes.specs.declared.open_escape.Waiting.{Waiting}
use Rattle.input_escapes.specs.declared.open_escape.Waiting.TheVariants.{Takes, Waits}
use Rattle.run_model.specs.Run.{read_waiting}
use Rattle.run_turns.specs.Running.Turning.{state_at}
use Rattle.run_items.proofs.Sighted.{sees-alone}
use Rattle.run_turns.proofs.ComingFurther.{turn_as}
use Rattle.run_turns.proofs.running.Running.turn_line.Goals as goal

pub turn_item-requires : goal.turn_item-requires
turn_item-requires g c = sees-alone c.args.self.now.unread.input c.requires.none_half

pub returns-then-waits_alone : goal.returns-then-waits_alone
returns-then-waits_alone g c =
    let old = c.args.self.now in
    turn_as _ _ old
    (λ tape h ms.
    ap (λ (w : Waiting). read_waiting old.limits w (state_at tape old h ms))
    (c.waits_alone.ensures ∙ ap (λ (b : Bool). if b then Waits else Takes) c.if-waits_alone.true))
    c.turn_looking.ensures

pub returns-else-waits_alone : goal.returns-else-waits_alone
returns-else-waits_alone g c =
    let old = c.args.self.now in
    turn_as _ _ old
    (λ tape h ms.
    ap (λ (w : Waiting). read_waiting old.limits w (state_at tape old h ms))
    (c.waits_alone.ensures ∙ ap (λ (b : Bool). if b then Waits else Takes) c.if-waits_alone.false))
    c.turn_item.ensures
