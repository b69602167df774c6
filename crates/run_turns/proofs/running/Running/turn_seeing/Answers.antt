use Rattle.std.proofs.Common.{Some, arith, refl, sym, ◌∙◌}
use Rattle.input_model.specs.Shown.{SeesByte}
use Rattle.run_turns.proofs.Waiting.{sees-look, waiting_ends, waiting_in_front}
use Rattle.run_turns.proofs.running.Running.turn_seeing.Goals as goal

pub returns-then-is_ended_by : goal.returns-then-is_ended_by
returns-then-is_ended_by g c =
    let byte = c.args.byte in
    waiting_ends c.args.self.now _ _ _ _ _ _ (omega arith) (omega arith) (Some byte) (SeesByte byte) c.end_escape.new.self _ _ refl c.requires
    (sym c.is_ended_by.ensures ∙ c.if-is_ended_by.true) (c.end_escape.ensures _)

pub turn_above-requires : goal.turn_above-requires
turn_above-requires g c = sees-look c.args.self.now c.requires (Some c.args.byte) refl (sym c.is_ended_by.ensures ∙ c.if-is_ended_by.false)

pub returns : goal.returns
returns g c =
    waiting_in_front c.args.self.now c.requires (Some c.args.byte) refl (sym c.is_ended_by.ensures ∙ c.if-is_ended_by.false) _ _ _ _ _ _ _ c.turn_above.new.self _ _
    (omega arith) (omega arith) c.turn_above.ensures
