use Rattle.std.proofs.Common.{◌≡◌, ◌∙◌, sym, ap}
use Rattle.run_events.specs.declared.halt.Halt.{Halt}
use Rattle.run_items.specs.Halting.{line_told}
use Rattle.run_items.proofs.Halted.{line_told-taken}
use Rattle.run_turns.proofs.running.Running.halted.Goals as goal
use Rattle.run_turns.proofs.running.Running.halted.Goals.{in-Refused, in_default}

pub returns : goal.returns
returns g c = λ t left start failures out halts.
    let told : line_told c.args.halt c.args.line_before c.args.line ≡ c.match-halt.told = elim c.match-halt.branch [
      | in-Refused w ↦ ap (λ (h : Halt). line_told h c.args.line_before c.args.line) w.in-Refused.is ∙ sym w.told-is
      | in_default w ↦ line_told-taken c.args.halt c.args.line_before c.args.line w.in_default.not-Refused ∙ sym w.told-is
    ] in
    c.status.ensures t left start failures out (rw (← told) halts)
