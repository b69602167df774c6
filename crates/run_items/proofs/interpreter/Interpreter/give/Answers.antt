use Rattle.std.proofs.Common.{ap, refl, subst, sym, ◌≡◌}
use Rattle.roff_num.specs.declared.limits.Limits.{Limits}
use Rattle.run_state.specs.Composer.Standing.{StandFor}
use Rattle.run_model.specs.Output.{PageHistory}
use Rattle.run_model.specs.Starts.{history_given}
use Rattle.run_items.specs.declared.interpreter.Interpreter.{Interpreter}
use Rattle.run_items.proofs.NumberedPages.{Gives-both, StandFor-other, StandFor-page}
use Rattle.run_items.proofs.interpreter.Interpreter.give.Goals as goal
use Rattle.run_items.proofs.interpreter.Interpreter.give.Goals.{then-name-eq37, else-name-eq37}

pub returns : goal.returns
returns c =
    let old = c.args.self.now in
    let mid = c.if-name-eq37.self in
    let stands : (l : Limits) (h : PageHistory) → StandFor l h old.formatter.composer → StandFor l (history_given (c.args.name, c.args.value) h) mid.formatter.composer =
    elim c.if-name-eq37.branch [
      | then-name-eq37 w ↦ λ l h stood. subst (λ (f : Interpreter). StandFor l (history_given (c.args.name, c.args.value) h) f.formatter.composer) (sym w.self-is)
          (StandFor-page c.args.name c.args.value old.formatter.composer (record old.formatter.composer { pages = w.set_number.new.self }) w.if-name-eq37.true refl w.set_number.ensures l h stood)
      | else-name-eq37 w ↦ λ l h stood. subst (λ (f : Interpreter). StandFor l (history_given (c.args.name, c.args.value) h) f.formatter.composer) (sym w.self-is)
          (StandFor-other c.args.name c.args.value old.formatter.composer w.if-name-eq37.false l h stood)
    ] in
    let same : mid.reader ≡ old.reader =
    elim c.if-name-eq37.branch [ then-name-eq37 w ↦ ap (λ (f : Interpreter). f.reader) w.self-is | else-name-eq37 w ↦ ap (λ (f : Interpreter). f.reader) w.self-is ] in
    Gives-both c.args.name c.args.value old mid c.give.new.self c.give.result same stands c.give.ensures.answer c.give.ensures.registers
