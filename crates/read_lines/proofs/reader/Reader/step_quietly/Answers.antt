use Rattle.std.proofs.Common.{◌≡◌, ℕ, List, ap, refl, subst, ◌∙◌}
use Rattle.roff_num.specs.ShortNames.{name_bytes}
use Rattle.read_registers.specs.Lasting.{capped_of}
use Rattle.run_model.specs.Registers.Capped.{Capped}
use Rattle.read_lines.specs.Reader.State.{ReaderState}
use Rattle.read_lines.specs.Reader.Stepping.{StepsReader}
use Rattle.read_lines.proofs.reader.Reader.step_quietly.Goals as goal

pub returns-clause-steps : goal.returns-clause-steps
returns-clause-steps c = λ did.
    let parts = c.lasting.inside in
    let at : Capped → ReaderState = λ r. record { reading = c.self.inside.reading; registers = r; meaning = c.self.inside.meaning } in
    let kept : ReaderState = at (capped_of parts.registers parts.titles parts.last_macro) in
    let shown : kept ≡ c.args.self.now = ap at c.lasting.view_is ∙ c.self.view_is in
    let new : ReaderState = at (capped_of c.step_quietly.new.self parts.titles parts.last_macro) in
    subst (λ (s : ReaderState). StepsReader c.args.direction (name_bytes c.args.name) s new) shown
    (subst (λ (name : List ℕ). StepsReader c.args.direction name kept new) c.name.ensures
    (record { registers = c.step_quietly.ensures.steps did parts.titles parts.last_macro; others = refl }))
