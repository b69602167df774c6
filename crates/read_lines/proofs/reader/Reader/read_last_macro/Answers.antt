use Rattle.std.proofs.Common.{◌≡◌, Option, Ok, ap, refl, subst, sym, ◌∙◌}
use Rattle.read_registers.specs.Lasting.{capped_of}
use Rattle.run_model.specs.Registers.Capped.{Capped}
use Rattle.read_lines.specs.Reader.State.{ReaderState}
use Rattle.roff_num.specs.declared.short_name.ShortName.{ShortName}
use Rattle.read_lines.specs.Reader.Taken.{TakesAs}
use Rattle.run_model.specs.Reading.Calls.{last_called}
use Rattle.run_model.specs.Reading.Items.{going_on}
use Rattle.run_model.specs.declared.line_state.LineState.TheVariants.{LineStart}
use Rattle.read_lines.proofs.LinesTaken.{TakesAs-meant}
use Rattle.read_lines.proofs.reader.Reader.read_last_macro.Goals as goal

pub returns-in-None : goal.returns-in-None
returns-in-None c = λ es.
    let old = c.args.self.now in
    let parts = c.lasting.inside in
    let at : Capped → ReaderState = λ r. record { reading = c.self.inside.reading; registers = r; meaning = c.self.inside.meaning } in
    let kept : ReaderState = at (capped_of parts.registers parts.titles parts.last_macro) in
    let shown : kept ≡ c.args.self.now = ap at c.lasting.view_is ∙ c.self.view_is in
    let u = c.args.unread.now in
    let new = c.read_on.new.self in
    subst (λ (name : Option ShortName). TakesAs (λ k. going_on (last_called name u.input) LineStart) es old new u u (Ok c.read_on.result))
    (sym c.in-None.is ∙ ap (λ (s : ReaderState). s.registers.all.last_macro) shown)
    (TakesAs-meant (λ k. going_on u.input LineStart) LineStart es old new u c.read_on.result (λ k. refl) c.read_on.ensures.reading c.read_on.ensures.step)

pub returns-in-Some : goal.returns-in-Some
returns-in-Some c = λ es.
    let old = c.args.self.now in
    let parts = c.lasting.inside in
    let at : Capped → ReaderState = λ r. record { reading = c.self.inside.reading; registers = r; meaning = c.self.inside.meaning } in
    let kept : ReaderState = at (capped_of parts.registers parts.titles parts.last_macro) in
    let shown : kept ≡ c.args.self.now = ap at c.lasting.view_is ∙ c.self.view_is in
    let u = c.args.unread.now in
    let done = c.read_last in
    subst (λ (name : Option ShortName). TakesAs (λ k. going_on (last_called name u.input) LineStart) es old done.new.self u done.new.unread done.result)
    (sym c.in-Some.is ∙ ap (λ (s : ReaderState). s.registers.all.last_macro) shown)
    (done.ensures es)
