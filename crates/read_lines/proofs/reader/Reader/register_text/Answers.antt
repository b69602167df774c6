use Rattle.std.proofs.Common.{◌≡◌, ℕ, List, refl, ap, subst, ◌∙◌}
use Rattle.roff_num.specs.ShortNames.{name_bytes}
use Rattle.read_registers.specs.Lasting.{capped_of}
use Rattle.run_model.specs.Registers.Capped.{Capped}
use Rattle.read_registers.proofs.NumbersKept.{AreNumbersOf-shown}
use Rattle.read_lines.specs.Reader.State.{ReaderState}
use Rattle.run_model.specs.Registers.{Known, text_of_register}
use Rattle.run_model.specs.Run.{known_at}
use Rattle.read_lines.proofs.reader.Reader.register_text.Goals as goal

pub returns : goal.returns
returns c = λ l h stands.
    let u = c.args.unread.now in
    let parts = c.lasting.inside in
    let at : Capped → ReaderState = λ r. record { reading = c.self.inside.reading; registers = r; meaning = c.self.inside.meaning } in
    let kept : ReaderState = at (capped_of parts.registers parts.titles parts.last_macro) in
    let shown : kept ≡ c.args.self.now = ap at c.lasting.view_is ∙ c.self.view_is in
    let k : Known = known_at h kept.registers.all u.input in
    subst (λ (s : ReaderState). c.text.result.items ≡ text_of_register (known_at h s.registers.all u.input) (name_bytes c.args.name)) shown
    (c.text.ensures k (c.facts.ensures l h kept.registers.all stands)
    (AreNumbersOf-shown k parts.registers parts.titles parts.last_macro kept.registers refl refl) ∙ ap (λ (name : List ℕ). text_of_register k name) c.name.ensures)
