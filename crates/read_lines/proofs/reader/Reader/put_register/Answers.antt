use Rattle.std.proofs.Common.{◌≡◌, None, Ok, Err, ap, refl, rules, subst, ◌∙◌}
use Rattle.read_registers.specs.Registers.Coded.{AreNumbersOf}
use Rattle.read_registers.specs.Lasting.{capped_of}
use Rattle.run_model.specs.Registers.Capped.{Capped}
use Rattle.read_registers.proofs.NumbersKept.{AreNumbersOf-shown}
use Rattle.read_lines.specs.Reader.State.{ReaderState}
use Rattle.read_lines.specs.Reader.Taken.{TakesAs}
use Rattle.run_model.specs.Reading.Escapes.{interpolating}
use Rattle.run_model.specs.Environments.{PageHistory}
use Rattle.run_model.specs.Run.{known_at}
use Rattle.run_model.specs.declared.step.Step.TheVariants.{Nothing}
use Rattle.read_lines.proofs.TakesAs.{KnowsText, TakesAs-interpolated, TakesAs-not_interpolated}
use Rattle.read_lines.proofs.reader.Reader.put_register.Goals as goal

pub returns-in_err-push : goal.returns-in_err-push
returns-in_err-push c =
    let u = c.args.unread.now in
    let name = c.args.name.now in
    let es = c.args.composer.now in
    let limit = c.in_err-push.field-0.0 in
    let parts = c.lasting.inside in
    let at : Capped → ReaderState = λ r. record { reading = c.self.inside.reading; registers = r; meaning = c.self.inside.meaning } in
    let kept : ReaderState = at (capped_of parts.registers parts.titles parts.last_macro) in
    let shown : kept ≡ c.args.self.now = ap at c.lasting.view_is ∙ c.self.view_is in
    let numbers : (h : PageHistory) → AreNumbersOf (known_at h kept.registers.all u.input) parts.registers =
    λ h. AreNumbersOf-shown (known_at h kept.registers.all u.input) parts.registers parts.titles parts.last_macro kept.registers refl refl in
    let knows : KnowsText es kept.registers.all u.input None name c.deref.result.now = record {
      text_is = λ l h stands. c.deref.ensures.0 ∙ c.text-text.ensures (known_at h kept.registers.all u.input) (c.facts.ensures l h kept.registers.all stands) (numbers h);
    } in
    let refused : c.from_residual.result ≡ Err limit = search rules in
    rw refused
    (subst (λ (s : ReaderState). TakesAs (λ k. interpolating k u.input s.reading None name) es s s u c.push.new.self (Err limit)) shown
    (TakesAs-not_interpolated es kept kept u c.push.new.self None name c.deref.result.now limit knows c.in_err-push.ensures.change))

pub returns : goal.returns
returns c =
    let u = c.args.unread.now in
    let name = c.args.name.now in
    let es = c.args.composer.now in
    let parts = c.lasting.inside in
    let at : Capped → ReaderState = λ r. record { reading = c.self.inside.reading; registers = r; meaning = c.self.inside.meaning } in
    let kept : ReaderState = at (capped_of parts.registers parts.titles parts.last_macro) in
    let shown : kept ≡ c.args.self.now = ap at c.lasting.view_is ∙ c.self.view_is in
    let numbers : (h : PageHistory) → AreNumbersOf (known_at h kept.registers.all u.input) parts.registers =
    λ h. AreNumbersOf-shown (known_at h kept.registers.all u.input) parts.registers parts.titles parts.last_macro kept.registers refl refl in
    let knows : KnowsText es kept.registers.all u.input None name c.deref.result.now = record {
      text_is = λ l h stands. c.deref.ensures.0 ∙ c.text-text.ensures (known_at h kept.registers.all u.input) (c.facts.ensures l h kept.registers.all stands) (numbers h);
    } in
    subst (λ (s : ReaderState). TakesAs (λ k. interpolating k u.input s.reading None name) es s s u c.push.new.self (Ok Nothing)) shown
    (TakesAs-interpolated es kept kept kept.registers u c.push.new.self None name c.deref.result.now Nothing c.in_ok-push.field-0 knows refl refl (λ l h stands. refl) (λ l h stands. refl) c.in_ok-push.ensures.change)
