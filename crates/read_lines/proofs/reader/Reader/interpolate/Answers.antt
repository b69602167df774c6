use Rattle.std.proofs.Common.{◌≡◌, Some, Ok, Err, refl, sym, ap, rules, subst, ◌∙◌}
use Rattle.roff_num.specs.declared.limits.Limits.{Limits}
use Rattle.run_state.specs.Composer.Standing.{StandFor}
use Rattle.read_registers.specs.Registers.Coded.{AreNumbersOf, AreOf}
use Rattle.run_model.specs.Environments.{PageHistory}
use Rattle.run_model.specs.Requests.Effects.{page_numbered}
use Rattle.run_model.specs.Run.{known_at}
use Rattle.read_registers.specs.Lasting.{capped_of}
use Rattle.run_model.specs.Registers.Capped.{Capped}
use Rattle.read_registers.proofs.NumbersKept.{AreNumbersOf-shown}
use Rattle.read_lines.specs.Reader.State.{ReaderState}
use Rattle.read_lines.specs.Reader.Taken.{TakesAs}
use Rattle.run_model.specs.Reading.Escapes.{interpolating}
use Rattle.read_lines.proofs.TakesAs.{KnowsText, TakesAs-interpolated, TakesAs-not_interpolated}
use Rattle.read_lines.proofs.reader.Reader.interpolate.Goals as goal

pub returns-in_err-push : goal.returns-in_err-push
returns-in_err-push c =
    let u = c.args.unread.now in
    let name = c.args.name.now in
    let parts = c.lasting.inside in
    let at : Capped → ReaderState = λ r. record { reading = c.self.inside.reading; registers = r; meaning = c.self.inside.meaning } in
    let kept : ReaderState = at (capped_of parts.registers parts.titles parts.last_macro) in
    let shown : kept ≡ c.args.self.now = ap at c.lasting.view_is ∙ c.self.view_is in
    let new : ReaderState = record { reading = c.self.inside.reading; registers = capped_of c.interpolate-given.new.self parts.titles parts.last_macro; meaning = c.self.inside.meaning } in
    let numbers : (h : PageHistory) → AreNumbersOf (known_at h kept.registers.all u.input) parts.registers =
    λ h. AreNumbersOf-shown (known_at h kept.registers.all u.input) parts.registers parts.titles parts.last_macro kept.registers refl refl in
    let knows : KnowsText c.args.composer.now kept.registers.all u.input (Some c.args.step) name c.deref.result.now = record {
      text_is = λ l h stands. c.deref.ensures.0 ∙ c.interpolate-given.ensures.text (known_at h kept.registers.all u.input) (c.facts-facts.ensures l h kept.registers.all stands) (numbers h);
    } in
    let refused : c.from_residual.result ≡ Err c.in_err-push.field-0.0 = search rules in
    rw refused
    (subst (λ (s : ReaderState). TakesAs (λ k. interpolating k u.input s.reading (Some c.args.step) name) c.args.composer.now s new u c.push.new.self (Err c.in_err-push.field-0.0)) shown
    (TakesAs-not_interpolated c.args.composer.now kept new u c.push.new.self (Some c.args.step) name c.deref.result.now c.in_err-push.field-0.0 knows c.in_err-push.ensures.change))

-- what is known at a history, and of its facts
pub returns-in-None : goal.returns-in-None
returns-in-None c =
    let u = c.args.unread.now in
    let name = c.args.name.now in
    let parts = c.lasting.inside in
    let at : Capped → ReaderState = λ r. record { reading = c.self.inside.reading; registers = r; meaning = c.self.inside.meaning } in
    let kept : ReaderState = at (capped_of parts.registers parts.titles parts.last_macro) in
    let shown : kept ≡ c.args.self.now = ap at c.lasting.view_is ∙ c.self.view_is in
    let facts : (l : Limits) (h : PageHistory) → StandFor l h c.args.composer.now → AreOf (known_at h kept.registers.all u.input) c.facts-facts.result =
    λ l h stands. c.facts-facts.ensures l h kept.registers.all stands in
    let numbers : (h : PageHistory) → AreNumbersOf (known_at h kept.registers.all u.input) parts.registers =
    λ h. AreNumbersOf-shown (known_at h kept.registers.all u.input) parts.registers parts.titles parts.last_macro kept.registers refl refl in
    let knows : KnowsText c.args.composer.now kept.registers.all u.input (Some c.args.step) name c.deref.result.now = record {
      text_is = λ l h stands. c.deref.ensures.0 ∙ c.interpolate-given.ensures.text (known_at h kept.registers.all u.input) (facts l h stands) (numbers h);
    } in
    let said = c.say in
    let came : said.new.self ≡ record kept { registers = capped_of c.interpolate-given.new.self parts.titles parts.last_macro; meaning = said.new.self.meaning } = said.ensures.others in
    subst (λ (s : ReaderState). TakesAs (λ k. interpolating k u.input s.reading (Some c.args.step) name) c.args.composer.now s said.new.self u c.push.new.self (Ok said.result)) shown
    (TakesAs-interpolated c.args.composer.now kept said.new.self (capped_of c.interpolate-given.new.self parts.titles parts.last_macro) u c.push.new.self (Some c.args.step) name c.deref.result.now said.result c.in_ok-push.field-0 knows
    (c.interpolate-given.ensures.registers parts.titles parts.last_macro) came
    (λ l h stands. said.ensures.says ∙ c.interpolate-given.ensures.message (known_at h kept.registers.all u.input) (facts l h stands) (numbers h))
    (λ l h stands. said.ensures.none ∙ ap page_numbered (sym c.in-None.is ∙ c.interpolate-given.ensures.number (known_at h kept.registers.all u.input) (facts l h stands) (numbers h)))
    c.in_ok-push.ensures.change)

pub returns-in-Some : goal.returns-in-Some
returns-in-Some c =
    let u = c.args.unread.now in
    let name = c.args.name.now in
    let parts = c.lasting.inside in
    let at : Capped → ReaderState = λ r. record { reading = c.self.inside.reading; registers = r; meaning = c.self.inside.meaning } in
    let kept : ReaderState = at (capped_of parts.registers parts.titles parts.last_macro) in
    let shown : kept ≡ c.args.self.now = ap at c.lasting.view_is ∙ c.self.view_is in
    let facts : (l : Limits) (h : PageHistory) → StandFor l h c.args.composer.now → AreOf (known_at h kept.registers.all u.input) c.facts-facts.result =
    λ l h stands. c.facts-facts.ensures l h kept.registers.all stands in
    let numbers : (h : PageHistory) → AreNumbersOf (known_at h kept.registers.all u.input) parts.registers =
    λ h. AreNumbersOf-shown (known_at h kept.registers.all u.input) parts.registers parts.titles parts.last_macro kept.registers refl refl in
    let knows : KnowsText c.args.composer.now kept.registers.all u.input (Some c.args.step) name c.deref.result.now = record {
      text_is = λ l h stands. c.deref.ensures.0 ∙ c.interpolate-given.ensures.text (known_at h kept.registers.all u.input) (facts l h stands) (numbers h);
    } in
    let said = c.number_page in
    let came : said.new.self ≡ record kept { registers = capped_of c.interpolate-given.new.self parts.titles parts.last_macro; meaning = said.new.self.meaning } = said.ensures.others in
    subst (λ (s : ReaderState). TakesAs (λ k. interpolating k u.input s.reading (Some c.args.step) name) c.args.composer.now s said.new.self u c.push.new.self (Ok said.result)) shown
    (TakesAs-interpolated c.args.composer.now kept said.new.self (capped_of c.interpolate-given.new.self parts.titles parts.last_macro) u c.push.new.self (Some c.args.step) name c.deref.result.now said.result c.in_ok-push.field-0 knows
    (c.interpolate-given.ensures.registers parts.titles parts.last_macro) came
    (λ l h stands. said.ensures.says ∙ c.interpolate-given.ensures.message (known_at h kept.registers.all u.input) (facts l h stands) (numbers h))
    (λ l h stands. said.ensures.numbers ∙ ap page_numbered (sym c.in-Some.is ∙ c.interpolate-given.ensures.number (known_at h kept.registers.all u.input) (facts l h stands) (numbers h)))
    c.in_ok-push.ensures.change)
