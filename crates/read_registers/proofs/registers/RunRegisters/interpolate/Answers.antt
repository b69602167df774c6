use Rattle.std.proofs.Common.{◌≡◌, [], ◌∷◌, Bool, false, true, Option, None, Some, sym, ap, ◌∙◌, if◌then◌else◌}
use Rattle.roff_num.specs.declared.num.Num.{Num}
use Rattle.roff_num.specs.Ranges.{is_in_range}
use Rattle.run_model.specs.Registers.{Known, StepBy, is_page, known_behind, number_in_range, numbered, page_register, page_stepped, text_of_register}
use Rattle.run_model.specs.declared.message.Message.TheVariants.{BadNumber}
use Rattle.roff_store.specs.Registers.{next_value}
use Rattle.roff_store.specs.declared.register.Register.{Register}
use Rattle.read_registers.proofs.NumbersKept.{AreNumbersOf-changed}
use Rattle.read_registers.proofs.PageSteps.{page_said}
use Rattle.read_registers.proofs.registers.RunRegisters.interpolate.Goals as goal

pub returns-then-is_page-clause-message : goal.returns-then-is_page-clause-message
returns-then-is_page-clause-message c = λ k facts same.
    let page : c.page.result ≡ page_register k = c.page.ensures k facts same in
    let is : is_page c.args.name.now ≡ true = sym c.is_page.ensures ∙ c.if-is_page.true in
    c.step_page.ensures.message
    ∙ ap (λ (r : Register). if is_in_range (next_value c.args.direction r) then [] else BadNumber ∷ []) page
    ∙ page_said c.args.direction c.args.name.now k is

pub returns-clause-text : goal.returns-clause-text
returns-clause-text c = λ k facts known.
    let name = c.args.name.now in
    let step = StepBy name c.args.direction in
    let stepped : Known = known_behind (step ∷ []) k in
    let other : is_page name ≡ false = sym c.is_page.ensures ∙ c.if-is_page.false in
    let unnumbered : None ≡ page_stepped (Some c.args.direction) name k =
    sym (ap (λ (is : Bool). if is then number_in_range (next_value c.args.direction (page_register k)) else None) other) in
    c.text.ensures stepped
    (record { settings = facts.settings; last_width = facts.last_width; newlines = facts.newlines; arguments = facts.arguments; pages = facts.pages })
    (AreNumbersOf-changed step k c.args.self.now c.step-message.new.self c.step-message.ensures.registers known)
    ∙ ap (λ (number : Option Num). (let at : Known = record stepped { layout = numbered number k.layout } in text_of_register at name)) unnumbered
