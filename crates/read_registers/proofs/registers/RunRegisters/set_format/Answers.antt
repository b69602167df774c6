use Rattle.std.proofs.Common.{◌≡◌, false, sym, ◌∙◌}
use Rattle.roff_store.specs.Registers.{SetFormat}
use Rattle.run_model.specs.Registers.{FormatAs, is_page, is_read_only}
use Rattle.read_registers.specs.Registers.Kept.{kept_beside}
use Rattle.read_registers.proofs.RegisterTables.{IsCounted-after, admitted-given, with_table-given, FormatAs-gives}
use Rattle.read_registers.proofs.registers.RunRegisters.set_format.Goals as goal

pub invariant_of-self-2 : goal.invariant_of-self-2
invariant_of-self-2 c = IsCounted-after (SetFormat c.args.name.now c.args.format) c.self.inside.named _ c.set_format.ensures.table c.self.invariant

pub returns-clause-answer : goal.returns-clause-answer
returns-clause-answer c = λ t last.
    let beside = kept_beside c.self.inside.page_increment c.self.inside.page_format t last in
    let free : is_read_only c.args.name.now ≡ false = sym c.is_read_only.ensures ∙ c.if-is_read_only.false in
    let other : is_page c.args.name.now ≡ false = sym c.is_page.ensures ∙ c.if-is_page.false in
    rw (← c.self.view_is) (c.set_format.ensures.answer ∙ admitted-given c.args.name.now _ c.self.inside.named beside t.line
    (FormatAs c.args.name.now c.args.format) c.self.invariant.within (FormatAs-gives c.args.name.now c.args.format c.self.inside.named beside t.line free other))

pub returns-clause-registers : goal.returns-clause-registers
returns-clause-registers c = λ t last.
    let beside = kept_beside c.self.inside.page_increment c.self.inside.page_format t last in
    let free : is_read_only c.args.name.now ≡ false = sym c.is_read_only.ensures ∙ c.if-is_read_only.false in
    let other : is_page c.args.name.now ≡ false = sym c.is_page.ensures ∙ c.if-is_page.false in
    rw (c.set_format.ensures.table, ← c.self.view_is) (with_table-given c.args.name.now _ c.self.inside.named beside t.line
    (FormatAs c.args.name.now c.args.format) c.self.invariant.within (FormatAs-gives c.args.name.now c.args.format c.self.inside.named beside t.line free other))
