use Rattle.std.proofs.Common.{◌∙◌, ap, rules, sym}
use Rattle.roff_num.specs.declared.format.Format.{Format}
use Rattle.run_model.specs.TitleTexts.{TitleText, TitleTold}
use Rattle.run_items.proofs.EventsKept.{title_done}
use Rattle.run_items.proofs.interpreter.Interpreter.place_title.Goals as goal

pub returns : goal.returns
returns g c =
    let told : TitleText → Format → TitleTold = λ text format. record { text = text; format = format } in
    title_done c.args.which _ _ _ _ _ _ _
    (ap (λ (text : TitleText). told text c.args.self.now.reader.registers.all.page_format) (sym c.title.ensures)
    ∙ ap (told c.title.result.now.text) (sym c.page_format-format.ensures))
    c.place_title.ensures (search rules)
