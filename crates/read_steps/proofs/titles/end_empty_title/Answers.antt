use Rattle.std.proofs.Common.{◌≡◌, [], ap, ◌∙◌}
use Rattle.read_registers.specs.Lasting.{TitlesKept, capped_of}
use Rattle.read_registers.proofs.TitlesKept.{capped_of-begun}
use Rattle.run_model.specs.Registers.{TitleBegins}
use Rattle.run_model.specs.Registers.Capped.{Capped, title_after}
use Rattle.read_lines.specs.Reader.State.{ReaderState}
use Rattle.read_steps.proofs.TitleTakings.{TakesAs-empty}
use Rattle.read_steps.proofs.titles.end_empty_title.Goals as goal

pub returns : goal.returns
returns c =
    let parts = c.lasting.inside in
    let with_titles : TitlesKept → Capped = λ t. capped_of parts.registers t parts.last_macro in
    let shown : with_titles parts.titles ≡ c.args.reader.now.registers = c.lasting.view_is ∙ ap (λ (s : ReaderState). s.registers) c.reader.view_is in
    let mid : ReaderState = record { reading = c.reader.inside.reading; registers = with_titles c.begin_title.new.self; meaning = c.reader.inside.meaning } in
    let done = c.obey in
    TakesAs-empty c.args.composer.now c.args.reader.now mid done.new.reader c.args.unread.now done.new.unread done.result
    (ap with_titles c.in_ok-begin_title.ensures.titles ∙ capped_of-begun [] parts.registers parts.titles parts.last_macro
    ∙ ap (title_after (TitleBegins [])) shown) done.ensures
