use Rattle.std.proofs.Common.{◌∙◌, [], ◌∷◌, sym, ap}
use Rattle.std.specs.Option.{option_to_list}
use Rattle.input_source.specs.Bytes.{backslash}
use Rattle.run_model.specs.Reading.Titles.{title_opened}
use Rattle.read_steps.proofs.TitleTakings.{TakesAs-for_byte}
use Rattle.read_steps.proofs.titles.open_at_escape.Goals as goal

pub returns-in-Some : goal.returns-in-Some
returns-in-Some c = λ es u.
    let done = c.open_title in
    TakesAs-for_byte (title_opened u.input backslash) (c.in-Some.byte ∷ []) c.args.byte es c.args.reader.now done.new.reader u done.result
    (λ k is. ap option_to_list (sym c.in-Some.is) ∙ c.byte_for.ensures k is) (done.ensures es u)

pub returns-in-None : goal.returns-in-None
returns-in-None c = λ es u.
    let done = c.open_title-in-None in
    TakesAs-for_byte (title_opened u.input backslash) [] c.args.byte es c.args.reader.now done.new.reader u done.result
    (λ k is. ap option_to_list (sym c.in-None.is) ∙ c.byte_for.ensures k is) (done.ensures es u)
