use Rattle.std.proofs.Common.{◌≡◌, ap, ◌∙◌}
use Rattle.read_registers.specs.Lasting.{capped_of}
use Rattle.read_registers.proofs.TitlesKept.{title_in-of}
use Rattle.run_model.specs.Registers.Capped.{Capped}
use Rattle.run_model.specs.Titles.{title_of}
use Rattle.read_lines.specs.Reader.State.{ReaderState}
use Rattle.read_lines.proofs.reader.Reader.title.Goals as goal

pub returns : goal.returns
returns c =
    let parts = c.lasting.inside in
    let at : Capped → ReaderState = λ r. record { reading = c.self.inside.reading; registers = r; meaning = c.self.inside.meaning } in
    let kept : ReaderState = at (capped_of parts.registers parts.titles parts.last_macro) in
    let shown : kept ≡ c.args.self.now = ap at c.lasting.view_is ∙ c.self.view_is in
    c.title.ensures ∙ title_in-of c.args.which parts.registers parts.titles parts.last_macro
    ∙ ap (λ (s : ReaderState). title_of s.registers.all c.args.which) shown
