use Rattle.std.proofs.Common.{◌≡◌, [], ◌∷◌, ap, rules, ◌∙◌}
use Rattle.read_registers.specs.Lasting.{TitlesKept, capped_of}
use Rattle.run_model.specs.Registers.Capped.{Capped}
use Rattle.run_model.specs.PageEvents.{PageEvent}
use Rattle.run_model.specs.Titles.{keeping}
use Rattle.run_model.specs.declared.event.PageEvent.TheVariants.{Title}
use Rattle.run_model.specs.declared.title.WhichTitle.TheVariants.{Read}
use Rattle.read_lines.specs.Reader.State.{ReaderState}
use Rattle.read_lines.proofs.reader.Reader.keep_title_of.Goals as goal

pub returns-in-Title-Read-clause-kept : goal.returns-in-Title-Read-clause-kept
returns-in-Title-Read-clause-kept c =
    let parts = c.lasting.inside in
    let at : Capped → ReaderState = λ r. record { reading = c.self.inside.reading; registers = r; meaning = c.self.inside.meaning } in
    let kept : ReaderState = at (capped_of parts.registers parts.titles parts.last_macro) in
    let shown : kept ≡ c.args.self.now = ap at c.lasting.view_is ∙ c.self.view_is in
    let event : PageEvent = Title Read in
    let with_kept : ReaderState → ReaderState =
    λ s. (let r : Capped = record s.registers { all = keeping (event ∷ []) s.registers.all } in record s { registers = r }) in
    let is : c.args.event ≡ event = search rules in
    rw is
    (ap (λ (t : TitlesKept). at (capped_of parts.registers t parts.last_macro)) c.keep_title.ensures ∙ ap with_kept shown)
