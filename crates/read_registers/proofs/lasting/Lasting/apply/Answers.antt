use Rattle.std.proofs.Common.{ap, ◌∙◌}
use Rattle.run_model.specs.Registers.{CharacterIs}
use Rattle.read_registers.specs.Lasting.{TitlesKept, capped_of}
use Rattle.read_registers.proofs.NumbersKept.{after-within}
use Rattle.read_registers.proofs.lasting.Lasting.apply.Goals as goal

pub returns-in-CharacterIs-clause-changed : goal.returns-in-CharacterIs-clause-changed
returns-in-CharacterIs-clause-changed c =
    let a = c.self.inside in
    rw (c.in-CharacterIs.is, ← c.self.view_is)
    (ap (λ (t : TitlesKept). capped_of a.registers t a.last_macro) c.set_page_character.ensures
    ∙ after-within (CharacterIs c.in-CharacterIs.character) (capped_of a.registers a.titles a.last_macro) c.stay_within-in-CharacterIs.ensures)
