use Rattle.std.proofs.Common.{◌≡◌, Some, None, rules, sym, ap, ◌∙◌}
use Rattle.input_escapes.specs.Characters.{character}
use Rattle.run_model.specs.Reading.TextLines.{character_printed, character_taking, told_taking}
use Rattle.run_model.specs.declared.message.CharacterName.{CharacterName}
use Rattle.run_model.specs.declared.message.Message.TheVariants.{UnknownCharacter}
use Rattle.run_model.proofs.line_state.TextLine.character.Goals as goal

pub returns-in-None : goal.returns-in-None
returns-in-None c = λ i. c.say.ensures i ∙ ap (character_taking i c.args.self) (sym c.in-None.is)

pub returns-in-None-character : goal.returns-in-None-character
returns-in-None-character c = λ i.
    let none : None ≡ character c.in-Some.name = search rules in
    c.say-in-None-character.ensures i
    ∙ ap (λ (name : CharacterName). told_taking i c.args.self (UnknownCharacter name)) c.of.ensures
    ∙ ap (character_printed i c.args.self (Some c.in-Some.name)) none
    ∙ ap (character_taking i c.args.self) (sym c.in-Some.is)

pub returns-in-Some-character : goal.returns-in-Some-character
returns-in-Some-character c = λ i.
    let some : Some c.in-Some-character.text.now ≡ character c.in-Some.name = search rules in
    c.print.ensures i
    ∙ ap (character_printed i c.args.self (Some c.in-Some.name)) some
    ∙ ap (character_taking i c.args.self) (sym c.in-Some.is)
