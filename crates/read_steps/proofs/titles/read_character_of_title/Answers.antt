use Rattle.std.proofs.Common.{◌≡◌, ◌∙◌, Some, None, ap, rules}
use Rattle.input_escapes.specs.Characters.{character}
use Rattle.run_model.specs.Reading.Titles.{character_put, part_taking, saying_taking}
use Rattle.run_model.specs.declared.message.CharacterName.{CharacterName}
use Rattle.run_model.specs.declared.message.Message.TheVariants.{UnknownCharacter}
use Rattle.read_lines.proofs.TakesAs.{TakesAs-as}
use Rattle.read_steps.proofs.titles.read_character_of_title.Goals as goal

pub returns-in-None : goal.returns-in-None
returns-in-None c = λ es u. rw c.in-None.is (c.say_unknown.ensures es u)

pub returns-in-None-character : goal.returns-in-None-character
returns-in-None-character c = λ es u.
    let d = c.args.delimiter in
    let name = c.in-Some.name in
    let done = c.say_unknown-in-None-character in
    let none : None ≡ character name = search rules in
    rw c.in-Some.is
    (TakesAs-as (λ k. saying_taking u.input d (UnknownCharacter c.of.result)) (λ k. character_put u.input d (Some name) (character name)) es c.args.reader.now done.new.reader u u done.result
    (λ k. ap (λ (n : CharacterName). saying_taking u.input d (UnknownCharacter n)) c.of.ensures ∙ ap (character_put u.input d (Some name)) none) (done.ensures es u))

pub returns-in-Some-character : goal.returns-in-Some-character
returns-in-Some-character c = λ es u.
    let d = c.args.delimiter in
    let name = c.in-Some.name in
    let text = c.in-Some-character.text.now in
    let done = c.put_in_title in
    let some : Some text ≡ character name = search rules in
    rw c.in-Some.is
    (TakesAs-as (λ k. part_taking u.input d text) (λ k. character_put u.input d (Some name) (character name)) es c.args.reader.now done.new.reader u u done.result
    (λ k. ap (character_put u.input d (Some name)) some) (done.ensures es u))
