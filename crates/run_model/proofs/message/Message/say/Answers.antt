use Rattle.std.proofs.Common.{◌≡◌, ℕ, List, ◌++◌, sym, ap, ◌∙◌, append_assoc}
use Rattle.run_model.specs.Messages.{message_text, name_bytes}
use Rattle.run_model.specs.declared.message.Message.{Message}
use Rattle.run_model.proofs.message.Message.say.Goals as goal

-- what a message of one kind says is what it says
of_kind : (before after : List ℕ) (message kind : Message) → message ≡ kind → after ≡ before ++ message_text kind → after ≡ before ++ message_text message
of_kind before after message kind is added = added ∙ ap (λ m. before ++ message_text m) (sym is)

pub returns-in-UnknownCharacter-clause-said : goal.returns-in-UnknownCharacter-clause-said
returns-in-UnknownCharacter-clause-said c =
    let name = c.in-UnknownCharacter.name in
    c.say.ensures.said
    ∙ ap (λ (items : List ℕ). items ++ name_bytes name) c.append-in-UnknownCharacter.ensures.items
    ∙ append_assoc c.args.text.now.items _ (name_bytes name)
    ∙ ap (λ (message : Message). c.args.text.now.items ++ message_text message) (sym c.in-UnknownCharacter.is)

pub returns-in-PageTooShort-clause-said : goal.returns-in-PageTooShort-clause-said
returns-in-PageTooShort-clause-said c = of_kind _ _ _ _ c.in-PageTooShort.is c.append-in-PageTooShort.ensures.items

pub returns-in-BackwardMotion-clause-said : goal.returns-in-BackwardMotion-clause-said
returns-in-BackwardMotion-clause-said c = of_kind _ _ _ _ c.in-BackwardMotion.is c.append-in-BackwardMotion.ensures.items

pub returns-in-NoSuchEnvironment-clause-said : goal.returns-in-NoSuchEnvironment-clause-said
returns-in-NoSuchEnvironment-clause-said c = of_kind _ _ _ _ c.in-NoSuchEnvironment.is c.append-in-NoSuchEnvironment.ensures.items

pub returns-in-DefinitionNotEnded-clause-said : goal.returns-in-DefinitionNotEnded-clause-said
returns-in-DefinitionNotEnded-clause-said c = of_kind _ _ _ _ c.in-DefinitionNotEnded.is c.append-in-DefinitionNotEnded.ensures.items
