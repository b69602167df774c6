use Rattle.std.proofs.Common.{◌≡◌, None, Some, refl, rules, subst, sym}
use Rattle.input_escapes.specs.declared.escapes.NameUse.{NameUse}
use Rattle.input_escapes.specs.declared.escapes.NameUse.TheVariants.{Register}
use Rattle.read_lines.specs.Reader.Taken.{TakesAs}
use Rattle.run_model.specs.Reading.Escapes.{asking}
use Rattle.run_model.specs.Reading.Items.{going_on}
use Rattle.read_lines.proofs.LinesTaken.{TakesAs-meant}
use Rattle.run_model.specs.declared.step.Step.TheVariants.{Nothing}
use Rattle.read_lines.proofs.reader.Reader.ask.Goals as goal

pub returns-in-None : goal.returns-in-None
returns-in-None c =
    let old = c.args.self.now in
    let u = c.args.unread.now in
    rw c.in-None.is
    (TakesAs-meant (λ k. going_on u.input old.reading) old.reading c.args.composer.now old old u Nothing (λ k. refl) refl
    refl)

pub returns-in-Register-Some : goal.returns-in-Register-Some
returns-in-Register-Some c =
    let old = c.args.self.now in
    let u = c.args.unread.now in
    let done = c.interpolate in
    let is : c.args.purpose ≡ Register (Some c.in-Register-Some.step) = search rules in
    rw c.in-Some.is
    (subst (λ (use_is : NameUse). TakesAs (λ k. asking k u.input old.reading use_is (Some c.in-Some.name)) c.args.composer.now old done.new.self u done.new.unread done.result)
    (sym is) done.ensures)

pub returns-in-Register-None : goal.returns-in-Register-None
returns-in-Register-None c =
    let old = c.args.self.now in
    let u = c.args.unread.now in
    let is : c.args.purpose ≡ Register None = search rules in
    rw c.in-Some.is
    (subst (λ (use_is : NameUse). TakesAs (λ k. asking k u.input old.reading use_is (Some c.in-Some.name)) c.args.composer.now old old u c.put_register.new.unread c.put_register.result)
    (sym is) c.put_register.ensures)

pub returns-in-Text : goal.returns-in-Text
returns-in-Text c = rw (c.in-Some.is, c.in-Text.is) (c.put_string.ensures c.args.composer.now)

pub returns-in-Argument : goal.returns-in-Argument
returns-in-Argument c = rw (c.in-Some.is, c.in-Argument.is) (c.put_argument.ensures c.args.composer.now)

pub returns-in-Character : goal.returns-in-Character
returns-in-Character c = rw (c.in-Some.is, c.in-Character.is) (c.put_nothing.ensures c.args.composer.now)

pub returns-in-Font : goal.returns-in-Font
returns-in-Font c = rw (c.in-Some.is, c.in-Font.is) (c.put_nothing-in-Font.ensures c.args.composer.now)

pub returns-in-LeftOut : goal.returns-in-LeftOut
returns-in-LeftOut c = rw (c.in-Some.is, c.in-LeftOut.is) (c.put_nothing-in-LeftOut.ensures c.args.composer.now)
