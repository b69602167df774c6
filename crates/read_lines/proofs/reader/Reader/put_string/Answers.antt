use Rattle.std.proofs.Common.{◌≡◌, Err, refl, rules}
use Rattle.input_model.specs.Input.{pushing}
use Rattle.input_model.specs.Input.Names.{body_named}
use Rattle.read_lines.proofs.LinesTaken.{TakesAs-changed, TakesAs-not_changed}
use Rattle.run_model.specs.declared.step.Step.TheVariants.{Nothing}
use Rattle.read_lines.proofs.reader.Reader.put_string.Goals as goal

pub returns-in_err-push_body : goal.returns-in_err-push_body
returns-in_err-push_body c = λ es.
    let old = c.args.self.now in
    let u = c.args.unread.now in
    let refused : c.from_residual.result ≡ Err c.in_err-push_body.field-0.0 = search rules in
    rw refused (TakesAs-not_changed (pushing (body_named c.args.name.now u.input) u.input) old.reading es old old u c.push_body.new.self c.in_err-push_body.field-0.0 c.in_err-push_body.ensures.change)

pub returns : goal.returns
returns c = λ es.
    let old = c.args.self.now in
    let u = c.args.unread.now in
    TakesAs-changed (pushing (body_named c.args.name.now u.input) u.input) old.reading es old old u c.push_body.new.self Nothing c.in_ok-push_body.field-0 c.in_ok-push_body.ensures.change refl
    refl
