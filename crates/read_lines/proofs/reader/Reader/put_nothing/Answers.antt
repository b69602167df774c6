use Rattle.std.proofs.Common.{◌≡◌, [], Err, refl, rules}
use Rattle.input_model.specs.Input.{pushing}
use Rattle.read_lines.proofs.LinesTaken.{TakesAs-changed, TakesAs-not_changed}
use Rattle.run_model.specs.declared.step.Step.TheVariants.{Nothing}
use Rattle.read_lines.proofs.reader.Reader.put_nothing.Goals as goal

pub returns-in_err-push : goal.returns-in_err-push
returns-in_err-push c = λ es.
    let old = c.args.self.now in
    let u = c.args.unread.now in
    let refused : c.from_residual.result ≡ Err c.in_err-push.field-0.0 = search rules in
    rw refused (TakesAs-not_changed (pushing [] u.input) old.reading es old old u c.push.new.self c.in_err-push.field-0.0 c.in_err-push.ensures.change)

pub returns : goal.returns
returns c = λ es.
    let old = c.args.self.now in
    let u = c.args.unread.now in
    TakesAs-changed (pushing [] u.input) old.reading es old old u c.push.new.self Nothing c.in_ok-push.field-0 c.in_ok-push.ensures.change refl
    refl
