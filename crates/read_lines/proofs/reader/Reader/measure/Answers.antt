use Rattle.std.proofs.Common.{◌≡◌, ℕ, List, Err, Ok, rules, subst, decimal, ◌∙◌}
use Rattle.input_model.specs.Input.{pushing}
use Rattle.input_model.specs.Unread.{changing}
use Rattle.read_lines.proofs.LinesTaken.{TakesAs-changed, TakesAs-not_changed}
use Rattle.read_lines.proofs.reader.Reader.measure.Goals as goal

pub returns-in_err-push : goal.returns-in_err-push
returns-in_err-push c = λ es.
    let old = c.args.self.now in
    let u = c.args.unread.now in
    let limit = c.in_err-push.field-0.0 in
    let digits : c.as_bytes.result.now ≡ decimal c.args.width = c.as_bytes.ensures.value ∙ c.format.ensures.text in
    let refused : c.from_residual.result ≡ Err limit = search rules in
    rw refused
    (TakesAs-not_changed (pushing (decimal c.args.width) u.input) c.args.reading es old old u c.push.new.self limit
    (subst (λ (text : List ℕ). (Err limit, c.push.new.self) ≡ changing (pushing text u.input) u) digits c.in_err-push.ensures.change))

pub returns : goal.returns
returns c = λ es.
    let u = c.args.unread.now in
    let done = c.in_ok-push.field-0 in
    let digits : c.as_bytes.result.now ≡ decimal c.args.width = c.as_bytes.ensures.value ∙ c.format.ensures.text in
    TakesAs-changed (pushing (decimal c.args.width) u.input) c.args.reading es c.args.self.now c.read_on.new.self u c.push.new.self c.read_on.result done
    (subst (λ (text : List ℕ). (Ok done, c.push.new.self) ≡ changing (pushing text u.input) u) digits c.in_ok-push.ensures.change)
    c.read_on.ensures.reading c.read_on.ensures.step
