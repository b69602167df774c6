use Rattle.std.proofs.Common.{◌≡◌, Ok, rules, subst}
use Rattle.run_model.specs.Reading.{escape_ended}
use Rattle.run_model.specs.Reading.Items.{PageUnread}
use Rattle.run_model.specs.declared.step.Step.TheVariants.{Nothing}
use Rattle.run_model.specs.declared.line_state.LineState.TheVariants.{Deciding}
use Rattle.read_lines.specs.Reader.Taken.{TakesAs}
use Rattle.read_lines.proofs.LinesTaken.{TakesAs-expression_ended}
use Rattle.read_lines.proofs.reader.Reader.ends_quietly.Goals as goal

pub returns-then-decide_expression-clause-ends : goal.returns-then-decide_expression-clause-ends
returns-then-decide_expression-clause-ends c = λ did es.
    let deciding : c.args.self.now.reading ≡ Deciding c.in-Deciding.keeps = search rules in
    TakesAs-expression_ended c.in-Deciding.keeps es c.args.self.now c.args.unread.now c.decide_expression.new.self deciding
    (c.decide_expression.ensures.ended c.if-decide_expression.true)

pub returns-else-decide_expression-clause-ends : goal.returns-else-decide_expression-clause-ends
returns-else-decide_expression-clause-ends c = λ did es.
    let reader = c.args.self.now in
    subst (λ (u : PageUnread). TakesAs (λ k. escape_ended k reader.reading u.input) es reader c.decides.new.self u c.decides.new.unread (Ok Nothing))
    (c.decide_expression.ensures.kept c.if-decide_expression.false) (c.decides.ensures.decides did es)
