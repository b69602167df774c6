use Rattle.std.proofs.Common.{◌≡◌, ap, Bool, false, Option, rules, subst, sym, ◌∙◌}
use Rattle.input_model.specs.Unread.{EndsDecided}
use Rattle.read_lines.specs.Reader.State.{ReaderState}
use Rattle.run_model.specs.Reading.Branches.{branch_of}
use Rattle.run_model.specs.declared.line_state.LineState.{LineState}
use Rattle.run_model.specs.declared.line_state.LineState.TheVariants.{Deciding}
use Rattle.run_shortcuts.specs.EndsAtOnce.{EndsAtOnce}
use Rattle.run_shortcuts.proofs.EndsAtOnce.{decides-reading, ends-decided}
use Rattle.run_shortcuts.proofs.conditions.decide.Goals as goal

pub returns-in-Some-clause-waits : goal.returns-in-Some-clause-waits
returns-in-Some-clause-waits c = λ did.
    let deciding : c.args.run.now.interpreter.reader.reading ≡ Deciding false = search rules in
    decides-reading false c.args.run.now deciding (sym c.decides_now.ensures ∙ c.if-not-decides_now.false)

pub returns-in-Some-clause-ends : goal.returns-in-Some-clause-ends
returns-in-Some-clause-ends c = λ did.
    let deciding : c.args.run.now.interpreter.reader.reading ≡ Deciding false = search rules in
    let old = c.args.run.now in
    let ended = subst (λ (so : Option Bool). EndsDecided so old.unread c.end_decided.new.self) c.in-Some.is c.end_decided.ensures.ended in
    let reader : c.go_on.new.self ≡ record old.interpreter.reader { reading = branch_of c.in-Some.so } =
    c.go_on.ensures ∙ ap (λ (r : LineState). record old.interpreter.reader { reading = r }) c.branch-so.ensures in
    subst (λ (r : ReaderState). EndsAtOnce old (record old { unread = c.end_decided.new.self; interpreter = record old.interpreter { reader = r } })) (sym reader)
    (ends-decided c.in-Some.so old c.end_decided.new.self deciding ended c.stays_within.ensures)
