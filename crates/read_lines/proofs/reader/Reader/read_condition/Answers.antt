use Rattle.std.proofs.Common.{◌≡◌, true, false, Ok, Err, rules}
use Rattle.run_model.specs.Reading.Branches.{condition_found}
use Rattle.run_model.specs.Reading.Units.{no_unit_found}
use Rattle.run_model.specs.declared.line_state.LineState.TheVariants.{Deciding}
use Rattle.read_lines.proofs.Deciding.{TakesAs-decides, TakesAs-kept, TakesAs-not_begun, TakesAs-not_kept, condition_found-undecided}
use Rattle.read_lines.proofs.TakesAs.{TakesAs-as}
use Rattle.read_lines.proofs.reader.Reader.read_condition.Goals as goal

pub returns-in_err-step-in-Decides : goal.returns-in_err-step-in-Decides
returns-in_err-step-in-Decides c =
    let es = c.args.composer.now in
    let old = c.args.self.now in
    let u = c.args.unread.now in
    let keeps = c.args.keeps in
    let so = c.is_so-so.result in
    let freed = c.in-Decides.freed in
    let begun = c.begin_branch.new in
    let limit = c.in_err-step-in-Decides.field-0.0 in
    let refused : c.from_residual.result ≡ Err limit = search rules in
    rw (c.in-Decides.is, refused)
    (TakesAs-decides keeps so c.in-Decides.decision freed es old begun.self u begun.unread (Err limit) c.is_so-so.ensures
    (TakesAs-not_begun keeps so freed es old begun.self u begun.unread limit c.in_err-step-in-Decides.ensures))

pub returns-in_err-keep_result-in-Decides : goal.returns-in_err-keep_result-in-Decides
returns-in_err-keep_result-in-Decides c =
    let es = c.args.composer.now in
    let old = c.args.self.now in
    let u = c.args.unread.now in
    let so = c.is_so-so.result in
    let freed = c.in-Decides.freed in
    let begun = c.begin_branch.new in
    let behind = c.keep_result.new.self in
    let limit = c.in_err-keep_result-in-Decides.field-0.0 in
    let refused : c.from_residual-in_err-keep_result-in-Decides.result ≡ Err limit = search rules in
    rw (c.in-Decides.is, c.if-keeps.true, refused)
    (TakesAs-decides true so c.in-Decides.decision freed es old begun.self u behind (Err limit) c.is_so-so.ensures
    (TakesAs-not_kept so freed es old begun.self u begun.unread behind c.in_ok-step-in-Decides.step limit c.in_ok-step-in-Decides.ensures
    c.in_err-keep_result-in-Decides.ensures.change))

pub returns-in_ok-keep_result-in-Decides : goal.returns-in_ok-keep_result-in-Decides
returns-in_ok-keep_result-in-Decides c =
    let es = c.args.composer.now in
    let old = c.args.self.now in
    let u = c.args.unread.now in
    let so = c.is_so-so.result in
    let freed = c.in-Decides.freed in
    let begun = c.begin_branch.new in
    let behind = c.keep_result.new.self in
    let m = c.in_ok-step-in-Decides.step in
    let kept = c.in_ok-keep_result-in-Decides in
    rw (c.in-Decides.is, c.if-keeps.true)
    (TakesAs-decides true so c.in-Decides.decision freed es old begun.self u behind (Ok m) c.is_so-so.ensures
    (TakesAs-kept so freed es old begun.self u begun.unread behind m kept.field-0 c.in_ok-step-in-Decides.ensures kept.ensures.change))

pub returns-else-keeps : goal.returns-else-keeps
returns-else-keeps c =
    let begun = c.begin_branch.new in
    rw (c.in-Decides.is, c.if-keeps.false)
    (TakesAs-decides false c.is_so-so.result c.in-Decides.decision c.in-Decides.freed c.args.composer.now c.args.self.now begun.self c.args.unread.now begun.unread
    (Ok c.in_ok-step-in-Decides.step) c.is_so-so.ensures c.in_ok-step-in-Decides.ensures)

pub returns-in_default : goal.returns-in_default
returns-in_default c =
    let i = c.args.unread.now.input in
    let keeps = c.args.keeps in
    let found = c.args.found in
    let done = c.read_in_arguments in
    TakesAs-as (λ k. no_unit_found k i (Deciding keeps) found) (λ k. condition_found k i keeps found) c.args.composer.now c.args.self.now done.new.self
    c.args.unread.now done.new.unread done.result (λ k. condition_found-undecided k i keeps found c.in_default.not-Decides) done.ensures
