use Rattle.std.proofs.Common.{◌≡◌, ◌∙◌, Ok, Err, ap, refl, rules, subst}
use Rattle.read_obeying.specs.Acting.{Acts, Kept, kept}
use Rattle.read_lines.specs.Reader.State.{ReaderState}
use Rattle.run_model.specs.Reading.Arguments.{reading_behind}
use Rattle.run_model.specs.declared.request.Row.{Row}
use Rattle.read_steps.proofs.RequestsObeyed.{TakesAs-acted, TakesAs-not_acted, kept_of}
use Rattle.read_steps.proofs.line_ends.obey.Goals as goal

pub returns-in_err-step : goal.returns-in_err-step
returns-in_err-step c =
    let es = c.args.composer.now in
    let limit = c.in_err-step.field-0.0 in
    let mid = c.finish_arguments.new.self in
    let acted : Kept = kept c.act.new.lasting c.act.new.meaning in
    let refused : c.from_residual.result ≡ Err limit = search rules in
    rw refused
    (TakesAs-not_acted es c.args.reader.now acted _ c.args.unread.now mid c.act.new.unread c.act.new.unread c.args.breaks c.args.request limit c.finish_arguments.ensures.change
    (subst (λ (k : Kept). Acts c.args.breaks c.args.request es k acted mid c.act.new.unread (Err limit)) (ap kept_of c.reader.view_is) c.in_err-step.ensures))

pub returns : goal.returns
returns c =
    let es = c.args.composer.now in
    let mid = c.finish_arguments.new.self in
    let step = c.in_ok-step.step in
    let acted : Kept = kept c.act.new.lasting c.act.new.meaning in
    let set : ReaderState = record { reading = c.behind_line-behind.result; registers = c.act.new.lasting; meaning = c.act.new.meaning } in
    TakesAs-acted es c.args.reader.now acted set c.args.unread.now mid c.act.new.unread c.begin_arguments.new.self c.args.breaks c.args.request step c.finish_arguments.ensures.change
    (subst (λ (k : Kept). Acts c.args.breaks c.args.request es k acted mid c.act.new.unread (Ok step)) (ap kept_of c.reader.view_is) c.in_ok-step.ensures)
    c.begin_arguments.ensures.change refl refl (c.behind_line-behind.ensures ∙ ap (λ (r : Row). reading_behind r.line) c.row.ensures)
