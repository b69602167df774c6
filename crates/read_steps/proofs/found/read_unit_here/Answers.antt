use Rattle.std.proofs.Common.{◌≡◌, ◌∙◌, ap, refl, rules}
use Rattle.run_model.specs.Reading.Collecting.{unit_taking}
use Rattle.read_lines.specs.Reader.State.{ReaderState}
use Rattle.run_model.specs.declared.line_state.LineState.{LineState}
use Rattle.run_model.specs.declared.line_state.LineState.TheVariants.{TitleFront, Collecting}
use Rattle.run_model.specs.declared.step.Step.TheVariants.{Nothing}
use Rattle.read_steps.proofs.Placed.{unit_taking-elsewhere}
use Rattle.read_lines.proofs.TakesAs.{TakesAs-where}
use Rattle.read_lines.proofs.LinesTaken.{TakesAs-meant}
use Rattle.read_steps.proofs.found.read_unit_here.Goals as goal

pub returns-in-Collecting : goal.returns-in-Collecting
returns-in-Collecting c =
    let u = c.args.unread.now in
    let done = c.read_unit_for in
    let place : LineState = Collecting c.in-Collecting.purpose in
    let is : c.args.reader.now.reading ≡ place = search rules in
    TakesAs-where (λ k r. unit_taking k u.input r c.args.unit) place c.args.composer.now c.args.reader.now done.new.reader u done.new.unread done.result is done.ensures

pub returns-in-TitleFront : goal.returns-in-TitleFront
returns-in-TitleFront c =
    let u = c.args.unread.now in
    let done = c.read_unit_in_front in
    let place : LineState = TitleFront in
    let is : c.args.reader.now.reading ≡ place = search rules in
    TakesAs-where (λ k r. unit_taking k u.input r c.args.unit) place c.args.composer.now c.args.reader.now done.new.reader u done.new.unread done.result is done.ensures

pub returns-in_default : goal.returns-in_default
returns-in_default c =
    let old = c.args.reader.now in
    let u = c.args.unread.now in
    let others = c.in_default in
    let same = ap (λ (s : ReaderState). s.reading) c.reader.view_is in
    TakesAs-meant (λ k. unit_taking k u.input old.reading c.args.unit) old.reading c.args.composer.now old old u Nothing
    (λ k. unit_taking-elsewhere k u.input old.reading c.args.unit (λ purpose is. others.not-Collecting purpose (same ∙ is)) (λ is. others.not-TitleFront (same ∙ is))) refl refl
