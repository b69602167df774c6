use Rattle.std.proofs.Common.{◌∙◌, ◌&&◌, Bool, true, [], ap, refl, sym}
use Rattle.input_model.specs.Arguments.{finished}
use Rattle.input_model.specs.Input.{with_arguments}
use Rattle.read_obeying.proofs.Effects.{and_true, quiet-effect}
use Rattle.read_obeying.specs.Acting.{Kept}
use Rattle.read_lines.specs.Reader.State.{ReaderState}
use Rattle.read_steps.proofs.RequestsObeyed.{TakesAs-acted, kept_of}
use Rattle.run_model.specs.Reading.Items.{PageUnread}
use Rattle.run_model.specs.Requests.Effects.{behind_break}
use Rattle.run_model.specs.declared.request.Request.TheVariants.{Break}
use Rattle.read_steps.proofs.line_ends.obey_break.Goals as goal

pub returns : goal.returns
returns c = λ es.
    let old = c.args.reader.now in
    let u = c.args.unread.now in
    let breaks = c.args.breaks in
    let mid : PageUnread = record u { input = with_arguments (finished u.input.arguments) u.input } in
    let did : Kept = kept_of old in
    let done = c.broken in
    TakesAs-acted es old did _ u mid mid c.begin_arguments.new.self breaks Break done.result refl
    (record {
      acts = λ l h stands. quiet-effect [] (behind_break (breaks && true) []) did did mid done.result refl (done.ensures.says _)
          (done.ensures.means _ ∙ ap (λ (b : Bool). behind_break b []) (sym (and_true breaks)));
    })
    c.begin_arguments.ensures.change (ap (λ (r : ReaderState). r.registers) c.go_on.ensures) (ap (λ (r : ReaderState). r.meaning) c.go_on.ensures)
    (ap (λ (r : ReaderState). r.reading) c.go_on.ensures)
