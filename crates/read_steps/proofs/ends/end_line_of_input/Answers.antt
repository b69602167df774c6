use Rattle.std.proofs.Common.{ap, rules, ◌∙◌}
use Rattle.input_source.specs.Bytes.{newline}
use Rattle.read_lines.specs.Reader.State.{ReaderState}
use Rattle.run_model.specs.Reading.{undropped_taking}
use Rattle.run_model.specs.Reading.Ends.{end_taking}
use Rattle.run_model.specs.declared.line_state.LineState.TheVariants.{Braced, Control, Deciding, Dropped, Exiting, LineStart, Skipping, Told, Title as InTitle, Collecting}
use Rattle.read_lines.proofs.TakesAs.{TakesAs-as, TakesAs-where}
use Rattle.read_lines.proofs.LinesTaken.{end_taking-newline}
use Rattle.read_steps.proofs.ends.end_line_of_input.Goals as goal

pub returns-in-LineStart : goal.returns-in-LineStart
returns-in-LineStart c = TakesAs-where (λ k r. end_taking k r c.args.unread.now.input) LineStart _ c.args.reader.now _ _ _ _ (search rules) (c.end_interrupted.ensures c.args.unread.now)

pub returns-in-Dropped : goal.returns-in-Dropped
returns-in-Dropped c = TakesAs-where (λ k r. end_taking k r c.args.unread.now.input) Dropped _ c.args.reader.now _ _ _ _ (search rules) (c.end_interrupted-in-Dropped.ensures c.args.unread.now)

pub returns-in-Exiting : goal.returns-in-Exiting
returns-in-Exiting c = TakesAs-where (λ k r. end_taking k r c.args.unread.now.input) Exiting _ c.args.reader.now _ _ _ _ (search rules) (c.end_interrupted-in-Exiting.ensures c.args.unread.now)

pub returns-in-Deciding : goal.returns-in-Deciding
returns-in-Deciding c = TakesAs-where (λ k r. end_taking k r c.args.unread.now.input) (Deciding c.in-Deciding.keeps) _ c.args.reader.now _ _ _ _ (search rules) (c.end_interrupted-in-Deciding.ensures c.args.unread.now)

pub returns-in-Told : goal.returns-in-Told
returns-in-Told c = TakesAs-where (λ k r. end_taking k r c.args.unread.now.input) (Told c.in-Told.aborts) _ c.args.reader.now _ _ _ _ (search rules) (c.end_interrupted-in-Told.ensures c.args.unread.now)

pub returns-in-Title : goal.returns-in-Title
returns-in-Title c = TakesAs-where (λ k r. end_taking k r c.args.unread.now.input) (InTitle c.in-Title.delimiter) _ c.args.reader.now _ _ _ _ (search rules) c.obey.ensures

pub returns-in-Braced : goal.returns-in-Braced
returns-in-Braced c = TakesAs-where (λ k r. end_taking k r c.args.unread.now.input) Braced _ c.args.reader.now _ _ _ _ (search rules) (c.end_interrupted-in-Braced.ensures c.args.unread.now)

pub returns-in-Control : goal.returns-in-Control
returns-in-Control c = TakesAs-where (λ k r. end_taking k r c.args.unread.now.input) (Control c.in-Control.breaks) _ c.args.reader.now _ _ _ _ (search rules) (c.end_interrupted-in-Control.ensures c.args.unread.now)

pub returns-in-Skipping : goal.returns-in-Skipping
returns-in-Skipping c = TakesAs-where (λ k r. end_taking k r c.args.unread.now.input) (Skipping c.in-Skipping.opened c.in-Skipping.closed c.in-Skipping.behind) _ c.args.reader.now _ _ _ _ (search rules) (c.end_interrupted-in-Skipping.ensures c.args.unread.now)

pub returns-in-Collecting : goal.returns-in-Collecting
returns-in-Collecting c =
    TakesAs-where (λ k r. end_taking k r c.args.unread.now.input) (Collecting c.in-Collecting.purpose) _ c.args.reader.now _ _ _ _ (search rules) c.end_collected.ensures

pub returns-in_default : goal.returns-in_default
returns-in_default c =
    let old = c.args.reader.now in
    let u = c.args.unread.now in
    let same = ap (λ (s : ReaderState). s.reading) c.reader.view_is in
    TakesAs-as (λ k. undropped_taking k old.reading u.input newline) (λ k. end_taking k old.reading u.input) c.args.composer.now old c.read_undropped.new.reader u
    c.read_undropped.new.unread c.read_undropped.result (λ k. end_taking-newline k old.reading u.input (λ at. c.in_default.not-LineStart (same ∙ at)) (λ at. c.in_default.not-Dropped (same ∙ at))
    (λ at. c.in_default.not-Exiting (same ∙ at)) (λ at. c.in_default.not-Braced (same ∙ at))
    (λ breaks at. c.in_default.not-Control breaks (same ∙ at)) (λ purpose at. c.in_default.not-Collecting purpose (same ∙ at))
    (λ opened closed behind at. c.in_default.not-Skipping opened closed behind (same ∙ at))
    (λ keeps at. c.in_default.not-Deciding keeps (same ∙ at)) (λ aborts at. c.in_default.not-Told aborts (same ∙ at))
    (λ delimiter at. c.in_default.not-Title delimiter (same ∙ at))) c.read_undropped.ensures
