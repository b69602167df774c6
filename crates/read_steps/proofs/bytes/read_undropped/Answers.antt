use Rattle.std.proofs.Common.{◌≡◌, ◌∙◌, Ok, ap, refl, rules, subst, sym}
use Rattle.input_escapes.specs.OpenEscapes.{byte_read}
use Rattle.read_lines.specs.Reader.State.{ReaderState}
use Rattle.run_model.specs.Reading.{undropped_taking}
use Rattle.run_model.specs.Reading.Found.{place_in, read_in}
use Rattle.run_model.specs.declared.line_state.LineState.{LineState}
use Rattle.run_model.specs.declared.line_state.LineState.TheVariants.{Control, Deciding, Dropped, Name, Skipping, Text as InText, Told, Exiting, Title as InTitle, Collecting}
use Rattle.run_model.specs.declared.purpose.Purpose.TheVariants.{Arguments as InArguments}
use Rattle.read_steps.proofs.Placed.{kept-placed}
use Rattle.read_lines.proofs.TakesAs.{TakesAs-as, TakesAs-where}
use Rattle.read_lines.proofs.LinesTaken.{TakesAs-meant}
use Rattle.read_steps.proofs.bytes.read_undropped.Goals as goal

pub returns-in_default : goal.returns-in_default
returns-in_default c =
    let u = c.args.unread.now in
    let b = c.args.byte in
    let r = c.args.reader.now.reading in
    let same = ap (λ (s : ReaderState). s.reading) c.reader.view_is in
    let done = c.read_placed-in_default in
    TakesAs-as (λ k. read_in k r u.input (byte_read (place_in k r) u.input.escapes b)) (λ k. undropped_taking k r u.input b) c.args.composer.now c.args.reader.now
    done.new.reader u done.new.unread done.result
    (λ k. kept-placed k u.input r b (λ breaks is. c.in_default.not-Control breaks (same ∙ is)) (λ breaks first is. c.in_default.not-Name breaks first (same ∙ is))
    (λ opened closed behind is. c.in_default.not-Skipping opened closed behind (same ∙ is)) (λ is. c.in_default.not-Dropped (same ∙ is))
    (λ aborts is. c.in_default.not-Told aborts (same ∙ is)) (λ is. c.in_default.not-Exiting (same ∙ is))
    (λ delimiter is. c.in_default.not-Title delimiter (same ∙ is))) done.ensures

pub returns-in-Control : goal.returns-in-Control
returns-in-Control c =
    let es = c.args.composer.now in
    let old = c.args.reader.now in
    let u = c.args.unread.now in
    let place = Control c.in-Control.breaks in
    let is : old.reading ≡ place = search rules in
    TakesAs-where (λ k r. undropped_taking k r u.input c.args.byte) place es old c.read_on.new.self u u (Ok c.read_on.result) is
    (TakesAs-meant (λ k. undropped_taking k place u.input c.args.byte) c.behind_control.result es old c.read_on.new.self u c.read_on.result
    (λ k. c.behind_control.ensures k u.input) c.read_on.ensures.reading c.read_on.ensures.step)

pub returns-in-Name : goal.returns-in-Name
returns-in-Name c =
    let u = c.args.unread.now in
    let place = Name c.in-Name.breaks c.in-Name.first in
    let is : c.args.reader.now.reading ≡ place = search rules in
    TakesAs-where (λ k r. undropped_taking k r u.input c.args.byte) place c.args.composer.now c.args.reader.now c.end_name.new.reader u c.end_name.new.unread c.end_name.result is
    c.end_name.ensures

pub returns-in-Skipping : goal.returns-in-Skipping
returns-in-Skipping c =
    let es = c.args.composer.now in
    let old = c.args.reader.now in
    let u = c.args.unread.now in
    let place = Skipping c.in-Skipping.opened c.in-Skipping.closed c.in-Skipping.behind in
    let is : old.reading ≡ place = search rules in
    let done = c.read_on-in-Skipping in
    TakesAs-where (λ k r. undropped_taking k r u.input c.args.byte) place es old done.new.self u u (Ok done.result) is
    (TakesAs-meant (λ k. undropped_taking k place u.input c.args.byte) c.behind_skipped.result es old done.new.self u done.result
    (λ k. c.behind_skipped.ensures u.input) done.ensures.reading done.ensures.step)

pub returns-in-Dropped : goal.returns-in-Dropped
returns-in-Dropped c =
    let es = c.args.composer.now in
    let old = c.args.reader.now in
    let u = c.args.unread.now in
    let is : old.reading ≡ Dropped = search rules in
    let done = c.read_on-in-Dropped in
    TakesAs-where (λ k r. undropped_taking k r u.input c.args.byte) Dropped es old done.new.self u u (Ok done.result) is
    (TakesAs-meant (λ k. undropped_taking k Dropped u.input c.args.byte) c.behind_dropped.result es old done.new.self u done.result
    (λ k. c.behind_dropped.ensures u.input) done.ensures.reading done.ensures.step)

pub returns-in-Told : goal.returns-in-Told
returns-in-Told c =
    let es = c.args.composer.now in
    let old = c.args.reader.now in
    let u = c.args.unread.now in
    let place = Told c.in-Told.aborts in
    let is : old.reading ≡ place = search rules in
    let done = c.read_on-in-Told in
    TakesAs-where (λ k r. undropped_taking k r u.input c.args.byte) place es old done.new.self u u (Ok done.result) is
    (TakesAs-meant (λ k. undropped_taking k place u.input c.args.byte) place es old done.new.self u done.result
    (λ k. refl) done.ensures.reading done.ensures.step)

pub returns-in-Title : goal.returns-in-Title
returns-in-Title c =
    let u = c.args.unread.now in
    let place = InTitle c.in-Title.delimiter in
    let done = c.read_between in
    let is : c.args.reader.now.reading ≡ place = search rules in
    TakesAs-where (λ k r. undropped_taking k r u.input c.args.byte) place c.args.composer.now c.args.reader.now done.new.reader u done.new.unread done.result is done.ensures

pub returns-in-Exiting : goal.returns-in-Exiting
returns-in-Exiting c =
    let es = c.args.composer.now in
    let old = c.args.reader.now in
    let u = c.args.unread.now in
    let is : old.reading ≡ Exiting = search rules in
    let done = c.read_on-in-Exiting in
    TakesAs-where (λ k r. undropped_taking k r u.input c.args.byte) Exiting es old done.new.self u u (Ok done.result) is
    (TakesAs-meant (λ k. undropped_taking k Exiting u.input c.args.byte) Exiting es old done.new.self u done.result
    (λ k. refl) done.ensures.reading done.ensures.step)

pub returns-in-Deciding : goal.returns-in-Deciding
returns-in-Deciding c =
    let u = c.args.unread.now in
    let old = c.args.reader.now in
    let place = Deciding c.in-Deciding.keeps in
    let is : old.reading ≡ place = search rules in
    let done = c.read_byte_of_condition in
    TakesAs-where (λ k r. undropped_taking k r u.input c.args.byte) place c.args.composer.now old done.new.reader u done.new.unread done.result is done.ensures

pub returns-in-Collecting-Arguments : goal.returns-in-Collecting-Arguments
returns-in-Collecting-Arguments c =
    let u = c.args.unread.now in
    let old = c.args.reader.now in
    let place = Collecting (InArguments c.in-Collecting-Arguments.breaks c.in-Collecting-Arguments.request) in
    let is : old.reading ≡ place = search rules in
    let done = c.read_byte_of_arguments in
    TakesAs-where (λ k r. undropped_taking k r u.input c.args.byte) place c.args.composer.now old done.new.reader u done.new.unread done.result is done.ensures

pub returns-in-Collecting : goal.returns-in-Collecting
returns-in-Collecting c =
    let u = c.args.unread.now in
    let b = c.args.byte in
    let old = c.args.reader.now in
    let place : LineState = Collecting c.in-Collecting.field-0 in
    let is : old.reading ≡ place = search rules in
    let done = c.read_placed in
    TakesAs-as (λ k. read_in k old.reading u.input (byte_read (place_in k old.reading) u.input.escapes b)) (λ k. undropped_taking k old.reading u.input b) c.args.composer.now old
    done.new.reader u done.new.unread done.result
    (λ k. subst (λ (r : LineState). read_in k r u.input (byte_read (place_in k r) u.input.escapes b) ≡ undropped_taking k r u.input b) (sym is) refl) done.ensures

pub returns-in-Text : goal.returns-in-Text
returns-in-Text c =
    let u = c.args.unread.now in
    let old = c.args.reader.now in
    let place = InText c.in-Text.line in
    let is : old.reading ≡ place = search rules in
    let done = c.read_byte_of_text in
    TakesAs-where (λ k r. undropped_taking k r u.input c.args.byte) place c.args.composer.now old done.new.reader u done.new.unread done.result is done.ensures
