use Rattle.std.proofs.Common.{◌≡◌, ◌∙◌, true, false, Ok, ap, rules, sym, eq-eqb}
use Rattle.run_model.specs.Events.Steps.{events_of, messages_of}
use Rattle.run_model.specs.Reading.{title_read, undropped_taking}
use Rattle.run_model.specs.Reading.Beginnings.{first_taking}
use Rattle.run_model.specs.Reading.Items.{meaning_events}
use Rattle.run_model.specs.Reading.Titles.{title_byte}
use Rattle.run_model.specs.declared.line_state.LineState.{LineState}
use Rattle.run_model.specs.declared.line_state.LineState.TheVariants.{LineStart, Text as InText, Title as InTitle, Collecting}
use Rattle.run_model.specs.declared.step.Step.{Step}
use Rattle.read_lines.proofs.TakesAs.{TakesAs-as, TakesAs-where}
use Rattle.read_lines.proofs.Strings.{other}
use Rattle.read_lines.proofs.TextTaken.{TakesAs-named, plain-found}
use Rattle.read_steps.proofs.TitleTakings.{title_read-alone}
use Rattle.read_steps.proofs.bytes.read_alone.Goals as goal

pub returns-in-LineStart : goal.returns-in-LineStart
returns-in-LineStart c =
    let es = c.args.composer.now in
    let old = c.args.reader.now in
    let u = c.args.unread.now in
    let b = c.args.byte in
    let done = c.begin_with in
    let is : old.reading ≡ LineStart = search rules in
    TakesAs-where (λ k r. undropped_taking k r u.input b) LineStart es old done.new.self u u (Ok done.result) is
    (TakesAs-as (λ k. first_taking k u.input LineStart b) (λ k. undropped_taking k LineStart u.input b) es old done.new.self u u (Ok done.result)
    (λ k. plain-found k LineStart u.input b c.requires.none_half c.requires.no_escape) (done.ensures u))

pub returns-in-Text : goal.returns-in-Text
returns-in-Text c =
    let es = c.args.composer.now in
    let old = c.args.reader.now in
    let u = c.args.unread.now in
    let b = c.args.byte in
    let done = c.step_on in
    let taken = c.taking in
    let place : LineState = InText c.in-Text.line in
    let is : old.reading ≡ place = search rules in
    TakesAs-where (λ k r. undropped_taking k r u.input b) place es old done.new.self u u (Ok done.result) is
    (TakesAs-named (λ k. undropped_taking k place u.input b) taken.result.0 es old done.new.self u done.result
    (λ kept k. sym (plain-found k place u.input b c.requires.none_half c.requires.no_escape) ∙ taken.ensures.means u.input kept
    ∙ ap (λ (s : Step). meaning_events u.input taken.result.0 (events_of kept s)) (sym done.ensures.step))
    (λ kept. ap (messages_of kept) done.ensures.step ∙ taken.ensures.quiet kept) done.ensures.reading)

pub returns-in-Collecting : goal.returns-in-Collecting
returns-in-Collecting c =
    let u = c.args.unread.now in
    let done = c.read_byte_for in
    let place : LineState = Collecting c.in-Collecting.purpose in
    let is : c.args.reader.now.reading ≡ place = search rules in
    TakesAs-where (λ k r. undropped_taking k r u.input c.args.byte) place c.args.composer.now c.args.reader.now done.new.reader u done.new.unread done.result is done.ensures

pub returns-then-byte-delimiter : goal.returns-then-byte-delimiter
returns-then-byte-delimiter c =
    let es = c.args.composer.now in
    let old = c.args.reader.now in
    let u = c.args.unread.now in
    let d = c.in-Title.delimiter in
    let b = c.args.byte in
    let done = c.end_title_part in
    let is : old.reading ≡ InTitle d = search rules in
    TakesAs-where (λ k r. undropped_taking k r u.input b) (InTitle d) es old done.new.reader u u (Ok done.result) is
    (TakesAs-as (λ k. title_read k u.input d b true) (λ k. undropped_taking k (InTitle d) u.input b) es old done.new.reader u u (Ok done.result)
    (λ k. title_read-alone k u.input d b true c.requires.none_half (eq-eqb b d c.if-byte-delimiter.true)) (done.ensures es u))

pub returns-else-byte-delimiter : goal.returns-else-byte-delimiter
returns-else-byte-delimiter c =
    let es = c.args.composer.now in
    let old = c.args.reader.now in
    let u = c.args.unread.now in
    let d = c.in-Title.delimiter in
    let b = c.args.byte in
    let done = c.read_byte_of_title in
    let is : old.reading ≡ InTitle d = search rules in
    TakesAs-where (λ k r. undropped_taking k r u.input b) (InTitle d) es old done.new.reader u done.new.unread done.result is
    (TakesAs-as (λ k. title_byte k u.input d b) (λ k. undropped_taking k (InTitle d) u.input b) es old done.new.reader u done.new.unread done.result
    (λ k. plain-found k (InTitle d) u.input b c.requires.none_half c.requires.no_escape
    ∙ title_read-alone k u.input d b false c.requires.none_half (other b d c.if-byte-delimiter.false)) done.ensures)
