use Rattle.std.proofs.Common.{◌∙◌, true, false, Ok, sym, subst, eq-eqb}
use Rattle.input_escapes.specs.OpenEscapes.{byte_read}
use Rattle.read_lines.specs.Reader.Taken.{TakesAs}
use Rattle.run_model.specs.Reading.{title_read, undropped_taking}
use Rattle.run_model.specs.Reading.Found.{place_in, read_in}
use Rattle.run_model.specs.declared.line_state.LineState.{LineState}
use Rattle.run_model.specs.declared.line_state.LineState.TheVariants.{Title as InTitle}
use Rattle.read_lines.proofs.Strings.{other}
use Rattle.read_lines.proofs.TakesAs.{TakesAs-as}
use Rattle.read_lines.proofs.TextTaken.{none_half}
use Rattle.read_steps.proofs.TitleTakings.{title_read-alone, title_read-half}
use Rattle.read_steps.proofs.bytes.read_between.Goals as goal

pub returns-then-has_open_escape : goal.returns-then-has_open_escape
returns-then-has_open_escape c =
    let u = c.args.unread.now in
    let d = c.args.delimiter in
    let b = c.args.byte in
    let done = c.read_placed in
    TakesAs-as (λ k. title_read k u.input d b false) (λ k. undropped_taking k (InTitle d) u.input b) c.args.composer.now c.args.reader.now done.new.reader u done.new.unread done.result
    (λ k. title_read-half k u.input d b (sym c.has_open_escape.ensures ∙ c.if-has_open_escape.true))
    (subst (λ (r : LineState). TakesAs (λ k. read_in k r u.input (byte_read (place_in k r) u.input.escapes b)) c.args.composer.now c.args.reader.now done.new.reader u done.new.unread done.result)
    c.requires done.ensures)

pub returns-then-byte-delimiter : goal.returns-then-byte-delimiter
returns-then-byte-delimiter c =
    let es = c.args.composer.now in
    let u = c.args.unread.now in
    let d = c.args.delimiter in
    let b = c.args.byte in
    let done = c.end_title_part in
    let alone = none_half u.input.escapes (sym c.has_open_escape.ensures ∙ c.if-has_open_escape.false) in
    TakesAs-as (λ k. title_read k u.input d b true) (λ k. undropped_taking k (InTitle d) u.input b) es c.args.reader.now done.new.reader u u (Ok done.result)
    (λ k. title_read-alone k u.input d b true alone (eq-eqb b d c.if-byte-delimiter.true)) (done.ensures es u)

pub returns : goal.returns
returns c =
    let u = c.args.unread.now in
    let d = c.args.delimiter in
    let b = c.args.byte in
    let done = c.read_placed-2 in
    let alone = none_half u.input.escapes (sym c.has_open_escape.ensures ∙ c.if-has_open_escape.false) in
    TakesAs-as (λ k. title_read k u.input d b false) (λ k. undropped_taking k (InTitle d) u.input b) c.args.composer.now c.args.reader.now done.new.reader u done.new.unread done.result
    (λ k. title_read-alone k u.input d b false alone (other b d c.if-byte-delimiter.false))
    (subst (λ (r : LineState). TakesAs (λ k. read_in k r u.input (byte_read (place_in k r) u.input.escapes b)) c.args.composer.now c.args.reader.now done.new.reader u done.new.unread done.result)
    c.requires done.ensures)
