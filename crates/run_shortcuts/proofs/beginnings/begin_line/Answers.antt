use Rattle.std.proofs.Common.{ap, arith, sym, ◌∙◌}
use Rattle.run_model.specs.declared.line_state.LineState.{LineState}
use Rattle.read_lines.specs.Reader.State.{ReaderState}
use Rattle.read_shortcuts.proofs.LinesBegun.{begun-none, escapes-passed, is_run-begun}
use Rattle.run_shortcuts.proofs.Beginning.{begun-some, goes_past_begun, no_newline}
use Rattle.run_shortcuts.proofs.TextsBegun.{behind-seen, none-text, tells-text}
use Rattle.run_shortcuts.proofs.beginnings.begin_line.Goals as goal

pub pass-requires-clause-plain : goal.pass-requires-clause-plain
pass-requires-clause-plain g c =
    let first = c.begin_with_text.ensures.text c.if-not-begin_with_text.false in
    no_newline c.args.run.now _ _ _ c.text_front-count.ensures c.requires.none_half c.requires.begins first c.requires.none_goes_on _ c.front-front.ensures.bytes

pub returns-then-count-gt0-clause-past : goal.returns-then-count-gt0-clause-past
returns-then-count-gt0-clause-past g c = λ out err.
    let old = c.args.run.now in
    let told = c.text_front-count.ensures in
    let first = c.begin_with_text.ensures.text c.if-not-begin_with_text.false in
    goes_past_begun old _ _ _ told c.requires.none_half c.requires.begins first c.requires.none_goes_on _
    (ap (λ (reading : LineState). record old.interpreter.reader { reading = reading }) (begun-some c.front-front.result.now c.text_front-count.result first c.if-count-gt0.true) ∙ sym c.go_on.ensures)
    _ _ _ _ _ _ _ out err _ c.front-front.ensures.bytes c.pass.ensures.passes c.pass.ensures.notes c.pass.ensures.failures

pub returns-else-count-gt0-clause-past : goal.returns-else-count-gt0-clause-past
returns-else-count-gt0-clause-past g c = λ out err.
    let old = c.args.run.now in
    let told = c.text_front-count.ensures in
    let first = c.begin_with_text.ensures.text c.if-not-begin_with_text.false in
    goes_past_begun old _ _ _ told c.requires.none_half c.requires.begins first c.requires.none_goes_on _
    (ap (λ (reading : LineState). record old.interpreter.reader { reading = reading })
    (begun-none c.front-front.result.now c.text_front-count.result (omega (arith, c.if-count-gt0.false)) ∙ sym c.requires.begins))
    _ _ _ _ _ _ _ out err _ c.front-front.ensures.bytes c.pass.ensures.passes c.pass.ensures.notes c.pass.ensures.failures

pub returns-then-count-gt0-clause-none_half : goal.returns-then-count-gt0-clause-none_half
returns-then-count-gt0-clause-none_half g c = escapes-passed _ _ _ _ _ c.pass.ensures.passes ∙ c.requires.none_half

pub returns-else-count-gt0-clause-none_half : goal.returns-else-count-gt0-clause-none_half
returns-else-count-gt0-clause-none_half g c = escapes-passed _ _ _ _ _ c.pass.ensures.passes ∙ c.requires.none_half

pub returns-then-count-gt0-clause-prints : goal.returns-then-count-gt0-clause-prints
returns-then-count-gt0-clause-prints g c = λ so.
    is_run-begun _ _ (ap (λ (r : ReaderState). r.reading) c.go_on.ensures)
    (escapes-passed _ _ _ _ _ c.pass.ensures.passes ∙ c.requires.none_half)

pub returns-then-not-begin_with_text-clause-some : goal.returns-then-not-begin_with_text-clause-some
returns-then-not-begin_with_text-clause-some g c = λ stands untold.
    none-text c.front-front.result.now _ (c.front-front.ensures.whole stands.0) (c.begin_with_text.ensures.other c.if-not-begin_with_text.true) stands.1

pub returns-then-not-begin_with_text-clause-told : goal.returns-then-not-begin_with_text-clause-told
returns-then-not-begin_with_text-clause-told g c = λ stands.
    none-text c.front-front.result.now _ (c.front-front.ensures.whole stands.0) (c.begin_with_text.ensures.other c.if-not-begin_with_text.true) stands.1

pub returns-then-count-gt0-clause-some : goal.returns-then-count-gt0-clause-some
returns-then-count-gt0-clause-some g c = λ stands untold. behind-seen c.front-front.result.now c.text_front-count.result c.behind_text-behind.result c.behind_text-behind.ensures untold

pub returns-then-count-gt0-clause-told : goal.returns-then-count-gt0-clause-told
returns-then-count-gt0-clause-told g c = λ stands.
    tells-text _ _ _ c.front-front.result.now c.text_front-count.result c.args.run.now _ _ c.front-front.ensures.bytes c.text_front-count.ensures c.pass.ensures.passes
    (c.front-front.ensures.whole stands.0)

pub returns-else-count-gt0-clause-told : goal.returns-else-count-gt0-clause-told
returns-else-count-gt0-clause-told g c = λ stands.
    tells-text _ _ _ c.front-front.result.now c.text_front-count.result c.args.run.now _ _ c.front-front.ensures.bytes c.text_front-count.ensures c.pass.ensures.passes
    (c.front-front.ensures.whole stands.0)
