use Rattle.std.proofs.Common.{sym, ◌∙◌}
use Rattle.read_shortcuts.proofs.LinesBegun.{escapes-passed}
use Rattle.run_shortcuts.proofs.BehindTexts.{behind-told, behind-untold}
use Rattle.run_shortcuts.proofs.Telling.{goes_past_told}
use Rattle.run_shortcuts.proofs.LinesAtOnce.{no_newline_told}
use Rattle.run_turns.proofs.ComingFurther.{comes_none}
use Rattle.run_shortcuts.proofs.BytesCounted.{more-passed}
use Rattle.run_shortcuts.proofs.TextsBegun.{none-begins, tells-text}
use Rattle.run_shortcuts.proofs.fronts.tell_front.Goals as goal

pub returns-then-not-begins_above_controls-clause-past : goal.returns-then-not-begins_above_controls-clause-past
returns-then-not-begins_above_controls-clause-past g c = λ out err. comes_none _ _ _ _

pub returns-clause-past : goal.returns-clause-past
returns-clause-past g c = λ out err.
    let run = c.requires in
    goes_past_told c.args.run.now _ _ _ c.text_front-count.ensures run.half_read run.none_due run.does _ _ _ _ _ _ _ out err _
    c.front-front.ensures.bytes c.pass.ensures.passes c.pass.ensures.notes c.pass.ensures.failures

pub pass-requires-clause-plain : goal.pass-requires-clause-plain
pass-requires-clause-plain g c =
    no_newline_told c.front-front.result.now c.text_front-count.result _ _ _ c.args.run.now.unread c.text_front-count.ensures c.front-front.ensures.bytes

pub returns-clause-half : goal.returns-clause-half
returns-clause-half g c = escapes-passed _ _ _ _ _ c.pass.ensures.passes

pub returns-then-not-begins_above_controls-clause-behind : goal.returns-then-not-begins_above_controls-clause-behind
returns-then-not-begins_above_controls-clause-behind g c = λ asks.
    behind-untold _ c.front-front.result.now c.args.run.now.unread c.args.run.now.unread (sym c.begins_above_controls.ensures ∙ c.if-not-begins_above_controls.true) (c.front-front.ensures.whole asks)

pub returns-clause-behind : goal.returns-clause-behind
returns-clause-behind g c = λ asks.
    behind-told _ _ _ c.front-front.result.now c.text_front-count.result _ _ _ c.front-front.ensures.bytes c.text_front-count.ensures.few c.pass.ensures.passes
    (sym c.begins_above_controls.ensures ∙ c.if-not-begins_above_controls.false) c.behind_text-behind.ensures (c.front-front.ensures.whole asks)

pub returns-clause-more : goal.returns-clause-more
returns-clause-more g c = more-passed _ _ _ _ _ c.pass.ensures.passes

pub returns-then-not-begins_above_controls-clause-told : goal.returns-then-not-begins_above_controls-clause-told
returns-then-not-begins_above_controls-clause-told g c = λ asks begins.
    none-begins c.front-front.result.now _ (c.front-front.ensures.whole asks) (sym c.begins_above_controls.ensures ∙ c.if-not-begins_above_controls.true) begins

pub returns-clause-told : goal.returns-clause-told
returns-clause-told g c = λ asks begins.
    tells-text _ _ _ c.front-front.result.now c.text_front-count.result c.args.run.now _ _ c.front-front.ensures.bytes c.text_front-count.ensures c.pass.ensures.passes
    (c.front-front.ensures.whole asks)
