use Rattle.std.proofs.Common.{sym, ◌∙◌, arith}
use Rattle.tbl_options.specs.Options.{options_read}
use Rattle.tbl_options.proofs.Words.{left-end, left-other, left-separator}
use Rattle.tbl_options.proofs.options.read_options.Goals as goal
use Rattle.tbl_options.proofs.options.read_options.Goals.{then-ends_word, else-ends_word}

pub loop-at-preserved : goal.loop-at-preserved
loop-at-preserved c =
    let text = c.args.text.now in
    let before = c.loop-at.invariant in
    elim c.if-ends_word.branch [
      | then-ends_word w ↦ rw (w.read-is, w.from-is, w.inside-is) (record {
        read = left-separator text (options_read text) c.loop-at.inside c.loop-at.from c.loop-at.at before.begun c.loop-at-test.true c.loop-at.read w.with_word-read.result before.held (sym c.ends_word.ensures ∙ w.if-ends_word.true) w.with_word-read.ensures.value before.read;
        begun = omega arith;
        held = w.with_word-read.ensures.held;
      })
      | else-ends_word w ↦ rw (w.read-is, w.from-is, w.inside-is, w.bracketed-inside.ensures) (record {
        read = left-other text (options_read text) c.loop-at.inside c.loop-at.from c.loop-at.at before.begun c.loop-at-test.true c.loop-at.read (sym c.ends_word.ensures ∙ w.if-ends_word.false) before.read;
        begun = omega (arith, before.begun);
        held = before.held;
      })
    ]

pub returns : goal.returns
returns c =
    let text = c.args.text.now in
    let before = c.loop-at.invariant in
    c.ended.ensures
    ∙ left-end text (options_read text) c.loop-at.inside c.loop-at.from c.loop-at.at _ c.loop-at.read c.with_word.result before.begun
    (omega (arith, c.loop-at-test.false, c.loop-at.auto.at-end)) (omega (arith, c.loop-at-test.false, c.loop-at.auto.at-end)) before.held c.with_word.ensures.held c.with_word.ensures.value before.read
