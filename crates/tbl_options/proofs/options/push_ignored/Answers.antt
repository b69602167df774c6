use Rattle.std.proofs.Common.{◌++◌, ℕ, List, false, map, sym, ap, ◌∙◌, arith, slice_range}
use Rattle.tbl_options.specs.Notes.{ignored_message, told_at, told_of_all}
use Rattle.tbl_options.specs.Options.{ignored_of, options_of, words_behind}
use Rattle.tbl_options.proofs.Words.{empty-part, told-end, told-other, told-separator}
use Rattle.tbl_options.proofs.options.push_ignored.Goals as goal
use Rattle.tbl_options.proofs.options.push_ignored.Goals.{then-ends_word, else-ends_word}

pub loop-at-init : goal.loop-at-init
loop-at-init c =
    let block = c.args.block.now in
    record {
      told = ap (λ (word : List ℕ). told_of_all block c.args.notes.now.items ++ map (λ (w : List ℕ). told_at c.args.line (ignored_message w)) (ignored_of (options_of (words_behind false word (slice_range block c.args.from c.args.to))))) (empty-part block c.args.from);
      begun = omega arith;
      held = record { order = omega arith; within = omega arith };
      within = c.requires.within;
      room = omega arith;
      capacity = omega arith;
    }

pub loop-at-preserved : goal.loop-at-preserved
loop-at-preserved c =
    let block = c.args.block.now in
    let before = c.loop-at.invariant in
    elim c.if-ends_word.branch [
      | then-ends_word w ↦ rw (w.notes-is, w.read-is, w.start-is, w.inside-is) (record {
        told = told-separator c.args.line block c.args.to c.requires.block _ c.loop-at.inside c.loop-at.start c.loop-at.at before.begun c.loop-at-test.true c.loop-at.read _ before.told w.take_word-read.result _ before.held (sym c.ends_word.ensures ∙ w.if-ends_word.true) w.take_word-read.ensures.value w.take_word-read.ensures.told;
        begun = omega arith;
        held = w.take_word-read.ensures.held;
        within = w.take_word-read.ensures.within;
        room = omega (arith, w.take_word-read.ensures.few, before.room, before.begun, c.loop-at-test.true);
        capacity = w.take_word-read.ensures.capacity ∙ before.capacity;
      })
      | else-ends_word w ↦ rw (w.notes-is, w.read-is, w.start-is, w.inside-is, w.bracketed-inside.ensures) (record {
        told = told-other c.args.line block c.args.to c.requires.block _ c.loop-at.inside c.loop-at.start c.loop-at.at before.begun c.loop-at-test.true c.loop-at.read _ before.told (sym c.ends_word.ensures ∙ w.if-ends_word.false);
        begun = omega (arith, before.begun);
        held = before.held;
        within = before.within;
        room = before.room;
        capacity = before.capacity;
      })
    ]

pub returns-clause-told : goal.returns-clause-told
returns-clause-told c =
    let before = c.loop-at.invariant in
    told-end c.args.line c.args.block.now c.args.to c.requires.block _ c.loop-at.inside c.loop-at.start c.loop-at.at c.loop-at.read c.take_word-last.result _ _ _ before.begun
    (omega (arith, c.loop-at-test.false, c.loop-at.auto.at-end c.requires.order)) before.held c.take_word-last.ensures.held c.take_word-last.ensures.value c.take_word-last.ensures.told c.push_last.ensures.told before.told
