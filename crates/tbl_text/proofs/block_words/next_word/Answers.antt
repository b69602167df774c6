use Rattle.std.proofs.Common.{length-drop, [], ◌+◌, ◌≤◌, length, arith, sym, ap, subst, ◌∙◌}
use Rattle.tbl_text.specs.Items.{is_blank}
use Rattle.tbl_text.proofs.RunsOfBytes.{Reads, first_of, Reads-plain, Reads-item, Reads-blank, is_blank-other}
use Rattle.tbl_text.proofs.block_words.next_word.Goals as goal

pub loop-at-preserved-then-at-plain : goal.loop-at-preserved-then-at-plain
loop-at-preserved-then-at-plain c =
    let line = c.args.line.now in
    let reads = Reads-plain line c.args.from c.loop-at.at c.loop-at.gap c.loop-at.run c.loop-at.invariant.reads
    c.plain_end-plain.result c.if-at-plain.true c.plain_end-plain.ensures.within c.plain_end-plain.ensures.plain in record {
      reads = subst (Reads line c.args.from c.plain_end-plain.result c.loop-at.gap) (sym c.with_plain-run.ensures) reads;
      room = c.loop-at.invariant.room;
    }

pub loop-at-preserved-in-Blank : goal.loop-at-preserved-in-Blank
loop-at-preserved-in-Blank c =
    let line = c.args.line.now in
    let item = c.next_item-item.result in
    let fits : c.loop-at.at + item.len ≤ length line =
    omega (arith, c.next_item-item.ensures.within, length-drop c.loop-at.at line) in
    let reads = Reads-blank line c.args.from c.loop-at.at c.loop-at.gap c.loop-at.run c.loop-at.invariant.reads item.len item.what
    (omega (arith, c.next_item-item.ensures.some)) fits (first_of line c.args.from c.loop-at.at c.loop-at.gap c.loop-at.run c.loop-at.invariant.reads (record { bytes = []; what = item.what }) item.len c.next_item-item.ensures.first) (ap is_blank c.in-Blank.is) c.if-run.false in record {
      reads = subst (Reads line c.args.from (c.loop-at.at + item.len) (c.loop-at.gap + 1)) (sym c.at-run-in-Blank.ensures) reads;
      room = c.next_item-item.ensures.room ∙ c.loop-at.invariant.room;
    }

pub loop-at-preserved : goal.loop-at-preserved
loop-at-preserved c =
    let line = c.args.line.now in
    let item = c.next_item-item.result in
    let fits : c.loop-at.at + item.len ≤ length line =
    omega (arith, c.next_item-item.ensures.within, length-drop c.loop-at.at line) in
    let reads = Reads-item line c.args.from c.loop-at.at c.loop-at.gap c.loop-at.run c.loop-at.invariant.reads item.len item.what
    (omega (arith, c.next_item-item.ensures.some)) fits (first_of line c.args.from c.loop-at.at c.loop-at.gap c.loop-at.run c.loop-at.invariant.reads (record { bytes = []; what = item.what }) item.len c.next_item-item.ensures.first) (is_blank-other item.what c.in_default.not-Blank)
    c.next_item-item.ensures.fits in record {
      reads = subst (Reads line c.args.from (c.loop-at.at + item.len) c.loop-at.gap) (sym c.with_item-run.ensures) reads;
      room = c.next_item-item.ensures.room ∙ c.loop-at.invariant.room;
    }
