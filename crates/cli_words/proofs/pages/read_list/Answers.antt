use Rattle.std.proofs.Common.{rules}
use Rattle.cli_words.proofs.PageLists.{bad_last, bad_range, last_range, left-shorter, one_range}
use Rattle.input_source.specs.Bytes.{comma}
use Rattle.cli_words.proofs.pages.read_list.Goals as goal

pub loop-range-init : goal.loop-range-init
loop-range-init c = (c.utf8.text, search rules)

pub returns-then-not-add_range : goal.returns-then-not-add_range
returns-then-not-add_range c =
    bad_range c.loop-range.rest.now c.loop-range.ranges.items _ c.loop-range.invariant.1 c.in-Some.range.now c.in-Some.others.now c.in-Some.ensures c.if-not-add_range.ensures

pub loop-range-preserved : goal.loop-range-preserved
loop-range-preserved c = (
  search rules,
  one_range c.loop-range.rest.now c.loop-range.ranges.items _ c.loop-range.invariant.1 c.in-Some.range.now c.in-Some.others.now _ c.in-Some.ensures c.if-not-add_range.ensures,
)

pub loop-range-smaller : goal.loop-range-smaller
loop-range-smaller c = left-shorter comma c.loop-range.rest.now c.in-Some.range.now c.in-Some.others.now c.in-Some.ensures

pub returns-then-not-add_range-2 : goal.returns-then-not-add_range-2
returns-then-not-add_range-2 c =
    bad_last c.loop-range.rest.now c.loop-range.ranges.items _ c.loop-range.invariant.1 c.in_default.ensures c.if-not-add_range-2.ensures

pub returns : goal.returns
returns c =
    last_range c.loop-range.rest.now c.loop-range.ranges.items _ c.loop-range.invariant.1 c.add_range-2.new.ranges.items c.in_default.ensures
    c.if-not-add_range-2.ensures
