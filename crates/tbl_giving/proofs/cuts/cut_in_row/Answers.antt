use Rattle.std.proofs.Common.{◌≡◌, ◌-◌, suc, refl, ◌∙◌, arith}
use Rattle.tbl_format.specs.RowsServed.{all_rows, row_at}
use Rattle.tbl_giving.proofs.CutsAtElements.{element-first, heights-behind, row-high}
use Rattle.tbl_giving.proofs.CutsOnRows.{line-counted, lines-few, none-counted, row-go, row-stands}
use Rattle.tbl_giving.proofs.cuts.cut_in_row.Goals as goal
use Rattle.tbl_giving.proofs.cuts.cut_in_row.Goals.{At-loop-tall}
use Rattle.tbl_lines.specs.PictureLines.{Sheet}
use Rattle.tbl_picture.proofs.RulePlaces.{row-placed}
use Rattle.tbl_tall.specs.LinesNext.{CanLayRow}

next : (c : At-loop-tall) → CanLayRow c.args.drawn.bytes.now (record { bars = c.args.drawn.bars; width = c.args.drawn.width; columns = c.args.rows.now.columns }) c.loop-tall.tall
next c =
    let r = c.requires.next in
    let so_far = c.loop-tall.invariant.counted r.keys r.fields r.count r.come in
    record {
      format = row_at (all_rows c.args.format.now.format) r.keys;
      cells = so_far.own;
      more = so_far.more;
      stands = so_far.stands;
      narrow = c.requires.can.narrow;
      wide = c.requires.can.wide;
    }

pub loop-tall-init : goal.loop-tall-init
loop-tall-init c =
    let elements = c.args.rows.now.elements in
    let high = row-high elements c.args.at c.requires.can.high (element-first elements c.args.at _ c.requires.at c.requires.next.is) in
    record {
      counted = λ keys fields total row. none-counted high (row-stands row.comes);
      come = refl;
      room = refl;
      escapes = refl;
    }

pub cut_on_line-count-requires : goal.cut_on_line-count-requires
cut_on_line-count-requires c = record { next = next (goal.at.cut_on_line-count-requires c).At-loop-tall }

pub overflow_add-count : goal.overflow_add-count
overflow_add-count c =
    let r = c.requires.next in
    let so_far = c.loop-tall.invariant.counted r.keys r.fields r.count r.come in
    omega (arith, lines-few r.come so_far (c.cut_on_line-count.ensures.count _ _ _ so_far.stands), r.small)

pub loop-tall-preserved : goal.loop-tall-preserved
loop-tall-preserved c =
    let i = c.loop-tall.invariant in
    let line = c.cut_on_line-count.ensures in
    record {
      counted = λ keys fields total row.
          let so_far = i.counted keys fields total row in
          let is : so_far.more ≡ suc (so_far.more - 1) = omega (arith, so_far.stands.height, c.loop-tall-test.true, c.lines_left.ensures) in
          line-counted so_far is (line.count _ _ _ so_far.stands) (line.stands _ _ _ so_far.stands);
      come = line.come ∙ i.come;
      room = line.room ∙ i.room;
      escapes = line.escapes ∙ i.escapes;
    }

pub loop-tall-smaller : goal.loop-tall-smaller
loop-tall-smaller c =
    let r = c.requires.next in
    let so_far = c.loop-tall.invariant.counted r.keys r.fields r.count r.come in
    let behind = c.cut_on_line-count.ensures.stands _ _ _ so_far.stands in
    omega (arith, behind.height, so_far.stands.height)

pub cut_on_line-last-requires : goal.cut_on_line-last-requires
cut_on_line-last-requires c = record { next = next (goal.at.cut_on_line-last-requires c).At-loop-tall }

pub hand_on-requires : goal.hand_on-requires
hand_on-requires c =
    let can = c.requires.can in
    let last = c.cut_on_line-last.ensures in
    record {
      at = c.requires.at;
      lie = can.lie;
      some = can.some;
      room = omega (arith, can.few, last.room ∙ c.loop-tall.invariant.room);
      come = omega (arith, c.requires.come, last.come ∙ c.loop-tall.invariant.come);
    }

pub overflow_add-result : goal.overflow_add-result
overflow_add-result c =
    let r = c.requires.next in
    let so_far = c.loop-tall.invariant.counted r.keys r.fields r.count r.come in
    omega (arith, lines-few r.come so_far (c.cut_on_line-last.ensures.count _ _ _ so_far.stands), r.small)

pub returns-clause-count : goal.returns-clause-count
returns-clause-count c = λ keys rules height entries fields count is row.
    let can = c.requires.can in
    let elements = c.args.rows.now.elements in
    let s : Sheet = record { bars = c.args.drawn.bars; width = c.args.drawn.width; columns = c.args.rows.now.columns } in
    let so_far = c.loop-tall.invariant.counted keys fields count row in
    let none : so_far.more ≡ 0 = omega (arith, so_far.stands.height, c.loop-tall-test.false, c.lines_left.ensures) in
    let ended = c.cut_on_line-last.ensures.ended _ so_far.own (row-placed s.bars.front s.columns (all_rows c.args.format.now.format) keys can.places.rows)
    (rw none at so_far.stands) in
    row-go row so_far none (heights-behind (element-first elements c.args.at _ c.requires.at is)) (c.cut_on_line-last.ensures.count _ _ _ so_far.stands)
    (c.hand_on.ensures.comes _ s _ _ keys rules height entries refl refl can.places can.laid is ended)
