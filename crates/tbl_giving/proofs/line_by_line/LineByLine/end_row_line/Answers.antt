use Rattle.std.proofs.Common.{refl, sym, subst, ◌∙◌, arith, ltb-false, ltb-true}
use Rattle.tbl_format.specs.RowsServed.{all_rows}
use Rattle.tbl_giving.specs.LinesWalked.{HasCome, KeptLineByLine, kept_by, sheet_by}
use Rattle.tbl_giving.specs.declared.line_by_line.Place.TheVariants.{OnRow}
use Rattle.tbl_giving.proofs.LayNext.{line-is-next, row-places}
use Rattle.tbl_giving.proofs.LinesGo.{PartCame}
use Rattle.tbl_giving.proofs.RowLinesEnded.{another-gone, last-gone, line-another, line-last, row-within}
use Rattle.tbl_giving.proofs.StepsOnLines.{come-at}
use Rattle.tbl_giving.proofs.line_by_line.LineByLine.end_row_line.Goals as goal
use Rattle.tbl_giving.proofs.line_by_line.LineByLine.end_row_line.Goals.{After-self, Then-pass_line}

come : (c : After-self) → HasCome c.args.bytes.now (all_rows c.args.format.now.format) c.args.rows.now (record (kept_by c.self.inside) { place = OnRow }) c.args.walk.now.room
come c =
    subst (λ (k : KeptLineByLine). HasCome c.args.bytes.now (all_rows c.args.format.now.format) c.args.rows.now (record k { place = OnRow }) c.args.walk.now.room)
    (sym c.self.view_is) (come-at c.requires.place c.requires.come)

part : (c : Then-pass_line) → let g = kept_by c.self.inside in
    PartCame c.args.bytes.now (all_rows c.args.format.now.format) c.args.rows.now (record g { place = OnRow }) (record g { place = OnRow; tall = c.pass_line.new.self }) c.args.walk.now.room
part c =
    let g = kept_by c.self.inside in
    let here = come (goal.at.Then-pass_line c).After-self in
    let passed = c.if-pass_line.ensures in
    line-another _ _ _ g _ here c.pass_line.new.self
    (passed.stands (sheet_by c.args.rows.now g) here.stands.format _ here.stands.more here.stands.stands)
    (ltb-true 0 c.pass_line.new.self.lines_left (sym passed.more)) passed.come passed.room

pub pass_line-requires : goal.pass_line-requires
pass_line-requires c = record { next = line-is-next _ _ _ (kept_by c.self.inside) _ (come (goal.at.pass_line-requires c).After-self) }

pub begin_row_line-requires : goal.begin_row_line-requires
begin_row_line-requires c = record { come = (part (goal.at.begin_row_line-requires c).Then-pass_line).come }

pub hand_on-requires : goal.hand_on-requires
hand_on-requires c =
    let here = come (goal.at.hand_on-requires c).After-self in
    record {
      at = row-within _ _ _ (kept_by c.self.inside) _ here;
      lie = here.drawn.lie;
      some = here.drawn.some;
      room = omega (arith, here.drawn.room, c.if-pass_line.ensures.room);
      come = omega (arith, here.ended, c.if-pass_line.ensures.come);
    }

pub returns-then-pass_line-clause-gone : goal.returns-then-pass_line-clause-gone
returns-then-pass_line-clause-gone c =
    another-gone c.self.view_is c.requires.place (part (goal.at.returns-then-pass_line-clause-gone c).Then-pass_line) c.if-pass_line.ensures.room
    c.begin_row_line.ensures.begins

pub returns-clause-gone : goal.returns-clause-gone
returns-clause-gone c =
    let g = kept_by c.self.inside in
    let here = come (goal.at.returns-clause-gone c).After-self in
    let passed = c.if-pass_line.ensures in
    let handed = c.hand_on.ensures in
    let s = sheet_by c.args.rows.now g in
    last-gone c.self.view_is c.requires.place
    (line-last _ _ _ g _ here c.pass_line.new.self c.hand_on.new.self
    (passed.stands s here.stands.format _ here.stands.more here.stands.stands)
    (omega (arith, ltb-false 0 c.pass_line.new.self.lines_left (sym passed.more)))
    (λ one. passed.ended s here.stands.format _ refl (row-places _ _ _ g _ here) one)
    (λ cells above keys rules height entries at ended.
    handed.comes c.args.bytes.now s cells above keys rules height entries refl refl here.drawn.places here.drawn.laid at ended)
    (omega (arith, handed.come, passed.come)) (handed.room ∙ passed.room))
    (handed.room ∙ passed.room)
