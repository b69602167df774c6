use Rattle.std.proofs.Common.{◌+◌, ℕ, List, refl, sym, ◌∙◌, arith}
use Rattle.tbl_format.specs.RowsServed.{all_rows}
use Rattle.tbl_giving.proofs.CutsInFront.{front-all, front-next, front-rule, left-in, none-left}
use Rattle.tbl_giving.proofs.cuts.cut_in_front.Goals as goal
use Rattle.tbl_giving.proofs.cuts.cut_in_front.Goals.{After-cut_on_rule-count}
use Rattle.tbl_giving.specs.CutsCounted.{FrontGoes}
use Rattle.tbl_layout.specs.Entries.{Element}
use Rattle.tbl_lines.specs.PictureLines.{Sheet}

-- one more of them was given
goes : (c : After-cut_on_rule-count) {heights : List ℕ} {row : List Element} {count : ℕ} → let bytes = c.args.drawn.bytes.now in
    let formats = all_rows c.args.format.now.format in
    let s : Sheet = record { bars = c.args.drawn.bars; width = c.args.drawn.width; columns = c.args.rows.now.columns } in
    FrontGoes c.loop-tall.count bytes formats s c.loop-tall.tall heights row count
    → FrontGoes (c.loop-tall.count + c.cut_on_rule-count.result) bytes formats s c.cut_on_rule-count.new.tall heights row count
goes c {heights} so_far =
    let rule = front-rule c.requires.can so_far c.sign_in_front-whole.ensures (sym c.loop-tall-test.ensures) in
    let next = rule.next in
    front-next so_far next (c.cut_on_rule-count.ensures.count heights so_far.elements next.rest next.line so_far.more c.requires.can.places so_far.places next.rule rule.sign so_far.come)

pub loop-tall-init : goal.loop-tall-init
loop-tall-init c = record {
  goes = λ heights elements row count places front come.
      record { elements = elements; more = count; front = front; all = omega arith; come = come; places = places };
  come = refl;
  room = refl;
  escapes = refl;
}

pub cut_on_rule-count-requires : goal.cut_on_rule-count-requires
cut_on_rule-count-requires c =
    let r = c.requires.next in
    let so_far = c.loop-tall.invariant.goes r.heights r.elements r.row r.count r.places r.front r.come in
    record { next = (front-rule c.requires.can so_far c.sign_in_front-whole.ensures (sym c.loop-tall-test.ensures)).can }

pub overflow_add-count : goal.overflow_add-count
overflow_add-count c =
    let r = c.requires.next in
    let so_far = c.loop-tall.invariant.goes r.heights r.elements r.row r.count r.places r.front r.come in
    omega (arith, (goes (goal.at.overflow_add-count c).After-cut_on_rule-count so_far).all, r.small)

pub loop-tall-preserved : goal.loop-tall-preserved
loop-tall-preserved c =
    let i = c.loop-tall.invariant in
    record {
      goes = λ heights elements row count places front come.
          goes (goal.at.loop-tall-preserved c).After-cut_on_rule-count (i.goes heights elements row count places front come);
      come = c.cut_on_rule-count.ensures.come ∙ i.come;
      room = c.cut_on_rule-count.ensures.room ∙ i.room;
      escapes = c.cut_on_rule-count.ensures.escapes ∙ i.escapes;
    }

pub loop-tall-smaller : goal.loop-tall-smaller
loop-tall-smaller c =
    let r = c.requires.next in
    let so_far = c.loop-tall.invariant.goes r.heights r.elements r.row r.count r.places r.front r.come in
    let rule = front-rule c.requires.can so_far c.sign_in_front-whole.ensures (sym c.loop-tall-test.ensures) in
    let next = rule.next in
    let go = c.cut_on_rule-count.ensures.count r.heights so_far.elements next.rest next.line so_far.more c.requires.can.places so_far.places next.rule rule.sign so_far.come in
    omega (arith, left-in so_far.come.comes, left-in go.come.comes, next.fewer)

pub returns-clause-count : goal.returns-clause-count
returns-clause-count c = λ heights elements row count places front come.
    let so_far = c.loop-tall.invariant.goes heights elements row count places front come in
    front-all so_far (none-left (all_rows c.args.format.now.format) c.loop-tall.tall.band so_far.come.comes.band.fits (sym c.loop-tall-test.ensures))
