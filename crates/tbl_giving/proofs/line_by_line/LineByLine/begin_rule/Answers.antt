use Rattle.std.proofs.Common.{◌≡◌, List, length, refl, sym, ap, subst, ◌∙◌, arith}
use Rattle.tbl_format.specs.RowsServed.{all_rows}
use Rattle.tbl_layout.specs.declared.columns.Column.{Column}
use Rattle.tbl_text.specs.declared.block_parts.BlockPlace.{BlockPlace}
use Rattle.tbl_picture.specs.Walks.{KeptWalk}
use Rattle.tbl_giving.specs.LinesWalked.{HasCome, KeptLineByLine, LineBegins, SignTold, coming, kept_by, sheet_by}
use Rattle.tbl_giving.specs.declared.line_by_line.Place.TheVariants.{OnRule}
use Rattle.tbl_lines.proofs.RowColumns.{length-places}
use Rattle.tbl_giving.proofs.LayNext.{can-lay-rule, next-placed}
use Rattle.tbl_giving.proofs.LinesLaid.{LaysRule, before_line, rule-begins}
use Rattle.tbl_tall.specs.LinesNext.{CanLayRule}
use Rattle.tbl_giving.proofs.line_by_line.LineByLine.begin_rule.Goals as goal
use Rattle.tbl_giving.proofs.line_by_line.LineByLine.begin_rule.Goals.{After-self, After-lay_rule}

come : (c : After-self) → HasCome c.args.bytes.now (all_rows c.args.format.now.format) c.args.rows.now (record (kept_by c.self.inside) { place = OnRule c.args.at }) c.args.walk.now.room
come c =
    subst (λ (k : KeptLineByLine). HasCome c.args.bytes.now (all_rows c.args.format.now.format) c.args.rows.now (record k { place = OnRule c.args.at }) c.args.walk.now.room)
    (sym c.self.view_is) c.requires.come

told : (c : After-self) → SignTold c.args.whole c.args.bytes.now (all_rows c.args.format.now.format) c.args.rows.now (record (kept_by c.self.inside) { place = OnRule c.args.at })
told c =
    subst (λ (k : KeptLineByLine). SignTold c.args.whole c.args.bytes.now (all_rows c.args.format.now.format) c.args.rows.now (record k { place = OnRule c.args.at }))
    (sym c.self.view_is) c.requires.sign

begins : (c : After-lay_rule) → let old = record (kept_by c.self.inside) { place = OnRule c.args.at } in
    let tall = c.lay_rule.new.self in
    LineBegins c.args.bytes.now (all_rows c.args.format.now.format) c.args.rows.now old (record old { tall = tall }) c.args.walk.now (before_line tall.line c.args.walk.now)
begins c =
    let g = kept_by c.self.inside in
    let at = (goal.at.After-lay_rule c).After-self in
    let here = come at in
    let x = coming c.args.bytes.now (all_rows c.args.format.now.format) c.args.rows.now (record g { place = OnRule c.args.at }) in
    let s = here.stands in
    let laid = c.lay_rule.ensures in
    let tall = c.lay_rule.new.self in
    let lays : LaysRule c.args.bytes.now (all_rows c.args.format.now.format) g.bars g.width c.args.whole g.tall tall c.columns.result.now = laid.draws in
    rule-begins _ _ _ g _ tall laid.come laid.room c.args.walk.now refl (rw c.columns.ensures at laid.few) c.args.at here
    (laid.comes c.args.bytes.now (sheet_by c.args.rows.now g) x.heights x.cells x.above x.elements s.front.comes)
    ((subst (λ (cs : List Column). LaysRule c.args.bytes.now (all_rows c.args.format.now.format) g.bars g.width c.args.whole g.tall tall cs) c.columns.ensures lays)
    x.heights x.cells x.above x.elements s.rest s.line here.drawn.places (next-placed _ _ _ g _ c.args.at here) s.front.comes s.rule
    (told at s.line s.rest s.rule))

pub lay_rule-requires : goal.lay_rule-requires
lay_rule-requires c =
    let g = kept_by c.self.inside in
    let at = (goal.at.lay_rule-requires c).After-self in
    record {
      next = subst (λ (cs : List Column). CanLayRule c.args.bytes.now (all_rows c.args.format.now.format) (record { bars = g.bars; width = g.width; columns = cs }) g.tall c.args.whole)
          (sym c.columns.ensures) (can-lay-rule _ _ _ g _ c.args.at c.args.whole (come at) (told at));
    }

pub begin_line_laid-requires : goal.begin_line_laid-requires
begin_line_laid-requires c =
    let under = (begins (goal.at.begin_line_laid-requires c).After-lay_rule).can.under in
    let line = c.lay_rule.new.self.line in
    omega (arith, under.few, length-places c.args.bytes.now line.entries line.places under.draws.places, ap (λ (ps : List BlockPlace). length ps) c.places.ensures)

pub returns-clause-begins : goal.returns-clause-begins
returns-clause-begins c =
    let old = record (kept_by c.self.inside) { place = OnRule c.args.at } in
    let tall = c.lay_rule.new.self in
    let w = c.args.walk.now in
    let walk : c.begin_line_laid.new.self ≡ before_line tall.line w =
    c.begin_line_laid.ensures ∙ ap (λ (ps : List BlockPlace). record (before_line tall.line w) { places = ps }) c.places.ensures in
    subst (λ (k : KeptLineByLine). LineBegins c.args.bytes.now (all_rows c.args.format.now.format) c.args.rows.now (record k { place = OnRule c.args.at }) (record old { tall = tall }) w c.begin_line_laid.new.self) c.self.view_is
    (subst (λ (k : KeptWalk). LineBegins c.args.bytes.now (all_rows c.args.format.now.format) c.args.rows.now old (record old { tall = tall }) w k) (sym walk)
    (begins (goal.at.returns-clause-begins c).After-lay_rule))
