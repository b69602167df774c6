use Rattle.std.proofs.Common.{◌≡◌, ℕ, ◌+◌, ◌++◌, false, true, length, codes, replicate, List, refl, sym, ap, subst, ◌∙◌, arith}
use Rattle.std.proofs.lemmas.List.{length-replicate}
use Rattle.tbl_format.specs.RowsServed.{all_rows}
use Rattle.tbl_layout.specs.declared.columns.Column.{Column}
use Rattle.tbl_lines.specs.PictureLines.{Whole, behind_rules, crossing, met_at_edge}
use Rattle.tbl_picture.specs.RulesWalked.{IsRowThere, RuleBegins, line_beside, rows_of}
use Rattle.tbl_picture.specs.Walks.{KeptWalk, kept_by}
use Rattle.tbl_picture.specs.Nexts.{AtRule}
use Rattle.tbl_pieces.proofs.Adding.{adds-fewer, adds-more}
use Rattle.tbl_picture.proofs.RuleRowSteps.{whole-stands, whole_rule}
use Rattle.tbl_picture.proofs.walk.Walk.begin_rule.Goals as goal

pub returns : goal.returns
returns c = λ bytes frame narrow.
    let formats = all_rows c.args.format.now.format in
    let rows = c.args.rows.now in
    let w = kept_by c.self.inside in
    let view = c.self.view_is in
    let sign = c.args.sign in
    let is_last = c.args.is_last in
    let below = c.row_below-below.result in
    let r = c.rules_of-rules.result in
    let left = c.met_at_edge-left.result in
    let right = c.met_at_edge-right.result in
    let lengths = c.lengths_of.result in
    let before = c.args.pieces.now in
    let between = c.add.new.self in
    let after = c.add-2.new.self in
    let rule = whole_rule bytes formats rows w sign is_last below lengths left right in
    let met : ℕ → KeptWalk → ℕ = λ column k.
    met_at_edge k.bars (Whole sign) (line_beside bytes formats false rows.elements k.above)
    (behind_rules (rows_of formats r) (line_beside bytes formats true rows.elements below)) column in
    let left_is : left ≡ met 0 w = c.met_at_edge-left.ensures bytes sign ∙ ap (met 0) (sym view) in
    let right_is : right ≡ met (length rows.columns) w =
    c.met_at_edge-right.ensures bytes sign ∙ ap (λ (cs : List Column). met (length cs) c.args.self.now) c.columns.ensures
    ∙ ap (met (length rows.columns)) (sym view) in
    let adds = adds-fewer bytes frame (1 + 1) 4 before after (codes "\\&" ++ replicate left crossing) (omega arith)
    (adds-more bytes frame 1 1 before between after (codes "\\&") (replicate left crossing) (c.add.ensures.adds bytes frame refl)
    (c.add-2.ensures.adds bytes frame (length-replicate left crossing))) in
    let stands = whole-stands bytes formats rows w sign is_last below lengths left right r narrow
    (subst (λ (k : KeptWalk). IsRowThere rows.elements k.above) (sym view) c.requires.above) c.row_below-below.ensures.there
    (omega (arith, c.met_at_edge-left.type_inv)) c.rules_of-rules.ensures.value (c.rules_of-rules.ensures.rows formats c.requires.served)
    c.lengths_of.ensures.lengths c.lengths_of.ensures.last (left_is, right_is) in
    let same = c.row_below-below.ensures.line bytes formats in
    subst (λ (k : KeptWalk). RuleBegins bytes frame formats rows sign is_last k (record w { place = left; next = AtRule rule }) before after) view
    (record {
      rule = rule;
      line = refl;
      first = refl;
      from = refl;
      walk = refl;
      stands = stands;
      same = same;
      adds = adds;
    })
