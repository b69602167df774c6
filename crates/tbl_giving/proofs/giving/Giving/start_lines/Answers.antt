use Rattle.std.proofs.Common.{◌≡◌, ◌≤◌, Bool, true, false, length, sym, ap, subst, ◌∙◌}
use Rattle.tbl_format.specs.RowsServed.{all_rows}
use Rattle.tbl_kept.specs.Rows.{IsPlainTable, elements_of}
use Rattle.tbl_kept.specs.TableText.{block_of}
use Rattle.tbl_kept.proofs.RowsAlone.{plain-laid}
use Rattle.tbl_lines.proofs.KeptAlone.{plain-kept}
use Rattle.tbl_lines.specs.PictureLeft.{table_lines}
use Rattle.tbl_lines.specs.PictureLines.{Sheet, picture_lines}
use Rattle.tbl_giving.specs.Giving.{CanGoBy, KeptGiving, lines_left_by}
use Rattle.tbl_picture.specs.Walks.{KeptWalk}
use Rattle.tbl_giving.proofs.RowsLying.{laid-lie}
use Rattle.tbl_giving.proofs.RowsRuled.{rules-placed}
use Rattle.tbl_giving.proofs.RowsWide.{rows-wide}
use Rattle.tbl_giving.proofs.giving.Giving.start_lines.Goals as goal

pub start-requires-clause-lie : goal.start-requires-clause-lie
start-requires-clause-lie c =
    laid-lie (block_of c.args._text.now) (all_rows c.args.format.now.format) c.args.bars.boxing.is_inside c.args.rows.now c.requires.laid

pub returns : goal.returns
returns c =
    let t = c.args._text.now in
    let r = c.args.rows.now in
    let k = c.args.format.now in
    let formats = all_rows k.format in
    let block = block_of t in
    let laid = c.requires in
    let a = c.self.inside in
    let view = c.self.view_is in
    let walk = c.start-2.new.self in
    let off : c.may_go_on-self-inside.result ≡ false = c.if-self.false in
    let s : Sheet = record { bars = c.args.bars; width = c.args.width; columns = r.columns } in
    let none = c.may_go_on-self-inside.ensures.above off block in
    let wide = rows-wide block formats (c.may_go_on-self-inside.ensures.widths off) (length r.columns) r.elements laid.laid.elements in
    let plain : IsPlainTable r = plain-laid block formats c.args.bars.boxing.is_inside r laid.laid none in
    let same : table_lines s (elements_of block formats r.elements) ≡ picture_lines s (elements_of block formats r.elements) =
    plain-kept block formats s r.elements none wide laid.laid.elements laid.some laid.places in
    let few : length r.columns ≤ a.walk.room = rw (← view) at laid.few in
    record {
      starts = record {
        can = subst (λ (is : Bool). CanGoBy is t r k walk a.line_by_line) (sym off)
            (c.start-2.ensures.can block formats r laid.laid plain laid.narrow laid.places few);
        lines = ap (λ (is : Bool). lines_left_by is t r k walk a.line_by_line) off ∙ c.start-2.ensures.lines block formats r ∙ sym same;
        pieces = ap (λ (g : KeptGiving). g.pieces) view;
        rest = ap (λ (g : KeptGiving). g.rest) view;
        newline = ap (λ (g : KeptGiving). g.has_newline) view;
        frame = ap (λ (g : KeptGiving). g.frame) view;
        frame_end = ap (λ (g : KeptGiving). g.frame_end) view;
        columns = ap (λ (w : KeptWalk). w.room) c.start-2.ensures.value ∙ ap (λ (g : KeptGiving). g.columns) view;
      };
    }

pub returns-then-self : goal.returns-then-self
returns-then-self c =
    let t = c.args._text.now in
    let r = c.args.rows.now in
    let k = c.args.format.now in
    let formats = all_rows k.format in
    let block = block_of t in
    let laid = c.requires in
    let a = c.self.inside in
    let view = c.self.view_is in
    let walk = a.walk in
    let lines = c.start.new.self in
    let on : c.may_go_on-self-inside.result ≡ true = c.if-self.true in
    let s : Sheet = record { bars = c.args.bars; width = c.args.width; columns = r.columns } in
    let ruled = rules-placed s formats laid.places.rows laid.cells block (length r.columns) r.elements laid.laid.elements in
    let few : length r.columns ≤ a.walk.room = rw (← view) at laid.few in
    record {
      starts = record {
        can = subst (λ (is : Bool). CanGoBy is t r k walk lines) (sym on)
            (c.start.ensures.can block walk laid.places laid.laid laid.narrow laid.wide ruled few);
        lines = ap (λ (is : Bool). lines_left_by is t r k walk lines) on ∙ c.start.ensures.lines block walk laid.places laid.laid;
        pieces = ap (λ (g : KeptGiving). g.pieces) view;
        rest = ap (λ (g : KeptGiving). g.rest) view;
        newline = ap (λ (g : KeptGiving). g.has_newline) view;
        frame = ap (λ (g : KeptGiving). g.frame) view;
        frame_end = ap (λ (g : KeptGiving). g.frame_end) view;
        columns = ap (λ (g : KeptGiving). g.columns) view;
      };
    }
