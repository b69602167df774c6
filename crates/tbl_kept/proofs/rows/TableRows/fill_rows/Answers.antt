use Rattle.std.proofs.Common.{◌≡◌, ℕ, ◌+◌, ◌<◌, List, length, map, drop, set, sym, subst, ap, ◌∙◌, arith, drop-set-lt, length-set}
use Rattle.std.proofs.lemmas.List.{drop_more}
use Rattle.tbl_format.specs.RowsServed.{all_rows}
use Rattle.tbl_kept.specs.Rows.{Command, ElementKept, KeptElement, KeptRows}
use Rattle.tbl_kept.specs.RowsLaying.{all_held, blocks_held, element_at, laid_element}
use Rattle.tbl_kept.proofs.RowPlaces.{length-kept}
use Rattle.tbl_kept.proofs.RowsLaidOut.{length-blocks_held}
use Rattle.tbl_kept.proofs.Stepping.{next-all, next-all-set, next-map}
use Rattle.tbl_kept.proofs.rows.TableRows.fill_rows.Goals as goal

pub fill_row-requires-clause-kept : goal.fill_row-requires-clause-kept
fill_row-requires-clause-kept c =
    let k = c.loop-at.self in
    let at = c.loop-at.at in
    let i = c.loop-at.invariant in
    let bytes = c.args.bytes.now in
    let formats = all_rows c.args.format.now.format in
    let count = ap (λ (r : KeptRows). length r.elements) c.self.view_is in
    let more : at < length k.elements =
    omega (arith, c.loop-at-test.true, c.len-at-end.ensures, c.self.inside.elements.ok.0, length-kept c.self.inside.entries.items c.self.inside.elements.items, count, i.count) in
    subst (λ (n : ℕ). ElementKept bytes formats n (element_at k.elements at)) (sym i.wide)
    (next-all (ElementKept bytes formats (length c.args.self.now.columns)) k.elements at (Command 0 0) more i.kept).0

pub loop-at-preserved : goal.loop-at-preserved
loop-at-preserved c =
    let a = c.self.inside in
    let k = c.loop-at.self in
    let at = c.loop-at.at in
    let i = c.loop-at.invariant in
    let bytes = c.args.bytes.now in
    let filling = c.args.filling in
    let formats = all_rows c.args.format.now.format in
    let count = ap (λ (r : KeptRows). length r.elements) c.self.view_is in
    let more : at < length k.elements =
    omega (arith, c.loop-at-test.true, c.len-at-end.ensures, a.elements.ok.0, length-kept a.entries.items a.elements.items, count, i.count) in
    let change : KeptElement → KeptElement = laid_element bytes formats filling.bars filling.line_length filling.asked.now in
    let new = change (element_at k.elements at) in
    let same : drop (at + 1) (set k.elements at new) ≡ drop (at + 1) k.elements = drop-set-lt (at + 1) k.elements at new (omega arith) in
    rw c.fill_row.ensures.value (record {
      elements = next-map change k.elements at (Command 0 0) more ∙ i.elements;
      columns = ap (λ (els : List KeptElement). all_held formats (map change els) (blocks_held formats new k.columns)) same
          ∙ ap (λ (els : List KeptElement). all_held formats (map change els) k.columns) (sym (drop_more k.elements at (Command 0 0) more))
          ∙ i.columns;
      kept = next-all-set (ElementKept bytes formats (length c.args.self.now.columns)) k.elements at (Command 0 0) new more i.kept;
      wide = length-blocks_held formats new k.columns ∙ i.wide;
      count = length-set k.elements at new ∙ i.count;
      row = i.row;
      rooms = record { entries = i.rooms.entries; elements = i.rooms.elements; columns = i.rooms.columns };
      room = c.fill_row.ensures.room ∙ i.room;
    })
