use Rattle.std.proofs.Common.{rules, ◌<◌, length, sym, subst, ◌∙◌}
use Rattle.std.proofs.lemmas.List.{drop_more}
use Rattle.tbl_format.specs.RowsServed.{all_rows, no_keys}
use Rattle.tbl_kept.specs.RowsLaying.{AllFormatsCount, AllCount}
use Rattle.tbl_kept.proofs.RowsAlone.{all_count-any}
use Rattle.tbl_kept.proofs.rows.laying.has_free.Goals as goal

pub loop-row-preserved : goal.loop-row-preserved
loop-row-preserved c =
    let rows = all_rows c.args.format.now.format in
    let row = c.loop-row.row in
    let more : row < length rows = search rules in
    let first : AllCount c.row_of_all.result.now = all_count-any c.row_of_all.result.now (sym c.has_free_key.ensures ∙ c.if-has_free_key.false) in
    record {
      rest = λ none. c.loop-row.invariant.rest
          (subst AllFormatsCount (sym (drop_more rows row no_keys more)) (subst AllCount c.row_of_all.ensures.keys first, none));
    }
