use Rattle.std.proofs.Common.{◌≡◌, ℕ, ◌-◌, ◌<◌, List, [], ◌∷◌, ◌++◌, length, replicate, suc, ap, ◌∙◌, arith, append_assoc, length-append}
use Rattle.tbl_kept.specs.Rows.{no_column}
use Rattle.tbl_layout.specs.declared.columns.Column.{Column}
use Rattle.tbl_kept.proofs.held_columns.add_columns.Goals as goal

-- one column more of those that are lacking
lacking-one : (count : ℕ) (columns : List Column) → length columns < count
    → (columns ++ no_column ∷ []) ++ replicate (count - length (columns ++ no_column ∷ [])) no_column
    ≡ columns ++ replicate (count - length columns) no_column
lacking-one count columns less =
    let more : suc (count - length (columns ++ no_column ∷ [])) ≡ count - length columns = omega (arith, less, length-append columns (no_column ∷ [])) in
    append_assoc columns (no_column ∷ []) (replicate (count - length (columns ++ no_column ∷ [])) no_column)
    ∙ ap (λ (n : ℕ). columns ++ replicate n no_column) more

pub loop-columns-preserved : goal.loop-columns-preserved
loop-columns-preserved c = record {
  done = ap (λ (items : List Column). items ++ replicate (c.args.count - length items) no_column) c.push_reserved.ensures.items
      ∙ lacking-one c.args.count c.loop-columns.columns.items (omega (arith, c.loop-columns-test.true, c.len.ensures, c.loop-columns.columns.ok.0))
      ∙ c.loop-columns.invariant.done;
  capacity = c.push_reserved.ensures.capacity ∙ c.loop-columns.invariant.capacity;
}
