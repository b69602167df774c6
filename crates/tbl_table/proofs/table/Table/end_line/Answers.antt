use Rattle.std.proofs.Common.{◌≤◌, ℕ, [], ◌∷◌, ◌++◌, subst}
use Rattle.input_source.specs.Bytes.{newline}
use Rattle.tbl_table.specs.Kept.{table_of}
use Rattle.tbl_data.specs.declared.phase.Phase.TheVariants.{AtHead, InFormat}
use Rattle.tbl_table.proofs.RowsBehind.{columns-in}
use Rattle.tbl_table.proofs.table.Table.end_line.Goals as goal

pub end_head_line-requires-clause-columns : goal.end_head_line-requires-clause-columns
end_head_line-requires-clause-columns c =
    let a = c.self.inside in
    let t = table_of a.phase a.options a.text a.kept in
    let columns = rw (← c.self.view_is) at c.requires.columns in
    rw (← c.self.view_is) (subst (λ (n : ℕ). n ≤ a.limits.columns) (columns-in t (a.text.line ++ newline ∷ []) AtHead c.in-AtHead.is) columns)

pub end_format_line-requires-clause-columns : goal.end_format_line-requires-clause-columns
end_format_line-requires-clause-columns c =
    let a = c.self.inside in
    let t = table_of a.phase a.options a.text a.kept in
    let columns = rw (← c.self.view_is) at c.requires.columns in
    rw (← c.self.view_is) (subst (λ (n : ℕ). n ≤ a.limits.columns) (columns-in t (a.text.line ++ newline ∷ []) InFormat c.in-InFormat.is) columns)
