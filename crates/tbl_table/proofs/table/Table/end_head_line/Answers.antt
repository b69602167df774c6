use Rattle.std.proofs.Common.{◌≡◌, ◌≤◌, false, ℕ, List, [], ◌∷◌, ◌++◌, None, Some, sym, ap, subst, ◌∙◌, arith}
use Rattle.input_source.specs.Bytes.{newline}
use Rattle.tbl_format.specs.Format.{Format, format_read}
use Rattle.tbl_options.specs.Options.{options_end}
use Rattle.tbl_table.specs.Table.{columns_of}
use Rattle.tbl_table.proofs.BegunLines.{options_end-within}
use Rattle.tbl_table.proofs.TableOptions.{at-head, columns-head-none, columns-head-some}
use Rattle.tbl_table.proofs.table.Table.end_head_line.Goals as goal

pub end_format_line-requires-clause-columns : goal.end_format_line-requires-clause-columns
end_format_line-requires-clause-columns c =
    let a = c.self.inside in
    let line : List ℕ = a.text.line in
    let is = rw (← c.self.view_is) at c.requires.phase in
    let columns = rw (← c.self.view_is) at c.requires.columns in
    let nothing = at-head c.self.invariant.parts is in
    let none : options_end line ≡ None = ap (λ (xs : List ℕ). options_end xs) (sym c.line.ensures) ∙ sym c.options_end.ensures ∙ c.in-None.is in
    rw (← c.self.view_is)
    (subst (λ (g : Format). columns_of (format_read g (line ++ newline ∷ [])) ≤ a.limits.columns) (sym nothing.no_keys)
    (subst (λ (n : ℕ). n ≤ a.limits.columns) (columns-head-none line none) columns))

pub end_options_line-requires-clause-end : goal.end_options_line-requires-clause-end
end_options_line-requires-clause-end c =
    let a = c.self.inside in
    let line : List ℕ = a.text.line in
    let some : options_end line ≡ Some c.in-Some.end = ap (λ (xs : List ℕ). options_end xs) (sym c.line.ensures) ∙ sym c.options_end.ensures ∙ c.in-Some.is in
    rw (← c.self.view_is) (omega (arith, options_end-within false 0 c.in-Some.end line some))

pub end_options_line-requires-clause-columns : goal.end_options_line-requires-clause-columns
end_options_line-requires-clause-columns c =
    let a = c.self.inside in
    let line : List ℕ = a.text.line in
    let columns = rw (← c.self.view_is) at c.requires.columns in
    let some : options_end line ≡ Some c.in-Some.end = ap (λ (xs : List ℕ). options_end xs) (sym c.line.ensures) ∙ sym c.options_end.ensures ∙ c.in-Some.is in
    rw (← c.self.view_is) (subst (λ (n : ℕ). n ≤ a.limits.columns) (columns-head-some line c.in-Some.end some) columns)
