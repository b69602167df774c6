use Rattle.std.proofs.Common.{◌≡◌, ◌-◌, ◌++◌, ℕ, List, Option, map, take, sym, ap, ◌∙◌, arith}
use Rattle.tbl_options.specs.Notes.{ignored_message, told_at, told_of_all}
use Rattle.tbl_options.specs.Options.{ignored_options}
use Rattle.tbl_table.specs.Steps.{options_told}
use Rattle.tbl_table.proofs.table_steps.tell_options.Goals as goal

pub returns-in-Some-clause-told : goal.returns-in-Some-clause-told
returns-in-Some-clause-told c =
    let block = c.args.block.now in
    let end = c.in-Some.end in
    let told = told_of_all block c.args.notes.now.notes in
    let same : end - 0 ≡ end = omega arith in
    c.push_ignored.ensures.told
    ∙ ap (λ (n : ℕ). told ++ map (λ (word : List ℕ). told_at c.args.line (ignored_message word)) (ignored_options (take n block))) same
    ∙ ap (λ (e : Option ℕ). told ++ options_told e c.args.line block) (sym c.in-Some.is)
