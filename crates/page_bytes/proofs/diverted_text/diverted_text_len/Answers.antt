use Rattle.std.proofs.Common.{ℕ, replicate, arith, length-append}
use Rattle.std.proofs.lemmas.List.{length-replicate}
use Rattle.page_model.specs.Columns.{finished_of, printed}
use Rattle.page_model.specs.Diverted.{diverted}
use Rattle.page_bytes.proofs.diverted_text.diverted_text_len.Goals as goal

pub returns : goal.returns
returns c =
    let n : ℕ = c.args.blank_lines in
    omega (arith, c.diverted_len.ensures, c.saturating_add.ensures, length-append {A = ℕ} (diverted (printed (finished_of c.args.line))) (replicate n 10), length-replicate {A = ℕ} n 10)
