use Rattle.std.proofs.Common.{ℕ, replicate, arith, length-append}
use Rattle.std.proofs.lemmas.List.{length-replicate}
use Rattle.page_model.specs.Columns.{finished_of, printed}
use Rattle.page_model.specs.Diverted.{diverted}
use Rattle.run_items.proofs.DivertedMost.{length-diverted_most}
use Rattle.run_items.proofs.interpreter.diverting.most_bytes.Goals as goal

pub returns : goal.returns
returns c =
    let n : ℕ = c.args.blank_lines in
    let line = finished_of c.args.line in
    let most = length-diverted_most line in
    let whole = length-append {A = ℕ} (diverted (printed line)) (replicate n 10) in
    omega (
      arith,
      most,
      whole,
      length-replicate {A = ℕ} n 10,
      c.saturating_mul-added.ensures,
      c.saturating_add.ensures,
      c.saturating_add-columns.ensures,
      c.saturating_mul.ensures,
      c.saturating_add-bytes.ensures,
      c.saturating_add-2.ensures,
    )
