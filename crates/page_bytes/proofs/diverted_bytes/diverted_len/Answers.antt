use Rattle.std.proofs.Common.{◌≡◌, ℕ, ◌+◌, ◌-◌, ◌*◌, ◌^◌, List, length, min, count_by, ap, ◌∙◌, arith}
use Rattle.page_model.specs.Columns.{added_columns, finished_of, printed}
use Rattle.page_model.specs.Diverted.{diverted}
use Rattle.page_model.specs.Glyphs.{gaps_in}
use Rattle.page_bytes.specs.DivertedBytes.{is_doubled}
use Rattle.page_bytes.proofs.DivertedLength.{counted_blanks, length-diverted}
use Rattle.page_bytes.proofs.diverted_bytes.diverted_len.Goals as goal

pub returns : goal.returns
returns c =
    let line = finished_of c.args.line in
    let text : List ℕ = line.text in
    let found = c.doubled_and_gaps-doubled.ensures in
    let blanks : ℕ = c.min-blanks.result in
    let wide : ℕ = line.lead + added_columns line.spare line.gaps (gaps_in text) in
    let more : ℕ = length text + count_by is_doubled text in
    let added : c.columns_added-added.result ≡ added_columns line.spare line.gaps (gaps_in text) =
    c.columns_added-added.ensures ∙ ap (added_columns line.spare line.gaps) found.gaps in
    let counted : blanks ≡ min wide (2 ^ 64 - 1) = omega (arith, c.min-blanks.ensures, c.from.ensures, added, c.from-most.ensures) in
    let bytes : 3 + 2 * blanks + length text + c.from-2.result ≡ 3 + 2 * blanks + more = omega (arith, c.from-2.ensures, found.doubled) in
    c.min.ensures ∙ ap (min (3 + 2 * blanks + length text + c.from-2.result)) c.from-most.ensures
    ∙ counted_blanks wide blanks (3 + 2 * blanks + length text + c.from-2.result) (length (diverted (printed line))) more counted bytes (length-diverted line)
