use Rattle.std.proofs.Common.{sym, subst}
use Rattle.input_source.specs.Bytes.{newline}
use Rattle.tbl_format.specs.Format.{Format, format_read, no_format}
use Rattle.tbl_format.specs.FormatLaws.{NoByte}
use Rattle.tbl_format.specs.KeyCounts.{Counts}
use Rattle.tbl_format.proofs.FormatReading.{read-last}
use Rattle.tbl_table.proofs.BegunLines.{counts}
use Rattle.tbl_table.proofs.begun.whole_line.Goals as goal

pub returns : goal.returns
returns c =
    let line = c.args.line.now in
    subst (λ (f : Format). Counts f c.behind.result) (sym (read-last no_format line newline))
    (c.behind.ensures.value (format_read no_format line) (c.behind_all.ensures.value no_format (counts no_format NoByte)))
