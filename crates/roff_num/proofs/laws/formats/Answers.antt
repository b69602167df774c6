use Rattle.roff_num.proofs.FormatTexts.{IsWritten-read, format_of-written}
use Rattle.roff_num.proofs.laws.formats.Goals as goal

pub returns : goal.returns
returns c = record { read = IsWritten-read; written = format_of-written }
