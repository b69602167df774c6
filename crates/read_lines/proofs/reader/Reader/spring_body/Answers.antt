use Rattle.std.proofs.Common.{refl, rules}
use Rattle.read_lines.proofs.reader.Reader.spring_body.Goals as goal

pub returns-in-Ok : goal.returns-in-Ok
returns-in-Ok c = record { input = search rules; reads = search rules }

pub returns-in-Err : goal.returns-in-Err
returns-in-Err c = record { input = search rules; reads = refl }
