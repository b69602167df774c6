use Rattle.std.proofs.Common.{◌<◌, length, rules}
use Rattle.input_source.proofs.StdReading.{std_reads}
use Rattle.input_source.proofs.block_read.StdReadBlockRead.read_block.Goals as goal

pub returns-clause-reads : goal.returns-clause-reads
returns-clause-reads g c =
    let room : 0 < length c.read.new.buf = search rules in
    rw c.given_by.ensures (std_reads _ _ c.read.new.buf c.read.result room c.read.ensures.bound c.read.ensures.bytes)
