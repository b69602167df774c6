use Rattle.std.proofs.Common.{◌≡◌, ◌<◌, length, get_or, vec_len, arith, rules, ◌∙◌}
use Rattle.std.specs.Vec.{with_items}
use Rattle.std.proofs.lemmas.List.{get_or_default}
use Rattle.input_source.specs.Tape.{Ended, Failed}
use Rattle.input_source.proofs.Giving.{block_over, block_split, block_written, read_byte, read_ending}
use Rattle.input_source.proofs.source.ReadSource.next_block.Goals as goal

pub returns-in-Nothing-clause-gives : goal.returns-in-Nothing-clause-gives
returns-in-Nothing-clause-gives g c =
    let now = c.args.self.now in
    let over = block_over now.block.items now.next now.len c.requires.taken in
    let given = rw c.in-Nothing.is at c.read_block.ensures.reads in
    rw c.requires.open (read_ending _ (g.R.BlockRead.gives now.reader) Ended over given)

pub returns-in-Bytes-clause-gives : goal.returns-in-Bytes-clause-gives
returns-in-Bytes-clause-gives g c =
    let now = c.args.self.now in
    let len = c.in-Bytes.len in
    let over = block_over now.block.items now.next now.len c.requires.taken in
    let gave = rw c.in-Bytes.is at c.read_block.ensures.reads in
    let whole : length c.read_block.new.block ≡ vec_len now.block = search rules in
    let same : (with_items now.block c.read_block.new.block).items ≡ c.read_block.new.block = block_written _ c.read_block.new.block now.block.items whole in
    let room : 0 < length c.read_block.new.block = omega (arith, gave.some, gave.within) in
    let first : c.index.result.now ≡ get_or c.read_block.new.block 0 0 = (rw same at c.index.ensures) ∙ get_or_default c.read_block.new.block 0 c.index.result.now 0 room in
    let split = block_split c.read_block.new.block 0 len (omega (arith, gave.some)) gave.within in
    rw c.requires.open (rw (same, first) (read_byte _ c.read_block.new.block _ len (g.R.BlockRead.gives now.reader) (g.R.BlockRead.gives c.read_block.new.self) _ over split gave (g.met.R.BlockRead.some c.read_block.new.self)))

pub returns-in-Error-clause-gives : goal.returns-in-Error-clause-gives
returns-in-Error-clause-gives g c =
    let now = c.args.self.now in
    let over = block_over now.block.items now.next now.len c.requires.taken in
    let given = rw c.in-Error.is at c.read_block.ensures.reads in
    rw c.requires.open (read_ending _ (g.R.BlockRead.gives now.reader) Failed over given)
