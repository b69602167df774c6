use Rattle.std.proofs.Common.{arith}
use Rattle.roff_store.specs.Chains.{chain_bytes}
use Rattle.roff_store.proofs.Sharing.{drop-part}
use Rattle.roff_store.proofs.chunks.Chunks.pass_inside.Goals as goal

pub returns-clause-bytes : goal.returns-clause-bytes
returns-clause-bytes c =
    let s = c.args.strand in
    drop-part (chain_bytes c.args.self.now s.chunks s.first) s.at s.rest c.args.count (omega (arith, c.requires.within))
