use Rattle.std.proofs.Common.{◌≡◌, ◌<◌, ◌≤◌, get_or, length, take, arith, rules, ◌∙◌}
use Rattle.std.proofs.lemmas.List.{get_or_default}
use Rattle.input_source.proofs.Giving.{block_split, byte_behind, taken_byte}
use Rattle.input_source.proofs.source.ReadSource.block_byte.Goals as goal

pub returns-clause-gives : goal.returns-clause-gives
returns-clause-gives g c =
    let now = c.args.self.now in
    let within : now.len ≤ length now.block.items = search rules in
    let more : now.next < now.len = search rules in
    let inside : now.next < length now.block.items = omega (arith, more, within) in
    let taken : c.index-byte.result.now ≡ get_or now.block.items now.next 0 = c.index-byte.ensures ∙ get_or_default now.block.items now.next c.index-byte.result.now 0 inside in
    rw (c.requires.open, taken) (taken_byte _ _ (g.R.BlockRead.gives now.reader) _ (block_split now.block.items now.next now.len more within) (g.met.R.BlockRead.some now.reader))

pub returns-clause-ready : goal.returns-clause-ready
returns-clause-ready g c =
    let now = c.args.self.now in
    byte_behind now.reach (take now.len now.block.items) now.next c.requires.open
