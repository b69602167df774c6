use Rattle.std.proofs.Common.{◌≤◌, length, refl, rules}
use Rattle.tbl_core.specs.Gathered.{left_of}
use Rattle.tbl_core.specs.Source.{source_ready}
use Rattle.tbl_core.proofs.GatheredBytes.{none_left, same_source}
use Rattle.tbl_core.proofs.Staying.{stays_source_byte}
use Rattle.tbl_core.proofs.gathered.GatheredSourceByteSource.ready_byte.Goals as goal

pub returns-else-self-len-clause-kept : goal.returns-else-self-len-clause-kept
returns-else-self-len-clause-kept g c = λ none. same_source c.args.self.now c.take_ready.new.self _ _ _ (c.take_ready.ensures.kept none)

pub returns-else-self-len-clause-ready : goal.returns-else-self-len-clause-ready
returns-else-self-len-clause-ready g c =
    let now = c.args.self.now in
    let ready = source_ready g.S.ByteSource.ready in
    let over : length now.gathered.items ≤ now.next = search rules in
    stays_source_byte (left_of now) (ready now.source) (left_of now) (ready c.take_ready.new.self) c.take_ready.result
    (none_left now.gathered.items now.next over) refl c.take_ready.ensures.ready
