use Rattle.std.proofs.Common.{◌<◌, ◌≤◌, length, rules}
use Rattle.input_source.proofs.Giving.{stays_ready}
use Rattle.tbl_core.specs.Gathered.{left_of}
use Rattle.tbl_core.proofs.GatheredBytes.{none_left, ready_gathered, some_left}
use Rattle.tbl_core.proofs.Staying.{none_ready}
use Rattle.tbl_core.proofs.gathered.GatheredSource.gather_more.Goals as goal

pub returns-then-self-len-clause-ready : goal.returns-then-self-len-clause-ready
returns-then-self-len-clause-ready g c = ready_gathered c.gather.new.self c.gather.ensures.none c.gather.ensures.many

pub returns-else-self-len-clause-ready : goal.returns-else-self-len-clause-ready
returns-else-self-len-clause-ready g c = λ giving comes.
    let now = c.args.self.now in
    let more : now.next < length now.gathered.items = search rules in
    some_left now.gathered.items now.next more

pub returns-then-self-len-clause-left : goal.returns-then-self-len-clause-left
returns-then-self-len-clause-left g c =
    let now = c.args.self.now in
    let over : length now.gathered.items ≤ now.next = search rules in
    none_ready 0 (left_of now) (left_of c.gather.new.self) (none_left now.gathered.items now.next over)

pub returns-else-self-len-clause-left : goal.returns-else-self-len-clause-left
returns-else-self-len-clause-left g c = stays_ready 0 (left_of c.args.self.now)
