use Rattle.std.proofs.Common.{◌≡◌, ◌<◌, ◌≤◌, ℕ, List, arith, drop, length, refl, rules, subst, sym, vec_len, drop-drop}
use Rattle.input_source.specs.Tape.{StaysReady}
use Rattle.tbl_core.specs.Gathered.{left_of}
use Rattle.tbl_core.specs.Source.{source_ready}
use Rattle.tbl_core.proofs.GatheredBytes.{gathered_room, gathered_taken, none_left, some_left}
use Rattle.tbl_core.proofs.Staying.{stays_or, stays_source}
use Rattle.tbl_core.proofs.gathered.GatheredSourceByteSource.pass.Goals as goal

pub overflow_add-self : goal.overflow_add-self
overflow_add-self g c =
    let now = c.args.self.now in
    let more : now.next < length now.gathered.items = search rules in
    let few : length now.gathered.items ≤ 1024 = search rules in
    let room = gathered_room g.S.ByteSource.ready now c.args.count more c.requires.within in
    omega (arith, room, few)

pub invariant_of-self-clause-order : goal.invariant_of-self-clause-order
invariant_of-self-clause-order g c =
    let now = c.args.self.now in
    let more : now.next < length now.gathered.items = search rules in
    let same : vec_len now.gathered ≡ length now.gathered.items = search rules in
    let room = gathered_room g.S.ByteSource.ready now c.args.count more c.requires.within in
    omega (arith, room, same)

pub returns-then-self-len-clause-gives : goal.returns-then-self-len-clause-gives
returns-then-self-len-clause-gives g c =
    let now = c.args.self.now in
    let more : now.next < length now.gathered.items = search rules in
    let kept = c.gather_more.ensures.kept in
    gathered_taken g.S.ByteSource.gives g.met.S.ByteSource.some g.S.ByteSource.ready now c.gather_more.new.self c.args.count (some_left now.gathered.items now.next more)
    kept.inner kept.tables

pub returns-then-self-len-clause-ready : goal.returns-then-self-len-clause-ready
returns-then-self-len-clause-ready g c =
    let now = c.args.self.now in
    let new = c.gather_more.new.self in
    let n = c.args.count in
    let ready = source_ready g.S.ByteSource.ready in
    let more : now.next < length now.gathered.items = search rules in
    let left : StaysReady 0 (drop n (left_of now)) (left_of new) =
    subst (λ (bytes : List ℕ). StaysReady 0 bytes (left_of new)) (sym (drop-drop n now.next now.gathered.items)) c.gather_more.ensures.left in
    stays_or (left_of now) (ready now.source) (left_of new) (ready new.source) n (some_left now.gathered.items now.next more) left

pub returns-else-self-len-clause-ready : goal.returns-else-self-len-clause-ready
returns-else-self-len-clause-ready g c =
    let now = c.args.self.now in
    let ready = source_ready g.S.ByteSource.ready in
    let over : length now.gathered.items ≤ now.next = search rules in
    stays_source (left_of now) (ready now.source) (left_of now) (ready c.pass.new.self) c.args.count
    (none_left now.gathered.items now.next over) refl c.pass.ensures.ready
