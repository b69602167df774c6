use Rattle.std.proofs.Common.{arith, rules}
use Rattle.roff_store.proofs.Appending.{appending-first, appending-last, appending-next, has_passed, passed-room, read-strand, text-held}
use Rattle.roff_store.proofs.Pool.{longer-held, read-shared}
use Rattle.roff_store.proofs.chunks.Chunks.append.Goals as goal

pub loop-from-init : goal.loop-from-init
loop-from-init c = appending-first c.args.self.now c.args.to c.args.from

pub front-requires : goal.front-requires
front-requires c = read-strand (longer-held c.requires.held c.loop-from.invariant.longer)

pub pass-from-requires-clause-strand : goal.pass-from-requires-clause-strand
pass-from-requires-clause-strand c = read-strand (longer-held c.requires.held c.loop-from.invariant.longer)

pub pass-from-requires-clause-shared : goal.pass-from-requires-clause-shared
pass-from-requires-clause-shared c = read-shared (longer-held c.requires.held c.loop-from.invariant.longer)

pub extend-to-requires-clause-held : goal.extend-to-requires-clause-held
extend-to-requires-clause-held c = text-held c.requires.held c.loop-from.invariant (has_passed {piece = c.as_slice.result.now} {front = c.front.result.now} c.pass-from.ensures.strand (search rules)
    (search rules) c.front.ensures.bytes c.front.ensures.within
    c.pass-from.ensures.bytes c.pass-from.ensures.length c.pass-from.ensures.shares c.pass-from.ensures.sum
    c.pass-from.ensures.same)

pub extend-to-requires-clause-room : goal.extend-to-requires-clause-room
extend-to-requires-clause-room c = passed-room c.requires.held c.loop-from.invariant (has_passed {piece = c.as_slice.result.now} {front = c.front.result.now} c.pass-from.ensures.strand (search rules)
    (search rules) c.front.ensures.bytes c.front.ensures.within
    c.pass-from.ensures.bytes c.pass-from.ensures.length c.pass-from.ensures.shares c.pass-from.ensures.sum
    c.pass-from.ensures.same) c.requires.room

pub loop-from-preserved : goal.loop-from-preserved
loop-from-preserved c =
    appending-next c.requires.held c.loop-from.invariant (has_passed {piece = c.as_slice.result.now} {front = c.front.result.now} c.pass-from.ensures.strand (search rules)
    (search rules) c.front.ensures.bytes c.front.ensures.within
    c.pass-from.ensures.bytes c.pass-from.ensures.length c.pass-from.ensures.shares c.pass-from.ensures.sum
    c.pass-from.ensures.same)
    c.extend-to.ensures.longer c.extend-to.ensures.sum

pub returns : goal.returns
returns c = appending-last c.loop-from.invariant (omega arith)
