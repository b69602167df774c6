use Rattle.roff_scan.specs.Unread.Kept.{kept_by}
use Rattle.roff_scan.proofs.Fronts.{is_front}
use Rattle.roff_scan.proofs.unread.Unread.front.Goals as goal

pub returns-clause-bytes : goal.returns-clause-bytes
returns-clause-bytes g c = rw (← c.self.view_is) c.front_of.ensures.bytes

pub returns-clause-front : goal.returns-clause-front
returns-clause-front g c =
    rw (← c.self.view_is)
    (is_front (g.S.ByteSource.ready c.args.source.now) (kept_by c.self.inside) c.front_of.result.now c.self.invariant.within.charge
    (record { same = c.front_of.ensures.bytes; among = c.front_of.ensures.among; few = c.front_of.ensures.few }))
