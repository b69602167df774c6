use Rattle.std.proofs.Common.{arith}
use Rattle.roff_store.proofs.Lending.{cap-read, kept-read}
use Rattle.roff_store.proofs.text_store.TextStore.lease.Goals as goal

pub lease_within-requires-clause-room : goal.lease_within-requires-clause-room
lease_within-requires-clause-room c =
    omega (arith, kept-read c.self.invariant c.self.view_is, cap-read c.self.invariant c.self.view_is, c.self.invariant.kept_within)

pub returns-in-Long-clause-no_body : goal.returns-in-Long-clause-no_body
returns-in-Long-clause-no_body c =
    absurd (omega (
      arith,
      kept-read c.self.invariant c.self.view_is,
      cap-read c.self.invariant c.self.view_is,
      c.requires.room,
      c.in-Long.ensures.long,
    ))
