use Rattle.std.proofs.Common.{ap, arith}
use Rattle.roff_num.specs.declared.limits.Limits.{Limits}
use Rattle.read_shortcuts.proofs.strings_ahead.has_room_for.Goals as goal

pub returns-clause-room : goal.returns-clause-room
returns-clause-room c = λ shallow.
    let stack = ap (λ (limits : Limits). limits.stack) c.limits-limits.ensures in
    omega (arith, c.stays_within.ensures.pushed, c.body_fits.ensures.fits c.if-not-body_fits.false, c.saturating_sub-room.ensures, c.pushed.ensures, stack)
