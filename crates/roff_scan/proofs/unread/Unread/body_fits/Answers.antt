use Rattle.std.proofs.Common.{arith}
use Rattle.input_ahead.proofs.NamedTexts.{body_within}
use Rattle.roff_num.specs.ShortNames.{name_bytes}
use Rattle.roff_scan.specs.Unread.Kept.{kept_by}
use Rattle.roff_scan.proofs.unread.Unread.body_fits.Goals as goal

pub returns-then-stored-most-clause-fits : goal.returns-then-stored-most-clause-fits
returns-then-stored-most-clause-fits g c = λ so.
    let kept = kept_by c.self.inside in
    rw (← c.self.view_is)
    (omega (arith, body_within (name_bytes c.args.name) kept.input.names, c.stored.ensures, c.if-stored-most.true))
