use Rattle.std.proofs.Common.{ℕ, Option, subst}
use Rattle.read_shortcuts.specs.Runs.{IsRun, run_holding}
use Rattle.read_shortcuts.proofs.TakenRuns.{reads-a_run}
use Rattle.read_shortcuts.proofs.runs.take_arguments.Goals as goal

pub returns-in-None-clause-past : goal.returns-in-None-clause-past
returns-in-None-clause-past g c =
    reads-a_run _ _ _ _ _ c.args.reader.now c.args.unread.now _ c.take_arguments-behind.ensures.takes
    (subst (λ (most : Option ℕ). IsRun (run_holding most) c.args.reader.now.reading c.args.unread.now.input.escapes) c.in-None.is c.requires) (λ is. cc) c.stays_within.ensures

pub returns-in-Some-clause-past : goal.returns-in-Some-clause-past
returns-in-Some-clause-past g c =
    reads-a_run _ _ _ _ _ c.args.reader.now c.args.unread.now _ c.take_call_arguments-behind.ensures.takes
    (subst (λ (most : Option ℕ). IsRun (run_holding most) c.args.reader.now.reading c.args.unread.now.input.escapes) c.in-Some.is c.requires) (λ is. cc) c.stays_within-in-Some.ensures
