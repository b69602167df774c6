use Rattle.std.proofs.Common.{ap, refl}
use Rattle.run_shortcuts.proofs.PutRegisters.{goes_further_held, goes_past_or_stays, half_register}
use Rattle.run_shortcuts.proofs.fronts.hold_text.Goals as goal

pub returns-clause-further : goal.returns-clause-further
returns-clause-further g c = λ out err.
    let took = c.hold_text.ensures in
    goes_past_or_stays _ _ _ _ _ _ out err c.args.run.now _ _ refl
    (λ held. goes_further_held _ _ _ _ _ _ out err c.args.run.now _ (took.holds held) c.requires.none_due took.notes took.failures)
    (λ none. let kept = took.unchanged none in (kept.0, ap g.S.ByteSource.gives kept.1, ap g.S.ByteSource.notes kept.1)) took.failures

pub returns-clause-half : goal.returns-clause-half
returns-clause-half g c =
    let took = c.hold_text.ensures in
    half_register _ _ _ _ c.args.run.now.unread _ c.hold_text.result took.holds (λ none. (took.unchanged none).0)
