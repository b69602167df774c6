use Rattle.std.proofs.Common.{ap, refl}
use Rattle.read_shortcuts.specs.Registers.{OfString}
use Rattle.run_shortcuts.proofs.PutRegisters.{goes_further_put, goes_past_or_stays, half_string}
use Rattle.run_shortcuts.proofs.BytesCounted.{more-or_stays, more-put}
use Rattle.run_shortcuts.proofs.fronts.put_string.Goals as goal

pub returns-clause-further : goal.returns-clause-further
returns-clause-further g c = λ out err.
    let took = c.put_string.ensures in
    goes_past_or_stays _ _ _ _ _ _ out err c.args.run.now _ _ refl
    (λ put. goes_further_put OfString _ _ c.args.run.now _ (took.puts c.args.run.now.interpreter.formatter.composer put) _ _ _ _ out err took.notes took.failures)
    (λ none. let kept = took.unchanged none in (kept.0, ap g.S.ByteSource.gives kept.1, ap g.S.ByteSource.notes kept.1)) took.failures

pub returns-clause-half : goal.returns-clause-half
returns-clause-half g c =
    let took = c.put_string.ensures in
    half_string _ _ _ c.args.run.now.interpreter.formatter.composer c.args.run.now.unread _ c.put_string.result
    (took.puts c.args.run.now.interpreter.formatter.composer) (λ none. (took.unchanged none).0)

pub returns-clause-more : goal.returns-clause-more
returns-clause-more g c =
    let took = c.put_string.ensures in
    let es = c.args.run.now.interpreter.formatter.composer in
    more-or_stays c.put_string.result c.args.run.now.unread _ (λ put. more-put OfString _ _ _ es c.args.run.now.unread _ (took.puts es put)) (λ none. (took.unchanged none).0)
