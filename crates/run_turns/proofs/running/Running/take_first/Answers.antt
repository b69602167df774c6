use Rattle.std.proofs.Common.{◌≡◌, ℕ, rules, subst}
use Rattle.run_model.specs.Run.{byte_taken}
use Rattle.run_items.specs.Outcome.{seen}
use Rattle.run_turns.specs.Running.Turning.{DoesItem}
use Rattle.page_bytes.specs.Told.{told_by}
use Rattle.run_turns.proofs.running.Running.take_first.Goals as goal

pub returns-in-10 : goal.returns-in-10
returns-in-10 g c = λ failures.
    let is : 10 ≡ c.args.byte = search rules in
    subst
    (λ (b : ℕ). DoesItem c.args.line_before (byte_taken b) c.args.self.now c.take.new.self (seen failures (g.O.ByteSink.sunk c.args.out.now) (told_by g.E.MessageSink c.args.err.now))
    (seen failures (g.O.ByteSink.sunk c.take.new.out) (told_by g.E.MessageSink c.take.new.err)) c.take.result)
    is (c.take.ensures failures)

pub returns-in-32 : goal.returns-in-32
returns-in-32 g c = λ failures.
    let is : 32 ≡ c.args.byte = search rules in
    subst
    (λ (b : ℕ). DoesItem c.args.line_before (byte_taken b) c.args.self.now c.take-in-32.new.self (seen failures (g.O.ByteSink.sunk c.args.out.now) (told_by g.E.MessageSink c.args.err.now))
    (seen failures (g.O.ByteSink.sunk c.take-in-32.new.out) (told_by g.E.MessageSink c.take-in-32.new.err)) c.take-in-32.result)
    is (c.take-in-32.ensures failures)

pub returns-in-9 : goal.returns-in-9
returns-in-9 g c = λ failures.
    let is : 9 ≡ c.args.byte = search rules in
    subst
    (λ (b : ℕ). DoesItem c.args.line_before (byte_taken b) c.args.self.now c.take-in-9.new.self (seen failures (g.O.ByteSink.sunk c.args.out.now) (told_by g.E.MessageSink c.args.err.now))
    (seen failures (g.O.ByteSink.sunk c.take-in-9.new.out) (told_by g.E.MessageSink c.take-in-9.new.err)) c.take-in-9.result)
    is (c.take-in-9.ensures failures)
