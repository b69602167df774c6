use Rattle.std.proofs.Common.{◌≡◌, true, false, sym, ap, ◌∙◌}
use Rattle.run_model.specs.Run.{escape_ends, input_ended, phase_ended}
use Rattle.run_model.specs.declared.phase.Phase.{Phase}
use Rattle.run_model.specs.declared.phase.Phase.TheVariants.{Closing, LastMacro, Reading}
use Rattle.run_items.specs.Ending.{input_ends}
use Rattle.run_turns.specs.Running.Turning.{state_at}
use Rattle.run_turns.proofs.Acting.{DoesItem-as}
use Rattle.run_items.proofs.InputEnds.{input_ends-escapes, input_ends-no_half, some_half}
use Rattle.run_turns.proofs.Ending.{closed_acts}
use Rattle.run_turns.proofs.Turns.{on_ok}
use Rattle.run_turns.proofs.running.Running.end_input.Goals as goal

pub returns-then-has_open_escape-clause-acts : goal.returns-then-has_open_escape-clause-acts
returns-then-has_open_escape-clause-acts g c = λ may failures.
    DoesItem-as input_ends escape_ends _ _ _ _ _ _
    (λ tape h messages stood. input_ends-escapes (state_at tape c.args.self.now h messages) (sym c.has_open_escape.ensures ∙ c.if-has_open_escape.true))
    (c.end_escape.ensures failures)

pub returns-then-has_open_escape-clause-goes_on : goal.returns-then-has_open_escape-clause-goes_on
returns-then-has_open_escape-clause-goes_on g c = λ l h stood.
    on_ok c.end_escape.result (λ none unfinished closing. some_half c.args.self.now.unread.input.escapes (sym c.has_open_escape.ensures ∙ c.if-has_open_escape.true) none)

pub returns-then-is_unfinished-clause-acts : goal.returns-then-is_unfinished-clause-acts
returns-then-is_unfinished-clause-acts g c = λ may failures.
    let old = c.args.self.now in
    DoesItem-as input_ends (input_ended true) _ _ _ _ _ _
    (λ tape h messages stood. input_ends-no_half (state_at tape old h messages) true (sym c.has_open_escape.ensures ∙ c.if-has_open_escape.false)
    (sym (c.is_unfinished.ensures old.limits h old.interpreter.reader.registers.all old.unread.input stood) ∙ c.if-is_unfinished.true))
    (c.end_line.ensures failures)

pub returns-then-is_unfinished-clause-goes_on : goal.returns-then-is_unfinished-clause-goes_on
returns-then-is_unfinished-clause-goes_on g c = λ l h stood.
    let old = c.args.self.now in
    on_ok c.end_line.result (λ none unfinished closing.
    let wrong : true ≡ false = sym c.if-is_unfinished.true ∙ c.is_unfinished.ensures l h old.interpreter.reader.registers.all old.unread.input stood ∙ unfinished in absurd (cc))

pub returns-in-Reading-clause-acts : goal.returns-in-Reading-clause-acts
returns-in-Reading-clause-acts g c = λ may failures.
    let old = c.args.self.now in
    DoesItem-as input_ends (phase_ended Reading) _ _ _ _ _ _
    (λ tape h messages stood.
    let s = state_at tape old h messages in
    input_ends-no_half s false (sym c.has_open_escape.ensures ∙ c.if-has_open_escape.false)
    (sym (c.is_unfinished.ensures old.limits h old.interpreter.reader.registers.all old.unread.input stood) ∙ c.if-is_unfinished.false)
    ∙ ap (λ (p : Phase). phase_ended p s) c.in-Reading.is)
    (c.read_last_macro.ensures failures)

pub returns-in-Reading-clause-goes_on : goal.returns-in-Reading-clause-goes_on
returns-in-Reading-clause-goes_on g c = λ l h stood.
    on_ok c.read_last_macro.result (λ none unfinished closing. let wrong : Reading ≡ Closing = sym c.in-Reading.is ∙ closing in absurd (cc))

pub returns-in-LastMacro-clause-acts : goal.returns-in-LastMacro-clause-acts
returns-in-LastMacro-clause-acts g c = λ may failures.
    let old = c.args.self.now in
    DoesItem-as input_ends (phase_ended LastMacro) _ _ _ _ _ _
    (λ tape h messages stood.
    let s = state_at tape old h messages in
    input_ends-no_half s false (sym c.has_open_escape.ensures ∙ c.if-has_open_escape.false)
    (sym (c.is_unfinished.ensures old.limits h old.interpreter.reader.registers.all old.unread.input stood) ∙ c.if-is_unfinished.false)
    ∙ ap (λ (p : Phase). phase_ended p s) c.in-LastMacro.is)
    (c.finish.ensures failures)

pub returns-in-LastMacro-clause-goes_on : goal.returns-in-LastMacro-clause-goes_on
returns-in-LastMacro-clause-goes_on g c = λ l h stood.
    on_ok c.finish.result (λ none unfinished closing. let wrong : LastMacro ≡ Closing = sym c.in-LastMacro.is ∙ closing in absurd (cc))

pub returns-in-Closing-clause-acts : goal.returns-in-Closing-clause-acts
returns-in-Closing-clause-acts g c = λ may failures.
    let old = c.args.self.now in
    DoesItem-as input_ends (phase_ended Closing) _ _ _ _ _ _
    (λ tape h messages stood.
    let s = state_at tape old h messages in
    input_ends-no_half s false (sym c.has_open_escape.ensures ∙ c.if-has_open_escape.false)
    (sym (c.is_unfinished.ensures old.limits h old.interpreter.reader.registers.all old.unread.input stood) ∙ c.if-is_unfinished.false)
    ∙ ap (λ (p : Phase). phase_ended p s) c.in-Closing.is)
    (closed_acts _ old _ may)
