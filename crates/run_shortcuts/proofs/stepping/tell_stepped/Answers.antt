use Rattle.std.proofs.Common.{ℕ, List, ap, refl, subst, sym, ◌+◌, ◌<◌, ◌∙◌, arith, length}
use Rattle.input_model.specs.Unread.{IsWithin}
use Rattle.run_model.specs.Reading.Items.{PageUnread}
use Rattle.read_shortcuts.specs.Registers.{with_text}
use Rattle.read_shortcuts.specs.Stepped.{StepsText}
use Rattle.read_shortcuts.proofs.RegistersHeld.{half-read, reads_text, room-left}
use Rattle.run_turns.specs.declared.running.Running.{Running as Coded}
use Rattle.read_lines.specs.Reader.State.{ReaderState}
use Rattle.run_shortcuts.proofs.SteppedRegisters.{goes_further_stepped_told, run_with, same_reading}
use Rattle.run_turns.proofs.ComingFurther.{comes_nowhere}
use Rattle.run_shortcuts.proofs.BytesCounted.{more-read, more-stepped}
use Rattle.run_shortcuts.proofs.stepping.tell_stepped.Goals as goal

pub push_read-requires-clause-stack : goal.push_read-requires-clause-stack
push_read-requires-clause-stack g c =
    let passed : PageUnread = c.step_register.new.unread in
    let puts = subst (λ (t : List ℕ). IsWithin (with_text t passed)) (sym c.as_slice-bytes.ensures.value) c.in-Some.ensures.steps.within in
    (room-left c.as_slice-bytes.result.now c.text_front-count.result passed puts).0

pub push_read-requires-clause-shallow : goal.push_read-requires-clause-shallow
push_read-requires-clause-shallow g c =
    let passed : PageUnread = c.step_register.new.unread in
    let puts = subst (λ (t : List ℕ). IsWithin (with_text t passed)) (sym c.as_slice-bytes.ensures.value) c.in-Some.ensures.steps.within in
    (room-left c.as_slice-bytes.result.now c.text_front-count.result passed puts).1

pub returns-in-Some-clause-half : goal.returns-in-Some-clause-half
returns-in-Some-clause-half g c =
    let passed : PageUnread = c.step_register.new.unread in
    let text : List ℕ = c.as_slice-bytes.result.now in
    let is = sym c.as_slice-bytes.ensures.value in
    let within = subst (λ (t : List ℕ). IsWithin (with_text t passed)) is c.in-Some.ensures.steps.within in
    let room = subst (λ (t : List ℕ). passed.input.charge + length t < passed.limits.bytes) is c.in-Some.ensures.bytes in
    let few = c.text_front-count.ensures.few in
    let wrote = c.push_read.ensures in
    half-read text c.text_front-count.result few passed passed.input.arguments room within c.push_read.result c.push_read.new.self
    (reads_text text c.text_front-count.result few passed passed.input.arguments room passed c.push_read.new.self c.push_read.result refl
    wrote.whole wrote.ended wrote.rest c.stays_within.ensures)
    ∙ c.in-Some.ensures.steps.half

pub returns-in-Some-clause-reads : goal.returns-in-Some-clause-reads
returns-in-Some-clause-reads g c =
    same_reading _ _ c.args.run.now c.step_register.new.reader (with_text _ c.step_register.new.unread) c.in-Some.ensures.steps

pub returns-in-Some-clause-further : goal.returns-in-Some-clause-further
returns-in-Some-clause-further g c = λ out err.
    let old : Coded = c.args.run.now in
    let passed : PageUnread = c.step_register.new.unread in
    let text : List ℕ = c.as_slice-bytes.result.now in
    let is = sym c.as_slice-bytes.ensures.value in
    let gave = g.S.ByteSource.gives c.args.source.now in
    let gives = g.S.ByteSource.gives c.step_register.new.source in
    let steps = subst (λ (t : List ℕ). StepsText gave gives old.interpreter.reader c.step_register.new.reader old.interpreter.formatter.composer old.unread (with_text t passed)) is c.in-Some.ensures.steps in
    let room = subst (λ (t : List ℕ). passed.input.charge + length t < passed.limits.bytes) is c.in-Some.ensures.bytes in
    let wrote = c.push_read.ensures in
    let told = c.text_front-count.ensures in
    goes_further_stepped_told gave gives _ _ _ _ out err old c.step_register.new.reader _ passed c.push_read.new.self text c.text_front-count.result room c.push_read.result told
    c.requires steps wrote.quote
    (reads_text text c.text_front-count.result told.few passed passed.input.arguments room passed c.push_read.new.self c.push_read.result refl
    wrote.whole wrote.ended wrote.rest c.stays_within.ensures)
    c.step_register.ensures.notes c.step_register.ensures.failures

pub returns-in-None-clause-further : goal.returns-in-None-clause-further
returns-in-None-clause-further g c = λ out err.
    let old : Coded = c.args.run.now in
    let kept = c.step_register.ensures.unchanged c.in-None.is in
    (comes_nowhere _ _ _ _ _ _ out err old _ (ap g.S.ByteSource.gives kept.2) (ap g.S.ByteSource.notes kept.2) (ap g.S.ByteSource.failures kept.2)
    (ap (λ (r : ReaderState). run_with old r c.step_register.new.unread) kept.0 ∙ ap (λ (u : PageUnread). run_with old old.interpreter.reader u) kept.1))

pub returns-in-Some-clause-more : goal.returns-in-Some-clause-more
returns-in-Some-clause-more g c =
    let passed : PageUnread = c.step_register.new.unread in
    let stepped = more-stepped _ _ _ _ _ c.args.run.now.unread (with_text _ passed) c.in-Some.ensures.steps in
    let read = more-read _ c.text_front-count.result passed c.push_read.new.self c.push_read.result c.push_read.ensures.ended c.push_read.ensures.rest in
    omega (arith, stepped, read)

pub returns-in-None-clause-more : goal.returns-in-None-clause-more
returns-in-None-clause-more g c =
    let is = ap (λ (u : PageUnread). u.input.charge) (c.step_register.ensures.unchanged c.in-None.is).1 in
    omega (arith, is)
