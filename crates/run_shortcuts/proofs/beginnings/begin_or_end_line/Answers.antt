use Rattle.std.proofs.Common.{◌≡◌, Ok, ap, rules}
use Rattle.page_bytes.specs.Told.{told_by}
use Rattle.run_shortcuts.specs.declared.passed.Passed.TheVariants.{Line, Not, On}
use Rattle.run_turns.proofs.ComingFurther.{comes_kept}
use Rattle.run_shortcuts.proofs.PassedOver.{comes_begun_as, comes_passed_as}
use Rattle.run_shortcuts.proofs.beginnings.begin_or_end_line.Goals as goal

pub returns-in-Ok-Not-clause-further : goal.returns-in-Ok-Not-clause-further
returns-in-Ok-Not-clause-further g c =
    let not_one : c.in-Ok-Not.field-0 ≡ Not = search rules in
    let kept = c.in-Ok-Not.ensures.unchanged (ap Ok not_one) in
    let said = c.in-Ok-Not.ensures.sinks (ap Ok not_one) in
    let out = g.O.ByteSink.sunk c.args.out.now in
    let err = told_by g.E.MessageSink c.args.err.now in
    let past = rw kept.1 at (c.begin_text_line.ensures.past out err) in
    let comes = comes_begun_as c.begin_text_line.result c.begin_text_line.ensures.line (comes_kept kept.0 past) in
    rw (said.0, said.1) comes

pub returns-in-Ok-Line-clause-further : goal.returns-in-Ok-Line-clause-further
returns-in-Ok-Line-clause-further g c =
    let is : c.in-Ok-Line.field-0 ≡ Line = search rules in
    comes_passed_as (ap Ok is) c.in-Ok-Line.ensures.ends

pub returns-in-Ok-On-clause-further : goal.returns-in-Ok-On-clause-further
returns-in-Ok-On-clause-further g c =
    let is : c.in-Ok-On.field-0 ≡ On = search rules in
    absurd (c.in-Ok-On.ensures.all (ap Ok is))

pub returns-in-Ok-On-clause-none_due : goal.returns-in-Ok-On-clause-none_due
returns-in-Ok-On-clause-none_due g c = λ behind.
    let is : c.in-Ok-On.field-0 ≡ On = search rules in
    absurd (c.in-Ok-On.ensures.all (ap Ok is))

pub returns-in-Ok-On-clause-none_half : goal.returns-in-Ok-On-clause-none_half
returns-in-Ok-On-clause-none_half g c = λ behind.
    let is : c.in-Ok-On.field-0 ≡ On = search rules in
    absurd (c.in-Ok-On.ensures.all (ap Ok is))

pub returns-in-Ok-On-clause-told : goal.returns-in-Ok-On-clause-told
returns-in-Ok-On-clause-told g c = λ stands none on.
    let is : c.in-Ok-On.field-0 ≡ On = search rules in
    absurd (c.in-Ok-On.ensures.all (ap Ok is))

pub returns-in-Err-clause-further : goal.returns-in-Err-clause-further
returns-in-Err-clause-further g c = c.in-Err.ensures.ends

pub returns-in-Ok-Not-clause-some : goal.returns-in-Ok-Not-clause-some
returns-in-Ok-Not-clause-some g c = λ stands none is.
    let not_one : c.in-Ok-Not.field-0 ≡ Not = search rules in
    let kept = c.in-Ok-Not.ensures.unchanged (ap Ok not_one) in
    let some = rw (kept.0, kept.1) at c.begin_text_line.ensures.some in
    some stands none (cc (is))

pub returns-in-Ok-Not-clause-told : goal.returns-in-Ok-Not-clause-told
returns-in-Ok-Not-clause-told g c = λ stands none on.
    let not_one : c.in-Ok-Not.field-0 ≡ Not = search rules in
    let kept = c.in-Ok-Not.ensures.unchanged (ap Ok not_one) in
    let told = rw (kept.0, kept.1) at c.begin_text_line.ensures.told in
    told stands none

pub returns-in-Ok-Not-clause-none_due : goal.returns-in-Ok-Not-clause-none_due
returns-in-Ok-Not-clause-none_due g c = λ behind. c.begin_text_line.ensures.none_due

pub returns-in-Ok-Not-clause-none_half : goal.returns-in-Ok-Not-clause-none_half
returns-in-Ok-Not-clause-none_half g c = λ behind. c.begin_text_line.ensures.none_half
