use Rattle.std.proofs.Common.{ap, subst, sym, ◌∙◌}
use Rattle.run_model.specs.declared.line_state.LineState.{LineState}
use Rattle.run_model.specs.declared.line_state.LineState.TheVariants.{Collecting}
use Rattle.run_model.specs.declared.purpose.Purpose.{Purpose}
use Rattle.read_shortcuts.specs.Registers.{ReadsNames}
use Rattle.read_shortcuts.proofs.RegisterNames.{reads_names-arguments, reads_names-calling, reads_names-start, reads_names-text}
use Rattle.read_shortcuts.proofs.registers.reads_names.Goals as goal

pub returns-in-LineStart : goal.returns-in-LineStart
returns-in-LineStart c = λ so.
    let is = sym c.reading.ensures ∙ c.in-LineStart.is in
    subst (λ (reading : LineState). ReadsNames reading) (sym is) reads_names-start

pub returns-in-Text : goal.returns-in-Text
returns-in-Text c = λ so.
    let is = sym c.reading.ensures ∙ c.in-Text.is in
    subst (λ (reading : LineState). ReadsNames reading) (sym is) (reads_names-text c.in-Text.field-0)

pub returns-in-Collecting-Arguments : goal.returns-in-Collecting-Arguments
returns-in-Collecting-Arguments c = λ so.
    let is = sym c.reading.ensures ∙ c.in-Collecting-Arguments.is ∙ ap (λ (purpose : Purpose). Collecting purpose) c.in-Collecting-Arguments.field-0-is in
    subst (λ (reading : LineState). ReadsNames reading) (sym is) (reads_names-arguments c.in-Collecting-Arguments.field-0-0 c.in-Collecting-Arguments.field-0-1)

pub returns-in-Collecting-Calling : goal.returns-in-Collecting-Calling
returns-in-Collecting-Calling c = λ so.
    let is = sym c.reading.ensures ∙ c.in-Collecting-Calling.is ∙ ap (λ (purpose : Purpose). Collecting purpose) c.in-Collecting-Calling.field-0-is in
    subst (λ (reading : LineState). ReadsNames reading) (sym is) (reads_names-calling c.in-Collecting-Calling.field-0-0)
