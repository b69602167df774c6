use Rattle.std.proofs.Common.{◌∙◌, refl, subst, sym}
use Rattle.read_shortcuts.proofs.BlankRuns.{reads-branch_blanks}
use Rattle.read_shortcuts.proofs.RunsRead.{reads-none, takes-ready}
use Rattle.read_shortcuts.specs.Runs.{TakesReady, branch_blanks, ready_allowed}
use Rattle.run_model.specs.declared.line_state.LineState.{LineState}
use Rattle.read_shortcuts.proofs.runs.take_branch_blanks.Goals as goal

pub returns-in-Branch-clause-past : goal.returns-in-Branch-clause-past
returns-in-Branch-clause-past g c =
    reads-branch_blanks _ _ _ _ c.args.reader.now c.args.unread.now _ c.requires.none_half (sym c.reading.ensures ∙ c.in-Branch.is) c.take_run.ensures.takes c.stays_within.ensures

pub returns-in-Branch-clause-none_half : goal.returns-in-Branch-clause-none_half
returns-in-Branch-clause-none_half g c = c.take_run.ensures.takes.half_read ∙ c.requires.none_half

pub returns-in_default-clause-past : goal.returns-in_default-clause-past
returns-in_default-clause-past g c = reads-none _ c.args.reader.now c.args.unread.now c.stays_within-in_default.ensures

pub returns-in-Branch-clause-whole : goal.returns-in-Branch-clause-whole
returns-in-Branch-clause-whole g c =
    let u = c.args.unread.now in
    subst (λ (reading : LineState). TakesReady (branch_blanks reading (ready_allowed u (g.S.ByteSource.ready c.args.source.now))) u c.take_run.new.self)
    (sym (sym c.reading.ensures ∙ c.in-Branch.is)) (takes-ready _ _ _ _ _ u c.take_run.new.self c.take_run.ensures.takes refl)
