use Rattle.std.proofs.Common.{◌∙◌, sym}
use Rattle.read_shortcuts.proofs.BlankRuns.{reads-blanks}
use Rattle.read_shortcuts.proofs.runs.take_blanks.Goals as goal

pub returns-in-Text-clause-past : goal.returns-in-Text-clause-past
returns-in-Text-clause-past g c =
    reads-blanks _ _ _ c.in-Text.line c.behind_blanks.result _ c.args.reader.now c.go_on.new.self c.args.unread.now _ c.requires.half_read
    (sym c.reading.ensures ∙ c.in-Text.is) c.requires.does c.behind_blanks.ensures c.go_on.ensures
    c.take_run-count.ensures.takes c.stays_within.ensures
