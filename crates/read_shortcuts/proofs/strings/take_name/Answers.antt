use Rattle.std.proofs.Common.{sym, ◌∙◌}
use Rattle.read_shortcuts.proofs.RunsRead.{reads-none}
use Rattle.read_shortcuts.proofs.StringNames.{reads-name}
use Rattle.read_lines.proofs.TextTaken.{none_half}
use Rattle.read_shortcuts.proofs.strings.take_name.Goals as goal

pub returns-then-has_open_escape-clause-past : goal.returns-then-has_open_escape-clause-past
returns-then-has_open_escape-clause-past g c = reads-none _ c.args.reader.now c.args.unread.now c.stays_within.ensures

pub returns-then-is_behind_quote-clause-past : goal.returns-then-is_behind_quote-clause-past
returns-then-is_behind_quote-clause-past g c = reads-none _ c.args.reader.now c.args.unread.now c.stays_within-then-is_behind_quote.ensures

pub returns-clause-past : goal.returns-clause-past
returns-clause-past g c =
    let none = none_half c.args.unread.now.input.escapes (sym c.has_open_escape.ensures ∙ c.if-has_open_escape.false) in
    reads-name _ _ _ _ c.args.reader.now c.args.appends c.args.unread.now _ c.requires none c.take_first_argument.ensures.takes c.stays_within-2.ensures
