-- How the text of a diversion changes behind an event.
use Rattle.std.specs.Prelude.{◌≡◌, Option, None, Some, Result, Ok}
use Rattle.roff_num.specs.declared.limit.Limit.{Limit}
use Rattle.input_model.specs.Unread.{changing}
use Rattle.page_model.specs.DueTexts.{TextDue}
use Rattle.run_model.specs.Following.{text_changed}
use Rattle.run_model.specs.Reading.Items.{PageUnread}

-- What becomes of the text of a diversion, if something does: it changes, or a limit refuses that, and nothing does.
abbrev pub ChangesText : Option TextDue → PageUnread → PageUnread → Result (Unit {0}) Limit → Type 0
ChangesText None old new r = ◌≡◌ {A = Result (Unit {0}) Limit × PageUnread} (r, new) (Ok tt, old)
ChangesText (Some due) old new r = (r, new) ≡ changing (text_changed due old.input) old
