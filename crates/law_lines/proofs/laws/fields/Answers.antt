use Rattle.law_lines.proofs.FieldStops.{plain-left}
use Rattle.law_lines.proofs.FieldWidths.{stands_at_stop, moves_field, place-right, place-centred, place-left, tab_ends_field}
use Rattle.roff_lines.proofs.Told.{finished_lines-plain}
use Rattle.law_lines.proofs.laws.fields.Goals as goal

pub returns-clause-stands : goal.returns-clause-stands
returns-clause-stands c = stands_at_stop

pub returns-clause-moves : goal.returns-clause-moves
returns-clause-moves c = moves_field

pub returns-clause-right : goal.returns-clause-right
returns-clause-right c = place-right

pub returns-clause-centred : goal.returns-clause-centred
returns-clause-centred c = place-centred

pub returns-clause-left : goal.returns-clause-left
returns-clause-left c = place-left

pub returns-clause-tab : goal.returns-clause-tab
returns-clause-tab c = tab_ends_field

pub returns-clause-lines : goal.returns-clause-lines
returns-clause-lines c = finished_lines-plain

pub returns-clause-none : goal.returns-clause-none
returns-clause-none c = plain-left
