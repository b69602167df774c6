-- What follows an event before anything else is done: the text of a diversion changes, and then the macro is read that the event sprang
-- (manual, sections 7.3 to 7.5).
use Rattle.std.specs.Prelude.{Option, None, Some}
use Rattle.input_model.specs.Input.Names.{adding_to, calling, dropping_all, entering_open}
use Rattle.page_model.specs.DueTexts.{TextDue, Begins, Ends, Gets, AllDropped, text_due}
use Rattle.page_model.specs.Happenings.{Happening}
use Rattle.page_model.specs.Layout.{Layout}
use Rattle.roff_num.specs.ShortNames.{name_bytes}
use Rattle.roff_num.specs.declared.short_name.ShortName.{ShortName}
use Rattle.run_model.specs.Layouts.{happens, layout_of}
use Rattle.run_model.specs.PageEvents.{PageHistory, PastEvent}
use Rattle.run_model.specs.Reading.Items.{PageInput}
use Rattle.run_model.specs.Springs.{springs}
use Rattle.roff_store.specs.TextCalls.{Open}

-- what becomes of the text of a diversion, and the macro that sprang, as far as either is still to be done
pub record Following : Type 0 where
  pub text : Option TextDue
  pub sprung : Option ShortName

-- nothing is
abbrev pub nothing_follows : Following
nothing_follows = record { text = None; sprung = None }

-- a macro is read, and no text changes
abbrev pub only_sprung : Option ShortName → Following
only_sprung name = record { text = None; sprung = name }

-- what becomes of texts behind what happens to this layout, if something does
abbrev pub text_behind : Option Happening → Layout → Option TextDue
text_behind None L = None
text_behind (Some x) L = text_due x L

-- what follows an event that happens behind this history
abbrev pub following : PageHistory → PastEvent → Following
following h e = record { text = text_behind (happens h e) (layout_of h); sprung = springs h e }

-- the input behind a change of the texts of diversions
abbrev pub text_changed : TextDue → PageInput → PageInput
text_changed Begins i = calling Open i
text_changed (Ends index name appends) i = entering_open index (name_bytes name) appends i
text_changed (Gets index bytes) i = adding_to index bytes i
text_changed AllDropped i = dropping_all i
