-- The layout of pages behind a history (manual, sections 3, 5.3 and 14).
use Rattle.std.specs.Prelude.{[], ◌∷◌, Option, Some, None, option_map}
use Rattle.page_model.specs.Events.{History, settings_after}
use Rattle.page_model.specs.Behind.{finished}
use Rattle.roff_num.specs.RegisterText.{register_text}
use Rattle.page_model.specs.Layout.{Layout, first_layout}
use Rattle.page_model.specs.Happenings.{Happening, Does, Places, Titles}
use Rattle.page_model.specs.Turning.{with_event as laid_behind}
use Rattle.run_model.specs.Environments.{text_of}
use Rattle.run_model.specs.PageEvents.{PageHistory, PastEvent, Text, Page, Title}
use Rattle.run_model.specs.TitleTexts.{TitleTold}
use Rattle.page_model.specs.Titles.{Title as PlacedTitle}

-- a title as it is placed: with the title length that is in force, and with this page's number
abbrev pub placed : TitleTold → History → Layout → PlacedTitle
placed t h L = record {
  left = t.text.left;
  centre = t.text.centre;
  right = t.text.right;
  length = (settings_after h).title_length;
  number = register_text t.format L.number.0;
}

-- What happens to this layout with an event, if something does: the line is placed that the event finishes, or a title, or it is
-- of pages.
abbrev pub happens_on : Layout → PageHistory → PastEvent → Option Happening
happens_on L h (Text e) = option_map Places (finished (text_of h) e)
happens_on L h (Page e) = Some (Does e)
happens_on L h (Title t) = Some (Titles (placed t (text_of h) L))
happens_on L h (_) = None

-- the layout behind what happens, if something does
abbrev pub laid_out : Option Happening → Layout → Layout
laid_out None L = L
laid_out (Some x) L = laid_behind x L

-- the layout behind a history
abbrev pub layout_of : PageHistory → Layout
layout_of [] = first_layout
layout_of (e ∷ h) = laid_out (happens_on (layout_of h) h e) (layout_of h)

-- what happens to the layout behind a history with an event
abbrev pub happens : PageHistory → PastEvent → Option Happening
happens h e = happens_on (layout_of h) h e
