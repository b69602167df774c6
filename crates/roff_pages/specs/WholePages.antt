-- Whole pages: the boxes of a page up to its end, and what is written of it.
use Rattle.std.specs.Prelude.{ℕ, Bool, true, false, ◌&&◌, List, [], ◌∷◌, ◌++◌, length, nat_le, not, is_some, if◌then◌else◌}
use Rattle.page_model.specs.Layout.{Box, Layout}
use Rattle.page_model.specs.declared.layout_event.LayoutEvent.TheVariants.{Begin, Close, Length, Offset, EndDivert}
use Rattle.page_model.specs.Happenings.{Happening, Does}
use Rattle.page_model.specs.Stops.{is_diverted}
use Rattle.page_model.specs.Puts.{puts, appended}
use Rattle.page_model.specs.Turning.{with_event}
use Rattle.page_model.specs.DeviceText.{device_text}

-- the page's boxes with those that a happening puts on it, before it ends
abbrev pub page_boxes : Happening → Layout → List Box
page_boxes x L = if is_diverted x L then L.boxes else appended x L ++ L.boxes

-- whether the page ends with a happening: one that puts something on it
abbrev pub ends_page : Happening → Layout → Bool
ends_page x L = is_some (puts x L) && (not (is_diverted x L) && nat_le L.length (length (page_boxes x L)))

-- the page's boxes behind what happened, up to its end
abbrev pub boxes_of_page : List Happening → Layout → List Box
boxes_of_page [] L = L.boxes
boxes_of_page (x ∷ xs) L = if ends_page x L then page_boxes x L else boxes_of_page xs (with_event x L)

-- what was written of it
abbrev pub written_on_page : List Happening → Layout → List ℕ
written_on_page [] L = []
written_on_page (x ∷ xs) L = device_text x L ++ (if ends_page x L then [] else written_on_page xs (with_event x L))

-- how many boxes the pages had that ended, told whether one ends and the layout is over, its boxes, and those behind it
abbrev pub sizes_behind : Bool → Bool → ℕ → List ℕ → List ℕ
sizes_behind ended over size sizes = let later = if over then [] else sizes in if ended then size ∷ later else later

-- how many boxes the pages had that ended, until the layout is over
abbrev pub page_sizes : List Happening → Layout → List ℕ
page_sizes [] L = []
page_sizes (x ∷ xs) L =
    sizes_behind (ends_page x L) (with_event x L).is_over (length (page_boxes x L)) (page_sizes xs (with_event x L))

-- what leaves the page length as it is
abbrev pub keeps_length : Happening → Bool
keeps_length (Does (Length k)) = false
keeps_length (_) = true

-- what leaves the page and its offset as they are: the first page alone begins by an event of its own
abbrev pub keeps_page : Happening → Bool
keeps_page (Does Begin) = false
keeps_page (Does (Offset k)) = false
keeps_page (_) = true

-- what may close an open diversion
abbrev pub closes_diversions : Happening → Bool
closes_diversions (Does Close) = true
closes_diversions (Does EndDivert) = true
closes_diversions (_) = false
