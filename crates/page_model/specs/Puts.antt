-- What a happening puts: a box, and blank lines behind it (manual, sections 3, 5.3 and 7.5).
use Rattle.std.specs.Prelude.{ℕ, ◌+◌, ◌-◌, min, Bool, not, ◌&&◌, List, [], ◌∷◌, ◌++◌, replicate, nat_lt, Option, Some, None, if◌then◌else◌, ◌==◌}
use Rattle.page_model.specs.Columns.{printed}
use Rattle.page_model.specs.Titles.{title_text}
use Rattle.page_model.specs.Layout.{Box, Lined, Empty, Layout}
use Rattle.page_model.specs.Happenings.{LayoutEvent, Happening, Does, Places, Titles, Space, Need, Eject, EjectTo, EjectOn, EjectLast}
use Rattle.page_model.specs.Stops.{Target, target}

-- what is put: a text, if there is one, and so many blank lines behind it at most
pub record Put : Type 0 where
  pub first : Option (List ℕ)
  pub space : ℕ

-- blank lines alone
abbrev pub blank_lines : ℕ → Put
blank_lines k = record { first = None; space = k }

-- what is spaced where so many lines are needed: the way to the stop, if it is less
abbrev pub needed : ℕ → ℕ → Option ℕ → ℕ
needed k place None = 0
needed k place (Some stop) = if nat_lt (stop - place) k then stop - place else 0

-- the way to the stop
abbrev pub way_to : ℕ → Option ℕ → ℕ
way_to place None = 0
way_to place (Some stop) = stop - place

-- all lines up to the page's next stop, if a page is ejected
abbrev pub ejected_if : Bool → Target → Option Put
ejected_if is_asked t = if is_asked then Some (blank_lines (way_to t.place t.stop)) else None

-- what an event puts, where so many pages were begun
abbrev pub put_by : LayoutEvent → Target → ℕ → Option Put
put_by (Space k) t begun = if t.no_space then None else Some (blank_lines k)
put_by (Need k) t begun = Some (blank_lines (needed k t.place t.stop))
put_by (Eject asked) t begun = ejected_if (begun == asked && not t.no_space) t
put_by (EjectTo asked number) t begun = ejected_if (begun == asked) t
put_by (EjectOn asked) t begun = ejected_if (begun == asked) t
put_by EjectLast t begun = ejected_if (not (begun == 0) && not (t.place == 0)) t
put_by (_) t begun = None

-- what a happening puts
abbrev pub puts : Happening → Layout → Option Put
puts (Does e) L = put_by e (target (Does e) L) L.begun
puts (Places line) L = Some (record { first = Some (printed line); space = line.after })
puts (Titles t) L = Some (record { first = Some (title_text t); space = 0 })

-- how many blank lines stand behind a box at most, as the next stop lets them
abbrev pub within_stop : ℕ → Option ℕ → ℕ → ℕ
within_stop place None k = k
within_stop place (Some stop) k = min k (stop - place)

-- the boxes of a put: blank lines in front of its text, as the newest box comes first
abbrev pub boxes_behind : ℕ → Option ℕ → Option (List ℕ) → ℕ → List Box
boxes_behind place stop None k = replicate (within_stop place stop k) Empty
boxes_behind place stop (Some text) k = replicate (within_stop (place + 1) stop k) Empty ++ Lined text ∷ []

-- the boxes that a put appends to where it goes
abbrev pub boxes_put : Target → Option Put → List Box
boxes_put t None = []
boxes_put t (Some p) = boxes_behind t.place t.stop p.first p.space

-- the boxes that a happening appends, the newest first
abbrev pub appended : Happening → Layout → List Box
appended x L = boxes_put (target x L) (puts x L)
