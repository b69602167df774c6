-- What becomes of the texts of diversions behind a happening (manual, section 7.3).
--
-- Each open diversion has a text in the making, the outermost the first: the text of a diversion within so many others has that number.
use Rattle.std.specs.Prelude.{ℕ, ◌-◌, Bool, List, [], ◌∷◌, length, Option, Some, None}
use Rattle.roff_num.specs.declared.short_name.ShortName.{ShortName}
use Rattle.page_model.specs.DivertedText.{diverted_text}
use Rattle.page_model.specs.Happenings.{LayoutEvent, Happening, Does, Places, Titles, Close, Space, Need, Divert, EndDivert}
use Rattle.page_model.specs.Layout.{Diversion, Layout}

-- what becomes of them
pub data TextDue : Type 0 where
  -- a text begins
  Begins : TextDue
  -- the one of this number ends: it is a name's from now on, or is put behind what the name has
  Ends : (index : ℕ) (name : ShortName) (appends : Bool) → TextDue
  -- bytes are put behind the one of this number
  Gets : (index : ℕ) (bytes : List ℕ) → TextDue
  -- all are dropped
  AllDropped : TextDue

-- the innermost of open diversions ends, if one is open
abbrev pub end_due : List Diversion → Option TextDue
end_due [] = None
end_due (d ∷ ds) = Some (Ends (length ds) d.name d.appends)

-- all of them are dropped, if some are open
abbrev pub drop_due : List Diversion → Option TextDue
drop_due [] = None
drop_due (d ∷ ds) = Some AllDropped

-- these bytes are put behind the text of the innermost, if there are some
abbrev pub bytes_due : List Diversion → List ℕ → Option TextDue
bytes_due ds [] = None
bytes_due ds (b ∷ bytes) = Some (Gets (length ds - 1) (b ∷ bytes))

-- what becomes of them behind an event
abbrev pub due_by : LayoutEvent → Layout → Option TextDue
due_by (Divert name appends) L = Some Begins
due_by EndDivert L = end_due L.diversions
due_by Close L = drop_due L.diversions
due_by (Space k) L = bytes_due L.diversions (diverted_text (Does (Space k)) L)
due_by (Need k) L = bytes_due L.diversions (diverted_text (Does (Need k)) L)
due_by (_) L = None

-- the same behind a happening
abbrev pub text_due : Happening → Layout → Option TextDue
text_due (Does e) L = due_by e L
text_due (Places line) L = bytes_due L.diversions (diverted_text (Places line) L)
text_due (Titles t) L = bytes_due L.diversions (diverted_text (Titles t) L)
