-- What a line of a format does, byte by byte, whether it is laid out or not: for worked rows.
use Rattle.std.specs.Prelude.{ℕ, Bool, true, false, List, [], ◌∷◌, ◌++◌}
use Rattle.tbl_format.specs.Format.{Format, done}
use Rattle.tbl_format.specs.FormatSteps.{step_of}
use Rattle.tbl_format.specs.declared.format.FormatPlace.{FormatPlace}
use Rattle.tbl_format.specs.declared.format.FormatPlace.TheVariants.{AtEnd, AtFault, InRows}
use Rattle.tbl_format.specs.declared.format.RowPart.TheVariants.{AtKeys, BehindKey}
use Rattle.tbl_format.specs.declared.format_step.Does.{Does}
use Rattle.tbl_format.specs.declared.format_step.Does.TheVariants.{AddBar, AddKey, DropWidth, EndFormat, EndRow, Equalize, LeaveOut, Nothing, Separate, Stand, Widen}

abbrev pub if_something : Does → List Does
if_something Nothing = []
if_something (AddKey key) = AddKey key ∷ []
if_something AddBar = AddBar ∷ []
if_something (Separate n) = Separate n ∷ []
if_something (Widen n) = Widen n ∷ []
if_something Equalize = Equalize ∷ []
if_something DropWidth = DropWidth ∷ []
if_something (Stand standing) = Stand standing ∷ []
if_something (LeaveOut letter) = LeaveOut letter ∷ []
if_something EndRow = EndRow ∷ []
if_something EndFormat = EndFormat ∷ []

abbrev pub does_again : Bool → List ℕ → ℕ → List Does
does_again false front b = []
does_again true front b = if_something (step_of BehindKey front b).does

abbrev pub place_again : Bool → FormatPlace → List ℕ → ℕ → FormatPlace
place_again false place front b = place
place_again true place front b = (step_of BehindKey front b).place

abbrev pub does_at : FormatPlace → List ℕ → ℕ → List Does
does_at (InRows part) front b =
    let s = step_of part front b in if_something s.does ++ does_again s.is_again front b
does_at AtEnd front b = []
does_at AtFault front b = []

abbrev pub place_behind : FormatPlace → List ℕ → ℕ → FormatPlace
place_behind (InRows part) front b =
    let s = step_of part front b in place_again s.is_again s.place front b
place_behind AtEnd front b = AtEnd
place_behind AtFault front b = AtFault

-- what the bytes do, and where the reading stands behind them
abbrev pub does_from : FormatPlace → List ℕ → List ℕ → List Does × FormatPlace
does_from place front [] = ([], place)
does_from place front (b ∷ bytes) =
    let rest = does_from (place_behind place front b) (front ++ b ∷ []) bytes in
    (does_at place front b ++ rest.0, rest.1)

abbrev pub does_in : List ℕ → List Does × FormatPlace
does_in line = does_from (InRows AtKeys) [] line

-- the format behind all that
abbrev pub all_done : List Does → Format → Format
all_done [] f = f
all_done (does ∷ more) f = all_done more (done does f)
