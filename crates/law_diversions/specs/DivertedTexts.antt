-- The texts in the making of a run: those of open diversions, and that of a string or macro (manual, sections 7.1 and 7.3).
use Rattle.std.specs.Prelude.{ℕ, Bool, true, false, List, [], ◌∷◌, ◌++◌, Some}
use Rattle.page_model.specs.DivertedText.{diverted_lines}
use Rattle.page_model.specs.Layout.{Diversion}
use Rattle.run_model.specs.declared.line_state.LineState.{LineState}
use Rattle.run_model.specs.declared.line_state.LineState.TheVariants.{Collecting}
use Rattle.run_model.specs.declared.purpose.Purpose.TheVariants.{StringText, Defining}

-- the texts of open diversions, the outermost first: of each its boxes, as lines of input
abbrev pub diverted_texts : List Diversion → List (List ℕ)
diverted_texts [] = []
diverted_texts (d ∷ ds) = diverted_texts ds ++ diverted_lines d.boxes ∷ []

-- whether the text of a string or a macro is being made, by what is read
abbrev pub is_making : LineState → Bool
is_making (Collecting (StringText (Some name) appends is_front)) = true
is_making (Collecting (Defining (Some name) appends end matched)) = true
is_making (_) = false

-- these are some texts, and one more above them, if one is being made
pub data IsAbove (below : List (List ℕ)) : Bool → List (List ℕ) → Type 0 where
  NoneAbove : IsAbove below false below
  OneAbove : (text : List ℕ) → IsAbove below true (below ++ text ∷ [])
