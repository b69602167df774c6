-- The law of whole pages: what a run writes that ends as its last page does (manual, section 3).
use Rattle.std.specs.Prelude.{◌≡◌, ◌⊎◌, ℕ, Bool, true, false, List, [], ◌∷◌, ◌++◌, length, Some}
use Rattle.std.specs.List.{AllByRecursion}
use Rattle.roff_num.specs.declared.limits.Limits.{Limits}
use Rattle.page_model.specs.DeviceText.{box_line}
use Rattle.page_model.specs.Layout.{Box}
use Rattle.page_model.specs.declared.layout_event.LayoutEvent.TheVariants.{Length}
use Rattle.input_source.specs.Tape.{Tape}
use Rattle.run_model.specs.Environments.{PageHistory}
use Rattle.run_model.specs.Layouts.{layout_of}
use Rattle.run_model.specs.Results.{last_state, output_of, status_of}
use Rattle.run_model.specs.PageEvents.{PastEvent}
use Rattle.run_model.specs.declared.event.PageEvent.TheVariants.{Page}
use Rattle.run_model.specs.declared.start.Start.{Start}
use Rattle.run_model.specs.declared.status.Status.TheVariants.{Done}

-- a line of a page: what takes it up, and the page offset in front of it
pub record PageLine : Type 0 where
  pub offset : ℕ
  pub box : Box

-- lines as they are written, the newest first
abbrev pub lines_text : List PageLine → List ℕ
lines_text [] = []
lines_text (line ∷ lines) = lines_text lines ++ box_line line.offset line.box

-- and pages
abbrev pub pages_text : List (List PageLine) → List ℕ
pages_text [] = []
pages_text (page ∷ pages) = pages_text pages ++ lines_text page

-- a text is pages of just so many lines, one behind another
pub record IsWholePages (size : ℕ) (text : List ℕ) : Type 0 where
  pub pages : List (List PageLine)
  pub full : AllByRecursion (λ page. length page ≡ size) pages
  pub written : text ≡ pages_text pages

-- whether an event sets the page length
abbrev pub sets_length : PastEvent → Bool
sets_length (Page (Length k)) = true
sets_length (_) = false

-- the page length is set before the first page begins, and not behind that
abbrev pub KeepsLength : PageHistory → Type 0
KeepsLength [] = Unit {0}
KeepsLength (e ∷ h) = (sets_length e ≡ true → (layout_of h).begun ≡ 0) × KeepsLength h

-- each page that was begun is written
abbrev pub WritesEachPage : PageHistory → Type 0
WritesEachPage [] = Unit {0}
WritesEachPage (e ∷ h) = (((layout_of (e ∷ h)).begun ≡ 0) ⊎ ((layout_of (e ∷ h)).is_listed ≡ true)) × WritesEachPage h

-- A run that is done, that kept its page length and wrote each page, wrote whole pages, the last one too: each of as many lines
-- as the page length says.
abbrev pub WritesWholePages : Type 0
WritesWholePages =
    (l : Limits) (start : Start) (tape : Tape) → status_of l start tape ≡ Some Done →
    let h : PageHistory = (last_state l start tape).history in
    KeepsLength h → WritesEachPage h → IsWholePages (layout_of h).length (output_of l start tape)
