-- What is given of the pages before a run: nothing is written of it, and it changes no environment.
use Rattle.std.proofs.Common.{◌≡◌, not, ◌||◌, List, [], ◌∷◌, ◌++◌, ℕ, Option, Some, None, refl, ap, ◌∙◌, append-nil}
use Rattle.roff_num.specs.declared.num.Num.{Num}
use Rattle.page_model.proofs.DeviceText.{either_none}
use Rattle.page_model.specs.Happenings.{Happening, Does}
use Rattle.page_model.specs.Layout.{Layout}
use Rattle.page_model.specs.Stops.{is_diverted}
use Rattle.page_model.specs.declared.layout_event.LayoutEvent.TheVariants.{ListPages, Next}
use Rattle.run_model.specs.Environments.{PageHistory, environments, first_environments}
use Rattle.run_model.specs.Output.{layout_of, written}
use Rattle.run_model.specs.Starts.{first_page_numbered, pages_given, pages_listed}
use Rattle.run_model.specs.declared.event.PageEvent.TheVariants.{Page}
use Rattle.run_model.specs.declared.start.Start.{Start}

-- what a range that is listed, and the next page's number, leave true holds behind all of it
module _ (P : PageHistory → Type 0) (lists : (first last : Num) (h : PageHistory) → P h → P (Page (ListPages first last) ∷ h))
    (numbers : (n : Num) (h : PageHistory) → P h → P (Page (Next n) ∷ h)) where
  keeps-listed : (ranges : List (Num × Num)) (h : PageHistory) → P h → P (pages_listed ranges h)
  keeps-listed [] h is = is
  keeps-listed (range ∷ ranges) h is = keeps-listed ranges (Page (ListPages range.0 range.1) ∷ h) (lists range.0 range.1 h is)

  keeps-numbered : (number : Option Num) (h : PageHistory) → P h → P (first_page_numbered number h)
  keeps-numbered None h is = is
  keeps-numbered (Some n) h is = numbers n h is

  pub keeps-given : (start : Start) → P [] → P (pages_given start)
  keeps-given start is = keeps-numbered start.first_page _ (keeps-listed start.pages.items [] is)

-- a range writes nothing, and neither does a number
pub written-listed : (first last : Num) (h : PageHistory) → written (Page (ListPages first last) ∷ h) ≡ written h
written-listed first last h =
    let x : Happening = Does (ListPages first last) in
    let L : Layout = layout_of h in
    ap (λ (text : List ℕ). written h ++ text) (either_none (is_diverted x L || not L.is_listed)) ∙ append-nil (written h)

pub written-next : (n : Num) (h : PageHistory) → written (Page (Next n) ∷ h) ≡ written h
written-next n h =
    let x : Happening = Does (Next n) in
    let L : Layout = layout_of h in
    ap (λ (text : List ℕ). written h ++ text) (either_none (is_diverted x L || not L.is_listed)) ∙ append-nil (written h)

-- so nothing is written of what is given
pub written-given_pages : (start : Start) → written (pages_given start) ≡ []
written-given_pages start =
    keeps-given (λ h. written h ≡ []) (λ first last h quiet. written-listed first last h ∙ quiet) (λ n h quiet. written-next n h ∙ quiet) start refl

-- and the environments are the first ones
pub environments-given_pages : (start : Start) → environments (pages_given start) ≡ first_environments
environments-given_pages start = keeps-given (λ h. environments h ≡ first_environments) (λ first last h is. is) (λ n h is. is) start refl
