-- Environments and pages stand for a history with what is given of the pages.
use Rattle.std.proofs.Common.{◌≡◌, ◌≤◌, ℕ, false, List, [], ◌∷◌, length, refl, sym, ap, subst, ◌∙◌, arith}
use Rattle.roff_num.specs.declared.limits.Limits.{Limits}
use Rattle.roff_num.specs.declared.num.Num.{Num}
use Rattle.page_model.specs.Happenings.{Does}
use Rattle.roff_pages.specs.Pages.Stands.{Happens}
use Rattle.page_model.specs.declared.layout_event.LayoutEvent.{LayoutEvent}
use Rattle.page_model.specs.declared.layout_event.LayoutEvent.TheVariants.{ListPages, Next}
use Rattle.run_state.specs.Composer.Standing.{StandFor}
use Rattle.run_state.specs.Environments.Standing.{StandBy}
use Rattle.run_state.specs.declared.composer.Composer.{Composer as ComposerOf}
use Rattle.run_state.specs.declared.environments.Environments.{Environments as EnvironmentsOf}
use Rattle.run_model.specs.Environments.{PageHistory, environments}
use Rattle.run_model.specs.Output.{layout_of, written}
use Rattle.run_model.specs.Starts.{pages_listed}
use Rattle.run_model.specs.declared.event.PageEvent.TheVariants.{Page}
use Rattle.run_model.proofs.GivenPages.{written-listed, written-next}

-- environments that stay, and pages to which something happened that writes nothing, stand for the history with that
pub StandFor-quiet : (e : LayoutEvent) (old new : ComposerOf) → new.environments ≡ old.environments → Happens (Does e) old.pages new.pages
    → (l : Limits) (h : PageHistory) → written (Page e ∷ h) ≡ written h → (layout_of (Page e ∷ h)).is_over ≡ false
    → StandFor l h old → StandFor l (Page e ∷ h) new
StandFor-quiet e old new same happened l h quiet goes stands =
    let wrote : new.pages.written ≡ length (written (Page e ∷ h)) =
    happened.written ∙ stands.written ∙ ap (λ (text : List ℕ). length text) (sym quiet) in
    record {
      environments = subst (λ (es : EnvironmentsOf). StandBy l (environments h) es) (sym same) stands.environments;
      pages = happened.stands (layout_of h) stands.pages;
      written = wrote;
      within = subst (λ (n : ℕ). n ≤ new.pages.output) (sym happened.written) (subst (λ (n : ℕ). old.pages.written ≤ n) (sym happened.limits.output) stands.within);
      output = happened.limits.output ∙ stands.output;
      traps = happened.limits.traps ∙ stands.traps;
      diversions = happened.limits.diversions ∙ stands.diversions;
      goes_on = goes;
    }

-- the first page got a number
pub StandFor-next : (n : Num) (old new : ComposerOf) → new.environments ≡ old.environments → Happens (Does (Next n)) old.pages new.pages
    → (l : Limits) (h : PageHistory) → StandFor l h old → StandFor l (Page (Next n) ∷ h) new
StandFor-next n old new same happened l h stands = StandFor-quiet (Next n) old new same happened l h (written-next n h) stands.goes_on stands

-- pages stand behind some of these ranges, and the others are still to be listed
pub record ListedAt (l : Limits) (rest : List (Num × Num)) (now : ComposerOf) (whole : PageHistory) : Type 0 where
  pub history : PageHistory
  pub stands : StandFor l history now
  pub is : pages_listed rest history ≡ whole

pub record ListedSoFar (old now : ComposerOf) (ranges rest : List (Num × Num)) : Type 0 where
  pub stands : (l : Limits) (h : PageHistory) → StandFor l h old → ListedAt l rest now (pages_listed ranges h)

-- none was listed yet
pub ListedSoFar-none : (old : ComposerOf) (ranges : List (Num × Num)) → ListedSoFar old old ranges ranges
ListedSoFar-none old ranges = record { stands = λ l h stood. record { history = h; stands = stood; is = refl } }

-- one more
pub ListedSoFar-next : (old now new : ComposerOf) (ranges others : List (Num × Num)) (range : Num × Num) → ListedSoFar old now ranges (range ∷ others)
    → new.environments ≡ now.environments → Happens (Does (ListPages range.0 range.1)) now.pages new.pages → ListedSoFar old new ranges others
ListedSoFar-next old now new ranges others range far same happened = record {
  stands =
      λ l h stood.
      let at : ListedAt l (range ∷ others) now (pages_listed ranges h) = far.stands l h stood in record {
        history = Page (ListPages range.0 range.1) ∷ at.history;
        stands =
            StandFor-quiet (ListPages range.0 range.1) now new same happened l at.history (written-listed range.0 range.1 at.history) at.stands.goes_on
            at.stands;
        is = at.is;
      };
}

-- all were listed
pub ListedSoFar-all : (old new : ComposerOf) (ranges rest : List (Num × Num)) → length rest ≡ 0 → ListedSoFar old new ranges rest
    → (l : Limits) (h : PageHistory) → StandFor l h old → StandFor l (pages_listed ranges h) new
ListedSoFar-all old new ranges [] none far l h stood =
    let at = far.stands l h stood in subst (λ (g : PageHistory). StandFor l g new) at.is at.stands
ListedSoFar-all old new ranges (range ∷ rest) none far l h stood = absurd (omega (arith, none))
