-- Titles that are placed: they are the definition's, with the text, the title length and the number of then.
use Rattle.std.proofs.Common.{◌≡◌, ◌∙◌, ℕ, ◌+◌, ◌*◌, ◌<◌, ◌≤◌, ◌^◌, true, false, List, [], ◌∷◌, length, Option, Some, None, Result, ap, arith, refl, subst, sym, Ok}
use Rattle.std.proofs.lemmas.Nat.{mul-le}
use Rattle.roff_num.specs.RegisterText.{register_text}
use Rattle.roff_num.specs.declared.format.Format.{Format}
use Rattle.roff_num.specs.declared.limits.Limits.{Limits}
use Rattle.page_model.specs.Glyphs.{text_width}
use Rattle.page_model.specs.declared.settings.Settings.{Settings}
use Rattle.roff_lines.proofs.Standing.{settings-stands}
use Rattle.page_model.specs.Happenings.{Happening, Titles}
use Rattle.page_model.specs.Layout.{Layout}
use Rattle.roff_pages.specs.Pages.Stands.{StandsAs}
use Rattle.page_bytes.specs.Sinks.{Sunk}
use Rattle.page_model.specs.Titles.{part_text}
use Rattle.run_state.specs.Composer.Standing.{StandFor}
use Rattle.run_state.specs.Environments.Standing.{StandBy}
use Rattle.run_state.specs.declared.environments.Environments.{Environments as EnvironmentsOf}
use Rattle.run_model.specs.Environments.{PageHistory, environments, text_of}
use Rattle.run_model.specs.Layouts.{happens, layout_of}
use Rattle.run_model.specs.PageEvents.{PageEvent, PastEvent}
use Rattle.run_model.specs.Run.Counts.{first_passed, refusal, written_counted}
use Rattle.run_model.specs.TitleTexts.{TitleText, TitleTold}
use Rattle.run_model.specs.Titles.{title_told, told}
use Rattle.run_model.specs.declared.event.PageEvent.TheVariants.{Title}
use Rattle.run_model.specs.declared.title.WhichTitle.{WhichTitle}
use Rattle.run_events.specs.declared.formatter.Formatter.{Formatter}
use Rattle.run_events.specs.declared.halt.Halt.{Halt}
use Rattle.run_events.specs.Formatter.Paging.{PutsOnPage, ReadyFor}
use Rattle.run_events.specs.Formatter.Performing.{PerformsEvents, PerformsTitle, PlacesTitle, acting, behind_event}
use Rattle.page_bytes.specs.Devices.{seen}
use Rattle.run_events.specs.declared.sprung.Sprung.{Sprung}
use Rattle.run_model.proofs.LinesLeft.{lines_left-event}
use Rattle.run_model.specs.Run.{performed, performing, unless_refused}
use Rattle.run_events.specs.Formatter.Sprung.{sprung_before, with_sprung}
use Rattle.run_events.specs.Formatter.Titling.{title_at, title_due}
use Rattle.roff_num.specs.declared.short_name.ShortName.{ShortName}
use Rattle.run_events.proofs.DoneFirst.{PerformsHere, only_page, one_here}
use Rattle.run_events.proofs.DonePut.{put_here}
use Rattle.run_events.proofs.DueTexts.{same_behind, title_tells}
use Rattle.run_events.proofs.ComingBefore.{behind-alone}
use Rattle.run_events.proofs.FirstPages.{begun, begun_for, next-alone}
use Rattle.run_events.proofs.Performed.{moves-behind}
use Rattle.run_events.proofs.Springing.{lines-begun, performs_from}
use Rattle.run_events.proofs.TitleNumbers.{part-width}

-- a part is so wide with a number of so many bytes
part-within : (number part : List ℕ) → length number ≤ 48 → text_width (part_text number part) ≤ length part * 49
part-within number part short = omega (arith, part-width number part, mul-le (length part) (1 + length number) (length part) 49 (omega arith) (omega (arith, short)))

-- so a title of less than 2^32 bytes is within its columns
pub width-within : (number left centre right : List ℕ) (columns : ℕ) → length number ≤ 48 → length left + length centre + length right < 2 ^ 32 → columns < 2 ^ 32
    → text_width (part_text number left) + text_width (part_text number centre) + text_width (part_text number right) + columns < 2 ^ 64
width-within number left centre right columns short few small =
    omega (arith, few, small, part-within number left short, part-within number centre short, part-within number right short)

-- a title as it happened says which text and format it has
title-injective : (s t : TitleTold) → Title s ≡ Title t → s ≡ t
title-injective s t is = cc

-- what happens with a title, where its number is the page's
title-happens : (f : Formatter) (text : TitleText) (format : Format) (number : List ℕ)
    → ((L : Layout) → StandsAs L f.composer.pages → number ≡ register_text format L.number.0)
    → (l : Limits) (h : PageHistory) → StandFor l h f.composer
    → happens h (Title (record { text = text; format = format })) ≡ Some (Titles (title_at f text number))
title-happens f text format number is l h stood =
    let made : ℕ → List ℕ → Option Happening = λ columns shown.
    Some (Titles (record { left = text.left; centre = text.centre; right = text.right; length = columns; number = shown })) in
    ap (λ (s : Settings). made s.title_length (register_text format (layout_of h).number.0)) (sym (settings-stands l.line (text_of h) f.composer.environments.in_force.lines stood.environments.in_force.lines))
    ∙ ap (made f.composer.environments.in_force.lines.settings.title_length) (sym (is (layout_of h) stood.pages))

-- it is placed where no page begins in front of it
pub title_here : (which : WhichTitle) (text : TitleText) (format : Format) (number : List ℕ) (old new : Formatter) (out out_new : Sunk) (r : Result (Option Sprung) Halt)
    → ((L : Layout) → StandsAs L old.composer.pages → number ≡ register_text format L.number.0)
    → PutsOnPage (Titles (title_at old text number)) (title_due which old) old.composer.pages new.composer.pages old.composer.due new.composer.due out out_new r
    → new ≡ record old { composer = record old.composer { pages = new.composer.pages; due = new.composer.due } }
    → PlacesTitle which text format old new out out_new r
title_here which text format number old new out out_new r is put others =
    let x : PastEvent = Title (record { text = text; format = format }) in
    let y : Happening = Titles (title_at old text number) in
    let performs : PerformsHere (Title which) x old new out out_new r =
    put_here (Title which) x y (title_due which old) old new out out_new r (title-happens old text format number is) (λ h. refl)
    (λ l h stood. ap (λ (o : Option Happening). first_passed l (written_counted h o)) (title-happens old text format number is l h stood))
    (λ l h stood. subst (λ (es : EnvironmentsOf). StandBy l (environments h) es) (sym (ap (λ (f : Formatter). f.composer.environments) others)) stood.environments)
    (λ l h rs stood now told_so diverts some due. title_tells which text format number old (layout_of h) new.composer rs diverts (title-injective _ _ told_so)
    (is (layout_of h) stood.pages) (same_behind l h x y new.composer now (title-happens old text format number is l h stood) diverts refl) due) put in record {
      places = λ l t before failures err s h rest stood told_so none reached.
          one_here l t before (seen failures out_new err) s (Title which) h h x rest r new.composer
          (Title (title_told s.registers which) ∷ h) (λ sprung is. refl) (ap (λ (told : TitleTold). Title told ∷ h) (sym told_so)) (lines_left-event s.registers (Title which) h)
          (performs.here l t before failures err s h (Title which) rest rest stood (ap Title told_so)
          (ap (λ (first : Option PageEvent). performing l first (Title which) rest (acting s (Title which ∷ rest) h)) none
          ∙ ap (λ (x : PastEvent). unless_refused l (refusal l h x) (acting s (Title which ∷ rest) h) (performed x rest (acting s (Title which ∷ rest) h))) (ap Title told_so)) reached);
      stops = performs.stops;
    }

-- so it is performed by a formatter that was ready for it
pub title_placed : (which : WhichTitle) (text : TitleText) (format : Format) (old mid new : Formatter) (out out_new : Sunk) (r : Result (Option Sprung) Halt)
    → ReadyFor (Title which) old mid None
    → PlacesTitle which text format mid new out out_new r → PerformsTitle which text format old new out out_new r
title_placed which text format old mid new out out_new r ready placed = record {
  title = λ l t before failures err s h rest stood told_so reached.
      let x : PageEvent = Title which in
      let g : PageHistory = begun_for x h in
      let now = begun l t before failures err s h x x rest out (λ is. next-alone h x true refl refl is) old mid None ready stood reached refl in
      performs_from l t before (seen failures out_new err) s (x ∷ []) h g (told s.registers x ∷ g) (behind_event s.registers x h) rest r new.composer
      (lines-begun s.registers x h) (ap (λ (g : PageHistory). told s.registers x ∷ g) (sym (behind-alone s.registers x 2 h refl refl)))
      (placed.places l t before failures err s g rest now.stands told_so
      (next-alone g x false refl refl now.none) now.reaches);
  moves = moves-behind old new r placed.stops;
}

-- or the page begins in front of it, and springs something
pub title_page : (which : WhichTitle) (text : TitleText) (format : Format) (old mid new : Formatter) (out : Sunk) (name : ShortName) (r : Result (Option Sprung) Halt)
    → ReadyFor (Title which) old mid (Some name) → new ≡ with_sprung name mid → r ≡ Ok (Some sprung_before)
    → PerformsTitle which text format old new out out r
title_page which text format old mid new out name r ready there is =
    let only : PerformsEvents (Title which ∷ []) old new out out r = only_page (Title which) old mid new out name r refl (λ g. refl) ready there is in record {
      title = λ l t before failures err s h rest stood told_so reached. only.performs l t before failures err s h rest stood (refl, tt) reached;
      moves = only.moves;
    }
