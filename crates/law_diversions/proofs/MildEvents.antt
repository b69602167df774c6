-- Events that neither open a diversion nor close the run: where they are put back, and what becomes of texts behind them.
use Rattle.std.proofs.Common.{◌≡◌, Bool, true, false, List, [], ◌∷◌, ◌++◌, map, ℕ, Option, Some, None, refl, option_map}
use Rattle.input_model.specs.Input.{Ahead, ByteAhead, FreeAhead, EndAhead, ReturnAhead, DoAhead}
use Rattle.page_model.specs.DivertedText.{diverted_text}
use Rattle.page_model.specs.DueTexts.{TextDue, bytes_due, due_by, end_due}
use Rattle.page_model.specs.Happenings.{Does, Places, Titles}
use Rattle.page_model.specs.Layout.{Diversion, Layout}
use Rattle.page_model.specs.Behind.{finished}
use Rattle.page_model.specs.Lines.{Finished}
use Rattle.page_model.specs.Springs.{goes_on}
use Rattle.page_model.specs.declared.layout_event.LayoutEvent.{LayoutEvent}
use Rattle.page_model.specs.declared.layout_event.LayoutEvent.TheVariants.{Close, Divert, EndDivert, Need, Space}
use Rattle.run_model.specs.Environments.{PageHistory, text_of}
use Rattle.run_model.specs.Following.{following, text_behind}
use Rattle.run_model.specs.Layouts.{layout_of, placed}
use Rattle.run_model.specs.PageEvents.{PageEvent}
use Rattle.run_model.specs.Registers.{AllRegisters}
use Rattle.run_model.specs.Springs.{left_if, left_of}
use Rattle.run_model.specs.Titles.{put_back, title_told, told}
use Rattle.run_model.specs.declared.event.PageEvent.TheVariants.{Text, Page, Interrupt, Environment, Back, InputTrap as SetsTrap, Title}
use Rattle.run_model.proofs.GrowingAhead.{Grows, Stays, WithByte, WithEnd, WithFree, WithReturn}
use Rattle.law_diversions.proofs.TextsBehind.{needs_none}
use Rattle.law_diversions.proofs.TextsLeft.{AreMild, IsMild}

pub mild-append : (first others : List PageEvent) → AreMild first → AreMild others → AreMild (first ++ others)
mild-append [] others mild behind = behind
mild-append (e ∷ first) others mild behind = (mild.0, mild-append first others mild.1 behind)

-- those that were put back
abbrev pub AreMildAhead : List (Ahead PageEvent) → Type 0
AreMildAhead [] = Unit {0}
AreMildAhead (ByteAhead b ∷ items) = AreMildAhead items
AreMildAhead (FreeAhead b ∷ items) = AreMildAhead items
AreMildAhead (EndAhead ∷ items) = AreMildAhead items
AreMildAhead (ReturnAhead back ∷ items) = AreMildAhead items
AreMildAhead (DoAhead e ∷ items) = IsMild e × AreMildAhead items

pub mild-grown : (items more : List (Ahead PageEvent)) → Grows items more → AreMildAhead items → AreMildAhead more
mild-grown items _ Stays mild = mild
mild-grown items _ (WithByte b more grows) mild = mild-grown items more grows mild
mild-grown items _ (WithFree b more grows) mild = mild-grown items more grows mild
mild-grown items _ (WithEnd more grows) mild = mild-grown items more grows mild
mild-grown items _ (WithReturn back more grows) mild = mild-grown items more grows mild

mild-put_back : (e : PageEvent) → IsMild e → IsMild (put_back e)
mild-put_back (Page e) mild = mild
mild-put_back (Text e) mild = tt
mild-put_back (Interrupt untold) mild = tt
mild-put_back (Environment number) mild = tt
mild-put_back Back mild = tt
mild-put_back (SetsTrap trap) mild = tt
mild-put_back (Title which) mild = tt

pub mild-back : (events : List PageEvent) (items : List (Ahead PageEvent)) → AreMild events → AreMildAhead items
    → AreMildAhead (map DoAhead (map put_back events) ++ items)
mild-back [] items mild behind = behind
mild-back (e ∷ events) items mild behind = (mild-put_back e mild.0, mild-back events items mild.1 behind)

-- what goes on of an eject
mild-left_if : (goes : Bool) (e : LayoutEvent) → IsMild (Page e) → AreMild (left_if goes e)
mild-left_if false e mild = tt
mild-left_if true (Divert name appends) mild = absurd mild
mild-left_if true Close mild = absurd mild
mild-left_if true (_) mild = (tt, tt)

mild-left_of : (rs : AllRegisters) (h : PageHistory) (e : PageEvent) → IsMild e → AreMild (left_of h (told rs e))
mild-left_of rs h (Page e) mild = mild-left_if (goes_on (Does e) (layout_of h)) e mild
mild-left_of rs h (Text e) mild = tt
mild-left_of rs h (Interrupt untold) mild = tt
mild-left_of rs h (Environment number) mild = tt
mild-left_of rs h Back mild = tt
mild-left_of rs h (SetsTrap trap) mild = tt
mild-left_of rs h (Title which) mild = tt

pub mild-left : (rs : AllRegisters) (h : PageHistory) (e : PageEvent) (es : List PageEvent) → IsMild e → AreMild es
    → AreMild (left_of h (told rs e) ++ es)
mild-left rs h e es mild others = mild-append (left_of h (told rs e)) es (mild-left_of rs h e mild) others

-- no text begins behind them, and not all are dropped
abbrev pub needs_of : Option TextDue → Bool
needs_of None = false
needs_of (Some due) = needs_none due

needs-bytes : (ds : List Diversion) (bytes : List ℕ) → needs_of (bytes_due ds bytes) ≡ false
needs-bytes ds [] = refl
needs-bytes ds (b ∷ bytes) = refl

needs-end : (ds : List Diversion) → needs_of (end_due ds) ≡ false
needs-end [] = refl
needs-end (d ∷ ds) = refl

needs-line : (x : Option Finished) (L : Layout) → needs_of (text_behind (option_map Places x) L) ≡ false
needs-line None L = refl
needs-line (Some line) L = needs-bytes L.diversions (diverted_text (Places line) L)

needs-does : (e : LayoutEvent) (L : Layout) → IsMild (Page e) → needs_of (due_by e L) ≡ false
needs-does (Divert name appends) L mild = absurd mild
needs-does Close L mild = absurd mild
needs-does EndDivert L mild = needs-end L.diversions
needs-does (Space k) L mild = needs-bytes L.diversions (diverted_text (Does (Space k)) L)
needs-does (Need k) L mild = needs-bytes L.diversions (diverted_text (Does (Need k)) L)
needs-does (_) L mild = refl

pub mild-due : (rs : AllRegisters) (h : PageHistory) (e : PageEvent) → IsMild e → needs_of (following h (told rs e)).text ≡ false
mild-due rs h (Page e) mild = needs-does e (layout_of h) mild
mild-due rs h (Text e) mild = needs-line (finished (text_of h) e) (layout_of h)
mild-due rs h (Title which) mild =
    needs-bytes (layout_of h).diversions (diverted_text (Titles (placed (title_told rs which) (text_of h) (layout_of h))) (layout_of h))
mild-due rs h (Interrupt untold) mild = refl
mild-due rs h (Environment number) mild = refl
mild-due rs h Back mild = refl
mild-due rs h (SetsTrap trap) mild = refl
