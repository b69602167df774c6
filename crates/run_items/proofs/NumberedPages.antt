-- The page gets a number before anything is read: its history has that, and nothing is written.
use Rattle.std.proofs.Common.{◌≡◌, ℕ, Bool, true, false, not, ◌||◌, List, [], ◌∷◌, ◌++◌, Option, Some, None, refl, sym, ap, subst, ◌∙◌, append-nil, Result, ◌==◌, if◌then◌else◌, ne_eqb}
use Rattle.roff_num.specs.declared.limit.Limit.{Limit}
use Rattle.roff_num.specs.declared.limits.Limits.{Limits}
use Rattle.roff_num.specs.declared.num.Num.{Num}
use Rattle.run_items.specs.Giving.{Gives}
use Rattle.run_items.specs.declared.interpreter.Interpreter.{Interpreter}
use Rattle.page_model.proofs.DeviceText.{either_none}
use Rattle.page_model.specs.Happenings.{Happening, Does}
use Rattle.page_model.specs.Layout.{Layout}
use Rattle.roff_pages.specs.Pages.Stands.{Happens}
use Rattle.page_model.specs.Stops.{is_diverted}
use Rattle.page_model.specs.declared.layout_event.LayoutEvent.TheVariants.{Number}
use Rattle.read_lines.specs.Reader.State.{ReaderState}
use Rattle.run_state.proofs.GivenPages.{StandFor-quiet}
use Rattle.run_state.specs.Composer.Standing.{StandFor}
use Rattle.run_state.specs.declared.composer.Composer.{Composer as ComposerOf}
use Rattle.run_model.specs.Output.{PageHistory, layout_of, written}
use Rattle.run_model.specs.Registers.{is_page}
use Rattle.run_model.specs.Registers.Capped.{change_admitted, after_change}
use Rattle.run_model.specs.Requests.Effects.{page_numbered}
use Rattle.run_model.specs.Requests.Numbering.{number_of_page}
use Rattle.run_model.specs.Starts.{given_change, history_given}
use Rattle.run_model.specs.declared.event.PageEvent.TheVariants.{Page}

-- a number of the page writes nothing
written-numbered : (n : Option Num) (h : PageHistory) → written (page_numbered n ++ h) ≡ written h
written-numbered None h = refl
written-numbered (Some n) h =
    let x : Happening = Does (Number n) in
    let L : Layout = layout_of h in
    ap (λ (text : List ℕ). written h ++ text) (either_none (is_diverted x L || not L.is_listed)) ∙ append-nil (written h)

-- nor does a register that is given
pub written-given : (next : ℕ × Num) (h : PageHistory) → written h ≡ [] → written (history_given next h) ≡ []
written-given next h quiet = written-numbered (number_of_page (next.0 ∷ []) next.1) h ∙ quiet

-- environments that stay and pages that got a number stand for the history with it
pub StandFor-numbered : (n : Num) (old new : ComposerOf) → new.environments ≡ old.environments → Happens (Does (Number n)) old.pages new.pages
    → (l : Limits) (h : PageHistory) → StandFor l h old → StandFor l (Page (Number n) ∷ h) new
StandFor-numbered n old new same numbered l h stands =
    StandFor-quiet (Number n) old new same numbered l h (written-numbered (Some n) h) stands.goes_on stands

-- a name of one byte is the page number's by that byte
is_page-one : (name : ℕ) (is : Bool) → (name == 37) ≡ is → is_page (name ∷ []) ≡ is
is_page-one name true same = rw same refl
is_page-one name false same = rw same refl

-- the history behind a register that is given, by whether it is the page number
history-given : (is : Bool) (name : ℕ) (value : Num) (h : PageHistory) → (name == 37) ≡ is
    → history_given (name, value) h ≡ page_numbered (if is then Some value else None) ++ h
history-given is name value h same = ap (λ (b : Bool). page_numbered (if b then Some value else None) ++ h) (is_page-one name is same)

-- so environments that stay, and pages that got its number where it is, stand for that
pub StandFor-page : (name : ℕ) (value : Num) (old new : ComposerOf) → name ≡ 37 → new.environments ≡ old.environments
    → Happens (Does (Number value)) old.pages new.pages
    → (l : Limits) (h : PageHistory) → StandFor l h old → StandFor l (history_given (name, value) h) new
StandFor-page name value old new is same numbered l h stands =
    subst (λ (g : PageHistory). StandFor l g new) (sym (history-given true name value h (ap (λ (n : ℕ). n == 37) is))) (StandFor-numbered value old new same numbered l h stands)

-- and those that stay where it isn't
pub StandFor-other : (name : ℕ) (value : Num) (old : ComposerOf) → (name ≡ 37 → ⊥)
    → (l : Limits) (h : PageHistory) → StandFor l h old → StandFor l (history_given (name, value) h) old
StandFor-other name value old other l h stands = subst (λ (g : PageHistory). StandFor l g old) (sym (history-given false name value h (ne_eqb name 37 other))) stands

-- an interpreter that gave it to its pages, and then to its reader
pub Gives-both : (name : ℕ) (value : Num) (old mid : Interpreter) (reader : ReaderState) (result : Result (Unit {0}) Limit)
    → mid.reader ≡ old.reader → ((l : Limits) (h : PageHistory) → StandFor l h old.formatter.composer → StandFor l (history_given (name, value) h) mid.formatter.composer)
    → result ≡ change_admitted (given_change name value) mid.reader.registers
    → reader ≡ record mid.reader { registers = after_change (given_change name value) mid.reader.registers }
    → Gives name value old (record { reader = reader; formatter = mid.formatter }) result
Gives-both name value old mid reader result same stands answer gave = record {
  answer = answer ∙ ap (λ (r : ReaderState). change_admitted (given_change name value) r.registers) same;
  reader = gave ∙ ap (λ (r : ReaderState). record r { registers = after_change (given_change name value) r.registers }) same;
  stands = stands;
}
