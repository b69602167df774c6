-- What a text line tells behind each word's end (manual, section 4.1).
use Rattle.std.specs.Prelude.{◌≡◌, List, [], ◌∷◌}
use Rattle.roff_num.specs.declared.limits.Limits.{Limits}
use Rattle.roff_num.specs.declared.short_name.ShortName.{ShortName}
use Rattle.input_model.specs.Input.{Ahead, DoAhead}
use Rattle.page_model.specs.declared.event.Event.TheVariants.{WordEnd}
use Rattle.input_escapes.specs.declared.open_escape.Found.{Found}
use Rattle.run_model.specs.PageEvents.{PageEvent}
use Rattle.run_model.specs.Reading.Beginnings.{beginning_found}
use Rattle.run_model.specs.Reading.Items.{PageInput}
use Rattle.run_model.specs.Reading.TextLines.{text_found}
use Rattle.run_model.specs.Registers.{Known}
use Rattle.run_model.specs.Run.{State, step}
use Rattle.run_model.specs.declared.event.PageEvent.TheVariants.{Text}
use Rattle.run_model.specs.declared.line_state.LineState.TheVariants.{LineStart, Branch, Braced}
use Rattle.run_model.specs.declared.line_state.TextLine.{TextLine}
use Rattle.law_runs.specs.SpringLaws.{Springs, happening, with_rest_back}
use Rattle.law_escapes.specs.WordsApart.{EndsOpenWord}

-- the first of some events is a gap, a line's end or a break
abbrev pub BeginsWithGap : List PageEvent → Type 0
BeginsWithGap [] = ⊥
BeginsWithGap (e ∷ events) = EndsOpenWord e

-- one stands directly behind each word's end among them
abbrev pub AreFollowed : List PageEvent → Type 0
AreFollowed [] = Unit {0}
AreFollowed (Text WordEnd ∷ events) = BeginsWithGap events × AreFollowed events
AreFollowed (_ ∷ events) = AreFollowed events

-- so it is of all that something of a text line tells, and something that begins a line, or a branch
pub record EndsWordsSo (k : Known) (i : PageInput) (found : Found) : Type 0 where
  pub on_line : (line : TextLine) → AreFollowed (text_found k i line found).effect.events
  pub at_start : AreFollowed (beginning_found k i LineStart found).effect.events
  pub in_branch : AreFollowed (beginning_found k i Branch found).effect.events
  pub behind_brace : AreFollowed (beginning_found k i Braced found).effect.events

-- Behind each word's end a text line tells a gap, the line's end or a break.
abbrev pub TextLinesEndWordsSo : Type 0
TextLinesEndWordsSo = (k : Known) (i : PageInput) (found : Found) → EndsWordsSo k i found

-- and it stays so, as they are performed one after another, and as texts of diversions change between them
abbrev pub WordEndsStayFollowed : Type 0
WordEndsStayFollowed =
    (l : Limits) (s : State) (e : PageEvent) (rest : List PageEvent) → s.to_do ≡ e ∷ rest → AreFollowed (e ∷ rest) → AreFollowed (step l s).to_do

-- one of these stands in front of what is put back
pub record PutsBackGap (e : PageEvent) (rest : List PageEvent) (s : State) : Type 0 where
  pub first : PageEvent
  pub behind : List (Ahead PageEvent)
  pub ends_word : EndsOpenWord first
  pub stands : (with_rest_back e rest s).input.ahead ≡ DoAhead first ∷ behind

-- So where a word's end springs a macro, its own or that of an event behind it, one of these is put back first.
abbrev pub WordEndsPutBackAGap : Type 0
WordEndsPutBackAGap =
    (l : Limits) (s : State) (e : PageEvent) (rest : List PageEvent) (name : ShortName) → Springs l s e rest name → AreFollowed (e ∷ rest)
    → happening e s ≡ Text WordEnd → PutsBackGap e rest s
