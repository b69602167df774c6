-- Single steps: an event that springs nothing, and a text that changes behind it.
use Rattle.std.proofs.Common.{◌≡◌, Bool, false, List, [], ◌∷◌, ◌++◌, Option, Some, None, ap, ◌∙◌}
use Rattle.roff_num.specs.declared.limit.Limit.{Limit}
use Rattle.roff_num.specs.declared.limits.Limits.{Limits}
use Rattle.page_model.specs.DueTexts.{TextDue}
use Rattle.run_model.proofs.ItemsTaken.{Fits, made-Fits}
use Rattle.run_model.specs.Following.{following, text_changed}
use Rattle.run_model.specs.Layouts.{layout_of}
use Rattle.run_model.specs.PageEvents.{PageEvent, PastEvent}
use Rattle.run_model.specs.Run.{Following, State, done_if, followed_by, made, nothing_follows, performed, performing, step, step_behind, text_done, unless_refused}
use Rattle.run_model.specs.Run.Counts.{refusal}
use Rattle.run_model.specs.Springs.{left_of, next}
use Rattle.run_model.specs.Titles.{told}
use Rattle.run_model.specs.declared.status.Status.{Status}

-- nothing follows an event but a change of a text, if one does
abbrev pub only_text : Option TextDue → Following
only_text due = record { text = due; sprung = None }

-- an event is quiet behind this history: nothing comes before it, no limit refuses it, the last page doesn't end with it, and but
-- for this change of a text nothing follows
pub record IsQuiet (l : Limits) (s : State) (e : PageEvent) (due : Option TextDue) : Type 0 where
  pub first : next s.history e ≡ None
  pub allowed : refusal l s.history (told s.registers e) ≡ None
  pub goes_on : (layout_of (told s.registers e ∷ s.history)).is_over ≡ false
  pub follows : following s.history (told s.registers e) ≡ only_text due
  pub none_left : left_of s.history (told s.registers e) ≡ []

-- so it is performed in a step
pub event-step : (l : Limits) (s : State) (e : PageEvent) (es : List PageEvent) (due : Option TextDue) → s.ended ≡ None
    → s.follows ≡ nothing_follows
    → IsQuiet l s e due
    → step l (record s { to_do = e ∷ es }) ≡ record s { to_do = es; follows = only_text due; history = told s.registers e ∷ s.history }
event-step l s e es due going idle quiet =
    let before : State = record s { to_do = e ∷ es } in
    let happens : PastEvent = told s.registers e in
    let happened : State = record before { history = happens ∷ s.history } in
    let left : List PageEvent = left_of s.history happens ++ es in
    ap (λ (ended : Option Status). elim ended [ None ↦ step_behind l s.follows.text before | Some status ↦ before ]) going
    ∙ ap (λ (f : Following). step_behind l f.text before) idle
    ∙ ap (λ (own : Option PageEvent). performing l own e es before) quiet.first
    ∙ ap (λ (refused : Option Limit). unless_refused l refused before (performed happens left before)) quiet.allowed
    ∙ ap (λ (over : Bool). done_if over happened (followed_by (following s.history happens) left happened)) quiet.goes_on
    ∙ ap (λ (f : Following). followed_by f left happened) quiet.follows
    ∙ ap (λ (first : List PageEvent). followed_by (only_text due) (first ++ es) happened) quiet.none_left

-- and the text changes in another
pub text-step : (l : Limits) (s : State) (es : List PageEvent) (due : TextDue) → s.ended ≡ None
    → Fits l s.registers (text_changed due s.input)
    → step l (record s { to_do = es; follows = only_text (Some due) }) ≡ record s { to_do = es; follows = nothing_follows; input = text_changed due s.input }
text-step l s es due going fits =
    let before : State = record s { to_do = es; follows = only_text (Some due) } in
    ap (λ (ended : Option Status). elim ended [ None ↦ made l before (text_done due before) | Some status ↦ before ]) going
    ∙ made-Fits l before (text_done due before) fits
