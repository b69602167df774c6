-- The step at an event has few outcomes. What is proved of each of them holds of it, however events are counted.
use Rattle.std.proofs.Common.{◌≡◌, Bool, true, false, List, [], ◌∷◌, map, Option, Some, None, refl, sym, ◌∙◌, ap, is_some}
use Rattle.page_model.specs.Happenings.{Does}
use Rattle.page_model.specs.Springs.{goes_on}
use Rattle.page_model.specs.declared.layout_event.LayoutEvent.{LayoutEvent}
use Rattle.roff_pages.proofs.WholePages.{waits}
use Rattle.run_model.specs.Registers.{AllRegisters}
use Rattle.run_model.specs.declared.event.PageEvent.TheVariants.{Text, Page, Interrupt, Environment, Back, InputTrap as SetsTrap, Title}
use Rattle.roff_num.specs.declared.limit.Limit.{Limit}
use Rattle.roff_num.specs.declared.limits.Limits.{Limits}
use Rattle.roff_num.specs.declared.short_name.ShortName.{ShortName}
use Rattle.input_model.specs.Input.{putting_all_back}
use Rattle.run_model.specs.PageEvents.{PageEvent, PageHistory}
use Rattle.run_model.specs.Output.{layout_of}
use Rattle.run_model.specs.Run.{State, done_if, ending_as, followed_by, stopped_by, unless_refused, performed, performing, with_left}
use Rattle.run_model.specs.Run.Counts.{refusal}
use Rattle.run_model.specs.Springs.{left_if, left_of, springs}
use Rattle.run_model.specs.Titles.{keeping, put_back, told}
use Rattle.run_model.specs.declared.status.Status.TheVariants.{Done}
use Rattle.run_model.specs.Following.{following}
pub use Rattle.law_runs.specs.SpringLaws.{first_of, left_behind}

-- An event was performed, which no limit refuses, and these are left; or it sprang a macro, and they are put back; or the last page
-- ended with it, and so did the run; or a limit stopped the run at it.
pub data PerformedOrStopped (l : Limits) (e : PageEvent) (left : List PageEvent) (s : State) : State → Type 0 where
  Performed : refusal l s.history (told s.registers e) ≡ None → (layout_of (told s.registers e ∷ s.history)).is_over ≡ false
      → springs s.history (told s.registers e) ≡ None
      → PerformedOrStopped l e left s (record s {
        to_do = left;
        follows = following s.history (told s.registers e);
        history = told s.registers e ∷ s.history;
      })
  Sprang : (name : ShortName) → refusal l s.history (told s.registers e) ≡ None
      → (layout_of (told s.registers e ∷ s.history)).is_over ≡ false
      → springs s.history (told s.registers e) ≡ Some name
      → PerformedOrStopped l e left s (record s {
        to_do = [];
        follows = following s.history (told s.registers e);
        registers = keeping left s.registers;
        history = told s.registers e ∷ s.history;
        input = putting_all_back (map put_back left) s.input;
      })
  EndsOver : refusal l s.history (told s.registers e) ≡ None → (layout_of (told s.registers e ∷ s.history)).is_over ≡ true
      → PerformedOrStopped l e left s (ending_as Done (record s { history = told s.registers e ∷ s.history }))
  StoppedAt : (limit : Limit) → PerformedOrStopped l e left s (stopped_by l limit s)

-- by what it springs
by_spring : (l : Limits) (e : PageEvent) (left : List PageEvent) (s : State) (sprung : Option ShortName)
    → springs s.history (told s.registers e) ≡ sprung → refusal l s.history (told s.registers e) ≡ None
    → (layout_of (told s.registers e ∷ s.history)).is_over ≡ false
    → PerformedOrStopped l e left s
    (with_left sprung left (record s { history = told s.registers e ∷ s.history; follows = following s.history (told s.registers e) }))
by_spring l e left s None none allowed on = Performed allowed on none
by_spring l e left s (Some name) some allowed on = Sprang name allowed on some

-- by whether the last page ends with it
by_end : (l : Limits) (e : PageEvent) (left : List PageEvent) (s : State) (over : Bool)
    → (layout_of (told s.registers e ∷ s.history)).is_over ≡ over → refusal l s.history (told s.registers e) ≡ None
    → let behind : State = record s { history = told s.registers e ∷ s.history } in
    PerformedOrStopped l e left s (done_if over behind (followed_by (following s.history (told s.registers e)) left behind))
by_end l e left s true over allowed = EndsOver allowed over
by_end l e left s false on allowed = by_spring l e left s (springs s.history (told s.registers e)) refl allowed on

-- by whether a limit refuses it
by_refusal : (l : Limits) (e : PageEvent) (left : List PageEvent) (s : State) (r : Option Limit)
    → refusal l s.history (told s.registers e) ≡ r
    → PerformedOrStopped l e left s (unless_refused l r s (performed (told s.registers e) left s))
by_refusal l e left s None allowed = by_end l e left s (layout_of (told s.registers e ∷ s.history)).is_over refl allowed
by_refusal l e left s (Some limit) refused = StoppedAt limit

-- what comes before an event that is to be performed, or that one, is performed, or a limit stops the run
pub performed_or_stopped : (l : Limits) (own : Option PageEvent) (e : PageEvent) (rest : List PageEvent) (s : State)
    → PerformedOrStopped l (first_of own e) (left_behind own e rest s) s (performing l own e rest s)
performed_or_stopped l None e rest s = by_refusal l e (left_behind None e rest s) s (refusal l s.history (told s.registers e)) refl
performed_or_stopped l (Some own) e rest s = by_refusal l own (e ∷ rest) s (refusal l s.history (told s.registers own)) refl

-- what isn't one of an eject that goes on leaves nothing of itself where it springs nothing
left_if-none : (goes : Bool) (e : LayoutEvent) → (goes ≡ true → ⊥) → left_if goes e ≡ []
left_if-none true e stops = absurd (stops refl)
left_if-none false e stops = refl

unsprung-waits : (e : LayoutEvent) (h : PageHistory) → springs h (Page e) ≡ None → goes_on (Does e) (layout_of h) ≡ true → ⊥
unsprung-waits e h none goes =
    let some : is_some (springs h (Page e)) ≡ true = waits (Does e) (layout_of h) goes in
    let wrong : true ≡ false = sym some ∙ ap (λ (name : Option ShortName). is_some name) none in
    absurd (cc)

pub left_of-none : (rs : AllRegisters) (e : PageEvent) (h : PageHistory) → springs h (told rs e) ≡ None → left_of h (told rs e) ≡ []
left_of-none rs (Page e) h none = left_if-none (goes_on (Does e) (layout_of h)) e (unsprung-waits e h none)
left_of-none rs (Text e) h none = refl
left_of-none rs (Interrupt untold) h none = refl
left_of-none rs (Environment number) h none = refl
left_of-none rs Back h none = refl
left_of-none rs (SetsTrap trap) h none = refl
left_of-none rs (Title which) h none = refl
