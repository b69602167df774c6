-- What holds of histories, and behind each event that no limit refuses, holds of each state of a run.
use Rattle.std.proofs.Common.{◌≡◌, ℕ, zero, suc, List, [], ◌∷◌, ◌++◌, Option, Some, None, refl, sym, subst}
use Rattle.roff_num.specs.declared.limit.Limit.{Limit}
use Rattle.roff_num.specs.declared.limits.Limits.{Limits}
use Rattle.roff_num.specs.declared.num.Num.{Num}
use Rattle.page_model.specs.DueTexts.{TextDue}
use Rattle.page_model.specs.declared.layout_event.LayoutEvent.TheVariants.{ListPages, Next, Number}
use Rattle.input_source.specs.Tape.{Tape}
use Rattle.run_model.specs.PageEvents.{PageEvent, PageHistory}
use Rattle.run_model.specs.Registers.{AllRegisters}
use Rattle.run_model.specs.Requests.Effects.{page_numbered}
use Rattle.run_model.specs.Requests.Numbering.{number_of_page}
use Rattle.run_model.specs.Run.{State, initial, paged_state, step, step_behind, step_with, told_after, told_step, unless_refused, with_registers}
use Rattle.run_model.specs.Run.Counts.{first_passed, names_counted, refusal}
use Rattle.run_model.specs.Springs.{next}
use Rattle.run_model.specs.Starts.{history_given, with_given}
use Rattle.run_model.specs.Titles.{told}
use Rattle.run_model.specs.declared.event.PageEvent.TheVariants.{Page}
use Rattle.run_model.specs.declared.start.Start.{Start}
use Rattle.run_model.specs.declared.status.Status.{Status}
use Rattle.run_model.proofs.GivenPages.{keeps-given}
use Rattle.run_model.proofs.Readings.{ReadsOn-text, ReadsOn-with_sprung}
use Rattle.law_runs.proofs.PerformedOrStopped.{PerformedOrStopped, Performed, Sprang, EndsOver, StoppedAt, first_of, left_behind, performed_or_stopped}
use Rattle.law_runs.proofs.Stages.{history-read}
use Rattle.law_runs.proofs.Told.{told_step-holds}

-- what is to hold of histories, whatever is given to a run, and behind its events
pub record HoldsBehind (P : PageHistory → Type 0) (l : Limits) : Type 0 where
  pub nothing : P []
  pub listed : (first last : Num) (h : PageHistory) → P h → P (Page (ListPages first last) ∷ h)
  pub next_page : (n : Num) (h : PageHistory) → P h → P (Page (Next n) ∷ h)
  pub number : (n : Num) (h : PageHistory) → P h → P (Page (Number n) ∷ h)
  pub event : (rs : AllRegisters) (h : PageHistory) (e : PageEvent) → refusal l h (told rs e) ≡ None → P h → P (told rs e ∷ h)

module _ (P : PageHistory → Type 0) (l : Limits) (each : HoldsBehind P l) where
  holds-event : (e : PageEvent) (left : List PageEvent) (s t : State) → PerformedOrStopped l e left s t → P s.history → P t.history
  holds-event e left s t (Performed allowed on none) is = each.event s.registers s.history e allowed is
  holds-event e left s t (Sprang name allowed on some) is = each.event s.registers s.history e allowed is
  holds-event e left s t (EndsOver allowed over) is = each.event s.registers s.history e allowed is
  holds-event e left s t (StoppedAt limit) is = is

  holds-step_with : (es : List PageEvent) (s : State) → P s.history → P (step_with l es s).history
  holds-step_with (e ∷ es) s is =
      let own : Option PageEvent = next s.history e in
      holds-event (first_of own e) (left_behind own e es s) s _ (performed_or_stopped l own e es s) is
  holds-step_with [] s is = subst P (sym (history-read l s _ (ReadsOn-with_sprung l s.follows.sprung s refl))) is

  holds-step_behind : (due : Option TextDue) (s : State) → s.follows.text ≡ due → P s.history → P (step_behind l due s).history
  holds-step_behind None s none is = holds-step_with s.to_do s is
  holds-step_behind (Some due) s some is = subst P (sym (history-read l s _ (ReadsOn-text l due s some))) is

  holds-step : (s : State) → P s.history → P (step l s).history
  holds-step s is =
      elim s.ended as (λ (o : Option Status). P
      (elim o as (λ _. State) [ None ↦ step_behind l s.follows.text s | Some status ↦ s ]).history) [
        | None ↦ holds-step_behind s.follows.text s refl is
        | Some status ↦ is
      ]

  holds-told_after : (n : ℕ) (s : State) → P s.history → P (told_after l n s).history
  holds-told_after zero s is = is
  holds-told_after (suc n) s is =
      holds-told_after n (told_step l s) (told_step-holds (λ (t : State). P t.history) l s (holds-step s is) (λ going. is))

  -- what is given
  holds-numbered : (n : Option Num) (h : PageHistory) → P h → P (page_numbered n ++ h)
  holds-numbered None h is = is
  holds-numbered (Some n) h is = each.number n h is

  holds-unless_refused : (r : Option Limit) (s done : State) → P s.history → P done.history → P (unless_refused l r s done).history
  holds-unless_refused None s done is others = others
  holds-unless_refused (Some limit) s done is others = is

  holds-with_registers : (given : List (ℕ × Num)) (s : State) → P s.history → P (with_registers l given s).history
  holds-with_registers [] s is = is
  holds-with_registers (first ∷ others) s is =
      let behind : State = record s { registers = with_given first s.registers; history = history_given first s.history } in
      holds-unless_refused (first_passed l (names_counted behind.registers)) s _ is
      (holds-with_registers others behind (holds-numbered (number_of_page (first.0 ∷ []) first.1) s.history is))

  pub history-holds : (start : Start) (tape : Tape) (n : ℕ) → P (told_after l n (initial l start tape)).history
  history-holds start tape n =
      holds-told_after n (initial l start tape)
      (holds-with_registers start.registers.items (paged_state start tape) (keeps-given P each.listed each.next_page start each.nothing))
