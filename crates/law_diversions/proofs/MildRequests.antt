-- What a request means: no event that closes the run, and one that opens a diversion only alone; and calls that leave the texts in the
-- making.
use Rattle.std.proofs.Common.{◌≡◌, ◌⊎◌, inl, inr, ℕ, zero, suc, ℤ, Bool, true, false, List, [], ◌∷◌, map, refl, ◌&&◌}
use Rattle.page_model.specs.declared.layout_event.LayoutEvent.TheVariants.{Close, Divert as DivertEvent}
use Rattle.page_model.specs.declared.stop.StopKind.{StopKind}
use Rattle.roff_num.specs.declared.short_name.ShortName.{ShortName}
use Rattle.run_model.specs.Registers.{Known}
use Rattle.run_model.specs.Requests.{request_effect, row_of}
use Rattle.run_model.specs.PageEvents.{PageEvent}
use Rattle.run_model.specs.declared.event.PageEvent.TheVariants.{Page}
use Rattle.run_model.specs.declared.request.Request.{Request}
use Rattle.run_model.specs.Requests.Effects.{Effect, Response, Around, Ignored, Obeyed, behind_break, meant_by}
use Rattle.run_model.specs.Requests.Tabs.{stop_set}
use Rattle.run_model.proofs.RequestAnswers.{Answered, Answers, Does, FewPlain, IsPlain, LeaveTexts, Opened, SaysName, StopsSet, answers}
use Rattle.law_diversions.proofs.TextsLeft.{AreMild, IsMild}

-- an event that opens a diversion, alone
abbrev pub OpensOne : List PageEvent → Type 0
OpensOne events = (name : ShortName) × ((appends : Bool) × (events ≡ Page (DivertEvent name appends) ∷ []))

-- what is meant
abbrev pub Means : Effect → Type 0
Means effect = (AreMild effect.events ⊎ OpensOne effect.events) × LeaveTexts effect.calls

-- plain events are such
mild-plain : (e : PageEvent) → IsPlain e → IsMild e
mild-plain (Page (DivertEvent name appends)) plain = absurd plain
mild-plain (Page Close) plain = absurd plain
mild-plain (_) plain = tt

mild-few : (n : ℕ) (events : List PageEvent) → FewPlain n events → AreMild events
mild-few n [] few = tt
mild-few zero (e ∷ events) few = absurd few
mild-few (suc n) (e ∷ events) few = (mild-plain e few.0, mild-few n events few.1)

mild-stops : (stops : List (ℤ × StopKind)) → AreMild (map stop_set stops)
mild-stops [] = tt
mild-stops (stop ∷ stops) = (tt, mild-stops stops)

-- with the events of a break in front they are such yet
mild-behind_break : (breaks : Bool) (events : List PageEvent) → AreMild events → AreMild (behind_break breaks events)
mild-behind_break true events mild = (tt, (tt, mild))
mild-behind_break false events mild = mild

means-done : (breaks : Bool) (r : Response) → Does r → Means (meant_by breaks r)
means-done breaks (Ignored messages) done = (inl tt, tt)
means-done breaks (Obeyed messages changes calls events) done = (inl (mild-behind_break breaks events (mild-few 3 events done.2)), done.1)
means-done breaks (Around before behind) done =
    (inl (mild-plain before done.0, mild-behind_break breaks (behind ∷ []) (mild-plain behind done.1, tt)), tt)

-- what is answered, with a break where the row has one and a dot called
means-answered : {is_named : Type 0} (called own : Bool) (r : Response) → Answers is_named own r → Means (meant_by (called && own) r)
means-answered called own r (Answered _ done) = means-done (called && own) r done
means-answered called own _ (SaysName messages short) = (inl tt, tt)
means-answered true _ _ (Opened name appends) = (inr (name, (appends, refl)), tt)
means-answered false _ _ (Opened name appends) = (inr (name, (appends, refl)), tt)
means-answered true _ _ (StopsSet stops) = (inl (tt, mild-stops stops), tt)
means-answered false _ _ (StopsSet stops) = (inl (tt, mild-stops stops), tt)

pub means-request_effect : (k : Known) (breaks : Bool) (request : Request) (as_given : List (List ℕ))
    → Means (request_effect k breaks request as_given)
means-request_effect k breaks request as_given =
    means-answered breaks (row_of request).breaks ((row_of request).does k as_given) (answers k request as_given)
