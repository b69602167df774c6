-- Which events a request means: they are meant, and few of them wait behind a macro that one springs.
use Rattle.std.proofs.Common.{ℕ, zero, suc, ℤ, Bool, true, false, List, [], ◌∷◌, map, ◌&&◌}
use Rattle.page_model.specs.declared.stop.StopKind.{StopKind}
use Rattle.run_model.specs.Registers.{Known}
use Rattle.run_model.specs.Requests.{request_effect, row_of}
use Rattle.run_model.specs.PageEvents.{PageEvent}
use Rattle.run_model.specs.declared.event.PageEvent.TheVariants.{Page}
use Rattle.page_model.specs.declared.layout_event.LayoutEvent.TheVariants.{Divert as DivertEvent}
use Rattle.run_model.specs.Requests.Effects.{Response, Around, Ignored, Obeyed, behind_break, meant_by}
use Rattle.run_model.specs.Requests.Tabs.{stop_set}
use Rattle.run_model.specs.declared.request.Request.{Request}
use Rattle.run_model.proofs.MeantEvents.{AreMeant, MayBe, meant-append}
use Rattle.run_model.proofs.RequestAnswers.{Answered, Answers, Does, FewPlain, IsPlain, Opened, SaysName, StopsSet, answers}
use Rattle.run_model.proofs.WaitingFew.{AtMost, FewWait, FewWait-short, at_most-more}

-- few plain events are meant, and few
meant-plain : (e : PageEvent) → IsPlain e → MayBe false e
meant-plain (Page (DivertEvent name appends)) plain = tt
meant-plain (_) plain = plain

meant-few : (n : ℕ) (events : List PageEvent) → FewPlain n events → AreMeant events
meant-few n [] few = tt
meant-few zero (e ∷ events) few = absurd few
meant-few (suc n) (e ∷ events) few = (meant-plain e few.0, meant-few n events few.1)

most-few : (n : ℕ) (events : List PageEvent) → FewPlain n events → AtMost n events
most-few n [] few = tt
most-few zero (e ∷ events) few = absurd few
most-few (suc n) (e ∷ events) few = most-few n events few.1

-- stops may be many, but spring nothing, and don't break
meant-stops : (stops : List (ℤ × StopKind)) → AreMeant (map stop_set stops)
meant-stops [] = tt
meant-stops (stop ∷ stops) = (tt, meant-stops stops)

waits-stops : (stops : List (ℤ × StopKind)) → FewWait (map stop_set stops)
waits-stops [] = tt
waits-stops (stop ∷ stops) = waits-stops stops

-- with the events of a break in front they are few yet
waits-behind_break : (breaks : Bool) (events : List PageEvent) → AtMost 3 events → FewWait (behind_break breaks events)
waits-behind_break true events most = most
waits-behind_break false events most = FewWait-short events (at_most-more 4 events (at_most-more 3 events most))

waits-around : (breaks : Bool) (before behind : PageEvent) → FewWait (before ∷ behind_break breaks (behind ∷ []))
waits-around true before behind = FewWait-short (before ∷ behind_break true (behind ∷ [])) tt
waits-around false before behind = FewWait-short (before ∷ behind ∷ []) tt

meant-behind_break : (breaks : Bool) (events : List PageEvent) → AreMeant events → AreMeant (behind_break breaks events)
meant-behind_break true events meant = (tt, (tt, meant))
meant-behind_break false events meant = meant

-- so these may be told
abbrev FewMeant : List PageEvent → Type 0
FewMeant events = AreMeant events × FewWait events

few-done : (breaks : Bool) (r : Response) → Does r → FewMeant (meant_by breaks r).events
few-done breaks (Ignored messages) done = (tt, tt)
few-done breaks (Obeyed messages changes calls events) done =
    (meant-behind_break breaks events (meant-few 3 events done.2), waits-behind_break breaks events (most-few 3 events done.2))
few-done breaks (Around before behind) done = (
  meant-append false (before ∷ []) (behind_break breaks (behind ∷ [])) (meant-plain before done.0, tt)
      (meant-behind_break breaks (behind ∷ []) (meant-plain behind done.1, tt)),
  waits-around breaks before behind,
)

-- what is answered, with a break where the row has one and a dot called
few-answered : {is_named : Type 0} (called own : Bool) (r : Response) → Answers is_named own r → FewMeant (meant_by (called && own) r).events
few-answered called own r (Answered _ done) = few-done (called && own) r done
few-answered called own _ (SaysName messages short) = (tt, tt)
few-answered true _ _ (Opened name appends) = ((tt, tt), tt)
few-answered false _ _ (Opened name appends) = ((tt, tt), tt)
few-answered true _ _ (StopsSet stops) = ((tt, meant-stops stops), waits-stops stops)
few-answered false _ _ (StopsSet stops) = ((tt, meant-stops stops), waits-stops stops)

pub few-request_effect : (k : Known) (breaks : Bool) (request : Request) (as_given : List (List ℕ)) → FewMeant (request_effect k breaks request as_given).events
few-request_effect k breaks request as_given =
    few-answered breaks (row_of request).breaks ((row_of request).does k as_given) (answers k request as_given)
