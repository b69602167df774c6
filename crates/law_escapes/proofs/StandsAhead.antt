-- An item that stands ahead stands there, with all behind it, until it is taken: what reads puts all in front.
use Rattle.std.proofs.Common.{◌≡◌, ◌⊎◌, inl, inr, List, [], ◌∷◌, ◌++◌, map, refl, sym, ◌∙◌, ap, IsSome}
use Rattle.roff_num.specs.ShortNames.{name_bytes}
use Rattle.roff_num.specs.declared.limits.Limits.{Limits}
use Rattle.input_model.specs.Input.{Ahead, ByteAhead, FreeAhead, EndAhead, ReturnAhead, DoAhead, item_taken}
use Rattle.input_model.specs.Input.Calls.{called_text}
use Rattle.input_model.specs.Input.Names.{body_named}
use Rattle.run_model.specs.PageEvents.{PageEvent}
use Rattle.run_model.specs.Reading.Returns.{back_of}
use Rattle.run_model.specs.Requests.{called_by}
use Rattle.run_model.specs.Run.{State, known, left_in, sprung_read}
use Rattle.run_model.specs.Titles.{put_back}
use Rattle.run_model.specs.declared.line_state.LineState.TheVariants.{Exiting}
use Rattle.run_model.specs.declared.phase.Phase.{Phase}
use Rattle.run_model.specs.declared.phase.Phase.TheVariants.{Reading, LastMacro, Closing}
use Rattle.run_model.specs.declared.request.Called.{Called}
use Rattle.run_model.specs.declared.request.Called.TheVariants.{Request as ARequest, Body as ABody, Nothing as Unknown}
use Rattle.run_model.proofs.Readings.{ReadsOn, LimitStops, AheadTaken, ByteTaken, NoteTaken, HalfEnds, InputLeft, LineEnds, PhaseEnds, MessageTold, RunAborts, SourceFails, SourceStops, SprungRead, TextChanged, behind_ahead}
use Rattle.run_model.proofs.GrowingAhead.{Grows, Stays, WithByte, WithEnd, WithFree, WithReturn, ahead-called, ahead-interrupted, ahead-same}
use Rattle.law_runs.proofs.PerformedOrStopped.{PerformedOrStopped, Performed, Sprang, EndsOver, StoppedAt}
use Rattle.law_runs.proofs.TextsChanged.{text-holds}
use Rattle.run_model.proofs.ReadEvents.{Means-end_taking, Means-escape_ended, Means-taking}

-- items end with an item, and these behind it
pub record EndWith (item : Ahead PageEvent) (behind items : List (Ahead PageEvent)) : Type 0 where
  pub front : List (Ahead PageEvent)
  pub is : items ≡ front ++ item ∷ behind

-- others in front
ends-more : (x item : Ahead PageEvent) (behind items : List (Ahead PageEvent)) → EndWith item behind items → EndWith item behind (x ∷ items)
ends-more x item behind items ends = record { front = x ∷ ends.front; is = ap (λ (xs : List (Ahead PageEvent)). x ∷ xs) ends.is }

ends-grown : (item : Ahead PageEvent) (behind items more : List (Ahead PageEvent)) → Grows items more → EndWith item behind items
    → EndWith item behind more
ends-grown item behind items _ Stays ends = ends
ends-grown item behind items _ (WithByte b more grows) ends = ends-more (ByteAhead b) item behind more (ends-grown item behind items more grows ends)
ends-grown item behind items _ (WithFree b more grows) ends = ends-more (FreeAhead b) item behind more (ends-grown item behind items more grows ends)
ends-grown item behind items _ (WithEnd more grows) ends = ends-more EndAhead item behind more (ends-grown item behind items more grows ends)
ends-grown item behind items _ (WithReturn code more grows) ends = ends-more (ReturnAhead code) item behind more (ends-grown item behind items more grows ends)

pub ends-back : (item : Ahead PageEvent) (behind : List (Ahead PageEvent)) (events : List PageEvent) (items : List (Ahead PageEvent))
    → EndWith item behind items → EndWith item behind (map DoAhead events ++ items)
ends-back item behind [] items ends = ends
ends-back item behind (e ∷ events) items ends = ends-more (DoAhead e) item behind (map DoAhead events ++ items) (ends-back item behind events items ends)

-- it isn't so of none
ends-none : (item : Ahead PageEvent) (behind items : List (Ahead PageEvent)) → items ≡ [] → EndWith item behind items → ⊥
ends-none item behind items none ends = none_by ends.front (sym ends.is ∙ none)
  where
    none_by : (front : List (Ahead PageEvent)) → front ++ item ∷ behind ≡ [] → ⊥
    none_by [] is = cc
    none_by (x ∷ front) is = cc

-- what an item ahead puts in front of those behind it
grows-taken : (item : Ahead PageEvent) (behind : List (Ahead PageEvent)) (s : State) → Grows behind (behind_ahead item behind s).input.ahead
grows-taken (ByteAhead b) behind s =
    let taken : State = record s { input = item_taken (ByteAhead b) behind s.input } in (Means-taking (known taken) s.reading taken.input b).1
grows-taken (FreeAhead b) behind s =
    let taken : State = record s { input = item_taken (FreeAhead b) behind s.input } in (Means-taking (known taken) s.reading taken.input b).1
grows-taken EndAhead behind s = Stays
grows-taken (ReturnAhead code) behind s = Stays
grows-taken (DoAhead e) behind s = ahead-same (ahead-interrupted s.reading (item_taken (DoAhead e) behind s.input))

-- and what a macro that sprang puts there
grows-sprung : (called : Called) (s : State) → Grows s.input.ahead (sprung_read called s).input.ahead
grows-sprung (ABody name) s = ahead-called (called_text (body_named (name_bytes name) s.input)) (back_of s.reading) s.input.ahead
grows-sprung (ARequest request) s = Stays
grows-sprung Unknown s = Stays

-- a step that reads leaves an item where it stands, or takes it, or ends the run, or leaves the input
pub data StandsOrTaken (item : Ahead PageEvent) (behind : List (Ahead PageEvent)) (s t : State) : Type 0 where
  Stands : EndWith item behind t.input.ahead → StandsOrTaken item behind s t
  IsTaken : s.input.ahead ≡ item ∷ behind → t ≡ behind_ahead item behind s → StandsOrTaken item behind s t
  Ends : IsSome t.ended → StandsOrTaken item behind s t
  IsLost : s.reading ≡ Exiting → (s.phase ≡ Closing → ⊥) → StandsOrTaken item behind s t

-- by what stands in front of it
taken-by : (item : Ahead PageEvent) (behind : List (Ahead PageEvent)) (x : Ahead PageEvent) (others front : List (Ahead PageEvent)) (s : State)
    → s.input.ahead ≡ x ∷ others → x ∷ others ≡ front ++ item ∷ behind → StandsOrTaken item behind s (behind_ahead x others s)
taken-by item behind x others [] s ahead is =
    let first : x ≡ item = cc in
    let rest : others ≡ behind = cc in
    IsTaken (ahead ∙ is)
    (ap (λ (y : Ahead PageEvent). behind_ahead y others s) first ∙ ap (λ (ys : List (Ahead PageEvent)). behind_ahead item ys s) rest)
taken-by item behind x others (y ∷ front) s ahead is =
    let rest : others ≡ front ++ item ∷ behind = cc in
    Stands (ends-grown item behind others _ (grows-taken x others s) (record { front = front; is = rest }))

left-stands : (item : Ahead PageEvent) (behind : List (Ahead PageEvent)) (phase : Phase) (s : State) → s.phase ≡ phase → s.reading ≡ Exiting
    → EndWith item behind s.input.ahead → StandsOrTaken item behind s (left_in phase s)
left-stands item behind Reading s is leaves ends = IsLost leaves (λ closing. absurd (cc))
left-stands item behind LastMacro s is leaves ends = IsLost leaves (λ closing. absurd (cc))
left-stands item behind Closing s is leaves ends = Stands ends

pub stands-read : (item : Ahead PageEvent) (behind : List (Ahead PageEvent)) (l : Limits) (s t : State) → ReadsOn l s t
    → EndWith item behind s.input.ahead → StandsOrTaken item behind s t
stands-read item behind l s t (LimitStops limit) ends = Ends refl
stands-read item behind l s t (AheadTaken x others ahead charge is_made) ends =
    taken-by item behind x others ends.front s ahead (sym ahead ∙ ends.is)
stands-read item behind l s t (ByteTaken b none is_open gives charge is_made) ends = absurd (ends-none item behind s.input.ahead none ends)
stands-read item behind l s t (NoteTaken message is_open gives) ends = Stands ends
stands-read item behind l s t (HalfEnds first others half is_made) ends =
    Stands (ends-grown item behind s.input.ahead _ (Means-escape_ended (known s) s.reading s.input).1 ends)
stands-read item behind l s t (PhaseEnds none half ended unfinished is_made) ends = absurd (ends-none item behind s.input.ahead none ends)
stands-read item behind l s t (LineEnds unfinished none ended is_made) ends =
    Stands (ends-grown item behind s.input.ahead _ (Means-end_taking (known s) s.reading s.input).1 ends)
stands-read item behind l s t (MessageTold told is_made) ends = Stands ends
stands-read item behind l s t (RunAborts told) ends = Ends refl
stands-read item behind l s t (InputLeft leaves is_made) ends = left-stands item behind s.phase s refl leaves ends
stands-read item behind l s t (SprungRead name sprung is_made) ends =
    Stands (ends-grown item behind s.input.ahead _ (grows-sprung (called_by name s.input.names) s) ends)
stands-read item behind l s t (TextChanged due text is_made) ends =
    Stands (text-holds (λ (u : State). EndWith item behind u.input.ahead) due s (λ names texts. ends))
stands-read item behind l s t (SourceFails is_open fails) ends = Ends refl
stands-read item behind l s t (SourceStops limit is_open stops) ends = Ends refl

-- and so does a step that performs an event, but that it takes nothing
pub stands-performed : (item : Ahead PageEvent) (behind : List (Ahead PageEvent)) (l : Limits) (x : PageEvent) (left : List PageEvent) (s t : State)
    → PerformedOrStopped l x left s t → EndWith item behind s.input.ahead → IsSome t.ended ⊎ EndWith item behind t.input.ahead
stands-performed item behind l x left s t (Performed allowed on none) ends = inr ends
stands-performed item behind l x left s t (Sprang name allowed on some) ends = inr (ends-back item behind (map put_back left) s.input.ahead ends)
stands-performed item behind l x left s t (EndsOver allowed over) ends = inl refl
stands-performed item behind l x left s t (StoppedAt limit) ends = inl refl
