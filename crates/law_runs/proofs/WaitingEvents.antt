-- Events that wait to be performed: they are to be done, or were put back.
use Rattle.std.proofs.Common.{◌≡◌, ◌⊎◌, inl, inr, List, [], ◌∷◌, ◌++◌, map, Option, Some, None, refl, ◌∙◌, ap, subst, IsSome}
use Rattle.roff_num.specs.declared.limits.Limits.{Limits}
use Rattle.input_model.specs.Input.{Ahead, ByteAhead, FreeAhead, EndAhead, ReturnAhead, DoAhead, item_taken}
use Rattle.input_model.specs.Input.Calls.{called_text}
use Rattle.input_model.specs.Input.Names.{body_named}
use Rattle.roff_num.specs.ShortNames.{name_bytes}
use Rattle.run_model.specs.PageEvents.{PageEvent}
use Rattle.run_model.specs.Reading.{escape_ended, byte_taking}
use Rattle.run_model.specs.Reading.Ends.{end_taking}
use Rattle.run_model.specs.Reading.Items.{Taking}
use Rattle.run_model.specs.Reading.Returns.{back_of}
use Rattle.run_model.specs.Requests.{called_by}
use Rattle.run_model.specs.Run.{State, ahead_taken, known, left_in, sprung_read, taken_as, grown, made, text_done, unless_refused}
use Rattle.run_model.specs.Titles.{put_back}
use Rattle.run_model.specs.declared.line_state.LineState.TheVariants.{Exiting}
use Rattle.run_model.specs.declared.phase.Phase.{Phase}
use Rattle.run_model.specs.declared.phase.Phase.TheVariants.{Reading, LastMacro, Closing}
use Rattle.run_model.specs.declared.request.Called.{Called}
use Rattle.run_model.specs.declared.request.Called.TheVariants.{Request as ARequest, Body as ABody, Nothing as Unknown}
use Rattle.run_model.proofs.Readings.{ReadsOn, LimitStops, AheadTaken, ByteTaken, NoteTaken, HalfEnds, InputLeft, LineEnds, PhaseEnds, MessageTold, RunAborts, SourceFails, SourceStops, SprungRead, TextChanged}
use Rattle.law_runs.specs.TrapLaws.{IsAmong, IsPutBack, Waits}
use Rattle.run_model.proofs.GrowingAhead.{Grows, Stays, WithByte, WithEnd, WithFree, WithReturn, ahead-called, ahead-interrupted, ahead-same}
use Rattle.law_runs.proofs.PerformedOrStopped.{PerformedOrStopped, Performed, Sprang, EndsOver, StoppedAt}
use Rattle.run_model.proofs.ReadEvents.{Means, Means-end_taking, Means-escape_ended, Means-taking}
use Rattle.law_runs.proofs.TextsChanged.{text-holds}
use Rattle.page_model.specs.DueTexts.{TextDue}
use Rattle.roff_num.specs.declared.limit.Limit.{Limit}
use Rattle.run_model.specs.Run.Counts.{first_passed}

-- with others
pub among-behind : (e : PageEvent) (front events : List PageEvent) → IsAmong e events → IsAmong e (front ++ events)
among-behind e [] events among = among
among-behind e (x ∷ front) events among = inr (among-behind e front events among)

pub among-front : (e : PageEvent) (events more : List PageEvent) → IsAmong e events → IsAmong e (events ++ more)
among-front e [] more among = absurd among
among-front e (x ∷ events) more (inl is) = inl is
among-front e (x ∷ events) more (inr among) = inr (among-front e events more among)

pub back-behind : (e : PageEvent) (events : List PageEvent) (items : List (Ahead PageEvent)) → IsPutBack e items
    → IsPutBack e (map DoAhead events ++ items)
back-behind e [] items back = back
back-behind e (x ∷ events) items back = inr (back-behind e events items back)

-- one that is put back with others
pub back-among : (e : PageEvent) (events : List PageEvent) (items : List (Ahead PageEvent)) → put_back e ≡ e → IsAmong e events
    → IsPutBack e (map DoAhead (map put_back events) ++ items)
back-among e [] items same among = absurd among
back-among e (x ∷ events) items same (inl is) = inl (ap DoAhead (ap put_back is ∙ same))
back-among e (x ∷ events) items same (inr among) = inr (back-among e events items same among)

-- behind bytes and ends
back-grown : (e : PageEvent) (items more : List (Ahead PageEvent)) → Grows items more → IsPutBack e items → IsPutBack e more
back-grown e items _ Stays back = back
back-grown e items _ (WithByte b more grows) back = inr (back-grown e items more grows back)
back-grown e items _ (WithFree b more grows) back = inr (back-grown e items more grows back)
back-grown e items _ (WithEnd more grows) back = inr (back-grown e items more grows back)
back-grown e items _ (WithReturn code more grows) back = inr (back-grown e items more grows back)

-- an event was performed, and it is left, or was put back before
pub waits-performed : (l : Limits) (x e : PageEvent) (left : List PageEvent) (s t : State) → put_back e ≡ e
    → PerformedOrStopped l x left s t
    → IsAmong e left ⊎ IsPutBack e s.input.ahead → IsSome t.ended ⊎ Waits e t
waits-performed l x e left s t same (Performed allowed on none) waits = inr waits
waits-performed l x e left s t same (Sprang name allowed on some) (inl among) = inr (inr (back-among e left s.input.ahead same among))
waits-performed l x e left s t same (Sprang name allowed on some) (inr back) = inr (inr (back-behind e (map put_back left) s.input.ahead back))
waits-performed l x e left s t same (EndsOver allowed over) waits = inl refl
waits-performed l x e left s t same (StoppedAt limit) waits = inl refl

-- what is done with an item
waits-taken : (e : PageEvent) (t : Taking) (s : State) → Means s.input.ahead t → IsPutBack e s.input.ahead
    → Waits e (taken_as t s)
waits-taken e t s means back = inr (back-grown e s.input.ahead t.input.ahead means.1 back)

-- with an item ahead of the source
waits-ahead_taken : (e : PageEvent) (item : Ahead PageEvent) (behind : List (Ahead PageEvent)) (s : State)
    → IsPutBack e (item ∷ behind)
    → Waits e (ahead_taken item (record s { input = item_taken item behind s.input }))
waits-ahead_taken e (ByteAhead b) behind s (inl is) = absurd (cc)
waits-ahead_taken e (ByteAhead b) behind s (inr back) =
    let taken : State = record s { input = item_taken (ByteAhead b) behind s.input } in
    waits-taken e (byte_taking (known taken) s.reading taken.input b) taken (Means-taking (known taken) s.reading taken.input b) back
waits-ahead_taken e (FreeAhead b) behind s (inl is) = absurd (cc)
waits-ahead_taken e (FreeAhead b) behind s (inr back) =
    let taken : State = record s { input = item_taken (FreeAhead b) behind s.input } in
    waits-taken e (byte_taking (known taken) s.reading taken.input b) taken (Means-taking (known taken) s.reading taken.input b) back
waits-ahead_taken e EndAhead behind s (inl is) = absurd (cc)
waits-ahead_taken e EndAhead behind s (inr back) = inr back
waits-ahead_taken e (ReturnAhead code) behind s (inl is) = absurd (cc)
waits-ahead_taken e (ReturnAhead code) behind s (inr back) = inr back
waits-ahead_taken e (DoAhead x) behind s (inl is) = inl (inl (cc))
waits-ahead_taken e (DoAhead x) behind s (inr back) =
    inr (back-grown e behind _ (ahead-same (ahead-interrupted s.reading (item_taken (DoAhead x) behind s.input))) back)

-- the body of a macro that sprang is put in front
waits-sprung_read : (e : PageEvent) (called : Called) (s : State) → IsPutBack e s.input.ahead → Waits e (sprung_read called s)
waits-sprung_read e (ABody name) s back =
    inr (back-grown e s.input.ahead _ (ahead-called (called_text (body_named (name_bytes name) s.input)) (back_of s.reading) s.input.ahead) back)
waits-sprung_read e (ARequest request) s back = inr back
waits-sprung_read e Unknown s back = inr back

-- the input is left, but as the run closes
waits-left_in : (e : PageEvent) (phase : Phase) (s : State) → IsPutBack e s.input.ahead
    → Waits e (left_in phase s) ⊎ (phase ≡ Closing → ⊥)
waits-left_in e Reading s back = inr (λ is. absurd (cc))
waits-left_in e LastMacro s back = inr (λ is. absurd (cc))
waits-left_in e Closing s back = inl (inr back)

-- nothing is put back where nothing stands ahead
pub none_back : (e : PageEvent) (items : List (Ahead PageEvent)) → items ≡ [] → IsPutBack e items → ⊥
none_back e [] none back = back
none_back e (item ∷ items) none back = absurd (cc)

-- what was read leaves it waiting, or the run ended, or the input was left
pub data StillWaits (e : PageEvent) (s t : State) : Type 0 where
  WaitsStill : Waits e t → StillWaits e s t
  RunEnds : IsSome t.ended → StillWaits e s t
  IsLost : s.reading ≡ Exiting → (s.phase ≡ Closing → ⊥) → StillWaits e s t

lost_or_not : (e : PageEvent) (s t : State) → s.reading ≡ Exiting → Waits e t ⊎ (s.phase ≡ Closing → ⊥) → StillWaits e s t
lost_or_not e s t leaves (inl waits) = WaitsStill waits
lost_or_not e s t leaves (inr reads) = IsLost leaves reads

waits-read_back : (e : PageEvent) (l : Limits) (s t : State) → ReadsOn l s t → IsPutBack e s.input.ahead → StillWaits e s t
waits-read_back e l s t (LimitStops limit) back = RunEnds refl
waits-read_back e l s t (AheadTaken item behind ahead charge is_made) back = WaitsStill (waits-ahead_taken e item behind s (subst (IsPutBack e) ahead back))
waits-read_back e l s t (ByteTaken b none is_open gives charge is_made) back = absurd (none_back e s.input.ahead none back)
waits-read_back e l s t (NoteTaken message is_open gives) back = WaitsStill (inr back)
waits-read_back e l s t (HalfEnds first others half is_made) back =
    WaitsStill (waits-taken e (escape_ended (known s) s.reading s.input) s (Means-escape_ended (known s) s.reading s.input) back)
waits-read_back e l s t (PhaseEnds none half ended unfinished is_made) back = absurd (none_back e s.input.ahead none back)
waits-read_back e l s t (LineEnds unfinished none ended is_made) back =
    WaitsStill (waits-taken e (end_taking (known s) s.reading s.input) s (Means-end_taking (known s) s.reading s.input) back)
waits-read_back e l s t (MessageTold told is_made) back = WaitsStill (inr back)
waits-read_back e l s t (RunAborts told) back = RunEnds refl
waits-read_back e l s t (InputLeft leaves is_made) back = lost_or_not e s t leaves (waits-left_in e s.phase s back)
waits-read_back e l s t (SprungRead name sprung is_made) back = WaitsStill (waits-sprung_read e (called_by name s.input.names) s back)
waits-read_back e l s t (TextChanged due text is_made) back = WaitsStill (text-holds (Waits e) due s (λ names texts. inr back))
waits-read_back e l s t (SourceFails is_open fails) back = RunEnds refl
waits-read_back e l s t (SourceStops limit is_open stops) back = RunEnds refl

-- where nothing is to be done it was put back
pub put_back_where_idle : (e : PageEvent) (s : State) → s.to_do ≡ [] → Waits e s → IsPutBack e s.input.ahead
put_back_where_idle e s idle (inl among) = absurd (subst (IsAmong e) idle among)
put_back_where_idle e s idle (inr back) = back

pub waits-read : (e : PageEvent) (l : Limits) (s t : State) → ReadsOn l s t → s.to_do ≡ [] → Waits e s → StillWaits e s t
waits-read e l s t reads idle waits = waits-read_back e l s t reads (put_back_where_idle e s idle waits)

-- a change of the text of a diversion leaves it waiting, too, or a limit stops the run
waits-unless_refused : (e : PageEvent) (l : Limits) (r : Option Limit) (s done : State) → Waits e done
    → StillWaits e s (unless_refused l r s done)
waits-unless_refused e l None s done waits = WaitsStill waits
waits-unless_refused e l (Some limit) s done waits = RunEnds refl

pub waits-text : (e : PageEvent) (l : Limits) (due : TextDue) (s : State) → Waits e s → StillWaits e s (made l s (text_done due s))
waits-text e l due s waits =
    waits-unless_refused e l (first_passed l (grown (text_done due s))) s (text_done due s)
    (text-holds (Waits e) due s (λ names texts. waits))
