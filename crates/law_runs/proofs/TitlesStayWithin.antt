-- No title has more bytes than the limit on a line says.
--
-- That of the one that is read is said by the counts (`RunsStayWithin`). Reading changes no title that is kept, and places none.
use Rattle.std.proofs.Common.{◌≡◌, ◌≤◌, ℕ, zero, suc, List, [], ◌∷◌, ◌++◌, Option, Some, None, refl, ◌∙◌, ap, arith, if◌then◌else◌}
use Rattle.input_model.specs.Input.{Ahead, ByteAhead, FreeAhead, EndAhead, ReturnAhead, DoAhead, counting, item_taken}
use Rattle.roff_num.specs.declared.limit.Limit.{Limit}
use Rattle.roff_num.specs.declared.limits.Limits.{Limits}
use Rattle.roff_num.specs.declared.num.Num.{Num}
use Rattle.run_model.specs.Environments.{PageHistory}
use Rattle.run_model.specs.PageEvents.{PageEvent}
use Rattle.run_model.specs.declared.event.PageEvent.TheVariants.{Text, Page, Interrupt, Environment, Back, InputTrap as SetsTrap, Title}
use Rattle.run_model.specs.declared.title.WhichTitle.TheVariants.{Read, Kept}
use Rattle.run_model.specs.Reading.{escape_ended, byte_taking}
use Rattle.run_model.specs.Reading.Ends.{end_taking}
use Rattle.run_model.specs.Registers.{AllRegisters, Change, SetTo, FormatAs, Remove, StepBy, ReadLast, CharacterIs, TitleBegins, TitleGets, PartEnds, changed_by, changed_by_all, is_page, is_read_only}
use Rattle.run_model.specs.Requests.{called_by}
use Rattle.run_model.specs.Requests.Effects.{page_numbered}
use Rattle.run_model.specs.Requests.Numbering.{number_of_page}
use Rattle.run_model.specs.Run.{State, ahead_taken, initial, known, moved, paged_state, phase_ended, sprung_read, step, step_with, told_after, told_step, unless_refused, with_registers, step_behind}
use Rattle.run_model.specs.Run.Counts.{first_passed, names_counted}
use Rattle.run_model.specs.Springs.{next}
use Rattle.run_model.specs.Starts.{given_change, history_given, with_given}
use Rattle.run_model.specs.TitleTexts.{title_length}
use Rattle.run_model.specs.Titles.{keeping, told, with_title_kept}
use Rattle.run_model.specs.Within.{IsWithin}
use Rattle.run_model.specs.declared.phase.Phase.{Phase}
use Rattle.run_model.specs.declared.phase.Phase.TheVariants.{Reading, LastMacro, Closing}
use Rattle.run_model.specs.declared.request.Called.{Called}
use Rattle.run_model.specs.declared.request.Called.TheVariants.{Request as ARequest, Body as ABody, Nothing as Unknown}
use Rattle.run_model.specs.declared.status.Status.{Status}
use Rattle.run_model.proofs.GivenPages.{keeps-given}
use Rattle.run_model.proofs.Readings.{ReadsOn, LimitStops, AheadTaken, ByteTaken, NoteTaken, HalfEnds, InputLeft, LineEnds, PhaseEnds, MessageTold, RunAborts, SourceFails, SourceStops, SprungRead, ReadsOn-with_sprung, TextChanged, ReadsOn-text}
use Rattle.run_model.proofs.Behind.{Behind-ahead_taken, Behind-sprung_read, Passed-phase_ended}
use Rattle.law_runs.specs.Laws.{HasTitlesWithin, NoTitleIsLonger, TitlesAreWithin}
use Rattle.law_runs.proofs.InputLeaving.{IsLeft-left_in}
use Rattle.law_runs.proofs.PerformedOrStopped.{PerformedOrStopped, Performed, Sprang, EndsOver, StoppedAt, first_of, left_behind, performed_or_stopped}
use Rattle.law_runs.proofs.RunsStayWithin.{IsWithin-initial, IsWithin-step, IsWithin-told_step, title-given}
use Rattle.law_runs.proofs.Told.{told_step-holds}
use Rattle.page_model.specs.DueTexts.{TextDue}
use Rattle.law_runs.proofs.TextsChanged.{text-holds}
use Rattle.law_runs.proofs.KeptTitles.{title-chosen}

-- the titles that were placed behind an event
placed-event : (most : ℕ) (rs : AllRegisters) (e : PageEvent) (h : PageHistory) → title_length rs.title ≤ most
    → title_length rs.kept_title ≤ most → TitlesAreWithin most h → TitlesAreWithin most (told rs e ∷ h)
placed-event most rs (Title Read) h read kept placed = (read, placed)
placed-event most rs (Title Kept) h read kept placed = (kept, placed)
placed-event most rs (Text e) h read kept placed = placed
placed-event most rs (Page e) h read kept placed = placed
placed-event most rs (Interrupt untold) h read kept placed = placed
placed-event most rs (Environment number) h read kept placed = placed
placed-event most rs Back h read kept placed = placed
placed-event most rs (SetsTrap trap) h read kept placed = placed

-- the one that is kept where events are put back
kept-keeping : (most : ℕ) (events : List PageEvent) (rs : AllRegisters) → title_length rs.title ≤ most
    → title_length rs.kept_title ≤ most → title_length (keeping events rs).kept_title ≤ most
kept-keeping most [] rs read kept = kept
kept-keeping most (Title Read ∷ events) rs read kept = kept-keeping most events (with_title_kept rs) (omega arith) read
kept-keeping most (Title Kept ∷ events) rs read kept = kept-keeping most events rs read kept
kept-keeping most (Text e ∷ events) rs read kept = kept-keeping most events rs read kept
kept-keeping most (Page e ∷ events) rs read kept = kept-keeping most events rs read kept
kept-keeping most (Interrupt untold ∷ events) rs read kept = kept-keeping most events rs read kept
kept-keeping most (Environment number ∷ events) rs read kept = kept-keeping most events rs read kept
kept-keeping most (Back ∷ events) rs read kept = kept-keeping most events rs read kept
kept-keeping most (SetsTrap trap ∷ events) rs read kept = kept-keeping most events rs read kept

-- and behind changes of the registers
kept-set : (name : List ℕ) (paged others rs : AllRegisters) → paged.kept_title ≡ rs.kept_title → others.kept_title ≡ rs.kept_title
    → (if is_read_only name then rs else if is_page name then paged else others).kept_title ≡ rs.kept_title
kept-set name paged others rs first second =
    title-chosen (λ r. r.kept_title) (is_read_only name) (is_page name) paged others rs first second

kept-changed_by : (change : Change) (rs : AllRegisters) → (changed_by change rs).kept_title ≡ rs.kept_title
kept-changed_by (SetTo name value increment) rs = kept-set name _ _ rs refl refl
kept-changed_by (FormatAs name format) rs = kept-set name _ _ rs refl refl
kept-changed_by (Remove names) rs = refl
kept-changed_by (StepBy name direction) rs = kept-set name _ _ rs refl refl
kept-changed_by (ReadLast name) rs = refl
kept-changed_by (CharacterIs character) rs = refl
kept-changed_by (TitleBegins bytes) rs = refl
kept-changed_by (TitleGets bytes) rs = refl
kept-changed_by PartEnds rs = refl

kept-changed : (changes : List Change) (rs : AllRegisters) → (changed_by_all changes rs).kept_title ≡ rs.kept_title
kept-changed [] rs = refl
kept-changed (change ∷ changes) rs = kept-changed changes (changed_by change rs) ∙ kept-changed_by change rs

-- an event is performed, or the run ends at it
titles-event : (l : Limits) (e : PageEvent) (left : List PageEvent) (s t : State) → PerformedOrStopped l e left s t → IsWithin l t
    → HasTitlesWithin l.line s → HasTitlesWithin l.line t
titles-event l e left s t (Performed allowed on none) within is =
    record { read = within.title; kept = is.kept; placed = placed-event l.line s.registers e s.history is.read is.kept is.placed }
titles-event l e left s t (Sprang name allowed on some) within is = record {
  read = within.title;
  kept = kept-keeping l.line left s.registers is.read is.kept;
  placed = placed-event l.line s.registers e s.history is.read is.kept is.placed;
}
titles-event l e left s t (EndsOver allowed over) within is =
    record { read = within.title; kept = is.kept; placed = placed-event l.line s.registers e s.history is.read is.kept is.placed }
titles-event l e left s t (StoppedAt limit) within is = record { read = is.read; kept = is.kept; placed = is.placed }

-- what leaves the title that is kept, and what happened
titles-same : (l : Limits) (s t : State) → t.registers.kept_title ≡ s.registers.kept_title → t.history ≡ s.history → IsWithin l t
    → HasTitlesWithin l.line s → HasTitlesWithin l.line t
titles-same l s t kept history within is = record { read = within.title; kept = rw kept is.kept; placed = rw history is.placed }

kept-ahead_taken : (item : Ahead PageEvent) (s : State) → (ahead_taken item s).registers.kept_title ≡ s.registers.kept_title
kept-ahead_taken (ByteAhead b) s = kept-changed (byte_taking (known s) s.reading s.input b).effect.changes s.registers
kept-ahead_taken (FreeAhead b) s = kept-changed (byte_taking (known s) s.reading s.input b).effect.changes s.registers
kept-ahead_taken EndAhead s = refl
kept-ahead_taken (ReturnAhead back) s = refl
kept-ahead_taken (DoAhead e) s = refl

kept-phase_ended : (phase : Phase) (s : State) → (phase_ended phase s).registers.kept_title ≡ s.registers.kept_title
kept-phase_ended Reading s = refl
kept-phase_ended LastMacro s = refl
kept-phase_ended Closing s = refl

kept-sprung_read : (called : Called) (s : State) → (sprung_read called s).registers.kept_title ≡ s.registers.kept_title
kept-sprung_read (ABody name) s = refl
kept-sprung_read (ARequest request) s = refl
kept-sprung_read Unknown s = refl

-- what was read, or how the run ended
titles-read : (l : Limits) (s t : State) → ReadsOn l s t → IsWithin l t → HasTitlesWithin l.line s → HasTitlesWithin l.line t
titles-read l s t (LimitStops limit) within is = titles-same l s t refl refl within is
titles-read l s t (AheadTaken item behind ahead charge is_made) within is =
    let taken : State = record s { input = item_taken item behind s.input } in
    titles-same l s t (kept-ahead_taken item taken) (Behind-ahead_taken item taken).history within is
titles-read l s t (ByteTaken b none is_open gives charge is_made) within is =
    let taken : State = moved (record s { input = counting b s.input }) in
    titles-same l s t (kept-changed (byte_taking (known taken) s.reading taken.input b).effect.changes s.registers) refl within is
titles-read l s t (NoteTaken message is_open gives) within is = titles-same l s t refl refl within is
titles-read l s t (HalfEnds first others half is_made) within is =
    titles-same l s t (kept-changed (escape_ended (known s) s.reading s.input).effect.changes s.registers) refl within is
titles-read l s t (PhaseEnds none half ends unfinished is_made) within is =
    titles-same l s t (kept-phase_ended s.phase s) (Passed-phase_ended s.phase s).history within is
titles-read l s t (LineEnds unfinished none ends is_made) within is =
    titles-same l s t (kept-changed (end_taking (known s) s.reading s.input).effect.changes s.registers) refl within is
titles-read l s t (MessageTold was_told is_made) within is = titles-same l s t refl refl within is
titles-read l s t (RunAborts was_told) within is = titles-same l s t refl refl within is
titles-read l s t (InputLeft leaves is_made) within is =
    let left = IsLeft-left_in s.phase s in titles-same l s t (ap (λ (rs : AllRegisters). rs.kept_title) left.registers) left.history within is
titles-read l s t (SprungRead name sprung is_made) within is =
    let called : Called = called_by name s.input.names in
    titles-same l s t (kept-sprung_read called s) (Behind-sprung_read called s).history within is
titles-read l s t (TextChanged due text is_made) within is =
    titles-same l s t (text-holds (λ (u : State). u.registers.kept_title ≡ s.registers.kept_title) due s (λ names texts. refl))
    (text-holds (λ (u : State). u.history ≡ s.history) due s (λ names texts. refl)) within is
titles-read l s t (SourceFails is_open fails) within is = titles-same l s t refl refl within is
titles-read l s t (SourceStops limit is_open stops) within is = titles-same l s t refl refl within is

-- a step of a run that hasn't ended
titles-step_with : (l : Limits) (es : List PageEvent) (s : State) → IsWithin l (step_with l es s) → HasTitlesWithin l.line s
    → HasTitlesWithin l.line (step_with l es s)
titles-step_with l (e ∷ rest) s within is =
    let own : Option PageEvent = next s.history e in
    titles-event l (first_of own e) (left_behind own e rest s) s _ (performed_or_stopped l own e rest s) within is
titles-step_with l [] s within is = titles-read l s _ (ReadsOn-with_sprung l s.follows.sprung s refl) within is

-- the text of a diversion changes first, if one does
titles-step_behind : (l : Limits) (due : Option TextDue) (s : State) → s.follows.text ≡ due → IsWithin l (step_behind l due s)
    → HasTitlesWithin l.line s
    → HasTitlesWithin l.line (step_behind l due s)
titles-step_behind l None s none within is = titles-step_with l s.to_do s within is
titles-step_behind l (Some due) s some within is = titles-read l s _ (ReadsOn-text l due s some) within is

-- a step
titles-step : (l : Limits) (s : State) → IsWithin l (step l s) → HasTitlesWithin l.line s → HasTitlesWithin l.line (step l s)
titles-step l s within is =
    let of : Option Status → State = λ o. elim o [ None ↦ step_behind l s.follows.text s | Some status ↦ s ] in
    elim s.ended as (λ o. IsWithin l (of o) → HasTitlesWithin l.line (of o)) [
      | None ↦ λ within. titles-step_behind l s.follows.text s refl within is
      | Some status ↦ λ within. is
    ] within

titles-told_step : (l : Limits) (s : State) → IsWithin l s → HasTitlesWithin l.line s → HasTitlesWithin l.line (told_step l s)
titles-told_step l s within is =
    told_step-holds (λ (t : State). HasTitlesWithin l.line t) l s (titles-step l s (IsWithin-step l s within) is)
    (λ going. record { read = is.read; kept = is.kept; placed = is.placed })

-- so many steps
titles-told_after : (l : Limits) (n : ℕ) (s : State) → IsWithin l s → HasTitlesWithin l.line s → HasTitlesWithin l.line (told_after l n s)
titles-told_after l zero s within is = is
titles-told_after l (suc n) s within is =
    titles-told_after l n (told_step l s) (IsWithin-told_step l s within) (titles-told_step l s within is)

-- registers that are given place no title
placed-numbered : (most : ℕ) (n : Option Num) (h : PageHistory) → TitlesAreWithin most h
    → TitlesAreWithin most (page_numbered n ++ h)
placed-numbered most None h placed = placed
placed-numbered most (Some n) h placed = placed

titles-unless_refused : (l : Limits) (r : Option Limit) (s done : State) → HasTitlesWithin l.line s → HasTitlesWithin l.line done
    → HasTitlesWithin l.line (unless_refused l r s done)
titles-unless_refused l None s done is others = others
titles-unless_refused l (Some limit) s done is others = record { read = is.read; kept = is.kept; placed = is.placed }

titles-with_registers : (l : Limits) (given : List (ℕ × Num)) (s : State) → HasTitlesWithin l.line s
    → HasTitlesWithin l.line (with_registers l given s)
titles-with_registers l [] s is = is
titles-with_registers l (first ∷ others) s is =
    let behind : State = record s { registers = with_given first s.registers; history = history_given first s.history } in
    titles-unless_refused l (first_passed l (names_counted behind.registers)) s _ is
    (titles-with_registers l others behind (record {
      read = rw (title-given first s.registers) is.read;
      kept = rw (kept-changed_by (given_change first.0 first.1) s.registers) is.kept;
      placed = placed-numbered l.line (number_of_page (first.0 ∷ []) first.1) s.history is.placed;
    }))

-- no title is longer
pub no_title_is_longer : NoTitleIsLonger
no_title_is_longer l start tape n =
    titles-told_after l n (initial l start tape) (IsWithin-initial l start tape)
    (titles-with_registers l start.registers.items (paged_state start tape) (record {
      read = omega arith;
      kept = omega arith;
      placed = keeps-given (TitlesAreWithin l.line) (λ first last h is. is) (λ n h is. is) start tt;
    }))
