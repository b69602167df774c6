-- A run that may be cut short, by smaller limits or by a source that fails, beside the whole run, step by step.
--
-- Each function f of the run has its lemma Cut-f here, with a line for each of its cases. Where a case is stopped
-- by no limit, the line is `Same tape beside refl`; where the limit on bytes may stop it, a call of `Cut-stopped`,
-- with a lemma that what passes a larger limit passes a smaller one; where it leads to a state that is made unless
-- a count passes its limit there, a call of `Cut-made`; and where it calls another function, that one's lemma.
use Rattle.std.proofs.Common.{◌≡◌, ◌⊎◌, inl, inr, ℕ, ◌+◌, Bool, true, false, List, [], ◌∷◌, ◌++◌, Option, Some, None, refl, sym, subst, arith, nat_lt, if◌then◌else◌}
use Rattle.std.proofs.lemmas.Bool.{cases_Bool, both_ways, false_from_ne_true}
use Rattle.std.proofs.lemmas.Bool.Decides.{nat_tests}
use Rattle.roff_num.specs.LimitValues.{value_of}
use Rattle.roff_num.specs.declared.limit.Limit.{Limit}
use Rattle.roff_num.specs.declared.limit.Limit.TheVariants.{Bytes}
use Rattle.roff_num.specs.declared.limits.Limits.{Limits}
use Rattle.input_escapes.specs.Waiting.{is_ended_by}
use Rattle.input_escapes.specs.declared.open_escape.Waiting.{Waiting}
use Rattle.input_escapes.specs.declared.open_escape.Waiting.TheVariants.{Takes as TakesAny, Decides, Waits}
use Rattle.run_model.specs.Reading.Waiting.{waiting_in}
use Rattle.input_model.specs.Input.{Ahead, ByteAhead, FreeAhead, EndAhead, ReturnAhead, DoAhead, cost}
use Rattle.input_source.specs.Tape.{Tape, Answer, Gives, Ends, OneByte, OneNote, Ended, Failed, Stopped, front, behind_front}
use Rattle.input_model.specs.Shown.{Sighted, SeesByte, SeesNothing, SeesNote, SeesEnding, seen_ahead}
use Rattle.input_escapes.specs.OpenEscape.{OpenEscape}
use Rattle.law_runs.specs.Laws.{OnlyCuts, over}
use Rattle.law_runs.specs.Limits.{AreWithin}
use Rattle.run_model.specs.Reading.Ends.{due, is_unfinished}
use Rattle.run_model.specs.declared.line_state.Due.{Due}
use Rattle.run_model.specs.declared.line_state.Due.TheVariants.{Leaves, Tells as TellsText}
use Rattle.run_model.specs.PageEvents.{PageEvent, PastEvent}
use Rattle.run_model.specs.Output.{layout_of}
use Rattle.run_model.specs.Run.{read_waiting, Following, State, done_if, followed_by, ending_with, unless_refused, stopped_by, performing, grown, made, escape_ends, taking_ahead, taking_byte, ending_input, answered, in_front_taken, front_seen, awaited_of_source, awaited, item_read, input_ended, left_in, performed, reading_by, sprung_read, step_behind, step_with, step, known, phase_ended, text_done, with_left, with_registers, with_sprung}
use Rattle.run_model.specs.Run.Counts.{counts, first_passed, passes_bytes, names_counted, refusal}
use Rattle.run_model.specs.Requests.{called_by}
use Rattle.run_model.specs.Springs.{left_of, next}
use Rattle.run_model.specs.Titles.{told}
use Rattle.run_model.specs.declared.request.Called.{Called}
use Rattle.run_model.specs.declared.request.Called.TheVariants.{Request as ARequest, Body as ABody, Nothing as Unknown}
use Rattle.roff_num.specs.declared.short_name.ShortName.{ShortName}
use Rattle.roff_num.specs.declared.num.Num.{Num}
use Rattle.run_model.specs.Starts.{history_given, with_given}
use Rattle.run_model.specs.declared.phase.Phase.{Phase}
use Rattle.run_model.specs.declared.phase.Phase.TheVariants.{Reading, LastMacro, Closing}
use Rattle.run_model.specs.declared.message.Message.TheVariants.{ReadFailed}
use Rattle.run_model.specs.declared.status.Status.{Status}
use Rattle.run_model.specs.declared.status.Status.TheVariants.{Device, Limit as Limited}
use Rattle.law_runs.proofs.StepsAppend.{OnlyCuts-same, OnlyCuts-given, OnlyCuts-performed, OnlyCuts-sprung_read, OnlyCuts-text_done, OnlyCuts-trans, OnlyCuts-if, OnlyCuts-unless_refused, OnlyCuts-made, OnlyCuts-escape_ends, OnlyCuts-phase_ended, OnlyCuts-with_registers, OnlyCuts-input_ended, OnlyCuts-message_told, OnlyCuts-left_in, ahead_done, OnlyCuts-ahead_done, byte_done, OnlyCuts-byte_done, OnlyCuts-answered, OnlyCuts-awaited_of_source}
use Rattle.run_model.specs.Following.{following}
use Rattle.page_model.specs.DueTexts.{TextDue}

-- what passes a larger limit passes a smaller one
abbrev pub IsMonotone : (Limits → Bool) → Type 0
IsMonotone passes = (small large : Limits) → AreWithin small large → passes large ≡ true → passes small ≡ true

-- so does what is greater
pub above_monotone : (limit : Limit) (size : ℕ) → IsMonotone (λ l. nat_lt (value_of l limit) size)
above_monotone limit size small large within passes = let least = within.each limit in grind (arith, nat_tests)

-- an item ahead is read alike over each tape
ahead_done-over : (item : Ahead PageEvent) (behind : List (Ahead PageEvent)) (s : State) (tape : Tape) → ahead_done item behind (over tape s) ≡ over tape (ahead_done item behind s)
ahead_done-over (ByteAhead b) behind s tape = refl
ahead_done-over (FreeAhead b) behind s tape = refl
ahead_done-over EndAhead behind s tape = refl
ahead_done-over (ReturnAhead back) behind s tape = refl
ahead_done-over (DoAhead e) behind s tape = refl

-- and leaves it
ahead_done-tape : (item : Ahead PageEvent) (behind : List (Ahead PageEvent)) (s : State) → (ahead_done item behind s).tape ≡ s.tape
ahead_done-tape (ByteAhead b) behind s = refl
ahead_done-tape (FreeAhead b) behind s = refl
ahead_done-tape EndAhead behind s = refl
ahead_done-tape (ReturnAhead back) behind s = refl
ahead_done-tape (DoAhead e) behind s = refl

-- so is a macro that sprang
sprung_read-over : (called : Called) (s : State) (tape : Tape) → sprung_read called (over tape s) ≡ over tape (sprung_read called s)
sprung_read-over (ABody name) s tape = refl
sprung_read-over (ARequest request) s tape = refl
sprung_read-over Unknown s tape = refl

sprung_read-tape : (called : Called) (s : State) → (sprung_read called s).tape ≡ s.tape
sprung_read-tape (ABody name) s = refl
sprung_read-tape (ARequest request) s = refl
sprung_read-tape Unknown s = refl

-- and what an event leaves is left alike
with_left-over : (sprung : Option ShortName) (left : List PageEvent) (s : State) (tape : Tape)
    → with_left sprung left (over tape s) ≡ over tape (with_left sprung left s)
with_left-over None left s tape = refl
with_left-over (Some name) left s tape = refl

with_left-tape : (sprung : Option ShortName) (left : List PageEvent) (s : State) → (with_left sprung left s).tape ≡ s.tape
with_left-tape None left s = refl
with_left-tape (Some name) left s = refl

-- and so where the last page has ended the run
done_if-over : (is_over : Bool) (f : Following) (left : List PageEvent) (s : State) (tape : Tape)
    → done_if is_over (over tape s) (followed_by f left (over tape s)) ≡ over tape (done_if is_over s (followed_by f left s))
done_if-over true f left s tape = refl
done_if-over false f left s tape = with_left-over f.sprung left (record s { follows = f }) tape

done_if-tape : (is_over : Bool) (f : Following) (left : List PageEvent) (s : State)
    → (done_if is_over s (followed_by f left s)).tape ≡ s.tape
done_if-tape true f left s = refl
done_if-tape false f left s = with_left-tape f.sprung left (record s { follows = f })

-- a step that a limit refuses, or else the limits behind it
unless_refused-if : (l : Limits) (b : Bool) (limit : Limit) (r : Option Limit) (s t : State)
    → (if b then stopped_by l limit s else unless_refused l r s t) ≡ unless_refused l (if b then Some limit else r) s t
unless_refused-if l true limit r s t = refl
unless_refused-if l false limit r s t = refl

module _ (Beside : Tape → Tape → Type 0) (IsCause : Status → Type 0) where
  -- Where two runs have come to: to the same state over two tapes, one beside the other; or the first has
  -- ended, by one of the causes, and it was only cut.
  pub data Cut (cut whole : State) : Type 0 where
    Same : (tape : Tape) → Beside cut.tape tape → whole ≡ over tape cut → Cut cut whole
    Short : (status : Status) → cut.ended ≡ Some status → IsCause status → OnlyCuts cut whole → Cut cut whole

  -- In what two runs differ: in their limits, and then any limit is a cause; and in their tapes, which
  -- answer the same until the first one fails, and if it can, then a fault is a cause.
  pub record Differ (small large : Limits) : Type 0 where
    pub limits : (small ≡ large) ⊎ (AreWithin small large × ((limit : Limit) → IsCause (Limited limit)))
    pub tapes : (t u : Tape) → Beside t u → ((front t ≡ Ends Failed) × IsCause Device) ⊎ ((front u ≡ front t) × Beside (behind_front t) (behind_front u))

  module _ (small large : Limits) (differ : Differ small large) where
    -- both runs have come to either of two states
    pub Cut-if : (b : Bool) {s t u v : State} → Cut s u → Cut t v → Cut (if b then s else t) (if b then u else v)
    Cut-if true first second = first
    Cut-if false first second = second

    -- both runs are stopped by a limit, or the first one alone is, or neither: then they go on, the whole one to `u`
    pub Cut-stopped : (limit : Limit) (passes : Limits → Bool) (s t u : State) (tape : Tape) → IsMonotone passes → Beside s.tape tape → OnlyCuts (over tape s) u → Cut t u → Cut (if passes small then stopped_by small limit s else t) (if passes large then stopped_by large limit (over tape s) else u)
    Cut-stopped limit passes s t u tape monotone beside appends goes_on =
        let Goal : Limits → Type 0 = λ l. Cut (if passes small then stopped_by small limit s else t) (if passes l then stopped_by l limit (over tape s) else u) in
        elim differ.limits [
          | inl same ↦ subst Goal same (Cut-if (passes small) (Same tape beside refl) goes_on)
          | inr apart ↦ elim (cases_Bool (passes small)) [
            | inl stops ↦
                let only_stopped = OnlyCuts-same (stopped_by small limit s) (over tape s) refl refl in
                let whole_appends = OnlyCuts-if (passes large) (OnlyCuts-same (over tape s) (stopped_by large limit (over tape s)) refl refl) appends in
                rw stops (Short (Limited limit) refl (apart.1 limit) (OnlyCuts-trans only_stopped whole_appends))
            | inr goes ↦
                let goes_too : passes large ≡ false = false_from_ne_true (passes large) (λ e. both_ways (passes small) goes (monotone small large apart.0 e)) in
                rw (goes, goes_too) goes_on
          ]
        ]

    -- a limit that a count is above stops both runs, or the first one alone, or neither
    pub Cut-unless_refused : (cs : List (Limit × ℕ)) (s t u : State) (tape : Tape) → Beside s.tape tape → OnlyCuts (over tape s) u → Cut t u
        → Cut (unless_refused small (first_passed small cs) s t) (unless_refused large (first_passed large cs) (over tape s) u)
    Cut-unless_refused [] s t u tape beside appends goes_on = goes_on
    Cut-unless_refused (c ∷ cs) s t u tape beside appends goes_on =
        let passes : Limits → Bool = λ l. nat_lt (value_of l c.0) c.1 in
        let cut : State = unless_refused small (first_passed small cs) s t in
        let whole : State = unless_refused large (first_passed large cs) (over tape s) u in
        let P : State → Type 0 = λ a. Cut a (if passes large then stopped_by large c.0 (over tape s) else whole) in
        let Q : State → Type 0 = λ b. Cut (unless_refused small (first_passed small (c ∷ cs)) s t) b in
        subst Q (unless_refused-if large (passes large) c.0 (first_passed large cs) (over tape s) u)
        (subst P (unless_refused-if small (passes small) c.0 (first_passed small cs) s t)
        (Cut-stopped c.0 passes s cut whole tape (above_monotone c.0 c.1) beside
        (OnlyCuts-unless_refused large (first_passed large cs) (over tape s) appends)
        (Cut-unless_refused cs s t u tape beside appends goes_on)))

    -- both set the registers that are given
    pub Cut-with_registers : (given : List (ℕ × Num)) (s : State) (tape : Tape) → Beside s.tape tape → Cut (with_registers small given s) (with_registers large given (over tape s))
    Cut-with_registers [] s tape beside = Same tape beside refl
    Cut-with_registers (first ∷ others) s tape beside =
        let behind : State = record s { registers = with_given first s.registers; history = history_given first s.history } in
        Cut-unless_refused (names_counted behind.registers) s _ _ tape beside
        (OnlyCuts-trans (OnlyCuts-given first (over tape s)) (OnlyCuts-with_registers large others (over tape behind)))
        (Cut-with_registers others behind tape beside)

    -- an event happens in both, if no limit refuses it
    Cut-performed : (e : PastEvent) (left : List PageEvent) (s : State) (tape : Tape) → Beside s.tape tape
        → Cut (unless_refused small (refusal small s.history e) s (performed e left s)) (unless_refused large (refusal large s.history e) (over tape s) (performed e left (over tape s)))
    Cut-performed e left s tape beside =
        let behind : State = record s { history = e ∷ s.history } in
        Cut-unless_refused (counts s.history e) s _ _ tape beside (OnlyCuts-performed e left (over tape s))
        (Same tape (subst (λ (t : Tape). Beside t tape)
        (sym (done_if-tape (layout_of behind.history).is_over (following s.history e) left behind)) beside)
        (done_if-over (layout_of behind.history).is_over (following s.history e) left behind tape))

    -- both perform an event, or what comes before it
    pub Cut-performing : (own : Option PageEvent) (e : PageEvent) (rest : List PageEvent) (s : State) (tape : Tape) → Beside s.tape tape
        → Cut (performing small own e rest s) (performing large own e rest (over tape s))
    Cut-performing None e rest s tape beside =
        let happens : PastEvent = told s.registers e in Cut-performed happens (left_of s.history happens ++ rest) s tape beside
    Cut-performing (Some own) e rest s tape beside = Cut-performed (told s.registers own) (e ∷ rest) s tape beside

    -- both make a step that leads to this state over two tapes
    pub Cut-made : (s done whole : State) (tape left : Tape) → Beside s.tape tape → Beside done.tape left → whole ≡ over left done → OnlyCuts (over tape s) whole → Cut (made small s done) (made large (over tape s) whole)
    Cut-made s done whole tape left beside beside_next same appends =
        let Goal : State → Type 0 = λ t. Cut (made small s done) (made large (over tape s) t) in
        let appends_over : OnlyCuts (over tape s) (over left done) = subst (λ (t : State). OnlyCuts (over tape s) t) same appends in
        subst Goal (sym same) (Cut-unless_refused (grown done) s done (over left done) tape beside appends_over (Same left beside_next refl))

    -- what is half read ends in both
    pub Cut-escape_ends : (s : State) (tape : Tape) → Beside s.tape tape → Cut (made small s (escape_ends s)) (made large (over tape s) (escape_ends (over tape s)))
    Cut-escape_ends s tape beside = Cut-made s _ _ tape tape beside beside refl (OnlyCuts-escape_ends (over tape s))

    -- both take an item ahead
    pub Cut-taking_ahead : (item : Ahead PageEvent) (behind : List (Ahead PageEvent)) (s : State) (tape : Tape) → Beside s.tape tape → Cut (taking_ahead small item behind s) (taking_ahead large item behind (over tape s))
    Cut-taking_ahead item behind s tape beside =
        let charge : ℕ = s.input.charge + cost item in
        let appends = OnlyCuts-ahead_done item behind (over tape s) in
        let beside_next : Beside (ahead_done item behind s).tape tape = subst (λ (t : Tape). Beside t tape) (sym (ahead_done-tape item behind s)) beside in
        Cut-stopped Bytes (λ l. nat_lt l.bytes charge) s _ _ tape (above_monotone Bytes charge) beside
        (OnlyCuts-made large (over tape s) _ appends)
        (Cut-made s (ahead_done item behind s) _ tape tape beside beside_next (ahead_done-over item behind s tape) appends)

    -- both take a byte of the source
    pub Cut-taking_byte : (b : ℕ) (s : State) (tape : Tape) → Beside s.tape tape → Beside (behind_front s.tape) (behind_front tape) → Cut (taking_byte small b s) (taking_byte large b (over tape s))
    Cut-taking_byte b s tape beside beside_next =
        let appends = OnlyCuts-byte_done b (over tape s) in
        Cut-stopped Bytes (λ l. passes_bytes l s.input) s _ _ tape (above_monotone Bytes (s.input.charge + 1)) beside
        (OnlyCuts-made large (over tape s) _ appends)
        (Cut-made s (byte_done b s) _ tape (behind_front tape) beside beside_next refl appends)

    -- a phase ends in both
    pub Cut-phase_ended : (phase : Phase) (s : State) (tape : Tape) → Beside s.tape tape → Cut (made small s (phase_ended phase s)) (made large (over tape s) (phase_ended phase (over tape s)))
    Cut-phase_ended Reading s tape beside = Cut-made s _ _ tape tape beside beside refl (OnlyCuts-phase_ended Reading (over tape s))
    Cut-phase_ended LastMacro s tape beside = Cut-made s _ _ tape tape beside beside refl (OnlyCuts-phase_ended LastMacro (over tape s))
    Cut-phase_ended Closing s tape beside = Cut-made s _ _ tape tape beside beside refl (OnlyCuts-phase_ended Closing (over tape s))

    -- both meet the end of the input, with nothing half read
    pub Cut-input_ended : (first : Bool) (s : State) (tape : Tape) → Beside s.tape tape → Cut (made small s (input_ended first s)) (made large (over tape s) (input_ended first (over tape s)))
    Cut-input_ended false s tape beside = Cut-phase_ended s.phase s tape beside
    Cut-input_ended true s tape beside = Cut-made s _ _ tape tape beside beside refl (OnlyCuts-input_ended true (over tape s))

    -- both meet the end of the input
    pub Cut-ending_input : (half : List OpenEscape) (s : State) (tape : Tape) → Beside s.tape tape → Cut (ending_input small half s) (ending_input large half (over tape s))
    Cut-ending_input [] s tape beside = Cut-input_ended (is_unfinished s.phase (known s) s.reading) s tape beside
    Cut-ending_input (first ∷ others) s tape beside = Cut-escape_ends s tape beside

    -- both sources give the same answer
    pub Cut-answered : (a : Answer) (s : State) (tape : Tape) → Beside s.tape tape → Beside (behind_front s.tape) (behind_front tape) → Cut (answered small a s) (answered large a (over tape s))
    Cut-answered (Gives (OneByte b)) s tape beside beside_next = Cut-taking_byte b s tape beside beside_next
    Cut-answered (Gives (OneNote message)) s tape beside beside_next = Same (behind_front tape) beside_next refl
    Cut-answered (Ends Ended) s tape beside beside_next = Cut-ending_input s.input.escapes s tape beside
    Cut-answered (Ends Failed) s tape beside beside_next = Same tape beside refl
    Cut-answered (Ends (Stopped limit)) s tape beside beside_next = Same tape beside refl

    -- what is done by what the source answers: the first one fails, or both give the same answer
    pub Cut-front : (f : Limits → Answer → State → State) (s : State) (tape : Tape) → Beside s.tape tape
        → f small (Ends Failed) s ≡ ending_with Device ReadFailed s
        → ((a : Answer) → OnlyCuts (over tape s) (f large a (over tape s)))
        → ((a : Answer) → Beside (behind_front s.tape) (behind_front tape) → Cut (f small a s) (f large a (over tape s)))
        → Cut (f small (front s.tape) s) (f large (front tape) (over tape s))
    Cut-front f s tape beside failing appends same_answer =
        let Goal : Answer → Answer → Type 0 = λ a b. Cut (f small a s) (f large b (over tape s)) in
        elim (differ.tapes s.tape tape beside) [
          | inl fails ↦
              let whole : State = f large (front tape) (over tape s) in
              let only_ended = OnlyCuts-same (ending_with Device ReadFailed s) (over tape s) refl refl in
              let short : Cut (ending_with Device ReadFailed s) whole = Short Device refl fails.1 (OnlyCuts-trans only_ended (appends (front tape))) in
              subst (λ (a : Answer). Goal a (front tape)) (sym fails.0) (subst (λ (t : State). Cut t whole) (sym failing) short)
          | inr alike ↦
              subst (λ (b : Answer). Goal (front s.tape) b) (sym alike.0) (same_answer (front s.tape) alike.1)
        ]

    -- both sources are asked, or neither
    pub Cut-closed : (closed : Bool) (s whole : State) (a b : Answer) → Cut (answered small (Ends Ended) s) (answered large (Ends Ended) whole)
        → Cut (answered small a s) (answered large b whole)
        → Cut (answered small (if closed then Ends Ended else a) s) (answered large (if closed then Ends Ended else b) whole)
    Cut-closed true s whole a b ended asked = ended
    Cut-closed false s whole a b ended asked = asked

    pub Cut-seen_closed : (closed : Bool) (s whole : State) (a b : Answer) → Cut (awaited_of_source small (Ends Ended) s) (awaited_of_source large (Ends Ended) whole)
        → Cut (awaited_of_source small a s) (awaited_of_source large b whole)
        → Cut (awaited_of_source small (if closed then Ends Ended else a) s) (awaited_of_source large (if closed then Ends Ended else b) whole)
    Cut-seen_closed true s whole a b ended asked = ended
    Cut-seen_closed false s whole a b ended asked = asked

    -- both take the item in front
    pub Cut-in_front_taken : (ahead : List (Ahead PageEvent)) (s : State) (tape : Tape) → Beside s.tape tape → Cut (in_front_taken small ahead s) (in_front_taken large ahead (over tape s))
    Cut-in_front_taken [] s tape beside =
        Cut-closed s.is_closed s (over tape s) (front s.tape) (front tape)
        (Cut-ending_input s.input.escapes s tape beside)
        (Cut-front answered s tape beside refl (λ a. OnlyCuts-answered large a (over tape s)) (λ a. Cut-answered a s tape beside))
    Cut-in_front_taken (item ∷ behind) s tape beside = Cut-taking_ahead item behind s tape beside

    -- both see the same in front, or nothing
    pub Cut-front_seen : (seen : Option ℕ) (s : State) (tape : Tape) → Beside s.tape tape → Cut (front_seen small seen s) (front_seen large seen (over tape s))
    Cut-front_seen seen s tape beside =
        Cut-if (is_ended_by s.input.escapes seen) (Cut-escape_ends s tape beside) (Cut-in_front_taken s.input.ahead s tape beside)

    -- what is half read waits in both, and both sources give the same answer
    pub Cut-awaited_of_source : (a : Answer) (s : State) (tape : Tape) → Beside s.tape tape → Beside (behind_front s.tape) (behind_front tape) → Cut (awaited_of_source small a s) (awaited_of_source large a (over tape s))
    Cut-awaited_of_source (Gives (OneByte b)) s tape beside beside_next = Cut-front_seen (Some b) s tape beside
    Cut-awaited_of_source (Gives (OneNote message)) s tape beside beside_next = Same (behind_front tape) beside_next refl
    Cut-awaited_of_source (Ends Ended) s tape beside beside_next = Cut-front_seen None s tape beside
    Cut-awaited_of_source (Ends Failed) s tape beside beside_next = Same tape beside refl
    Cut-awaited_of_source (Ends (Stopped limit)) s tape beside beside_next = Same tape beside refl

    -- it waits in both, and this is seen
    pub Cut-awaited : (seen : Option Sighted) (s : State) (tape : Tape) → Beside s.tape tape → Cut (awaited small seen s) (awaited large seen (over tape s))
    Cut-awaited (Some (SeesByte b)) s tape beside = Cut-front_seen (Some b) s tape beside
    Cut-awaited (Some SeesNothing) s tape beside = Cut-front_seen None s tape beside
    Cut-awaited (Some (SeesNote message)) s tape beside = Cut-front_seen None s tape beside
    Cut-awaited (Some (SeesEnding ending)) s tape beside = Cut-front_seen None s tape beside
    Cut-awaited None s tape beside =
        Cut-seen_closed s.is_closed s (over tape s) (front s.tape) (front tape) (Cut-front_seen None s tape beside)
        (Cut-front awaited_of_source s tape beside refl (λ a. OnlyCuts-awaited_of_source large a (over tape s)) (λ a. Cut-awaited_of_source a s tape beside))

    -- what is read does the same at the next item in both
    pub Cut-read_waiting : (w : Waiting) (s : State) (tape : Tape) → Beside s.tape tape → Cut (read_waiting small w s) (read_waiting large w (over tape s))
    Cut-read_waiting TakesAny s tape beside = Cut-in_front_taken s.input.ahead s tape beside
    Cut-read_waiting Decides s tape beside = Cut-escape_ends s tape beside
    Cut-read_waiting Waits s tape beside = Cut-awaited (seen_ahead s.input.ahead) s tape beside

    -- both go on reading
    pub Cut-item_read : (s : State) (tape : Tape) → Beside s.tape tape → Cut (item_read small s) (item_read large (over tape s))
    Cut-item_read s tape beside = Cut-read_waiting (waiting_in s.reading s.input) s tape beside

    -- both leave the input
    Cut-left_in : (phase : Phase) (s : State) (tape : Tape) → Beside s.tape tape
        → Cut (made small s (left_in phase s)) (made large (over tape s) (left_in phase (over tape s)))
    Cut-left_in Reading s tape beside = Cut-made s _ _ tape tape beside beside refl (OnlyCuts-left_in Reading (over tape s))
    Cut-left_in LastMacro s tape beside = Cut-made s _ _ tape tape beside beside refl (OnlyCuts-left_in LastMacro (over tape s))
    Cut-left_in Closing s tape beside = Cut-made s _ _ tape tape beside beside refl (OnlyCuts-left_in Closing (over tape s))

    -- both do what is due first
    pub Cut-reading_by : (what : Option Due) (s : State) (tape : Tape) → Beside s.tape tape → Cut (reading_by small what s) (reading_by large what (over tape s))
    Cut-reading_by None s tape beside = Cut-item_read s tape beside
    Cut-reading_by (Some (TellsText false)) s tape beside = Cut-made s _ _ tape tape beside beside refl (OnlyCuts-message_told (over tape s))
    Cut-reading_by (Some (TellsText true)) s tape beside = Same tape beside refl
    Cut-reading_by (Some Leaves) s tape beside = Cut-left_in s.phase s tape beside

    -- both read what sprang, if something did
    pub Cut-with_sprung : (name : Option ShortName) (s : State) (tape : Tape) → Beside s.tape tape → Cut (with_sprung small name s) (with_sprung large name (over tape s))
    Cut-with_sprung None s tape beside = Cut-reading_by (due s.reading) s tape beside
    Cut-with_sprung (Some name) s tape beside =
        let called : Called = called_by name s.input.names in
        Cut-made s (sprung_read called s) (sprung_read called (over tape s)) tape tape beside
        (subst (λ (t : Tape). Beside t tape) (sym (sprung_read-tape called s)) beside) (sprung_read-over called s tape) (OnlyCuts-sprung_read called (over tape s))

    -- both make a step, and haven't ended
    pub Cut-step_with : (es : List PageEvent) (s : State) (tape : Tape) → Beside s.tape tape → Cut (step_with small es s) (step_with large es (over tape s))
    Cut-step_with (e ∷ rest) s tape beside = Cut-performing (next s.history e) e rest s tape beside
    Cut-step_with [] s tape beside = Cut-with_sprung s.follows.sprung s tape beside

    -- both change the text of a diversion, if one changes
    Cut-step_behind : (due : Option TextDue) (s : State) (tape : Tape) → Beside s.tape tape
        → Cut (step_behind small due s) (step_behind large due (over tape s))
    Cut-step_behind None s tape beside = Cut-step_with s.to_do s tape beside
    Cut-step_behind (Some due) s tape beside =
        Cut-made s (text_done due s) (text_done due (over tape s)) tape tape beside beside refl (OnlyCuts-text_done due (over tape s))

    -- both make a step from the same state
    pub Cut-step_over : (s : State) (tape : Tape) → Beside s.tape tape → Cut (step small s) (step large (over tape s))
    Cut-step_over s tape beside =
        elim s.ended as (λ o. Cut (elim o [ None ↦ step_behind small s.follows.text s | Some status ↦ s ])
        (elim o [ None ↦ step_behind large s.follows.text (over tape s) | Some status ↦ over tape s ])) [
          | None ↦ Cut-step_behind s.follows.text s tape beside
          | Some status ↦ Same tape beside refl
        ]
