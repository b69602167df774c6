-- Runs over bytes of a text line that are told behind a glyph: a step for each, and one for each of its events.
use Rattle.std.proofs.Common.{◌≡◌, ℕ, ◌+◌, ◌≤◌, Bool, true, false, not, List, [], ◌∷◌, ◌++◌, length, Option, Some, None, refl, sym, ap, subst, ◌∙◌, arith, map, ◌&&◌, ◌==◌, option_map, if◌then◌else◌, le-ltb, append-nil}
use Rattle.std.specs.List.{AllByRecursion}
use Rattle.roff_num.specs.declared.limit.Limit.{Limit}
use Rattle.roff_num.specs.declared.limit.Limit.TheVariants.{Line}
use Rattle.roff_num.specs.declared.limits.Limits.{Limits}
use Rattle.page_model.specs.declared.event.Event.{Event}
use Rattle.page_model.specs.declared.event.Event.TheVariants.{Print, WordEnd, Gap}
use Rattle.page_model.specs.Behind.{finished, length_reached, pending_length}
use Rattle.page_model.specs.Lines.{Finished}
use Rattle.page_model.specs.Telling.{QuietlyTold, bytes_told, finished_by_byte}
use Rattle.page_model.specs.declared.glyph.Glyph.TheVariants.{Printed}
use Rattle.page_model.specs.Happenings.{Happening, Places}
use Rattle.page_model.specs.Layout.{Layout}
use Rattle.page_model.specs.Queries.{takes_text}
use Rattle.input_escapes.specs.OpenEscape.{OpenEscape}
use Rattle.input_escapes.specs.Waiting.{is_ended_by}
use Rattle.input_model.specs.Input.{Ahead, ByteAhead}
use Rattle.input_source.specs.Tape.{Tape}
use Rattle.run_model.proofs.InputCounts.{NoMore-item_taken, first_passed-no_more}
use Rattle.run_model.proofs.ItemsTaken.{FromAhead, FromSource, IsOpenFor, Origin, ahead_at, byte_ahead_is_taken, bytes_of_the_source_are_taken, tape_at}
use Rattle.run_model.proofs.Leads.{Leads-refl, Leads-trans}
use Rattle.run_model.proofs.PlainRuns.{behind_byte, behind_bytes, behind_bytes-counts, counted}
use Rattle.run_state.proofs.BlanksTold.{closed-word_end, pending_length-blank}
use Rattle.run_state.proofs.ToldBytes.{layout-byte, quiet-byte}
use Rattle.read_shortcuts.proofs.TurnedRuns.{free_ahead-behind}
use Rattle.run_model.specs.Layouts.{happens, layout_of}
use Rattle.run_model.specs.Output.{PageHistory, text_of}
use Rattle.run_model.specs.Reading.Ends.{due}
use Rattle.run_model.specs.Reading.Items.{PageInput, Taking, meaning_events}
use Rattle.run_model.specs.Registers.{AllRegisters}
use Rattle.run_model.specs.PageEvents.{PageEvent}
use Rattle.run_model.specs.declared.event.PageEvent.TheVariants.{Text}
use Rattle.run_model.specs.Run.{Following, State, nothing_follows, Leads, byte_taken, known_at, done_if, followed_by, made, performed, performing, step, taken_as, unless_refused}
use Rattle.run_model.specs.Following.{following, text_behind}
use Rattle.run_model.specs.Springs.{begins, needs_page, next, own_word_end, page_begin_or, sprung_on}
use Rattle.run_model.specs.Run.Counts.{counts_in, first_passed, refusal, written_counted}
use Rattle.run_model.specs.TurnsToCome.{turns_within}
use Rattle.run_model.specs.Telling.{Prints, byte_events, byte_told, page_told}
use Rattle.run_model.specs.declared.line_state.LineState.{LineState}
use Rattle.run_model.specs.declared.phase.Phase.{Phase}

-- where a run goes on whose layout takes text: a page was begun, or a diversion is open
pub record TakesText (h : PageHistory) : Type 0 where
  pub takes : takes_text (layout_of h) ≡ true
  pub goes_on : (layout_of h).is_over ≡ false

-- and so it is behind what leaves the layout as it was
pub TakesText-same : (h now : PageHistory) → layout_of now ≡ layout_of h → TakesText h → TakesText now
TakesText-same h now same takes = record {
  takes = ap (λ (L : Layout). takes_text L) same ∙ takes.takes;
  goes_on = ap (λ (L : Layout). L.is_over) same ∙ takes.goes_on;
}

-- no page begins there
unbegun : (h : PageHistory) (e : PageEvent) → TakesText h → page_begin_or (begins h e) None ≡ None
unbegun h e takes = ap (λ (does : Bool). page_begin_or (not does && needs_page h e) None) takes.takes

-- and behind a word end nothing comes before a gap, as no word is open
unended : (h : PageHistory) (n : ℕ) → TakesText (Text WordEnd ∷ h) → next (Text WordEnd ∷ h) (Text (Gap n)) ≡ None
unended h n takes =
    let ended : PageHistory = Text WordEnd ∷ h in
    let e : PageEvent = Text (Gap n) in
    ap (λ (is_open : Bool). elim (own_word_end is_open) [ None ↦ page_begin_or (begins ended e) None | Some own ↦ page_begin_or (begins ended own) (Some own) ])
    (closed-word_end (text_of h))
    ∙ unbegun ended e takes

-- an event of the text that finishes no line is refused by no limit where the pending line stays within its own
allowed : (l : Limits) (h : PageHistory) (e : Event) → finished (text_of h) e ≡ None → length_reached e (text_of h) ≤ l.line
    → refusal l h (Text e) ≡ None
allowed l h e quiet within =
    ap (λ (passed : Bool). if passed then Some Line else first_passed l (written_counted h (happens h (Text e))))
    (le-ltb l.line (length_reached e (text_of h)) within)
    ∙ ap (λ (line : Option Finished). first_passed l (written_counted h (option_map Places line))) quiet

-- nothing follows a word end that finishes no line
unfollowed_end : (h : PageHistory) → finished (text_of h) WordEnd ≡ None → following h (Text WordEnd) ≡ nothing_follows
unfollowed_end h quiet =
    let of : Option Happening → Following = λ x. record { text = text_behind x (layout_of h); sprung = sprung_on x (layout_of h) } in
    ap (λ (line : Option Finished). of (option_map Places line)) quiet

-- a run that reads this on, with these registers and messages
module _ (l : Limits) (reading : LineState) (rs : AllRegisters) (messages : List ℕ) (phase : Phase) (closed : Bool) where
  -- where it has come to: the tape, the input, the history and the events to do
  abbrev pub told_at : Tape → PageInput → PageHistory → List PageEvent → State
  told_at tape input h to_do = record {
    tape = tape;
    input = input;
    reading = reading;
    registers = rs;
    to_do = to_do;
    follows = nothing_follows;
    history = h;
    messages = messages;
    phase = phase;
    is_closed = closed;
    ended = None;
    last_message = [];
  }

  -- a step at an event that no limit refuses, before which nothing comes and behind which nothing follows, and which ends no run
  step-event : (tape : Tape) (input : PageInput) (h : PageHistory) (e : Event) (rest : List PageEvent) → next h (Text e) ≡ None → following h (Text e) ≡ nothing_follows
      → refusal l h (Text e) ≡ None → (layout_of (Text e ∷ h)).is_over ≡ false → step l (told_at tape input h (Text e ∷ rest)) ≡ told_at tape input (Text e ∷ h) rest
  step-event tape input h e rest none unfollowed may goes_on =
      let before : State = told_at tape input h (Text e ∷ rest) in
      let behind : State = record before { history = Text e ∷ h } in
      ap (λ (own : Option PageEvent). performing l own (Text e) rest before) none
      ∙ ap (λ (r : Option Limit). unless_refused l r before (performed (Text e) rest before)) may
      ∙ ap (λ (is_over : Bool). done_if is_over behind (followed_by (following h (Text e)) rest behind)) goes_on
      ∙ ap (λ (f : Following). followed_by f rest behind) unfollowed

  -- the steps at the events of a byte
  pub leads-events : (is_blank : Bool) (b : ℕ) (tape : Tape) (input : PageInput) (h : PageHistory)
      → pending_length (if is_blank then Gap 1 ∷ WordEnd ∷ text_of h else Print (Printed b) ∷ text_of h) ≤ l.line
      → (if is_blank then finished (text_of h) WordEnd else None) ≡ None → TakesText h
      → Leads l (told_at tape input h (if is_blank then Text WordEnd ∷ Text (Gap 1) ∷ [] else Text (Print (Printed b)) ∷ []))
      (told_at tape input (if is_blank then Text (Gap 1) ∷ Text WordEnd ∷ h else Text (Print (Printed b)) ∷ h) [])
  leads-events true b tape input h within quiet takes =
      let ended : PageHistory = Text WordEnd ∷ h in
      let behind : TakesText ended = TakesText-same h ended (layout-byte true b h quiet) takes in
      let short : pending_length (WordEnd ∷ text_of h) ≤ l.line = subst (λ (n : ℕ). n ≤ l.line) (pending_length-blank 1 (text_of h)) within in
      record {
        steps = 2;
        there = ap (step l)
            (step-event tape input h WordEnd (Text (Gap 1) ∷ []) (unbegun h (Text WordEnd) takes) (unfollowed_end h quiet) (allowed l h WordEnd quiet short) behind.goes_on)
            ∙ step-event tape input ended (Gap 1) [] (unended h 1 behind) refl (allowed l ended (Gap 1) refl within) behind.goes_on;
      }
  leads-events false b tape input h within quiet takes =
      let e : Event = Print (Printed b) in
      record {
        steps = 1;
        there = step-event tape input h e [] (unbegun h (Text e) takes) refl (allowed l h (Print (Printed b)) refl within) takes.goes_on;
      }

  -- what a byte means is to be done
  taken_as-told : (tape : Tape) (input : PageInput) (h : PageHistory) (events : List PageEvent)
      → taken_as (meaning_events input reading events) (told_at tape input h []) ≡ told_at tape input h events
  taken_as-told tape input h events =
      ap (λ (said : List ℕ). record (told_at tape input h (events ++ [])) { messages = said }) (append-nil messages)
      ∙ ap (told_at tape input h) (append-nil events)

  -- a byte that was taken, and is told
  leads-byte : (b : ℕ) (before : State) (tape : Tape) (input : PageInput) (h : PageHistory)
      → step l before ≡ made l before (byte_taken b (told_at tape input h [])) → input.escapes ≡ [] → first_passed l (counts_in rs input) ≡ None
      → Prints reading b → pending_length (bytes_told (b ∷ []) (text_of h)) ≤ l.line → finished_by_byte b (text_of h) ≡ None → TakesText h
      → Leads l before (told_at tape input (byte_told b h) [])
  leads-byte b before tape input h taken none_half within prints short quiet takes =
      let here : State = told_at tape input h [] in
      let done : State = told_at tape input h (byte_events b) in
      let there : step l before ≡ done =
      taken
      ∙ ap (λ (t : Taking). made l before (taken_as t here)) (prints (known_at h rs input) input none_half)
      ∙ ap (made l before) (taken_as-told tape input h (byte_events b))
      ∙ ap (λ (r : Option Limit). unless_refused l r before done) within in
      Leads-trans l before done _ (record { steps = 1; there = there }) (leads-events (b == 32) b tape input h short quiet takes)

  -- where it has come to, with these bytes next, from there
  abbrev pub told_from : Origin → List ℕ → Tape → PageInput → PageHistory → State
  told_from from bytes tape i h = told_at (tape_at from bytes tape) (record i { ahead = ahead_at from bytes }) h []

  -- no count is above its limit there
  abbrev pub Fits : Origin → List ℕ → PageInput → Type 0
  Fits from bytes i = first_passed l (counts_in rs (record i { ahead = ahead_at from bytes })) ≡ None

  -- nor behind a byte
  pub fits-byte : (from : Origin) (b : ℕ) (bytes : List ℕ) (i : PageInput) → Fits from (b ∷ bytes) i → Fits from bytes (behind_byte from b i)
  fits-byte (FromAhead rest) b bytes i fits =
      let items : List (Ahead PageEvent) = map ByteAhead bytes ++ rest in
      first_passed-no_more l rs (record (behind_byte (FromAhead rest) b i) { ahead = items }) (record i { ahead = ByteAhead b ∷ items })
      (NoMore-item_taken (ByteAhead b) items (record i { ahead = ByteAhead b ∷ items }) refl) fits
  fits-byte (FromSource behind) b bytes i fits = fits

  -- a byte is taken
  pub taken-from : (from : Origin) (tape : Tape) (b : ℕ) (bytes : List ℕ) (i : PageInput) (h : PageHistory) → IsOpenFor from closed → due reading ≡ None → i.escapes ≡ [] → i.charge + 1 ≤ l.bytes
      → step l (told_from from (b ∷ bytes) tape i h) ≡ made l (told_from from (b ∷ bytes) tape i h) (byte_taken b (told_from from bytes tape (behind_byte from b i) h))
  taken-from (FromAhead rest) tape b bytes i h is_open none_due none_half few =
      byte_ahead_is_taken l (told_from (FromAhead rest) (b ∷ bytes) tape i h) b (map ByteAhead bytes ++ rest) refl refl refl none_due refl (ap (λ (half : List OpenEscape). is_ended_by half (Some b)) none_half) (omega (arith, few))
  taken-from (FromSource behind) tape b bytes i h is_open none_due none_half few =
      bytes_of_the_source_are_taken l (told_from (FromSource behind) (b ∷ bytes) tape i h) b
      (record { going = refl; is_open = is_open; idle = refl; unsprung = refl; none_due = none_due }) refl refl (ap (λ (half : List OpenEscape). is_ended_by half (Some b)) none_half) (omega (arith, few))

  -- the steps at such bytes, wherever they come from
  pub leads-told : (from : Origin) (tape : Tape) (bytes : List ℕ) (i : PageInput) (h : PageHistory) → IsOpenFor from closed → due reading ≡ None → i.escapes ≡ [] → Fits from bytes i
      → i.charge + length bytes ≤ l.bytes → AllByRecursion (λ b. Prints reading b) bytes → QuietlyTold l.line bytes (text_of h) → TakesText h
      → Leads l (told_from from bytes tape i h) (told_from from [] tape (behind_bytes from bytes i) (page_told bytes h)) × Fits from [] (behind_bytes from bytes i)
  leads-told from tape [] i h is_open none_due none_half fits few prints quiet takes = (Leads-refl l (told_from from [] tape i h), fits)
  leads-told from tape (b ∷ bytes) i h is_open none_due none_half fits few prints quiet takes =
      let before : State = told_from from (b ∷ bytes) tape i h in
      let next : PageInput = behind_byte from b i in
      let behind : Fits from bytes next = fits-byte from b bytes i fits in
      let there = leads-told from tape bytes next (byte_told b h) is_open none_due none_half behind (omega (arith, few)) prints.1 (quiet-byte l.line b bytes h quiet.2)
      (TakesText-same h (byte_told b h) (layout-byte (b == 32) b h quiet.0) takes) in (
        Leads-trans l before (told_from from bytes tape next (byte_told b h)) _
            (leads-byte b before (tape_at from bytes tape) (record next { ahead = ahead_at from bytes }) h (taken-from from tape b bytes i h is_open none_due none_half (omega (arith, few)))
            none_half behind prints.0 quiet.1 quiet.0 takes) there.0,
        there.1,
      )

-- no more turns are to come behind bytes, whatever they mean
pub turns-behind : (most : ℕ) (from : Origin) (bytes : List ℕ) (i : PageInput)
    → turns_within most (record (behind_bytes from bytes i) { ahead = ahead_at from [] }) ≤ turns_within most (record i { ahead = ahead_at from bytes })
turns-behind most from [] i = omega arith
turns-behind most from (b ∷ bytes) i = omega (arith, free_ahead-behind from b bytes, turns-behind most from bytes (behind_byte from b i))

-- with nothing of them left, what is counted of them is all that changed
pub counted-behind : (from : Origin) (bytes : List ℕ) (i : PageInput) → record (behind_bytes from bytes i) { ahead = ahead_at from [] } ≡ counted from bytes i
counted-behind from bytes i = ap (λ (j : PageInput). record j { ahead = ahead_at from [] }) (behind_bytes-counts from bytes i)

pub turns-counted : (most : ℕ) (from : Origin) (bytes : List ℕ) (i : PageInput) → i.ahead ≡ ahead_at from bytes → turns_within most (counted from bytes i) ≤ turns_within most i
turns-counted most from bytes i front =
    subst (λ (j : PageInput). turns_within most j ≤ turns_within most i) (counted-behind from bytes i)
    (subst (λ (items : List (Ahead PageEvent)). turns_within most (record (behind_bytes from bytes i) { ahead = ahead_at from [] }) ≤ turns_within most (record i { ahead = items })) (sym front)
    (turns-behind most from bytes i))
