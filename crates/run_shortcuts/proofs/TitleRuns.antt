-- Bytes of a title's part that stand in front are read together: the run has come behind them.
use Rattle.std.proofs.Common.{false, ◌≡◌, ℕ, ◌+◌, ◌≤◌, Bool, true, List, [], ◌∷◌, ◌++◌, length, Some, None, inl, inr, refl, sym, ap, subst, ◌∙◌, arith, append-nil, map, Option}
use Rattle.std.specs.List.{AllByRecursion}
use Rattle.roff_num.specs.declared.limit.Limit.{Limit}
use Rattle.roff_num.specs.declared.limits.Limits.{Limits}
use Rattle.page_bytes.specs.Sinks.{Sunk}
use Rattle.input_source.specs.Tape.{Tape}
use Rattle.input_escapes.specs.OpenEscape.{OpenEscape}
use Rattle.input_escapes.specs.Waiting.{is_ended_by}
use Rattle.input_model.specs.Input.{Ahead, ByteAhead}
use Rattle.input_model.specs.Looking.{is_closed, looked_then}
use Rattle.roff_scan.specs.Unread.Calls.{PassesFront}
use Rattle.run_model.proofs.InputCounts.{NoMore-item_taken, first_passed-no_more}
use Rattle.run_model.proofs.ItemsTaken.{FromAhead, FromSource, IsOpenFor, Origin, ahead_at, byte_ahead_is_taken, bytes_of_the_source_are_taken, tape_at}
use Rattle.run_model.proofs.Leads.{Leads-refl, Leads-trans}
use Rattle.run_model.proofs.PlainRuns.{behind_byte, behind_bytes, counted}
use Rattle.run_model.specs.Environments.{PageHistory}
use Rattle.run_model.specs.PageEvents.{PageEvent}
use Rattle.run_model.specs.Reading.{byte_taking}
use Rattle.run_model.specs.Reading.Ends.{due}
use Rattle.run_model.specs.Reading.Items.{PageInput, PageUnread, Taking}
use Rattle.run_model.specs.Registers.{AllRegisters, TitleGets}
use Rattle.run_model.specs.Registers.Capped.{with_change}
use Rattle.run_model.specs.Run.{Leads, State, byte_taken, known_at, made, step, taken_as, unless_refused}
use Rattle.run_model.specs.Run.Counts.{counts_in, first_passed}
use Rattle.run_model.specs.TitleTexts.{TitleText, title_length}
use Rattle.run_model.specs.TurnsToCome.{turns_within}
use Rattle.run_model.specs.declared.line_state.LineState.{LineState}
use Rattle.run_model.specs.declared.line_state.LineState.TheVariants.{Title as InTitle}
use Rattle.run_model.specs.declared.phase.Phase.{Phase}
use Rattle.run_state.proofs.TitleTexts.{none_added}
use Rattle.read_registers.specs.Titles.Fronts.{IsPlain, is_plain, kept_byte}
use Rattle.read_shortcuts.proofs.PrintedRuns.{counted-behind, turns-counted}
use Rattle.read_lines.specs.Reader.State.{ReaderState}
use Rattle.read_lines.specs.Reader.Titles.{ReadsTitle, TitleBytes}
use Rattle.run_items.specs.declared.interpreter.Interpreter.{Interpreter}
use Rattle.run_turns.specs.declared.running.Running.{Running as Coded}
use Rattle.run_items.specs.Outcome.{seen}
use Rattle.run_items.specs.Performing.{going}
use Rattle.run_turns.specs.Running.Turning.{GoesPast, IsAt, turns_of_run}
use Rattle.run_shortcuts.proofs.BytesPassed.{ComesBehind, goes_past-passed}
use Rattle.run_items.proofs.FewRead.{few-alone}
use Rattle.run_shortcuts.proofs.GoingPast.{IsAt-leads}
use Rattle.run_turns.proofs.TurnsLeft.{turns_of_run-no_more}
use Rattle.run_items.proofs.TitlesRead.{plain-title, with_title, with_title-next, length-title, fits-title}

-- a run that reads a title
module _ (l : Limits) (delimiter : ℕ) (reading : LineState) (in_title : reading ≡ InTitle delimiter) (h : PageHistory) (messages : List ℕ) (phase : Phase) (closed : Bool) where
  -- where it has come to, with these bytes next, from there
  abbrev title_from : Origin → List ℕ → Tape → PageInput → AllRegisters → State
  title_from from bytes tape i rs = going (tape_at from bytes tape) (record i { ahead = ahead_at from bytes }) reading rs h messages phase closed []

  none_due : due reading ≡ None
  none_due = ap (λ (r : LineState). due r) in_title

  -- a byte is taken
  taken-from : (from : Origin) (tape : Tape) (b : ℕ) (bytes : List ℕ) (i : PageInput) (rs : AllRegisters) → IsOpenFor from closed → i.escapes ≡ [] → i.charge + 1 ≤ l.bytes
      → step l (title_from from (b ∷ bytes) tape i rs) ≡ made l (title_from from (b ∷ bytes) tape i rs) (byte_taken b (title_from from bytes tape (behind_byte from b i) rs))
  taken-from (FromAhead rest) tape b bytes i rs is_open none_half few =
      byte_ahead_is_taken l (title_from (FromAhead rest) (b ∷ bytes) tape i rs) b (map ByteAhead bytes ++ rest) refl refl refl none_due refl
      (ap (λ (half : List OpenEscape). is_ended_by half (Some b)) none_half) (omega (arith, few))
  taken-from (FromSource behind) tape b bytes i rs is_open none_half few =
      bytes_of_the_source_are_taken l (title_from (FromSource behind) (b ∷ bytes) tape i rs) b
      (record { going = refl; is_open = is_open; idle = refl; unsprung = refl; none_due = none_due }) refl refl
      (ap (λ (half : List OpenEscape). is_ended_by half (Some b)) none_half) (omega (arith, few))

  -- no count is above its limit there
  abbrev Fits : Origin → List ℕ → PageInput → AllRegisters → Type 0
  Fits from bytes i rs = first_passed l (counts_in rs (record i { ahead = ahead_at from bytes })) ≡ None

  -- nor behind a byte
  fits-byte : (from : Origin) (b : ℕ) (bytes : List ℕ) (i : PageInput) (rs : AllRegisters) → Fits from (b ∷ bytes) i rs → Fits from bytes (behind_byte from b i) rs
  fits-byte (FromAhead rest) b bytes i rs fits =
      let items : List (Ahead PageEvent) = map ByteAhead bytes ++ rest in
      first_passed-no_more l rs (record (behind_byte (FromAhead rest) b i) { ahead = items }) (record i { ahead = ByteAhead b ∷ items })
      (NoMore-item_taken (ByteAhead b) items (record i { ahead = ByteAhead b ∷ items }) refl) fits
  fits-byte (FromSource behind) b bytes i rs fits = fits

  -- a byte that was taken is one of the title
  leads-byte : (b : ℕ) (before : State) (tape : Tape) (input : PageInput) (rs : AllRegisters)
      → step l before ≡ made l before (byte_taken b (going tape input reading rs h messages phase closed [])) → input.escapes ≡ []
      → is_plain delimiter b ≡ true → first_passed l (counts_in (with_title (b ∷ []) rs) input) ≡ None
      → Leads l before (going tape input reading (with_title (b ∷ []) rs) h messages phase closed [])
  leads-byte b before tape input rs taken none_half plain fits =
      let here : LineState → List ℕ → State = λ r said. going tape input r (with_title (b ∷ []) rs) h said phase closed [] in
      record {
        steps = 1;
        there = taken
            ∙ ap (λ (r : LineState). made l before (taken_as (byte_taking (known_at h rs input) r input b) (going tape input reading rs h messages phase closed []))) in_title
            ∙ ap (λ (t : Taking). made l before (taken_as t (going tape input reading rs h messages phase closed []))) (plain-title (known_at h rs input) input delimiter b none_half plain)
            ∙ ap (λ (said : List ℕ). made l before (here (InTitle delimiter) said)) (append-nil messages)
            ∙ ap (λ (r : LineState). made l before (here r messages)) (sym in_title)
            ∙ ap (λ (r : Option Limit). unless_refused l r before (here reading messages)) fits;
      }

  -- the steps at such bytes, wherever they come from
  pub leads-title : (from : Origin) (tape : Tape) (bytes : List ℕ) (i : PageInput) (rs : AllRegisters) → IsOpenFor from closed → i.escapes ≡ [] → Fits from bytes i rs
      → i.charge + length bytes ≤ l.bytes → AllByRecursion (λ b. is_plain delimiter b ≡ true) bytes → title_length rs.title + length bytes ≤ l.line
      → Leads l (title_from from bytes tape i rs) (title_from from [] tape (behind_bytes from bytes i) (with_title bytes rs)) × Fits from [] (behind_bytes from bytes i) (with_title bytes rs)
  leads-title from tape [] i rs is_open none_half fits few plain room =
      let same : rs ≡ with_title [] rs = ap (λ (t : TitleText). record rs { title = t }) (sym (none_added rs.title)) in (
        subst (λ (now : AllRegisters). Leads l (title_from from [] tape i rs) (title_from from [] tape i now)) same (Leads-refl l (title_from from [] tape i rs)),
        subst (λ (now : AllRegisters). Fits from [] i now) same fits,
      )
  leads-title from tape (b ∷ bytes) i rs is_open none_half fits few plain room =
      let before : State = title_from from (b ∷ bytes) tape i rs in
      let next : PageInput = behind_byte from b i in
      let now : AllRegisters = with_title (b ∷ []) rs in
      let behind : Fits from bytes next now =
      fits-title l (b ∷ []) rs (record next { ahead = ahead_at from bytes }) (omega (arith, room)) (fits-byte from b bytes i rs fits) in
      let there = leads-title from tape bytes next now is_open none_half behind (omega (arith, few)) plain.1 (omega (arith, room, length-title (b ∷ []) rs)) in
      let same : with_title bytes now ≡ with_title (b ∷ bytes) rs = with_title-next b bytes rs in
      let last : PageInput = behind_bytes from bytes next in (
        subst (λ (rs : AllRegisters). Leads l before (title_from from [] tape last rs)) same
            (Leads-trans l before (title_from from bytes tape next now) (title_from from [] tape last (with_title bytes now))
            (leads-byte b before (tape_at from bytes tape) (record next { ahead = ahead_at from bytes }) rs (taken-from from tape b bytes i rs is_open none_half (omega (arith, few)))
            none_half plain.0 behind) there.0),
        subst (λ (rs : AllRegisters). Fits from [] last rs) same there.1,
      )

-- bytes that were read of a title
module _ (old : Coded) (delimiter : ℕ) (bytes : List ℕ) (in_title : old.interpreter.reader.reading ≡ InTitle delimiter) (none_half : old.unread.input.escapes ≡ [])
    (plain : AllByRecursion (IsPlain delimiter) bytes)
    (room : title_length old.interpreter.reader.registers.all.title + length bytes ≤ old.interpreter.reader.registers.line) where
  abbrev rs : AllRegisters
  rs = old.interpreter.reader.registers.all

  -- the interpreter behind them, and the code, with this input
  abbrev interpreter_behind : Interpreter
  interpreter_behind = record old.interpreter {
    reader = record old.interpreter.reader { registers = with_change (TitleGets (map (kept_byte old.interpreter.reader.registers.all.page_character) bytes)) old.interpreter.reader.registers };
  }

  abbrev behind : PageInput → Coded
  behind input = record old { interpreter = interpreter_behind; unread = record old.unread { input = input } }

  -- the run comes behind them, with what is unread then
  comes-title : (u : PageUnread) → ComesBehind bytes u old (record old { interpreter = interpreter_behind; unread = u })
  comes-title u whole t taken start now from is_open front few passed asked left at =
      let l : Limits = old.unread.limits in
      let i : PageInput = old.unread.input in
      let input : PageInput = counted from bytes i in
      let tape : Tape = looked_then old.unread.looked taken in
      let new : AllRegisters = with_title bytes rs in
      let here : Tape → PageInput → AllRegisters → State = λ tape j registers. going tape j old.interpreter.reader.reading registers at.history at.messages old.phase (is_closed old.unread.looked) [] in
      let led = leads-title l delimiter old.interpreter.reader.reading in_title at.history at.messages old.phase (is_closed old.unread.looked) from tape bytes i rs is_open none_half
      (subst (λ (items : List (Ahead PageEvent)). first_passed l (counts_in rs (record i { ahead = items })) ≡ None) front at.ready.within) few plain
      (subst (λ (most : ℕ). title_length rs.title + length bytes ≤ most) at.ready.line room) in
      let stands : here (tape_at from bytes tape) (record i { ahead = ahead_at from bytes }) rs ≡ here tape i rs =
      ap (λ (tape : Tape). here tape (record i { ahead = ahead_at from bytes }) rs) (sym asked)
      ∙ ap (λ (items : List (Ahead PageEvent)). here tape (record i { ahead = items }) rs) (sym front) in
      let same : record (behind_bytes from bytes i) { ahead = ahead_at from [] } ≡ input = counted-behind from bytes i in
      let comes : here (tape_at from [] tape) (record (behind_bytes from bytes i) { ahead = ahead_at from [] }) new ≡ here (looked_then old.unread.looked t) input new =
      ap (λ (j : PageInput). here (tape_at from [] tape) j new) same ∙ ap (λ (tape : Tape). here tape input new) left in
      let leads : Leads l (here tape i rs) (here (looked_then old.unread.looked t) input new) =
      subst (λ (from : State). Leads l from (here (looked_then old.unread.looked t) input new)) stands
      (subst (λ (there : State). Leads l (here (tape_at from bytes tape) (record i { ahead = ahead_at from bytes }) rs) there) comes led.0) in
      subst (λ (v : PageUnread). IsAt whole t start now (record old { interpreter = interpreter_behind; unread = v })) (sym passed)
      (IsAt-leads whole taken t start now old interpreter_behind (record old.unread { input = input }) at.history at
      (subst (λ (l : Limits). Leads l (here tape i rs) (here (looked_then old.unread.looked t) input new)) at.limits leads) refl at.stands
      (record { cap = at.ready.cap; line = at.ready.line; within = subst (λ (j : PageInput). first_passed l (counts_in new j) ≡ None) same led.1 }) at.limits
      (few-alone from bytes old.interpreter.reader.reading _ i input none_half at.few front same))

  -- no more turns are to come
  turns-title : (from : Origin) (input : PageInput) → old.unread.input.ahead ≡ ahead_at from bytes → input ≡ counted from bytes old.unread.input
      → turns_of_run (behind input) ≤ turns_of_run old
  turns-title from input front is =
      let most : ℕ = old.unread.limits.bytes in
      let few : turns_within most input ≤ turns_within most old.unread.input =
      subst (λ (j : PageInput). turns_within most j ≤ turns_within most old.unread.input) (sym is) (turns-counted most from bytes old.unread.input front) in
      turns_of_run-no_more old (behind input) (omega (arith, few)) refl refl

  -- the run goes past them, wherever they stood
  past-title : (gave gives : Tape → Type 0) (noted notes failed failures : ℕ) (out err : Sunk) (u : PageUnread) → PassesFront gave gives bytes old.unread u → notes ≤ noted → failures ≡ failed
      → GoesPast false gave gives noted notes old (record old { interpreter = interpreter_behind; unread = u }) (seen failed out err) (seen failures out err)
  past-title gave gives noted notes failed failures out err u passes fewer same =
      goes_past-passed false gave gives noted notes failed failures out err bytes old (record old { interpreter = interpreter_behind; unread = u }) u refl (comes-title u)
      (λ from ahead charged passed h stood. subst (λ (v : PageUnread). turns_of_run (record old { interpreter = interpreter_behind; unread = v }) ≤ turns_of_run old) (sym passed)
      (turns-title from (counted from bytes old.unread.input) ahead refl)) passes fewer same

-- the run goes past what was read at once of a title, or past nothing, as the source counts
pub goes_past_title : (gave gives : Tape → Type 0) (noted notes failed failures : ℕ) (out err : Sunk) (old : Coded) (reader : ReaderState) (u : PageUnread)
    → ReadsTitle gave gives old.interpreter.reader reader old.unread u → notes ≤ noted → failures ≡ failed
    → GoesPast false gave gives noted notes old (record old { interpreter = record old.interpreter { reader = reader }; unread = u }) (seen failed out err) (seen failures out err)
goes_past_title gave gives noted notes failed failures out err old reader u reads fewer same = elim reads.took [
  | inl read ↦
      let delimiter : ℕ = read.0 in
      let bytes : List ℕ = read.1.0 in
      let title : TitleBytes delimiter bytes gave gives old.interpreter.reader reader old.unread u = read.1.1 in
      let long : title_length (with_title bytes old.interpreter.reader.registers.all).title ≤ old.interpreter.reader.registers.line =
      subst (λ (r : ReaderState). title_length r.registers.all.title ≤ r.registers.line) title.added title.room in
      let room : title_length old.interpreter.reader.registers.all.title + length bytes ≤ old.interpreter.reader.registers.line =
      omega (arith, long, length-title bytes old.interpreter.reader.registers.all) in
      subst (λ (r : ReaderState). GoesPast false gave gives noted notes old (record old { interpreter = record old.interpreter { reader = r }; unread = u }) (seen failed out err) (seen failures out err))
      (sym title.added)
      (past-title old delimiter bytes title.reading title.none_half title.plain room gave gives noted notes failed failures out err u title.passes fewer same)
  | inr none ↦
      subst (λ (r : ReaderState). GoesPast false gave gives noted notes old (record old { interpreter = record old.interpreter { reader = r }; unread = u }) (seen failed out err) (seen failures out err))
      (sym none.reader)
      (subst (λ (v : PageUnread). GoesPast false gave gives noted notes old (record old { unread = v }) (seen failed out err) (seen failures out err)) (sym none.unread)
      (subst (λ (n : ℕ). GoesPast false gave gives noted notes old (record old { unread = old.unread }) (seen failed out err) (seen n out err)) (sym same) (record {
        limits = refl;
        taken = [];
        before = none.stays.before;
        comes = λ t tape start may at any. at;
        turns = λ t tape start may at any. omega (arith, fewer);
      })))
]
