-- A text line begins whose bytes stand in front: they are told, and the run has come behind them.
use Rattle.std.proofs.Common.{◌≡◌, ℕ, zero, suc, ◌+◌, ◌<◌, ◌≤◌, Bool, true, false, List, [], ◌∷◌, length, take, None, refl, sym, ap, subst, ◌∙◌, arith, ◌||◌, ◌==◌, nat_lt, not}
use Rattle.std.specs.List.{AllByRecursion}
use Rattle.roff_num.specs.declared.limits.Limits.{Limits}
use Rattle.page_model.specs.Telling.{QuietlyTold}
use Rattle.input_source.specs.Bytes.{apostrophe, backslash, dot, is_text_byte}
use Rattle.input_source.specs.Tape.{Tape}
use Rattle.roff_scan.specs.Unread.Calls.{NoNewline, PassesFront, front_bytes}
use Rattle.roff_scan.proofs.RunKinds.{no_newline_of}
use Rattle.read_shortcuts.proofs.RunsRead.{first_of_front}
use Rattle.read_lines.specs.Reader.State.{ReaderState}
use Rattle.run_state.proofs.ToldBytes.{layout-byte, quiet-byte}
use Rattle.run_state.specs.Composer.Standing.{StandFor}
use Rattle.run_state.specs.declared.composer.Composer.{Composer as ComposerOf}
use Rattle.run_model.specs.Environments.{PageHistory, interrupted_line, text_of}
use Rattle.run_model.specs.Reading.Items.{PageInput, PageUnread}
use Rattle.run_model.specs.Registers.{AllRegisters}
use Rattle.run_model.specs.Run.{Leads}
use Rattle.run_model.specs.Run.Counts.{counts_in, first_passed}
use Rattle.run_model.specs.Telling.{Prints, byte_told, page_told}
use Rattle.run_model.specs.TurnsToCome.{begun, turns_within}
use Rattle.run_model.specs.declared.line_state.LineState.{LineState}
use Rattle.run_model.specs.declared.line_state.LineState.TheVariants.{LineStart}
use Rattle.run_model.specs.declared.phase.Phase.{Phase}
use Rattle.run_model.proofs.ItemsTaken.{IsOpenFor, Origin, ahead_at}
use Rattle.run_model.proofs.Leads.{Leads-refl, Leads-trans}
use Rattle.run_model.proofs.PlainRuns.{behind_byte, behind_bytes, counted}
use Rattle.run_model.proofs.TextBytes.{prints_text}
use Rattle.read_shortcuts.proofs.PrintedRuns.{TakesText, TakesText-same, fits-byte, leads-told, told_from, turns-counted}
use Rattle.run_events.proofs.Telling.{all_by}
use Rattle.run_events.specs.Formatter.Telling.{TellsFront}
use Rattle.run_events.specs.declared.formatter.Formatter.{Formatter}
use Rattle.run_turns.specs.declared.running.Running.{Running as Coded}
use Rattle.run_items.specs.Outcome.{seen}
use Rattle.run_shortcuts.specs.Beginning.{BeginWithText, begins_text}
use Rattle.run_turns.specs.Running.Turning.{line_turns, lines_left_in, turns_of_run, GoesPast}
use Rattle.page_bytes.specs.Sinks.{Sunk}
use Rattle.run_shortcuts.proofs.Telling.{LeadsOver, goes_past_front, told_by}
use Rattle.run_turns.proofs.TurnsLeft.{lines_left-stands, turns_of_run-fewer, turns_of_run-no_more}
use Rattle.read_shortcuts.proofs.LinesBegun.{IsFirst, first_by, not_below, no_blank, behind_glyph, leads-first, begun_by, turns-begun}

is_first : (b : ℕ) → begins_text b ≡ true → IsFirst b
is_first b begins =
    let is = first_by (nat_lt 32 b) (b == 127) (b == backslash) (b == dot) (b == apostrophe) begins in
    record {
      text = ap (λ (c : Bool). not (c || (b == 127 || b == backslash))) (not_below b is.0)
          ∙ ap (λ (c : Bool). not (false || (c || b == backslash))) is.1
          ∙ ap (λ (c : Bool). not (false || (false || c))) is.2;
      not_blank = no_blank b is.0;
      not_dot = is.3;
      not_apostrophe = is.4;
    }

-- so bytes of plain text lead on
leads-begun : (l k : Limits) (es : ComposerOf) (rs : AllRegisters) (messages : List ℕ) (phase : Phase) (closed : Bool) (from : Origin) (tape : Tape) (bytes : List ℕ) (i : PageInput) (h : PageHistory)
    → AllByRecursion (λ b. is_text_byte b ≡ true) bytes → (1 ≤ length bytes → BeginWithText bytes) → ((l : Limits) (h : PageHistory) → StandFor l h es → interrupted_line h ≡ None)
    → IsOpenFor from closed → i.escapes ≡ [] → first_passed l (counts_in rs (record i { ahead = ahead_at from bytes })) ≡ None
    → i.charge + length bytes ≤ l.bytes → QuietlyTold l.line bytes (text_of h) → (1 ≤ length bytes → TakesText h) → StandFor k h es
    → Leads l (told_from l LineStart rs messages phase closed from bytes tape i h)
    (told_from l (begun_by bytes) rs messages phase closed from [] tape (behind_bytes from bytes i) (page_told bytes h))
    × (first_passed l (counts_in rs (record (behind_bytes from bytes i) { ahead = ahead_at from [] })) ≡ None)
leads-begun l k es rs messages phase closed from tape [] i h text begins none is_open none_half fits few quiet takes stood =
    (Leads-refl l (told_from l LineStart rs messages phase closed from [] tape i h), fits)
leads-begun l k es rs messages phase closed from tape (b ∷ bytes) i h text begins none is_open none_half fits few quiet takes stood =
    let first = is_first b (begins (omega arith)) in
    let taken : TakesText h = takes (omega arith) in
    let next : PageInput = behind_byte from b i in
    let others = leads-told l behind_glyph rs messages phase closed from tape bytes next (byte_told b h) is_open refl none_half
    (fits-byte l LineStart rs messages phase closed from b bytes i fits) (omega (arith, few))
    (all_by (λ b. is_text_byte b ≡ true) (λ b. Prints behind_glyph b) (prints_text (record { has_glyph = true; has_other = false; has_brace = false; leading = 0 }) refl refl) bytes text.1)
    (quiet-byte l.line b bytes h quiet.2) (TakesText-same h (byte_told b h) (layout-byte (b == 32) b h quiet.0) taken) in (
      Leads-trans l (told_from l LineStart rs messages phase closed from (b ∷ bytes) tape i h)
          (told_from l behind_glyph rs messages phase closed from bytes tape next (byte_told b h)) _
          (leads-first l rs messages phase closed from tape b bytes i h first is_open none_half fits (omega (arith, few)) quiet taken (none k h stood)) others.0,
      others.1,
    )

-- a beginning that was told: what is read behind it, and the formatter
module _ (old : Coded) (f : Formatter) (begins : old.interpreter.reader.reading ≡ LineStart) where
  -- no more turns are to come
  turns-told : (bytes : List ℕ) (from : Origin) (input : PageInput) → old.unread.input.ahead ≡ ahead_at from bytes → input ≡ counted from bytes old.unread.input
      → old.unread.input.charge + length bytes ≤ old.unread.limits.bytes → (h : PageHistory) → StandFor old.limits h old.interpreter.formatter.composer
      → StandFor old.limits (page_told bytes h) f.composer
      → turns_of_run (told_by old f (begun_by bytes) (record old.unread { input = input })) ≤ turns_of_run old
  turns-told [] from input front is within h stood stands =
      let most : ℕ = old.unread.limits.bytes in
      let few : turns_within most input ≤ turns_within most old.unread.input =
      subst (λ (j : PageInput). turns_within most j ≤ turns_within most old.unread.input) (sym is) (turns-counted most from [] old.unread.input front) in
      let left : lines_left_in f.composer ≡ lines_left_in old.interpreter.formatter.composer =
      lines_left-stands old.limits h f.composer stands ∙ sym (lines_left-stands old.limits h old.interpreter.formatter.composer stood) in
      let none : begun old.interpreter.reader.reading ≡ 0 = ap begun begins in
      turns_of_run-no_more old (told_by old f LineStart (record old.unread { input = input })) (omega (arith, few, none)) refl
      (left ∙ sym (ap (λ (reading : LineState). line_turns reading (lines_left_in old.interpreter.formatter.composer)) begins))
  turns-told (b ∷ bytes) from input front is within h stood stands =
      let most : ℕ = old.unread.limits.bytes in
      let few : turns_within most input < turns_within most old.unread.input =
      subst (λ (j : PageInput). turns_within most j < turns_within most old.unread.input) (sym is) (turns-begun most from b bytes old.unread.input front (omega (arith, within))) in
      let fewer = turns_of_run-fewer old (told_by old f behind_glyph (record old.unread { input = input })) (omega (arith, few)) refl in
      omega (arith, fewer)

-- of bytes that begin so, those that come first do
first_begin : (count : ℕ) (front : List ℕ) → BeginWithText front → 1 ≤ length (take count front) → BeginWithText (take count front)
first_begin zero front first some = absurd (omega (arith, some))
first_begin (suc count) [] first some = absurd (omega (arith, some))
first_begin (suc count) (b ∷ bytes) first some = first

-- bytes of a line that begins, which the formatter told
module _ (old : Coded) (f : Formatter) (front : List ℕ) (count : ℕ) (told : TellsFront front count old.interpreter.formatter f)
    (none_half : old.unread.input.escapes ≡ []) (begins : old.interpreter.reader.reading ≡ LineStart) (first : BeginWithText front)
    (none : (l : Limits) (h : PageHistory) → StandFor l h old.interpreter.formatter.composer → interrupted_line h ≡ None) where
  -- they lead on
  over_begun : LeadsOver (take count front) old.interpreter.reader.reading (begun_by (take count front)) old.interpreter.formatter.composer
  over_begun = record {
    leads = λ l k rs messages phase closed from tape i h is_open none_half fits few quiet takes stood.
        subst
        (λ (reading : LineState).
        Leads l (told_from l reading rs messages phase closed from (take count front) tape i h)
        (told_from l (begun_by (take count front)) rs messages phase closed from [] tape (behind_bytes from (take count front) i) (page_told (take count front) h))
        × (first_passed l (counts_in rs (record (behind_bytes from (take count front) i) { ahead = ahead_at from [] })) ≡ None))
        (sym begins)
        (leads-begun l k old.interpreter.formatter.composer rs messages phase closed from tape (take count front) i h told.text (first_begin count front first) none
        is_open none_half fits few quiet takes stood);
  }

  -- the run goes past those that stood in front, where this is read then
  pub goes_past_begun : (r : ReaderState) → record old.interpreter.reader { reading = begun_by (take count front) } ≡ r
      → (gave gives : Tape → Type 0) (ready : List ℕ) (noted notes failed failures : ℕ) (out err : Sunk) (u : PageUnread)
      → front ≡ front_bytes (length front) ready old.unread → PassesFront gave gives (front_bytes count ready old.unread) old.unread u
      → notes ≤ noted → failures ≡ failed
      → GoesPast false gave gives noted notes old (record old { interpreter = record old.interpreter { formatter = f; reader = r }; unread = u })
      (seen failed out err) (seen failures out err)
  goes_past_begun r is gave gives ready noted notes failed failures out err u stood passed fewer same =
      subst
      (λ (r : ReaderState). GoesPast false gave gives noted notes old (record old { interpreter = record old.interpreter { formatter = f; reader = r }; unread = u })
      (seen failed out err) (seen failures out err))
      is
      (goes_past_front old f (begun_by (take count front)) front count told none_half over_begun
      (λ from input front_is is within h stood. turns-told old f begins (take count front) from input front_is is within h stood (told.stands old.limits h stood))
      gave gives ready noted notes failed failures out err u stood passed fewer same)

  -- none of them is a newline
  pub no_newline : (ready : List ℕ) → front ≡ front_bytes (length front) ready old.unread → NoNewline (front_bytes count ready old.unread)
  no_newline ready stood = subst NoNewline (first_of_front front count ready old.unread stood told.few) (no_newline_of is_text_byte refl (take count front) told.text)

-- what is read behind so many of them, by whether there are any
pub begun-some : (front : List ℕ) (count : ℕ) → BeginWithText front → 0 < count → begun_by (take count front) ≡ behind_glyph
begun-some [] count first some = absurd first
begun-some (b ∷ bytes) zero first some = absurd (omega (arith, some))
begun-some (b ∷ bytes) (suc count) first some = refl
