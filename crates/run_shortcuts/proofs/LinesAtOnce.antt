-- A text line that stood in front up to its newline, and was told and ended at once.
use Rattle.std.proofs.Common.{◌≡◌, ℕ, ◌+◌, ◌<◌, ◌≤◌, true, false, List, [], ◌∷◌, ◌++◌, length, take, slice_index_or, None, Option, Some, Result, refl, sym, ap, subst, ◌∙◌, arith, IfSome, get_or-take, length-take}
use Rattle.std.proofs.lemmas.List.{take_more}
use Rattle.input_source.specs.Bytes.{is_text_byte, newline}
use Rattle.input_source.specs.Tape.{Tape}
use Rattle.roff_scan.specs.Unread.Calls.{IsFront, NoNewline, PassesFront, front_bytes, next_bytes}
use Rattle.roff_scan.specs.Unread.Lines.{StandsNewline}
use Rattle.roff_scan.proofs.RunKinds.{no_newline_of}
use Rattle.read_shortcuts.proofs.RunsRead.{first_of_front}
use Rattle.run_model.proofs.TextBytes.{prints_text}
use Rattle.run_model.specs.Reading.{byte_taking}
use Rattle.run_model.specs.Reading.Ends.{due}
use Rattle.run_model.specs.Reading.Items.{PageUnread}
use Rattle.run_model.specs.Run.{byte_taken}
use Rattle.run_model.specs.Telling.{Prints}
use Rattle.run_model.specs.declared.line_state.LineState.{LineState}
use Rattle.run_model.specs.declared.line_state.LineState.TheVariants.{Text as InText}
use Rattle.run_model.specs.declared.line_state.TextLine.{TextLine}
use Rattle.run_model.specs.declared.status.Status.{Status}
use Rattle.run_events.specs.declared.formatter.Formatter.{Formatter}
use Rattle.run_events.specs.declared.halt.Halt.{Halt}
use Rattle.run_events.specs.declared.sprung.Sprung.{Sprung}
use Rattle.run_events.specs.Formatter.Telling.{TellsFront, most_at_once}
use Rattle.run_events.specs.Formatter.Unfilled.{StandsLine}
use Rattle.run_items.specs.declared.interpreter.Interpreter.{Interpreter}
use Rattle.run_items.specs.Outcome.{Seen, seen}
use Rattle.run_items.specs.Performing.{DoesTaking, sinks}
use Rattle.run_items.specs.Unfilled.{EndsFront, told_as}
use Rattle.run_items.proofs.LinesSplit.{between, line-between, mid, passes-bytes, takes-newline}
use Rattle.page_bytes.specs.Sinks.{Sunk}
use Rattle.run_turns.specs.declared.running.Running.{Running as Coded}
use Rattle.run_turns.specs.Running.Turning.{DoesItem, GoesPast, Comes}
use Rattle.run_shortcuts.specs.Unfilled.{BehindGlyph, FromFirst, LineInFront, ReadsText}
use Rattle.read_shortcuts.proofs.LinesBegun.{escapes-passed}
use Rattle.run_shortcuts.proofs.Beginning.{begun-some, goes_past_begun}
use Rattle.run_shortcuts.proofs.Telling.{goes_past_told}
use Rattle.run_turns.proofs.WaitedBytes.{byte_alone}
use Rattle.run_turns.proofs.ComingFurther.{comes_both, read_turn}

-- what the formatter found in front of a text line is that line
pub line_in_of : (front : List ℕ) (i : Interpreter) (r : Option (ℕ × ℕ)) → ReadsText front i → IfSome r (λ line. StandsLine front line.0 line.1 i.formatter)
    → IfSome r (λ line. LineInFront front line.0 line.1 i)
line_in_of front i None reads stands = tt
line_in_of front i (Some line) reads stands = record { reads = reads; stands = stands }

-- a newline stands behind so many bytes in front
module _ (front : List ℕ) (count gaps : ℕ) (ready : List ℕ) (u : PageUnread) (f : Formatter) (stands : StandsLine front count gaps f)
    (is : front ≡ front_bytes (length front) ready u) (there : IsFront (length front) ready u) where
  abbrev next : List ℕ
  next = next_bytes u.input.ahead u.looked ready

  within : count + 1 ≤ length front
  within = omega (arith, stands.within, length-take most_at_once front)

  last : slice_index_or next count 0 ≡ newline
  last =
      sym (get_or-take (length front) next count 0 (omega (arith, within)))
      ∙ ap (λ (bytes : List ℕ). slice_index_or bytes count 0) (sym is)
      ∙ sym (get_or-take most_at_once front count 0 (omega (arith, stands.within, length-take most_at_once front)))
      ∙ stands.ended

  pub stands_newline : StandsNewline count ready u
  stands_newline = record {
    front = record { among = omega (arith, within, there.among); within = omega (arith, within, there.within) };
    last = take_more next count 0 (omega (arith, within, there.among)) ∙ ap (λ b. take count next ++ b ∷ []) last;
  }

-- none of the bytes that were told is one
pub no_newline_told : (front : List ℕ) (count : ℕ) (old f : Formatter) (ready : List ℕ) (u : PageUnread) → TellsFront front count old f
    → front ≡ front_bytes (length front) ready u → NoNewline (front_bytes count ready u)
no_newline_told front count old f ready u told is =
    subst NoNewline (first_of_front front count ready u is told.few) (no_newline_of is_text_byte refl (take count front) told.text)

-- behind bytes that were told and the newline behind them, where what that means was done
module _ (gave gives : Tape → Type 0) (noted notes failed failures : ℕ) (out err : Sunk) (old : Coded) (after : PageUnread) (bytes : List ℕ)
    (all : PassesFront gave gives (bytes ++ newline ∷ []) old.unread after) (f : Formatter) (line : TextLine)
    (some : 1 ≤ length bytes) (plain : NoNewline bytes) (none_half : old.unread.input.escapes ≡ []) where
  abbrev there : PageUnread
  there = between gave gives bytes old.unread after all

  abbrev halfway : Tape → Type 0
  halfway = mid gave gives bytes old.unread after all

  abbrev run_there : Coded
  run_there = record old { interpreter = told_as old.interpreter f (InText line); unread = there }

  pub comes_ended : (new : Coded) (behind : Seen) (result : Result (Unit {0}) Status) → notes ≤ noted → failures ≡ failed
      → GoesPast false gave halfway noted noted old run_there (seen failed out err) (seen failed out err)
      → DoesItem after.input.line (byte_taken newline) (record run_there { unread = after }) new (seen failures out err) behind result
      → Comes true gave gives noted notes old new (seen failed out err) behind result
  comes_ended new behind result fewer same past acts =
      let none_there : there.input.escapes ≡ [] = escapes-passed gave halfway bytes old.unread there (passes-bytes gave gives bytes old.unread after all) ∙ none_half in
      let line_is : after.input.line ≡ there.input.line = sym (line-between gave gives bytes old.unread after all some plain) in
      let more : failed ≤ failures = omega (arith, same) in
      comes_both false past
      (read_turn run_there refl
      (byte_alone run_there failed failures out err noted notes more fewer newline after.input.line new behind result (takes-newline gave gives bytes old.unread after all) none_there line_is acts))

-- a text line that stood in front was told and ended
module _ (gave gives : Tape → Type 0) (ready : List ℕ) (noted notes failed failures : ℕ) (out err : Sunk) (old : Coded) (after : PageUnread) (front : List ℕ) (count : ℕ)
    (none_half : old.unread.input.escapes ≡ []) (is : front ≡ front_bytes (length front) ready old.unread)
    (all : PassesFront gave gives (front_bytes count ready old.unread ++ newline ∷ []) old.unread after)
    (some : 0 < count) (fewer : notes ≤ noted) (same : failures ≡ failed)
    (interpreter : Interpreter) (out_new : Sunk) (done : Result (Option Sprung) Halt) (ends : EndsFront front count old.interpreter interpreter out out_new done)
    (new : Coded) (behind : Seen) (result : Result (Unit {0}) Status)
    (acts : (told : Formatter) (line : TextLine)
    → DoesTaking (λ k. byte_taking k (InText line) after.input newline) [] (told_as old.interpreter told (InText line)) interpreter after after (sinks out err) (sinks out_new err) done
    → DoesItem after.input.line (byte_taken newline) (record old { interpreter = told_as old.interpreter told (InText line); unread = after }) new (seen failures out err) behind result) where
  abbrev bytes : List ℕ
  bytes = front_bytes count ready old.unread

  abbrev half : Tape → Type 0
  half = mid gave gives bytes old.unread after all

  abbrev front_of_line : PassesFront gave half bytes old.unread (between gave gives bytes old.unread after all)
  front_of_line = passes-bytes gave gives bytes old.unread after all

  -- the run in front of the newline, where this is read
  abbrev told_there : LineState → Coded
  told_there reading = record old { interpreter = told_as old.interpreter ends.told reading; unread = between gave gives bytes old.unread after all }

  long : 1 ≤ length bytes
  long = omega (arith, some, ap length (first_of_front front count ready old.unread is ends.tells.few), length-take count front, ends.tells.few)

  none_after : after.input.escapes ≡ []
  none_after = escapes-passed gave gives (bytes ++ newline ∷ []) old.unread after all ∙ none_half

  line_ended : (line : TextLine) → line.has_glyph ≡ true
      → GoesPast false gave half noted noted old (told_there (InText line)) (seen failed out err) (seen failed out err)
      → Comes true gave gives noted notes old new (seen failed out err) behind result
  line_ended line glyph past =
      comes_ended gave gives noted notes failed failures out err old after bytes all ends.told line long
      (no_newline_told front count old.interpreter.formatter ends.told ready old.unread ends.tells is) none_half new behind result fewer same past
      (acts ends.told line (ends.takes line after err glyph none_after))

  pub comes_line : ReadsText front old.interpreter → Comes true gave gives noted notes old new (seen failed out err) behind result
  comes_line (BehindGlyph line reads glyph none_leading) =
      let told : GoesPast false gave half noted noted old (told_there old.interpreter.reader.reading) (seen failed out err) (seen failed out err) =
      goes_past_told old ends.told front count ends.tells none_half (ap due reads)
      (λ b text. subst (λ (r : LineState). Prints r b) (sym reads) (prints_text line glyph none_leading b text))
      gave half ready noted noted failed failed out err _ is front_of_line (omega arith) refl in
      line_ended line glyph
      (subst (λ (r : LineState). GoesPast false gave half noted noted old (told_there r) (seen failed out err) (seen failed out err)) reads told)
  comes_line (FromFirst reads first none) =
      let line : TextLine = record { has_glyph = true; has_other = false; has_brace = false; leading = 0 } in
      line_ended line refl
      (goes_past_begun old ends.told front count ends.tells none_half reads first none (record old.interpreter.reader { reading = InText line })
      (ap (λ (reading : LineState). record old.interpreter.reader { reading = reading }) (begun-some front count first some))
      gave half ready noted noted failed failed out err _ is front_of_line (omega arith) refl)
