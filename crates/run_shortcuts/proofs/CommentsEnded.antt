-- A comment behind arguments that was read at once up to its newline, and then the newline was taken: the comment ends in front of it.
use Rattle.std.proofs.Common.{false, true, ◌≡◌, [], ℕ, ◌≤◌, ◌∷◌, ◌++◌, List, Result, map, refl, sym, ap, subst, ◌∙◌, arith, if◌then◌else◌}
use Rattle.input_escapes.specs.OpenEscape.{OpenEscape}
use Rattle.input_escapes.specs.declared.open_escape.Waiting.{Waiting}
use Rattle.input_model.proofs.FewEvents.{few-seen}
use Rattle.input_model.specs.Input.{Ahead, ByteAhead, bytes_taken, counting, lines_taken, with_escapes}
use Rattle.input_model.specs.Input.Few.{AreFewFrom}
use Rattle.input_model.specs.Looking.{is_closed, looked_then}
use Rattle.input_model.specs.declared.looked.Looked.{Looked}
use Rattle.input_model.specs.Shown.{seen_ahead}
use Rattle.input_model.specs.Unread.{IsWithin}
use Rattle.input_source.specs.Bytes.{newline}
use Rattle.input_source.specs.Tape.{Answer, Ended, Ends, Gives, OneByte, Tape, front}
use Rattle.roff_scan.proofs.PassingAhead.{bytes_taken-is}
use Rattle.roff_scan.proofs.Staged.{passes-staged, stage-behind}
use Rattle.roff_scan.specs.Unread.Calls.{OfSource, OfTexts, PassesFront, PassesTexts}
use Rattle.roff_scan.specs.Unread.Runs.{with_stage_of}
use Rattle.run_model.specs.Output.{PageHistory}
use Rattle.run_model.specs.PageEvents.{PageEvent}
use Rattle.run_model.specs.Reading.Items.{PageInput, PageUnread, going_on}
use Rattle.run_model.specs.Run.{State, awaited, awaited_of_source, byte_taken, escape_ends, made, read_waiting, source_answer}
use Rattle.run_model.specs.Stages.{Turned, stage_of}
use Rattle.run_model.specs.declared.status.Status.{Status}
use Rattle.read_arguments.specs.Comments.{ReadsComment, in_comment}
use Rattle.read_lines.specs.Reader.State.{ReaderState}
use Rattle.read_shortcuts.specs.Stages.{ReadsPast}
use Rattle.run_turns.specs.declared.running.Running.{Running as Coded}
use Rattle.run_items.specs.Outcome.{Seen, seen}
use Rattle.run_turns.specs.Running.Turning.{DoesItem, GoesPast, Comes, state_at}
use Rattle.page_bytes.specs.Sinks.{Sunk}
use Rattle.run_turns.proofs.ComingFurther.{comes_both, read_turn}
use Rattle.run_items.proofs.Fronts.{few-seen_ended}
use Rattle.run_items.proofs.LinesSplit.{between, line-between, mid, passes-bytes, takes-newline, within-between}
use Rattle.run_shortcuts.specs.EndsAtOnce.{EndsAtOnce}
use Rattle.run_shortcuts.proofs.EndsAtOnce.{goes_further_at_once}
use Rattle.run_shortcuts.proofs.Turned.{goes_past_turned}
use Rattle.run_turns.proofs.WaitedBytes.{byte_alone}

-- the items of bytes, and of one more behind them
items-last : (A : Type 0) (f : ℕ → A) (bytes : List ℕ) (last : ℕ) (behind : List A) → map f (bytes ++ last ∷ []) ++ behind ≡ map f bytes ++ f last ∷ behind
items-last A f [] last behind = refl
items-last A f (b ∷ bytes) last behind = ap (λ (others : List A). f b ∷ others) (items-last A f bytes last behind)

module _ (gave gives : Tape → Type 0) (noted notes failed failures : ℕ) (out err : Sunk) (old : Coded) (after : PageUnread)
    (comment : ReadsComment gave gives old.interpreter.reader old.unread after) where
  abbrev i : PageInput
  i = old.unread.input

  abbrev r : ReaderState
  r = old.interpreter.reader

  -- what was unread, with what the bytes of the line change
  abbrev changed : PageUnread
  changed = record old.unread { input = with_stage_of after.input i }

  all : PassesFront gave gives (comment.bytes ++ newline ∷ []) changed after
  all = comment.passes

  abbrev before : Tape → Type 0
  before = mid gave gives comment.bytes changed after all

  -- what is unread in front of the newline, behind the comment and within it
  abbrev there : PageUnread
  there = between gave gives comment.bytes changed after all

  abbrev half : PageUnread
  half = record there { input = in_comment there.input }

  abbrev run_there : Coded
  run_there = record old { unread = there }

  abbrev run_half : Coded
  run_half = record old { unread = half }

  first : PassesFront gave before comment.bytes changed there
  first = passes-bytes gave gives comment.bytes changed after all

  stage : there.input ≡ record there.input { escapes = after.input.escapes; arguments = after.input.arguments; open_texts = after.input.open_texts }
  stage = stage-behind gave before comment.bytes after.input.escapes after.input.arguments after.input.open_texts old.unread there first

  none_half : there.input.escapes ≡ []
  none_half = ap (λ (j : PageInput). j.escapes) stage ∙ comment.none_half

  within-there : IsWithin there
  within-there = within-between gave gives comment.bytes changed after all comment.some comment.plain comment.within

  -- a comment that is half read holds nothing
  within-half : IsWithin half
  within-half =
      let inside : IsWithin (record there { input = with_escapes [] there.input }) =
      subst (λ (h : List OpenEscape). IsWithin (record there { input = with_escapes h there.input })) none_half within-there in
      record {
        charge = inside.charge;
        newlines = inside.newlines;
        pushed = inside.pushed;
        depth = inside.depth;
        results = inside.results;
        stored = inside.stored;
        names = inside.names;
        making = inside.making;
      }

  -- the bytes of the comment were read past
  past-comment : ReadsPast gave before r r old.unread half
  past-comment = record {
    bytes = comment.bytes;
    turned = subst (λ (j : PageInput). Turned i.names (stage_of r.reading i) comment.bytes (stage_of r.reading (in_comment j))) (sym stage) comment.turned;
    passes = passes-staged gave before comment.bytes after.input.escapes after.input.arguments after.input.open_texts old.unread there first;
    registers = refl;
    meaning = refl;
    within = within-half;
  }

  -- it ends there
  ends : EndsAtOnce run_half run_there
  ends = record {
    ended = λ k.
        comment.leaves.ended k there.input (ap (λ (j : PageInput). j.arguments) stage)
        ∙ ap (λ (h : List OpenEscape). going_on (record there.input { escapes = h }) r.reading) (sym none_half);
    ahead = refl;
    within = within-there;
    is = refl;
  }

  -- as the newline is seen
  abbrev SeesNewline : PassesFront gave gives (comment.bytes ++ newline ∷ []) changed after → Type 0
  SeesNewline passes =
      let unread : PageUnread = record (between gave gives comment.bytes changed after passes) { input = in_comment (between gave gives comment.bytes changed after passes).input } in
      let run : Coded = record old { unread = unread } in
      (tape : Tape) → mid gave gives comment.bytes changed after passes tape → (h : PageHistory) (messages : List ℕ)
      → let s : State = state_at tape run h messages in awaited old.limits (seen_ahead s.input.ahead) s ≡ made old.limits s (escape_ends s)

  -- what stands ahead in front of it
  ahead-lines : (bytes : List ℕ) (j : PageInput) → (lines_taken bytes j).ahead ≡ j.ahead
  ahead-lines [] j = refl
  ahead-lines (b ∷ bytes) j = ahead-lines bytes (counting b j)

  ahead-texts : (passes : PassesTexts gave gives (comment.bytes ++ newline ∷ []) changed after)
      → (bytes_taken comment.bytes (ByteAhead newline ∷ passes.behind) changed.input).ahead ≡ ByteAhead newline ∷ passes.behind
  ahead-texts passes =
      ap (λ (j : PageInput). j.ahead)
      (bytes_taken-is comment.bytes (ByteAhead newline ∷ passes.behind) changed.input
      (passes.in_front ∙ items-last (Ahead PageEvent) ByteAhead comment.bytes newline passes.behind))

  sees-newline : (passes : PassesFront gave gives (comment.bytes ++ newline ∷ []) changed after) → SeesNewline passes
  sees-newline (OfSource passes) = λ tape given h messages.
      let run : Coded = record old { unread = record changed { input = in_comment (lines_taken comment.bytes changed.input) } } in
      let s : State = state_at tape run h messages in
      let none : s.input.ahead ≡ [] = ahead-lines comment.bytes changed.input ∙ passes.ahead in
      let answers : source_answer s ≡ Gives (OneByte newline) =
      ap (λ (looked : Looked). if is_closed looked then Ends Ended else front (looked_then looked tape)) passes.looked ∙ ap front given.1.1 in
      ap (λ (items : List (Ahead PageEvent)). awaited old.limits (seen_ahead items) s) none ∙ ap (λ (answer : Answer). awaited_of_source old.limits answer s) answers
  sees-newline (OfTexts passes) = λ tape given h messages.
      let run : Coded = record old { unread = record changed { input = in_comment (bytes_taken comment.bytes (ByteAhead newline ∷ passes.behind) changed.input) } } in
      let s : State = state_at tape run h messages in
      ap (λ (items : List (Ahead PageEvent)). awaited old.limits (seen_ahead items) s) (ahead-texts passes)

  few-newline : (passes : PassesFront gave gives (comment.bytes ++ newline ∷ []) changed after)
      → let items : List (Ahead PageEvent) = (between gave gives comment.bytes changed after passes).input.ahead in AreFewFrom 5 items → AreFewFrom 0 items
  few-newline (OfSource passes) = λ few.
      subst (λ (items : List (Ahead PageEvent)). AreFewFrom 0 items) (sym (ahead-lines comment.bytes changed.input ∙ passes.ahead)) tt
  few-newline (OfTexts passes) = λ few.
      few-seen {E = PageEvent} 5 newline (bytes_taken comment.bytes (ByteAhead newline ∷ passes.behind) changed.input).ahead few
      (ap (λ (items : List (Ahead PageEvent)). seen_ahead items) (ahead-texts passes))

  ended : GoesPast true before before noted noted run_half run_there (seen failed out err) (seen failed out err)
  ended =
      goes_further_at_once before run_half run_there comment.none_due ends (omega arith)
      (λ tape given h messages.
      let s : State = state_at tape run_half h messages in
      ap (λ (w : Waiting). read_waiting old.limits w s) (comment.leaves.waits there.input) ∙ sees-newline all tape given h messages)
      (λ k few. few-seen_ended k r.reading half.input (few-newline all few.few)) noted (seen failed out err)

  -- and then the newline was taken
  pub comes-comment : (new : Coded) (behind : Seen) (result : Result (Unit {0}) Status) → notes ≤ noted → failures ≡ failed
      → DoesItem after.input.line (byte_taken newline) (record old { unread = after }) new (seen failures out err) behind result
      → Comes true gave gives noted notes old new (seen failed out err) behind result
  comes-comment new behind result fewer same acts =
      let line_is : after.input.line ≡ there.input.line = sym (line-between gave gives comment.bytes changed after all comment.some comment.plain) in
      let past : GoesPast false gave before noted noted old run_half (seen failed out err) (seen failed out err) =
      goes_past_turned gave before noted noted failed failed out err old half r past-comment (omega arith) refl in
      let more : failed ≤ failures = omega (arith, same) in
      comes_both false past
      (comes_both true ended
      (read_turn run_there comment.none_due
      (byte_alone run_there failed failures out err noted notes more fewer newline after.input.line new behind result (takes-newline gave gives comment.bytes changed after all) none_half line_is acts)))
