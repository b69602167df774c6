-- What was read of a control line at once, and what it led to, by what stood behind its name.
use Rattle.std.proofs.Common.{◌≡◌, ℕ, ◌<◌, ◌≤◌, Bool, true, false, List, None, Some, length, refl, sym, ap, subst, ◌∙◌, arith, if◌then◌else◌}
use Rattle.input_source.specs.declared.source.ByteSource as byte_source
use Rattle.input_model.specs.Arguments.{Arguments}
use Rattle.input_model.specs.Unread.{IsWithin}
use Rattle.roff_num.specs.declared.short_name.ShortName.{ShortName}
use Rattle.roff_scan.specs.Unread.Lines.{HoldsLine, is_ended, with_held}
use Rattle.roff_scan.specs.declared.run_kind.RunKind.TheVariants.{Arguments as ArgumentsRun, CallArguments, Condition as ConditionRun}
use Rattle.roff_scan.specs.declared.unread.lines.BehindHeld.{BehindHeld}
use Rattle.run_state.specs.declared.composer.Composer.{Composer as ComposerOf}
use Rattle.read_lines.specs.Reader.State.{ReaderState}
use Rattle.run_model.specs.Reading.Items.{PageUnread}
use Rattle.run_model.specs.declared.line_state.LineState.{LineState}
use Rattle.run_model.specs.declared.line_state.LineState.TheVariants.{Collecting}
use Rattle.run_model.specs.declared.purpose.Purpose.TheVariants.{Arguments as InArguments, Calling}
use Rattle.run_model.specs.declared.request.Request.{Request}
use Rattle.read_shortcuts.specs.Conditions.{DecidesAtOnce}
use Rattle.read_shortcuts.specs.ControlFronts.{is_past, is_read, read_dropped, read_for_call, read_to}
use Rattle.read_shortcuts.specs.ControlReads.{ReadsControl}
use Rattle.read_shortcuts.specs.DroppedLines.{LineBegun}
use Rattle.read_shortcuts.specs.Runs.{IsRun}
use Rattle.read_shortcuts.specs.Stages.{ReadsLine, ReadsPast}
use Rattle.read_shortcuts.specs.declared.control.ControlRead.{ControlRead}
use Rattle.read_shortcuts.specs.declared.control.ControlRead.TheVariants.{Condition, Decided, Dropped, Front, Held, HeldForCall, HeldToEnd}
use Rattle.read_shortcuts.proofs.BytesTaken.{held-taken, read-taken}
use Rattle.read_shortcuts.proofs.HeldRuns.{holds_call_where}
use Rattle.read_shortcuts.proofs.LinesRead.{LeadsBehind, held-half, held-line, held-past, request-each, runs-arguments, runs-call}

-- two that differ in this are not the same
unlike : (f : ControlRead → Bool) (one other : ControlRead) → f one ≡ false → f other ≡ true → one ≡ other → ⊥
unlike f one other isnt is same = let wrong : false ≡ true = sym isnt ∙ ap f same ∙ is in absurd (cc)

-- nothing was read, and nothing changed
pub nothing-read : {S : Type 0} (g : byte_source.Ghosts S) (s : S) (es : ComposerOf) (r : ReaderState) (u : PageUnread) (result : ControlRead) → is_read result ≡ false → is_past result ≡ false
    → ReadsControl g s s es r r u u result
nothing-read g s es r u result none left = record {
  past = λ past. let wrong : false ≡ true = sym left ∙ past in absurd (cc);
  line = λ is. absurd (unlike is_read result HeldToEnd none refl is);
  held = λ b is. absurd (unlike is_read result (Held b) none refl is);
  call = λ b is. absurd (unlike is_read result (HeldForCall b) none refl is);
  condition = λ is. absurd (unlike is_read result Condition none refl is);
  decides = λ is. absurd (unlike is_read result Decided none refl is);
  dropped = λ is. absurd (unlike is_read result Dropped none refl is);
  taken = λ some. let wrong : false ≡ true = sym none ∙ some in absurd (cc);
  unchanged = λ unread. (refl, refl, refl);
  notes = omega arith;
  failures = refl;
}

module _ {S : Type 0} (g : byte_source.Ghosts S) (was is : S) (es : ComposerOf) (old new : ReaderState) (before after : PageUnread)
    (notes : g.notes is ≤ g.notes was) (failures : g.failures is ≡ g.failures was) where
  -- this was, over such a source
  abbrev Reads : ControlRead → Type 0
  Reads result = ReadsControl g was is es old new before after result

  -- bytes were read past, and what stands behind them is told
  past-read : (result : ControlRead) → is_past result ≡ true → is_read result ≡ true → before.input.charge < after.input.charge
      → ReadsPast (g.gives was) (g.gives is) old new before after
      → ((b : BehindHeld) → result ≡ Held b → IsRun ArgumentsRun new.reading after.input.escapes)
      → ((b : BehindHeld) → result ≡ HeldForCall b → IsRun (CallArguments 8) new.reading after.input.escapes)
      → (result ≡ Condition → IsRun ConditionRun new.reading after.input.escapes) → (result ≡ Dropped → LineBegun new before after) → Reads result
  past-read result is_it some taken past held call condition dropped = record {
    past = λ told. past;
    line = λ ended. absurd (unlike is_past HeldToEnd result refl is_it (sym ended));
    held = held;
    call = call;
    condition = condition;
    decides = λ decided. absurd (unlike is_past Decided result refl is_it (sym decided));
    dropped = dropped;
    taken = λ read. taken;
    unchanged = λ none. let wrong : false ≡ true = sym none ∙ some in absurd (cc);
    notes = notes;
    failures = failures;
  }

  -- the bytes up to a name's end
  pub front-read : before.input.charge < after.input.charge → ReadsPast (g.gives was) (g.gives is) old new before after → Reads Front
  front-read taken past = past-read Front refl refl taken past (λ b wrong. absurd (cc)) (λ b wrong. absurd (cc)) (λ wrong. absurd (cc)) (λ wrong. absurd (cc))

  -- a dropped line, with its newline or without it
  pub dropped-read : (ended : Bool) (result : ControlRead) → result ≡ read_dropped ended → before.input.charge < after.input.charge
      → ReadsPast (g.gives was) (g.gives is) old new before after → (ended ≡ true → LineBegun new before after) → Reads result
  dropped-read ended result told taken past begun = subst Reads (sym told) (by ended begun)
    where
      by : (b : Bool) → (b ≡ true → LineBegun new before after) → Reads (read_dropped b)
      by true begun = past-read Dropped refl refl taken past (λ b wrong. absurd (cc)) (λ b wrong. absurd (cc)) (λ wrong. absurd (cc)) (λ dropped. begun refl)
      by false begun = front-read taken past

  -- a line, up to its newline
  pub line-read : (result : ControlRead) → result ≡ HeldToEnd → ReadsLine (g.gives was) (g.gives is) old new before after → Reads result
  line-read result told line =
      subst Reads (sym told) (record {
        past = λ wrong. absurd (cc);
        line = λ ended. line;
        held = λ b wrong. absurd (cc);
        call = λ b wrong. absurd (cc);
        condition = λ wrong. absurd (cc);
        decides = λ wrong. absurd (cc);
        dropped = λ wrong. absurd (cc);
        taken = λ read. read-taken (g.gives was) (g.gives is) old new before after line;
        unchanged = λ wrong. absurd (cc);
        notes = notes;
        failures = failures;
      })

  -- a condition, or the other branch of one, which decided
  pub decided-read : before.input.charge < after.input.charge → DecidesAtOnce es (g.gives was) (g.gives is) old new before after → Reads Decided
  decided-read taken decides = record {
    past = λ wrong. absurd (cc);
    line = λ wrong. absurd (cc);
    held = λ b wrong. absurd (cc);
    call = λ b wrong. absurd (cc);
    condition = λ wrong. absurd (cc);
    decides = λ decided. decides;
    dropped = λ wrong. absurd (cc);
    taken = λ read. taken;
    unchanged = λ wrong. absurd (cc);
    notes = notes;
    failures = failures;
  }

  -- a condition, which decided or didn't
  pub condition-read : (result : ControlRead) → is_read result ≡ true → before.input.charge < after.input.charge → (is_past result ≡ true → ReadsPast (g.gives was) (g.gives is) old new before after)
      → (result ≡ Condition → IsRun ConditionRun new.reading after.input.escapes) → (result ≡ Decided → DecidesAtOnce es (g.gives was) (g.gives is) old new before after)
      → (result ≡ HeldToEnd → ⊥) → ((b : BehindHeld) → result ≡ Held b → ⊥) → ((b : BehindHeld) → result ≡ HeldForCall b → ⊥) → (result ≡ Dropped → ⊥) → Reads result
  condition-read result some taken past condition decides no_line none_held no_call no_drop = record {
    past = past;
    line = λ ended. absurd (no_line ended);
    held = λ b held. absurd (none_held b held);
    call = λ b call. absurd (no_call b call);
    condition = condition;
    decides = decides;
    dropped = λ dropped. absurd (no_drop dropped);
    taken = λ read. taken;
    unchanged = λ none. let wrong : false ≡ true = sym none ∙ some in absurd (cc);
    notes = notes;
    failures = failures;
  }

  -- a line whose arguments are held, up to its newline or past those that were
  held-read : (ended : Bool) (held : ControlRead) → (ended ≡ false → ReadsPast (g.gives was) (g.gives is) old new before after)
      → (ended ≡ true → ReadsLine (g.gives was) (g.gives is) old new before after) → (ReadsPast (g.gives was) (g.gives is) old new before after → Reads held)
      → Reads (if ended then HeldToEnd else held)
  held-read true held past line reads = line-read HeldToEnd refl (line refl)
  held-read false held past line reads = reads (past refl)

  module _ (there : LineState) (first ready : List ℕ) (begun : Arguments) (b : BehindHeld) (leads : LeadsBehind first there old.reading begun ready before)
      (reads : new ≡ record old { reading = there }) (within : IsWithin after) (result : ControlRead) where
    -- what was held behind a request's name
    pub request-read : (breaks : Bool) (request : Request) → there ≡ Collecting (InArguments breaks request)
        → HoldsLine None (length first) (g.gives was) (g.gives is) ready b (with_held begun before) after → result ≡ read_to b → Reads result
    request-read breaks request is_there line told =
        let each = request-each breaks request there is_there in
        let run = runs-arguments breaks request new.reading after.input.escapes (ap (λ (r : ReaderState). r.reading) reads ∙ is_there)
        (held-half (g.gives was) (g.gives is) old new there first ready b before after begun None leads each line reads) in
        let taken = held-taken (g.gives was) (g.gives is) first line.held ready begun b before after leads.stands leads.some line.passes in
        subst Reads (sym told)
        (held-read (is_ended b) (Held b) (λ left. held-past (g.gives was) (g.gives is) old new there first ready b before after begun None leads each line reads left within)
        (λ ended. held-line (g.gives was) (g.gives is) old new there first ready b before after begun None leads each line reads ended)
        (λ past. past-read (Held b) refl refl taken past (λ c held. run) (λ c wrong. absurd (cc)) (λ wrong. absurd (cc)) (λ wrong. absurd (cc))))

    -- and behind that of a body
    pub body-read : (name : ShortName) → there ≡ Collecting (Calling name)
        → HoldsLine (Some 8) (length first) (g.gives was) (g.gives is) ready b (with_held begun before) after → result ≡ read_for_call b → Reads result
    body-read name is_there line told =
        let each = holds_call_where there name is_there in
        let run = runs-call name new.reading after.input.escapes (ap (λ (r : ReaderState). r.reading) reads ∙ is_there)
        (held-half (g.gives was) (g.gives is) old new there first ready b before after begun (Some 8) leads each line reads) in
        let taken = held-taken (g.gives was) (g.gives is) first line.held ready begun b before after leads.stands leads.some line.passes in
        subst Reads (sym told)
        (held-read (is_ended b) (HeldForCall b) (λ left. held-past (g.gives was) (g.gives is) old new there first ready b before after begun (Some 8) leads each line reads left within)
        (λ ended. held-line (g.gives was) (g.gives is) old new there first ready b before after begun (Some 8) leads each line reads ended)
        (λ past. past-read (HeldForCall b) refl refl taken past (λ c wrong. absurd (cc)) (λ c call. run) (λ wrong. absurd (cc)) (λ wrong. absurd (cc))))
