-- Lines whose names stand for nothing do nothing.
use Rattle.std.proofs.Common.{◌≡◌, ℕ, ◌+◌, ◌≤◌, Bool, false, List, ◌∷◌, ◌++◌, length, None, refl, ap, sym, subst, ◌∙◌, arith, [], All, if◌then◌else◌, ◌==◌}
use Rattle.std.proofs.lemmas.List.Elements.{All-head, All-tail}
use Rattle.roff_num.specs.declared.limits.Limits.{Limits}
use Rattle.input_model.specs.Arguments.{Arguments, no_arguments}
use Rattle.input_source.specs.Bytes.{blank, is_dropped, newline}
use Rattle.input_escapes.specs.OpenEscape.{OpenEscape}
use Rattle.input_model.specs.Input.{bytes_ahead, ends_ahead}
use Rattle.roff_store.specs.Named.{Named, entry_of}
use Rattle.roff_store.specs.Texts.{Entry}
use Rattle.run_model.proofs.ItemsTaken.{FromAhead, FromSource, Origin, ahead_at, tape_at, taken_as-going_on}
use Rattle.run_model.proofs.PlainRuns.{bytes_ahead-behind, ends_ahead-behind_all, HasRoom, HasRoom-start, Here, Most, Path, Path-append, after-last, behind_byte, behind_bytes, behind_bytes-charge, counted, counted-ahead, counted-last, counted-source, is-run_at, run_at}
use Rattle.law_reading.specs.CallLaws.{BeginsLine, BlankBehind, IsBehindName, IsUnknown, NothingBehind, UnknownNamesDoNothing, UnknownNamesOfTheSourceDoNothing, named_line}
use Rattle.run_model.specs.Within.{IsWithin}
use Rattle.run_model.specs.Reading.{byte_taking}
use Rattle.run_model.specs.Reading.Items.{PageInput, Taking, going_on}
use Rattle.run_model.specs.Requests.{called_as}
use Rattle.run_model.specs.Run.{State, after, byte_taken, known, taken_as}
use Rattle.roff_num.specs.ShortNames.{name_bytes}
use Rattle.run_model.specs.Stages.{Stage, Turns, input_at}
use Rattle.run_model.specs.declared.line_state.LineState.{LineState}
use Rattle.run_model.specs.declared.line_state.LineState.TheVariants.{Dropped, LineStart}
use Rattle.roff_num.specs.declared.short_name.ShortName.{ShortName}
use Rattle.run_model.specs.declared.request.Called.TheVariants.{Nothing as Unknown}
use Rattle.run_model.proofs.NameBytes.{stage}
use Rattle.law_reading.proofs.LineNames.{Allows, DoesAs, ReadsAs, ReadsName, onward, reads-name}
use Rattle.law_reading.proofs.CalledArguments.{going_on-if, most_of, same-if}

-- a line whose name stands for nothing is dropped
reads-unknown : (names : Named Entry) (name : ShortName) → entry_of (name_bytes name) names ≡ None → ReadsAs names name Dropped
reads-unknown names name stands_for = record {
  called = Unknown;
  is = ap (called_as name) stands_for;
  none_due = refl;
  whole = λ i breaks. refl;
  ended = λ k i breaks b. refl;
}

-- a byte of it
turns-dropped : (names : Named Entry) (p : Stage) (b : ℕ) → p.reading ≡ Dropped → (b == newline) ≡ false → Turns names p b p
turns-dropped names p b reading is k i =
    let here : PageInput = input_at names p i in
    ap (λ (r : LineState). byte_taking k r here b) reading
    ∙ ap (λ (c : Bool). if is_dropped b then going_on here Dropped else going_on here (if c then LineStart else Dropped)) is
    ∙ going_on-if (is_dropped b) here Dropped p.arguments p.arguments
    ∙ ap (λ (a : Arguments). going_on (record here { arguments = a }) Dropped) (same-if (is_dropped b) p.arguments)
    ∙ ap (going_on here) (sym reading)

path-dropped : (most : Most) (names : Named Entry) (a : Arguments) (texts : List (List ℕ)) (bytes : List ℕ) → Allows most a texts → All (λ b. (b == newline) ≡ false) bytes
    → Path most names (stage Dropped a texts) bytes (stage Dropped a texts)
path-dropped most names a texts [] allows none = Here (stage Dropped a texts)
path-dropped most names a texts (b ∷ bytes) allows none =
    onward most names a texts Dropped Dropped b bytes (stage Dropped a texts) refl
    (turns-dropped names (stage Dropped a texts) b refl (All-head (λ c. (c == newline) ≡ false) b bytes none)) allows
    (path-dropped most names a texts bytes allows (All-tail (λ c. (c == newline) ≡ false) b bytes none))

-- what stands behind the name, too
reads-dropped : (most : Most) (names : Named Entry) (a : Arguments) (texts : List (List ℕ)) (front behind : List ℕ) → Allows most a texts
    → ReadsName most names a texts front Dropped → IsBehindName behind → ReadsName most names a texts (front ++ behind) Dropped
reads-dropped most names a texts front _ allows begins NothingBehind = record {
  reading = begins.reading;
  path =
      let there : Stage = stage begins.reading a texts in
      Path-append most names (stage LineStart a texts) there there front [] begins.path (Here there);
  does = begins.does;
}
reads-dropped most names a texts front _ allows begins (BlankBehind bytes none) =
    let mid : Stage = stage begins.reading a texts in
    let end : Stage = stage Dropped a texts in
    record {
      reading = Dropped;
      path =
          Path-append most names (stage LineStart a texts) mid end front (blank ∷ bytes) begins.path
          (onward most names a texts begins.reading Dropped blank bytes end begins.does.none_due
          (λ k i. begins.does.at_blank k mid i) allows (path-dropped most names a texts bytes allows none));
      does = record { none_due = refl; at_blank = λ k p i. refl; at_newline = λ k p i. refl };
    }

-- a run that passed over a line
abbrev passed_from : State → Origin → List ℕ → State
passed_from s from line = record s { tape = tape_at from [] s.tape; input = counted from line s.input }

newline-drops : (s : State) (from : Origin) (front : List ℕ) (reading : LineState) → BeginsLine s → DoesAs s.input.names reading Dropped
    → byte_taken newline (run_at s s.input.names (stage reading no_arguments s.input.open_texts) from [] (behind_byte from newline (behind_bytes from front s.input)))
    ≡ passed_from s from (front ++ newline ∷ [])
newline-drops s from front reading begins does =
    let q : Stage = stage reading no_arguments s.input.open_texts in
    let i : PageInput = behind_byte from newline (behind_bytes from front s.input) in
    let u : State = run_at s s.input.names q from [] i in
    let of : PageInput → Arguments → List OpenEscape → LineState → State = λ j a h r. record s {
      tape = tape_at from [] s.tape;
      input = record j { arguments = a; escapes = h; names = s.input.names; open_texts = s.input.open_texts };
      reading = r;
    } in
    let here : PageInput = record i { ahead = ahead_at from [] } in
    let j : PageInput = counted from (front ++ newline ∷ []) s.input in
    ap (λ (t : Taking). taken_as t u) (does.at_newline (known u) q here)
    ∙ taken_as-going_on u.input LineStart u
    ∙ ap (λ (k : PageInput). of k no_arguments [] LineStart) (counted-last from front newline s.input)
    ∙ ap (λ (a : Arguments). of j a [] LineStart) (sym begins.arguments)
    ∙ ap (λ (h : List OpenEscape). of j s.input.arguments h LineStart) (sym begins.escapes)
    ∙ ap (λ (r : LineState). of j s.input.arguments s.input.escapes r) (sym begins.reading)

-- it stays within the limits
within-passed : (l : Limits) (s : State) (from : Origin) (line : List ℕ) → s.input.ahead ≡ ahead_at from line → IsWithin l s → s.input.charge + length line ≤ l.bytes
    → IsWithin l (passed_from s from line)
within-passed l s from line ahead within charged = record {
  bytes = omega (arith, charged, behind_bytes-charge from line s.input);
  stack = omega (arith, within.stack, ap bytes_ahead ahead, bytes_ahead-behind from line);
  depth = omega (arith, within.depth, ap ends_ahead ahead, ends_ahead-behind_all from line);
  store = within.store;
  texts = within.texts;
  making = within.making;
  conditions = within.conditions;
  names = within.names;
  title = within.title;
  environments = within.environments;
  output = within.output;
  traps = within.traps;
}

unknown-from : (l : Limits) (s : State) (from : Origin) (control : ℕ) (name : ShortName) (behind : List ℕ)
    → BeginsLine s → IsUnknown s.input.names control name behind
    → let line : List ℕ = named_line control name behind in
    s.input.ahead ≡ ahead_at from line → s.tape ≡ tape_at from line s.tape → IsWithin l s → s.input.charge + length line ≤ l.bytes
    → after l (length line) s ≡ passed_from s from line
unknown-from l s from control name behind begins unknown ahead tape within charged =
    let names : Named Entry = s.input.names in
    let texts : List (List ℕ) = s.input.open_texts in
    let most : Most = most_of 0 texts in
    let line : List ℕ = named_line control name behind in
    let front : List ℕ = (control ∷ name_bytes name) ++ behind in
    let start : Stage = stage LineStart no_arguments texts in
    let is : run_at s names start from line s.input ≡ s = is-run_at s from line start begins.reading begins.escapes begins.arguments refl ahead tape in
    let allows : Allows most no_arguments texts = record { held_few = omega arith; stored_few = omega arith; texts_few = omega arith } in
    let reads : ReadsName most names no_arguments texts front Dropped =
    reads-dropped most names no_arguments texts (control ∷ name_bytes name) behind allows
    (reads-name most names no_arguments texts control name Dropped unknown.begins unknown.is_name allows (reads-unknown names name unknown.stands_for)) unknown.is_behind in
    let room : HasRoom l s names from most start line s.input =
    HasRoom-start l s names from most start line s.input (subst (IsWithin l) (sym is) within) charged (omega (arith, within.stack)) within.store within.making in
    ap (after l (length line)) (sym is)
    ∙ after-last l s names from most start (stage reads.reading no_arguments texts) front newline s.input (passed_from s from line)
    begins.takes reads.path room reads.does.none_due refl (newline-drops s from front reads.reading begins reads.does) (within-passed l s from line ahead within charged)

pub unknown_names_do_nothing : UnknownNamesDoNothing
unknown_names_do_nothing l s control name behind rest begins unknown ahead within charged =
    unknown-from l s (FromAhead rest) control name behind begins unknown ahead refl within charged
    ∙ ap (λ (i : PageInput). record s { input = i }) (counted-ahead rest (named_line control name behind) s.input)

pub unknown_names_of_the_source_do_nothing : UnknownNamesOfTheSourceDoNothing
unknown_names_of_the_source_do_nothing l s control name behind tape begins unknown none stands within charged =
    unknown-from l s (FromSource tape) control name behind begins unknown none stands within charged
    ∙ ap (λ (i : PageInput). record s { tape = tape; input = i }) (counted-source tape (named_line control name behind) s.input none)
