-- Lines that call a body lead to where it is read.
use Rattle.std.proofs.Common.{◌≡◌, ℕ, ◌+◌, ◌≤◌, List, ◌∷◌, ◌++◌, length, Option, Some, refl, ap, sym, subst, ◌∙◌, arith, [], All, map, reverse, take}
use Rattle.std.proofs.Math.Seq.{take-nil}
use Rattle.roff_num.specs.declared.limits.Limits.{Limits}
use Rattle.input_model.specs.Arguments.{Arguments, finished, no_arguments, only_kept, total_length}
use Rattle.input_source.specs.Bytes.{blank, newline}
use Rattle.input_escapes.specs.OpenEscape.{OpenEscape}
use Rattle.input_model.specs.Input.{ByteAhead, ReturnAhead, lines_taken}
use Rattle.input_model.specs.Input.Calls.{called_text, calling_body}
use Rattle.input_model.specs.Input.Names.{body_named}
use Rattle.input_arguments.specs.Quoting.{quoted_line}
use Rattle.roff_store.specs.Named.{Named, entry_of}
use Rattle.roff_store.specs.Texts.{Entry, Body, body_if_any}
use Rattle.run_model.proofs.ItemsTaken.{FromAhead, FromSource, Origin, ahead_at, tape_at, taken_as-going_on}
use Rattle.run_model.proofs.PlainRuns.{HasRoom, HasRoom-start, Here, Path, Path-append, after-last, behind_byte, behind_bytes, behind_bytes-charge, counted, counted-ahead, counted-last, counted-source, is-run_at, run_at}
use Rattle.law_reading.specs.CallLaws.{BeginsLine, BodiesAreCalled, BodiesAreCalledFromTheSource, IsCall, behind_call, call_line, with_call}
use Rattle.law_reading.specs.InterpolationLaws.{StandsForItself}
use Rattle.run_model.specs.Within.{IsWithin}
use Rattle.run_model.specs.Reading.Items.{PageInput, Taking}
use Rattle.run_model.specs.Requests.{called_as}
use Rattle.run_model.specs.Run.{State, after, byte_taken, known, taken_as}
use Rattle.roff_num.specs.ShortNames.{name_bytes}
use Rattle.run_model.specs.Stages.{Stage}
use Rattle.run_model.specs.declared.line_state.LineState.{LineState}
use Rattle.run_model.specs.declared.line_state.LineState.TheVariants.{LineStart, Collecting}
use Rattle.run_model.specs.declared.purpose.Purpose.TheVariants.{Calling}
use Rattle.roff_num.specs.declared.short_name.ShortName.{ShortName}
use Rattle.run_model.specs.declared.request.Called.TheVariants.{Body as ABody}
use Rattle.run_model.proofs.NameBytes.{stage}
use Rattle.law_reading.proofs.LineNames.{DoesAs, ReadsAs, ReadsName, onward, reads-name}
use Rattle.law_reading.proofs.CalledArguments.{most_of, reads-arguments, turns-call}

-- a line whose name stands for a body calls it
pub reads-body : (names : Named Entry) (name : ShortName) (body : List ℕ) → entry_of (name_bytes name) names ≡ Some (Body body) → ReadsAs names name (Collecting (Calling name))
reads-body names name body stands_for = record {
  called = ABody name;
  is = ap (called_as name) stands_for;
  none_due = refl;
  whole = λ i breaks. refl;
  ended = λ k i breaks b. refl;
}

-- a call is read up to its newline
pub record ReadsCall (names : Named Entry) (name : ShortName) (texts : List (List ℕ)) (most : ℕ) (bytes : List ℕ) (as_given : List (List ℕ)) : Type 0 where
  pub reading : LineState
  pub there : Arguments
  pub path : Path (most_of most texts) names (stage LineStart no_arguments texts) bytes (stage reading there texts)
  pub given : reverse (only_kept (finished there)).whole ≡ as_given
  pub does : DoesAs names reading (Collecting (Calling name))

reads-behind : (names : Named Entry) (name : ShortName) (texts : List (List ℕ)) (most : ℕ) (front : List ℕ) (arguments : List (List ℕ))
    → ReadsName (most_of most texts) names no_arguments texts front (Collecting (Calling name)) → All (All StandsForItself) arguments → total_length (take 9 arguments) ≤ most
    → ReadsCall names name texts most (front ++ behind_call arguments) (take 9 arguments)
reads-behind names name texts most front [] begins themselves small = record {
  reading = begins.reading;
  there = no_arguments;
  path =
      let there : Stage = stage begins.reading no_arguments texts in
      Path-append (most_of most texts) names (stage LineStart no_arguments texts) there there front [] begins.path (Here there);
  given = sym (take-nil 9);
  does = begins.does;
}
reads-behind names name texts most front (argument ∷ others) begins themselves small =
    let arguments : List (List ℕ) = argument ∷ others in
    let reads = reads-arguments names name texts most [] 9 arguments themselves (omega arith) (omega (arith, small)) in
    let mid : Stage = stage begins.reading no_arguments texts in
    let end : Stage = stage (Collecting (Calling name)) reads.there texts in
    record {
      reading = Collecting (Calling name);
      there = reads.there;
      path =
          Path-append (most_of most texts) names (stage LineStart no_arguments texts) mid end front (blank ∷ quoted_line arguments) begins.path
          (onward (most_of most texts) names no_arguments texts begins.reading (Collecting (Calling name)) blank (quoted_line arguments) end begins.does.none_due
          (λ k i. begins.does.at_blank k mid i ∙ turns-call names name no_arguments texts blank refl k i)
          (record { held_few = omega arith; stored_few = omega arith; texts_few = omega arith }) reads.path);
      given = reads.given;
      does = record { none_due = refl; at_blank = λ k p i. refl; at_newline = λ k p i. refl };
    }

-- a run that called a body
abbrev pub called_from : State → Origin → List ℕ → List ℕ → List (List ℕ) → State
called_from s from line body arguments = record s { tape = tape_at from [] s.tape; input = with_call body arguments (counted from line s.input) }

-- the newline of the line calls it
pub newline-calls : (s : State) (from : Origin) (name : ShortName) (body front : List ℕ) (arguments : List (List ℕ)) (reading : LineState) (there : Arguments)
    → BeginsLine s → entry_of (name_bytes name) s.input.names ≡ Some (Body body) → reverse (only_kept (finished there)).whole ≡ take 9 arguments
    → DoesAs s.input.names reading (Collecting (Calling name))
    → byte_taken newline (run_at s s.input.names (stage reading there s.input.open_texts) from [] (behind_byte from newline (behind_bytes from front s.input)))
    ≡ called_from s from (front ++ newline ∷ []) body arguments
newline-calls s from name body front arguments reading there begins stands_for given does =
    let q : Stage = stage reading there s.input.open_texts in
    let i : PageInput = behind_byte from newline (behind_bytes from front s.input) in
    let u : State = run_at s s.input.names q from [] i in
    let line : List ℕ = front ++ newline ∷ [] in
    let of : PageInput → List (List ℕ) → Arguments → List OpenEscape → LineState → State = λ j g a h r. record s {
      tape = tape_at from [] s.tape;
      input = record j { ahead = map ByteAhead (called_text body) ++ ReturnAhead 0 ∷ j.ahead; calls = g ∷ j.calls; arguments = a; escapes = h; names = s.input.names; open_texts = s.input.open_texts };
      reading = r;
    } in
    let here : PageInput = record i { ahead = ahead_at from [] } in
    let j : PageInput = counted from line s.input in
    ap (λ (t : Taking). taken_as t u) (does.at_newline (known u) q here)
    ∙ taken_as-going_on (calling_body (body_named (name_bytes name) u.input) u.input) LineStart u
    ∙ ap (λ (entry : Option Entry). record u { input = calling_body (body_if_any entry) u.input; reading = LineStart }) stands_for
    ∙ ap (λ (g : List (List ℕ)). of here g no_arguments [] LineStart) given
    ∙ ap (λ (k : PageInput). of k (take 9 arguments) no_arguments [] LineStart) (counted-last from front newline s.input)
    ∙ ap (λ (a : Arguments). of j (take 9 arguments) a [] LineStart) (sym begins.arguments)
    ∙ ap (λ (h : List OpenEscape). of j (take 9 arguments) s.input.arguments h LineStart) (sym begins.escapes)
    ∙ ap (λ (r : LineState). of j (take 9 arguments) s.input.arguments s.input.escapes r) (sym begins.reading)

-- the whole line
called-from : (l : Limits) (s : State) (from : Origin) (control : ℕ) (name : ShortName) (body : List ℕ) (arguments : List (List ℕ))
    → BeginsLine s → IsCall s.input.names control name body arguments
    → let line : List ℕ = call_line control name arguments in
    s.input.ahead ≡ ahead_at from line → s.tape ≡ tape_at from line s.tape → IsWithin l s → IsWithin l (called_from s from line body arguments)
    → after l (length line) s ≡ called_from s from line body arguments
called-from l s from control name body arguments begins call ahead tape within within_called =
    let names : Named Entry = s.input.names in
    let texts : List (List ℕ) = s.input.open_texts in
    let most : ℕ = total_length (take 9 arguments) in
    let line : List ℕ = call_line control name arguments in
    let front : List ℕ = (control ∷ name_bytes name) ++ behind_call arguments in
    let start : Stage = stage LineStart no_arguments texts in
    let is : run_at s names start from line s.input ≡ s = is-run_at s from line start begins.reading begins.escapes begins.arguments refl ahead tape in
    let reads : ReadsCall names name texts most front (take 9 arguments) =
    reads-behind names name texts most (control ∷ name_bytes name) arguments
    (reads-name (most_of most texts) names no_arguments texts control name (Collecting (Calling name)) call.begins call.is_name
    (record { held_few = omega arith; stored_few = omega arith; texts_few = omega arith }) (reads-body names name body call.stands_for))
    call.plain (omega arith) in
    let room : HasRoom l s names from (most_of most texts) start line s.input =
    HasRoom-start l s names from (most_of most texts) start line s.input (subst (IsWithin l) (sym is) within)
    (omega (arith, within_called.bytes, behind_bytes-charge from line s.input)) (omega (arith, within_called.stack)) within.store within.making in
    ap (after l (length line)) (sym is)
    ∙ after-last l s names from (most_of most texts) start (stage reads.reading reads.there texts) front newline s.input (called_from s from line body arguments)
    begins.takes reads.path room reads.does.none_due refl
    (newline-calls s from name body front arguments reads.reading reads.there begins call.stands_for reads.given reads.does) within_called

pub bodies_are_called : BodiesAreCalled
bodies_are_called l s control name body arguments rest begins call ahead within within_called =
    let line : List ℕ = call_line control name arguments in
    let is : called_from s (FromAhead rest) line body arguments ≡ record s { input = with_call body arguments (record s.input { ahead = rest; charge = s.input.charge + length line }) } =
    ap (λ (i : PageInput). record s { input = with_call body arguments i }) (counted-ahead rest line s.input) in
    called-from l s (FromAhead rest) control name body arguments begins call ahead refl within (subst (IsWithin l) (sym is) within_called) ∙ is

pub bodies_are_called_from_the_source : BodiesAreCalledFromTheSource
bodies_are_called_from_the_source l s control name body arguments tape begins call none stands within within_called =
    let line : List ℕ = call_line control name arguments in
    let is : called_from s (FromSource tape) line body arguments ≡ record s { tape = tape; input = with_call body arguments (lines_taken line s.input) } =
    ap (λ (i : PageInput). record s { tape = tape; input = with_call body arguments i }) (counted-source tape line s.input none) in
    called-from l s (FromSource tape) control name body arguments begins call none stands within (subst (IsWithin l) (sym is) within_called) ∙ is
