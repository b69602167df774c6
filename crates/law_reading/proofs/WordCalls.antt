-- A body that a line calls gets the arguments that the line's bytes are read as.
use Rattle.std.proofs.Common.{◌≡◌, ℕ, ◌+◌, ◌≤◌, List, [], ◌∷◌, ◌++◌, length, refl, ap, sym, subst, ◌∙◌, arith, All, fold, take}
use Rattle.std.proofs.lemmas.List.Elements.{All-append, All-head, All-tail}
use Rattle.roff_num.specs.declared.limits.Limits.{Limits}
use Rattle.roff_num.specs.declared.short_name.ShortName.{ShortName}
use Rattle.roff_num.specs.ShortNames.{name_bytes}
use Rattle.input_model.specs.Arguments.{Arguments, held, no_arguments, total_length, with_argument_byte}
use Rattle.input_model.specs.declared.place.Place.TheVariants.{Between}
use Rattle.input_source.specs.Bytes.{blank, newline}
use Rattle.roff_store.specs.Named.{Named}
use Rattle.roff_store.specs.Texts.{Entry}
use Rattle.input_model.specs.Input.{lines_taken}
use Rattle.law_reading.proofs.CallLaws.{ReadsCall, called_from, newline-calls, reads-body}
use Rattle.law_reading.proofs.LineNames.{ReadsName, onward, reads-name}
use Rattle.law_reading.proofs.CalledArguments.{call_byte, most_of, turns-call}
use Rattle.law_reading.proofs.ReadArguments.{Agrees, Same, agrees-bytes, given-agrees, held-agrees, held-call_byte, held-least}
use Rattle.law_reading.proofs.WordArguments.{themselves-line, themselves-word, words_at_the_lines_end_read_back}
use Rattle.law_reading.specs.CallLaws.{BeginsLine, with_call}
use Rattle.law_reading.specs.InterpolationLaws.{StandsForItself}
use Rattle.law_reading.specs.WordArguments.{AreWords, IsWord, words_line, words_of}
use Rattle.law_reading.specs.WordCalls.{BodiesGetTheArgumentsRead, BodiesGetWords, BodiesOfTheSourceGetTheArgumentsRead, BodiesOfTheSourceGetWords, NamesBody, call_with, read_as}
use Rattle.run_model.proofs.ItemsTaken.{FromAhead, FromSource, Origin, ahead_at, tape_at}
use Rattle.run_model.proofs.NameBytes.{stage}
use Rattle.run_model.proofs.PlainRuns.{HasRoom, HasRoom-start, Here, Onward, Path, Path-append, after-last, behind_bytes-charge, counted-ahead, counted-source, is-run_at, run_at}
use Rattle.run_model.specs.Reading.Items.{PageInput}
use Rattle.run_model.specs.Run.{State, after}
use Rattle.run_model.specs.Stages.{Stage}
use Rattle.run_model.specs.Within.{IsWithin}
use Rattle.run_model.specs.declared.line_state.LineState.TheVariants.{LineStart, Collecting}
use Rattle.run_model.specs.declared.purpose.Purpose.TheVariants.{Calling}

-- the bytes behind the blank go to the arguments
pub path-call : (names : Named Entry) (name : ShortName) (texts : List (List ℕ)) (most : ℕ) (a : Arguments) (bytes : List ℕ) → All StandsForItself bytes
    → held (fold call_byte a bytes) ≤ most
    → Path (most_of most texts) names (stage (Collecting (Calling name)) a texts) bytes (stage (Collecting (Calling name)) (fold call_byte a bytes) texts)
path-call names name texts most a [] themselves few = Here (stage (Collecting (Calling name)) a texts)
path-call names name texts most a (b ∷ bytes) themselves few =
    let there : Arguments = call_byte a b in
    Onward (stage (Collecting (Calling name)) a texts) (stage (Collecting (Calling name)) there texts) (stage (Collecting (Calling name)) (fold call_byte there bytes) texts) b bytes refl refl
    (turns-call names name a texts b (All-head StandsForItself b bytes themselves))
    (record { none_half = refl; held_few = omega (arith, held-least there bytes, few); stored_few = omega arith; texts_few = omega arith }) (held-call_byte a b).1
    (path-call names name texts most there bytes (All-tail StandsForItself b bytes themselves) few)

-- what a line gives
agrees : (bytes : List ℕ) → Agrees (fold call_byte no_arguments bytes) (fold with_argument_byte no_arguments bytes)
agrees bytes = agrees-bytes no_arguments no_arguments bytes (Same [] [] Between (omega arith) refl)

held-read : (bytes : List ℕ) → held (fold call_byte no_arguments bytes) ≡ total_length (take 9 (read_as bytes))
held-read bytes =
    let a : Arguments = fold call_byte no_arguments bytes in
    let u : Arguments = fold with_argument_byte no_arguments bytes in
    held-agrees a u (agrees bytes) ∙ ap total_length (given-agrees a u (agrees bytes))

reads-call : (names : Named Entry) (name : ShortName) (texts : List (List ℕ)) (most : ℕ) (front bytes : List ℕ) → ReadsName (most_of most texts) names no_arguments texts front (Collecting (Calling name))
    → All StandsForItself bytes → total_length (take 9 (read_as bytes)) ≤ most → ReadsCall names name texts most (front ++ blank ∷ bytes) (take 9 (read_as bytes))
reads-call names name texts most front bytes begins themselves few =
    let there : Arguments = fold call_byte no_arguments bytes in
    let mid : Stage = stage begins.reading no_arguments texts in
    let end : Stage = stage (Collecting (Calling name)) there texts in
    record {
      reading = Collecting (Calling name);
      there = there;
      path =
          Path-append (most_of most texts) names (stage LineStart no_arguments texts) mid end front (blank ∷ bytes) begins.path
          (onward (most_of most texts) names no_arguments texts begins.reading (Collecting (Calling name)) blank bytes end begins.does.none_due
          (λ k i. begins.does.at_blank k mid i ∙ turns-call names name no_arguments texts blank refl k i)
          (record { held_few = omega arith; stored_few = omega arith; texts_few = omega arith })
          (path-call names name texts most no_arguments bytes themselves (omega (arith, few, held-read bytes))));
      given = given-agrees there (fold with_argument_byte no_arguments bytes) (agrees bytes);
      does = record { none_due = refl; at_blank = λ k p i. refl; at_newline = λ k p i. refl };
    }

-- the whole line
called-with : (l : Limits) (s : State) (from : Origin) (control : ℕ) (name : ShortName) (body bytes : List ℕ)
    → BeginsLine s → NamesBody s.input.names control name body → All StandsForItself bytes
    → let line : List ℕ = call_with control name bytes in
    s.input.ahead ≡ ahead_at from line → s.tape ≡ tape_at from line s.tape → IsWithin l s → IsWithin l (called_from s from line body (read_as bytes))
    → after l (length line) s ≡ called_from s from line body (read_as bytes)
called-with l s from control name body bytes begins call themselves ahead tape within within_called =
    let names : Named Entry = s.input.names in
    let texts : List (List ℕ) = s.input.open_texts in
    let arguments : List (List ℕ) = read_as bytes in
    let most : ℕ = total_length (take 9 arguments) in
    let line : List ℕ = call_with control name bytes in
    let front : List ℕ = (control ∷ name_bytes name) ++ blank ∷ bytes in
    let start : Stage = stage LineStart no_arguments texts in
    let is : run_at s names start from line s.input ≡ s = is-run_at s from line start begins.reading begins.escapes begins.arguments refl ahead tape in
    let reads : ReadsCall names name texts most front (take 9 arguments) =
    reads-call names name texts most (control ∷ name_bytes name) bytes
    (reads-name (most_of most texts) names no_arguments texts control name (Collecting (Calling name)) call.begins call.is_name
    (record { held_few = omega arith; stored_few = omega arith; texts_few = omega arith }) (reads-body names name body call.stands_for))
    themselves (omega arith) in
    let room : HasRoom l s names from (most_of most texts) start line s.input =
    HasRoom-start l s names from (most_of most texts) start line s.input (subst (IsWithin l) (sym is) within)
    (omega (arith, within_called.bytes, behind_bytes-charge from line s.input)) (omega (arith, within_called.stack)) within.store within.making in
    ap (after l (length line)) (sym is)
    ∙ after-last l s names from (most_of most texts) start (stage reads.reading reads.there texts) front newline s.input (called_from s from line body arguments)
    begins.takes reads.path room reads.does.none_due refl
    (newline-calls s from name body front arguments reads.reading reads.there begins call.stands_for reads.given reads.does) within_called

pub bodies_get_the_arguments_read : BodiesGetTheArgumentsRead
bodies_get_the_arguments_read l s control name body bytes rest begins call themselves ahead within within_called =
    let line : List ℕ = call_with control name bytes in
    let is = ap (λ (i : PageInput). record s { input = with_call body (read_as bytes) i }) (counted-ahead rest line s.input) in
    called-with l s (FromAhead rest) control name body bytes begins call themselves ahead refl within (subst (IsWithin l) (sym is) within_called) ∙ is

pub bodies_of_the_source_get_the_arguments_read : BodiesOfTheSourceGetTheArgumentsRead
bodies_of_the_source_get_the_arguments_read l s control name body bytes tape begins call themselves none stands within within_called =
    let line : List ℕ = call_with control name bytes in
    let is = ap (λ (i : PageInput). record s { tape = tape; input = with_call body (read_as bytes) i }) (counted-source tape line s.input none) in
    called-with l s (FromSource tape) control name body bytes begins call themselves none stands within (subst (IsWithin l) (sym is) within_called) ∙ is

-- words stand for themselves
words-themselves : (leading : ℕ) (words : List (List ℕ × ℕ)) (last : List ℕ) → AreWords words → IsWord last → All StandsForItself (words_line leading words ++ last)
words-themselves leading words last are is = All-append StandsForItself (words_line leading words) last (themselves-line leading words are) (themselves-word last is)

pub bodies_get_words : BodiesGetWords
bodies_get_words l s control name body leading words last rest begins call are is ahead within within_called =
    let bytes : List ℕ = words_line leading words ++ last in
    let line : List ℕ = call_with control name bytes in
    let of : List (List ℕ) → State = λ arguments. record s { input = with_call body arguments (record s.input { ahead = rest; charge = s.input.charge + length line }) } in
    let same : of (read_as bytes) ≡ of (words_of words ++ last ∷ []) = ap of (words_at_the_lines_end_read_back leading words last are is) in
    bodies_get_the_arguments_read l s control name body bytes rest begins call (words-themselves leading words last are is) ahead within (subst (IsWithin l) (sym same) within_called) ∙ same

pub bodies_of_the_source_get_words : BodiesOfTheSourceGetWords
bodies_of_the_source_get_words l s control name body leading words last tape begins call are is none stands within within_called =
    let bytes : List ℕ = words_line leading words ++ last in
    let line : List ℕ = call_with control name bytes in
    let of : List (List ℕ) → State = λ arguments. record s { tape = tape; input = with_call body arguments (lines_taken line s.input) } in
    let same : of (read_as bytes) ≡ of (words_of words ++ last ∷ []) = ap of (words_at_the_lines_end_read_back leading words last are is) in
    bodies_of_the_source_get_the_arguments_read l s control name body bytes tape begins call (words-themselves leading words last are is) none stands within (subst (IsWithin l) (sym same) within_called) ∙ same
