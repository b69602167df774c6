-- The bytes of a message, of one that ends the run too, are held, one after another, but for blanks in front.
use Rattle.std.proofs.Common.{◌≡◌, ℕ, ◌+◌, ◌≤◌, Bool, true, false, List, [], ◌∷◌, ◌++◌, length, Some, None, refl, ap, sym, subst, ◌∙◌, arith, fold, ◌&&◌, if◌then◌else◌, ◌==◌, length-append}
use Rattle.std.proofs.lemmas.List.Sums.{fold-append}
use Rattle.roff_num.specs.declared.short_name.ShortName.{ShortName}
use Rattle.roff_num.specs.ShortNames.{name_bytes}
use Rattle.input_model.specs.Arguments.{Arguments, held, no_arguments, with_byte, with_plain}
use Rattle.input_model.specs.declared.place.Place.TheVariants.{InPlain}
use Rattle.input_source.specs.Bytes.{backslash, blank, is_dropped, newline}
use Rattle.input_escapes.specs.OpenEscape.{Backslash, unit_bytes}
use Rattle.input_escapes.specs.OpenEscapes.{byte_read}
use Rattle.input_escapes.specs.declared.open_escape.CopyUnit.{CopyUnit}
use Rattle.input_escapes.specs.declared.open_escape.CopyUnit.TheVariants.{Byte, Kept}
use Rattle.input_escapes.specs.declared.open_escape.Found.TheVariants.{Unit as GivesUnit}
use Rattle.input_escapes.specs.declared.open_escape.Surroundings.TheVariants.{Copy as AboveCopy}
use Rattle.roff_store.specs.Named.{Named}
use Rattle.roff_store.specs.Texts.{Entry}
use Rattle.law_escapes.proofs.Ways.{Done, One, Two, Way}
use Rattle.law_escapes.specs.TextsInMessages.{ReadsMessage}
use Rattle.law_reading.proofs.DefinedBytes.{AsItself, Escaped, IsCopied, NoUnit, OneUnit}
use Rattle.law_reading.proofs.CalledArguments.{most_of}
use Rattle.law_reading.proofs.LineNames.{Allows, ReadsAs, ReadsName, onward, reads-name}
use Rattle.law_reading.proofs.MessageLaws.{held-fold, taking-message, tell}
use Rattle.law_reading.specs.InterpolationLaws.{StandsForItself}
use Rattle.run_model.proofs.NameBytes.{stage}
use Rattle.run_model.proofs.PlainRuns.{Here, IsSmall, Path, Path-append}
use Rattle.run_model.specs.Definitions.{matched_behind}
use Rattle.run_model.specs.Reading.{undropped_taking}
use Rattle.run_model.specs.Reading.Found.{read_in}
use Rattle.run_model.specs.Reading.Messages.{message_unit}
use Rattle.run_model.specs.declared.line_state.LineState.{LineState}
use Rattle.run_model.specs.Reading.ControlLines.{behind_name, line_taking}
use Rattle.run_model.specs.Reading.Items.{PageInput, Taking, going_on}
use Rattle.run_model.specs.Stages.{Stage, Turns, input_at}
use Rattle.run_model.specs.declared.line_state.LineState.TheVariants.{LineStart, Told, Collecting}
use Rattle.run_model.specs.declared.purpose.Purpose.TheVariants.{Telling}
use Rattle.run_model.specs.declared.request.Called.TheVariants.{Request as ARequest}
use Rattle.run_model.specs.declared.request.LineReading.{LineReading}

-- what is held of a message, and whether nothing but blanks was read of it
abbrev pub telling : Bool → List (List ℕ) → Bool × Arguments → Stage
telling aborts texts t = stage (Collecting (Telling aborts t.0)) t.1 texts

no_newline-behind : (c : Bool) (n : ℕ) → (if c then Some n else None) ≡ None → c ≡ false
no_newline-behind true n behind = absurd (cc)
no_newline-behind false n behind = refl

turns-if : (aborts : Bool) (names : Named Entry) (texts : List (List ℕ)) (i : PageInput) (a : Arguments) (b : ℕ) (c : Bool)
    → let here : Arguments → PageInput = λ h. record i { escapes = []; arguments = h; names = names; open_texts = texts } in
    let u : Bool × Arguments = if c then (true, a) else (false, with_byte a InPlain b) in
    (if c then going_on (here a) (Collecting (Telling aborts true)) else going_on (here (with_byte a InPlain b)) (Collecting (Telling aborts false))) ≡ going_on (here u.1) (Collecting (Telling aborts u.0))
turns-if aborts names texts i a b true = refl
turns-if aborts names texts i a b false = refl

turns-tell : (aborts : Bool) (names : Named Entry) (texts : List (List ℕ)) (t : Bool × Arguments) (b : ℕ) → StandsForItself b
    → Turns names (telling aborts texts t) b (telling aborts texts (tell t b))
turns-tell aborts names texts t b itself k i =
    taking-message k aborts t.0 (record i { names = names; open_texts = texts }) t.1 b itself ∙ turns-if aborts names texts i t.1 b (t.0 && b == blank)

-- where a backslash was read of it
abbrev escaping : Bool → List (List ℕ) → Bool × Arguments → Stage
escaping aborts texts t = record (telling aborts texts t) { escapes = Backslash ∷ [] }

-- an escape that stays is two bytes of the text
tell-kept : (is_front : Bool) (a : Arguments) (b : ℕ) → tell (tell (is_front, a) backslash) b ≡ (false, with_plain a (Kept b))
tell-kept true a b = refl
tell-kept false a b = refl

-- a unit that ends no line is told
tells-unit : (aborts is_front : Bool) (names : Named Entry) (texts : List (List ℕ)) (a : Arguments) (unit : CopyUnit) (i : PageInput) → matched_behind unit ≡ None
    → let here : Arguments → PageInput = λ h. record i { escapes = []; arguments = h; names = names; open_texts = texts } in
    let u : Bool × Arguments = fold tell (is_front, a) (unit_bytes unit) in
    message_unit (here a) aborts is_front unit ≡ going_on (here u.1) (Collecting (Telling aborts u.0))
tells-unit aborts is_front names texts a (Byte b) i behind =
    let here : Arguments → PageInput = λ h. record i { escapes = []; arguments = h; names = names; open_texts = texts } in
    let others : Taking = if is_front && b == blank then going_on (here a) (Collecting (Telling aborts true)) else going_on (here (with_byte a InPlain b)) (Collecting (Telling aborts false)) in
    ap (λ (c : Bool). if c then going_on (here a) (Told aborts) else others) (no_newline-behind (b == newline) 0 behind)
    ∙ turns-if aborts names texts i a b (is_front && b == blank)
tells-unit aborts is_front names texts a (Kept b) i behind =
    let here : Arguments → PageInput = λ h. record i { escapes = []; arguments = h; names = names; open_texts = texts } in
    ap (λ (u : Bool × Arguments). going_on (here u.1) (Collecting (Telling aborts u.0))) (sym (tell-kept is_front a b))

turns-unit : (aborts : Bool) (names : Named Entry) (texts : List (List ℕ)) (t : Bool × Arguments) (unit : CopyUnit) (b : ℕ) → is_dropped b ≡ false
    → byte_read AboveCopy (Backslash ∷ []) b ≡ (GivesUnit unit, []) → matched_behind unit ≡ None
    → Turns names (escaping aborts texts t) b (telling aborts texts (fold tell t (unit_bytes unit)))
turns-unit aborts names texts t unit b is_kept reads behind k i =
    let reading : LineState = Collecting (Telling aborts t.0) in
    let here : PageInput = input_at names (escaping aborts texts t) i in
    ap (λ (c : Bool). if c then going_on here reading else undropped_taking k reading here b) is_kept
    ∙ ap (read_in k reading here) reads
    ∙ tells-unit aborts t.0 names texts t.1 unit i behind

-- of a unit two bytes more are held at the most
unit-length : (unit : CopyUnit) → length (unit_bytes unit) ≤ 2
unit-length (Byte b) = omega arith
unit-length (Kept b) = omega arith

-- of what is copied no more bytes come than are written
pub few-units : (line copy : List ℕ) → IsCopied line copy → length copy ≤ length line
few-units _ _ NoUnit = omega arith
few-units _ _ (OneUnit _ _ line copy (AsItself b itself) behind others) = omega (arith, few-units line copy others)
few-units _ _ (OneUnit unit _ line copy (Escaped _ b is_kept reads) behind others) = omega (arith, few-units line copy others, length-append (unit_bytes unit) copy, unit-length unit)

pub way-tell : (aborts : Bool) (names : Named Entry) (texts : List (List ℕ)) (most : ℕ) (t : Bool × Arguments) (line copy : List ℕ) → IsCopied line copy → held t.1 + length copy ≤ most
    → Way (most_of most texts) names (telling aborts texts t) line (telling aborts texts (fold tell t copy))
way-tell aborts names texts most t _ _ NoUnit few = Done (telling aborts texts t)
way-tell aborts names texts most t _ _ (OneUnit _ _ line copy (AsItself b itself) behind others) few =
    let u : Bool × Arguments = tell t b in
    let grows : held u.1 ≤ held t.1 + 1 = held-fold t (b ∷ []) in
    One (telling aborts texts t) (telling aborts texts u) (telling aborts texts (fold tell u copy)) b line refl refl (turns-tell aborts names texts t b itself)
    (record { none_half = refl; held_few = omega (arith, grows, few); stored_few = omega arith; texts_few = omega arith }) grows
    (way-tell aborts names texts most u line copy others (omega (arith, grows, few)))
way-tell aborts names texts most t _ _ (OneUnit unit _ line copy (Escaped _ b is_kept reads) behind others) few =
    let bytes : List ℕ = unit_bytes unit in
    let u : Bool × Arguments = fold tell t bytes in
    let grows : held u.1 ≤ held t.1 + length bytes = held-fold t bytes in
    let sizes : length (bytes ++ copy) ≡ length bytes + length copy = length-append bytes copy in
    let small : (v : Bool × Arguments) → held v.1 ≤ most → IsSmall (most_of most texts) (telling aborts texts v) =
    λ v few_held. record { none_half = refl; held_few = few_held; stored_few = omega arith; texts_few = omega arith } in
    subst (λ (v : Bool × Arguments). Way (most_of most texts) names (telling aborts texts t) (backslash ∷ b ∷ line) (telling aborts texts v)) (sym (fold-append tell t bytes copy))
    (Two (telling aborts texts t) (escaping aborts texts t) (telling aborts texts u) (telling aborts texts (fold tell u copy)) backslash b line refl refl (λ k i. refl)
    (record { none_half = refl; held_few = omega (arith, few); stored_few = omega arith; texts_few = omega arith }) (omega arith) refl refl
    (turns-unit aborts names texts t unit b is_kept reads behind) (small u (omega (arith, grows, few, sizes))) (omega (arith, grows, unit-length unit))
    (way-tell aborts names texts most u line copy others (omega (arith, grows, few, sizes))))

-- the name, the blank behind it, and the front of the message
reads-message : (aborts : Bool) (names : Named Entry) (control : ℕ) (name : ShortName) → ReadsMessage aborts names control name → ReadsAs names name (Collecting (Telling aborts true))
reads-message aborts names control name has = record {
  called = ARequest has.of_request;
  is = has.stands_for;
  none_due = refl;
  whole = λ i breaks. ap (behind_name i breaks has.of_request) has.reads_message;
  ended = λ k i breaks b. ap (λ (reads : LineReading). line_taking k i breaks has.of_request reads b) has.reads_message;
}

pub path-front : (aborts : Bool) (names : Named Entry) (texts : List (List ℕ)) (most : ℕ) (control : ℕ) (name : ShortName) → ReadsMessage aborts names control name
    → Path (most_of most texts) names (stage LineStart no_arguments texts) ((control ∷ name_bytes name) ++ blank ∷ []) (telling aborts texts (true, no_arguments))
path-front aborts names texts most control name has =
    let allows : Allows (most_of most texts) no_arguments texts = record { held_few = omega arith; stored_few = omega arith; texts_few = omega arith } in
    let begins : ReadsName (most_of most texts) names no_arguments texts (control ∷ name_bytes name) (Collecting (Telling aborts true)) =
    reads-name (most_of most texts) names no_arguments texts control name (Collecting (Telling aborts true)) has.begins has.is_name allows (reads-message aborts names control name has) in
    let mid : Stage = stage begins.reading no_arguments texts in
    let end : Stage = telling aborts texts (true, no_arguments) in
    Path-append (most_of most texts) names (stage LineStart no_arguments texts) mid end (control ∷ name_bytes name) (blank ∷ []) begins.path
    (onward (most_of most texts) names no_arguments texts begins.reading (Collecting (Telling aborts true)) blank [] end begins.does.none_due
    (λ k i. begins.does.at_blank k mid i ∙ turns-tell aborts names texts (true, no_arguments) blank refl k i) allows (Here end))
