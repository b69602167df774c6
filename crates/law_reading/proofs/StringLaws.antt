-- A line that sets a string, or appends to one, leads to where the name stands for its rest.
use Rattle.std.proofs.Common.{◌≡◌, ℕ, zero, suc, ◌+◌, ◌≤◌, Bool, true, false, List, [], ◌∷◌, ◌++◌, length, Option, Some, None, refl, ap, sym, subst, ◌∙◌, arith, append_assoc, All, IsTrue, ◌||◌, ◌&&◌, not, replicate, reverse, sum_by, if◌then◌else◌, ◌==◌, append-nil, length-append}
use Rattle.std.proofs.lemmas.List.Elements.{All-head, All-tail}
use Rattle.std.proofs.lemmas.List.Sums.{sum_by-append, sum_by-cons}
use Rattle.roff_num.specs.declared.limits.Limits.{Limits}
use Rattle.roff_num.specs.declared.short_name.ShortName.{ShortName}
use Rattle.roff_num.specs.ShortNames.{name_at, name_bytes}
use Rattle.input_model.specs.Arguments.{Arguments, no_arguments, only_kept, settled, with_argument_byte}
use Rattle.input_model.specs.declared.place.Place.{Place}
use Rattle.input_model.specs.declared.place.Place.TheVariants.{Between, InPlain, InQuotes}
use Rattle.input_source.specs.Bytes.{backslash, blank, is_dropped, newline, quote}
use Rattle.input_escapes.specs.EscapeLaws.{copied}
use Rattle.input_escapes.specs.OpenEscape.{OpenEscape, Backslash, unit_bytes}
use Rattle.input_escapes.specs.OpenEscapes.{byte_read}
use Rattle.input_escapes.specs.declared.open_escape.CopyUnit.{CopyUnit}
use Rattle.input_escapes.specs.declared.open_escape.CopyUnit.TheVariants.{Byte, Kept}
use Rattle.input_escapes.specs.declared.open_escape.Found.TheVariants.{GoesOn, Unit as GivesUnit}
use Rattle.input_escapes.specs.declared.open_escape.Surroundings.TheVariants.{Arguments as AboveArguments, Copy as AboveCopy}
use Rattle.input_model.specs.Input.{lines_taken}
use Rattle.input_model.specs.Input.Calls.{arguments_given}
use Rattle.roff_store.specs.Named.{Named}
use Rattle.roff_store.specs.Texts.{Entry}
use Rattle.law_reading.proofs.LineNames.{Allows, ReadsAs, ReadsName, onward, reads-name}
use Rattle.law_reading.proofs.CalledArguments.{arguments_at}
use Rattle.law_reading.proofs.DefinedBytes.{AsItself, Escaped, IsCopied, NoUnit, OneUnit, Writes, grown-by, no_backslash, no_newline, none_dropped, reads-itself}
use Rattle.law_reading.proofs.DefinitionLaws.{copied-line, entered-by}
use Rattle.law_reading.specs.CallLaws.{BeginsLine}
use Rattle.law_reading.specs.DefinitionLaws.{HasRoomFor, with_definition}
use Rattle.law_reading.specs.InterpolationLaws.{StandsForItself}
use Rattle.law_reading.specs.StringLaws.{HasRoomForOne, IsOfWord, SetsString, StringsAreTheRestsOfTheirLines, StringsOfTheSourceAreTheRestsOfTheirLines, may_stand, string_line}
use Rattle.run_model.proofs.ItemsTaken.{FromAhead, FromSource, Origin, ahead_at, not-first, tape_at, taken_as-going_on}
use Rattle.run_model.proofs.NameBytes.{stage}
use Rattle.run_model.proofs.PlainRuns.{HasRoom, HasRoom-start, Here, Most, Onward, Path, Path-append, after-last, behind_byte, behind_bytes, counted, counted-ahead, counted-last, counted-source, is-run_at, run_at}
use Rattle.run_model.specs.Reading.{byte_taking, undropped_taking}
use Rattle.run_model.specs.Reading.Found.{read_in}
use Rattle.run_model.specs.Reading.Items.{PageInput, Taking, going_on}
use Rattle.run_model.specs.Reading.Strings.{string_entered, string_grown, string_line_ended, string_name_behind, string_name_or_text, string_unit}
use Rattle.run_model.specs.Reading.Units.{settling}
use Rattle.run_model.specs.Definitions.{matched_behind}
use Rattle.run_model.specs.Registers.{Known}
use Rattle.run_model.specs.Requests.{called_by, row_of}
use Rattle.run_model.specs.Reading.ControlLines.{behind_name, line_taking}
use Rattle.run_model.specs.Run.{State, after, byte_taken, taken_as}
use Rattle.run_model.specs.Stages.{Stage, Turns, input_at}
use Rattle.run_model.specs.Within.{IsWithin}
use Rattle.run_model.specs.declared.line_state.LineState.{LineState}
use Rattle.run_model.specs.declared.line_state.LineState.TheVariants.{LineStart, Collecting}
use Rattle.run_model.specs.declared.purpose.Purpose.TheVariants.{StringName, StringText}
use Rattle.run_model.specs.declared.request.Called.TheVariants.{Request as ARequest}
use Rattle.run_model.specs.declared.request.LineReading.{LineReading}
use Rattle.run_model.specs.declared.request.LineReading.TheVariants.{ByString}
use Rattle.run_model.specs.declared.request.Request.{Request}

-- where the name of a string is read, and where its text is, beside these in the making
abbrev pub naming : Bool → List (List ℕ) → List ℕ → Place → Stage
naming appends texts begun place = stage (Collecting (StringName appends)) (arguments_at [] begun place) texts

abbrev pub setting : ShortName → Bool → List (List ℕ) → Bool → List ℕ → Stage
setting name appends before is_front text = stage (Collecting (StringText (Some name) appends is_front)) no_arguments (before ++ text ∷ [])

-- a request whose line is read so
pub reads-request : (names : Named Entry) (request : ShortName) (appends : Bool) (of : Request) → called_by request names ≡ ARequest of → (row_of of).line ≡ ByString appends
    → ReadsAs names request (Collecting (StringName appends))
reads-request names request appends of stands_for line = record {
  called = ARequest of;
  is = stands_for;
  none_due = refl;
  whole = λ i breaks. ap (behind_name i breaks of) line;
  ended = λ k i breaks b. ap (λ (reads : LineReading). line_taking k i breaks of reads b) line;
}

-- what is known of a byte of a word
pub no_blank : (b : ℕ) → IsOfWord b → (b == blank) ≡ false
no_blank b of_word = not-first (b == blank) (b == quote || (b == backslash || (is_dropped b || b == newline))) of_word

pub behind_first : (first others : Bool) → IsTrue (not (first || others)) → IsTrue (not others)
behind_first true others neither = absurd (cc)
behind_first false others neither = neither

pub no_quote : (b : ℕ) → IsOfWord b → (b == quote) ≡ false
no_quote b of_word =
    not-first (b == quote) (b == backslash || (is_dropped b || b == newline))
    (behind_first (b == blank) (b == quote || (b == backslash || (is_dropped b || b == newline))) of_word)

pub word-itself : (b : ℕ) → IsOfWord b → StandsForItself b
word-itself b of_word =
    behind_first (b == quote) (b == backslash || (is_dropped b || b == newline))
    (behind_first (b == blank) (b == quote || (b == backslash || (is_dropped b || b == newline))) of_word)

-- a byte of the name is put behind it
data IsPlain : List ℕ → Place → Type 0 where
  BeforeFirst : IsPlain [] Between
  BehindByte : (begun : List ℕ) → IsPlain begun InPlain

with-word : (begun : List ℕ) (place : Place) (b : ℕ) → IsPlain begun place → IsOfWord b → with_argument_byte (arguments_at [] begun place) b ≡ arguments_at [] (b ∷ begun) InPlain
with-word _ _ b BeforeFirst of_word =
    ap (λ (c : Bool). if c then arguments_at [] [] Between else if b == quote then record (arguments_at [] [] Between) { place = InQuotes } else arguments_at [] (b ∷ []) InPlain) (no_blank b of_word)
    ∙ ap (λ (c : Bool). if c then record (arguments_at [] [] Between) { place = InQuotes } else arguments_at [] (b ∷ []) InPlain) (no_quote b of_word)
with-word _ _ b (BehindByte begun) of_word =
    ap (λ (c : Bool). if c then arguments_at (reverse begun ∷ []) [] Between else arguments_at [] (b ∷ begun) InPlain) (no_blank b of_word)

settled-plain : (begun : List ℕ) (place : Place) → IsPlain begun place → settled (arguments_at [] begun place) ≡ arguments_at [] begun place
settled-plain _ _ BeforeFirst = refl
settled-plain _ _ (BehindByte begun) = refl

turns-naming : (names : Named Entry) (appends : Bool) (texts : List (List ℕ)) (begun : List ℕ) (place : Place) (b : ℕ) → IsPlain begun place → IsOfWord b
    → Turns names (naming appends texts begun place) b (naming appends texts (b ∷ begun) InPlain)
turns-naming names appends texts begun place b plain of_word k i =
    let reading : LineState = Collecting (StringName appends) in
    let here : PageInput = input_at names (naming appends texts begun place) i in
    let itself : StandsForItself b = word-itself b of_word in
    let at : Arguments → PageInput = λ a. record here { arguments = only_kept a } in
    let unit : byte_read AboveArguments [] b ≡ (GivesUnit (Byte b), []) =
    ap (λ (c : Bool). if c then (GoesOn, Backslash ∷ []) else (GivesUnit (Byte b), [])) (no_backslash b itself) in
    let others : Taking = if b == quote then string_name_or_text here appends (Byte b) (name_at 0 []) else string_name_or_text (settling here) appends (Byte b) (name_at 0 (reverse (settling here).arguments.whole)) in
    ap (λ (c : Bool). if c then going_on (settling here) reading else undropped_taking k reading here b) (none_dropped b itself)
    ∙ ap (read_in k (Collecting (StringName appends)) here) unit
    ∙ ap (λ (c : Bool). if c then string_line_ended here appends (name_at 0 (arguments_given here)) else others) (no_newline b itself)
    ∙ ap (λ (c : Bool). if c then string_name_or_text here appends (Byte b) (name_at 0 []) else string_name_or_text (settling here) appends (Byte b) (name_at 0 (reverse (settling here).arguments.whole))) (no_quote b of_word)
    ∙ ap (λ (a : Arguments). string_name_or_text (at a) appends (Byte b) (name_at 0 (reverse (only_kept a).whole))) (settled-plain begun place plain)
    ∙ ap (λ (a : Arguments). string_name_behind (at a) appends (name_at 0 (reverse (only_kept a).whole))) (with-word begun place b plain of_word)

-- the blank behind it begins the text
turns-named : (names : Named Entry) (appends : Bool) (texts : List (List ℕ)) (first : ℕ) (second : Option ℕ)
    → let name : ShortName = record { first = first; second = second } in
    Turns names (naming appends texts (reverse (name_bytes name)) InPlain) blank (setting name appends texts true [])
turns-named names appends texts first None k i = refl
turns-named names appends texts first (Some second) k i = refl

-- a blank in front of the text, and a quote
turns-blank : (names : Named Entry) (name : ShortName) (appends : Bool) (before : List (List ℕ)) → Turns names (setting name appends before true []) blank (setting name appends before true [])
turns-blank names name appends before k i = refl

pub turns-quote : (names : Named Entry) (name : ShortName) (appends : Bool) (before : List (List ℕ)) → Turns names (setting name appends before true []) quote (setting name appends before false [])
turns-quote names name appends before k i = refl

-- what the reading of a text has room for
abbrev pub most_for : ShortName → List (List ℕ) → ℕ → Most
most_for name before bound = record { held = length (name_bytes name); stored = sum_by length before + bound; texts = length before + 1 }

pub making-few : (before : List (List ℕ)) (text : List ℕ) (bound : ℕ) → length text ≤ bound → sum_by length (before ++ text ∷ []) ≤ sum_by length before + bound
making-few before text bound few =
    let size : List ℕ → ℕ = length in
    omega (arith, few, sum_by-append size before (text ∷ []), sum_by-cons size text [])

-- a byte at which the text becomes another
pub onward-text : (names : Named Entry) (name : ShortName) (appends : Bool) (before : List (List ℕ)) (bound : ℕ) (is_front goes_on_front : Bool) (text there : List ℕ) (b : ℕ) (bytes : List ℕ) (r : Stage)
    → length there ≤ bound → Turns names (setting name appends before is_front text) b (setting name appends before goes_on_front there)
    → Path (most_for name before bound) names (setting name appends before goes_on_front there) bytes r
    → Path (most_for name before bound) names (setting name appends before is_front text) (b ∷ bytes) r
onward-text names name appends before bound is_front goes_on_front text there b bytes r few turns path =
    Onward (setting name appends before is_front text) (setting name appends before goes_on_front there) r b bytes refl refl turns
    (record { none_half = refl; held_few = omega arith; stored_few = making-few before there bound few; texts_few = omega (arith, length-append before (there ∷ [])) })
    (omega arith) path

none-newline : (c : Bool) → (let first : Option ℕ = Some 0 in if c then first else None) ≡ None → c ≡ false
none-newline true none = absurd (cc)
none-newline false none = refl

-- a unit of the text, where it isn't a blank or a quote in front
abbrev pub StaysInText : Bool → CopyUnit → Type 0
StaysInText is_front (Byte b) = (is_front && (b == blank || b == quote)) ≡ false
StaysInText is_front (Kept b) = is_front ≡ is_front

neither-front : (is_front blank_is quote_is newline_is : Bool) (a b c d : Taking) → newline_is ≡ false → (is_front && (blank_is || quote_is)) ≡ false
    → (if newline_is then a else if is_front && blank_is then b else if is_front && quote_is then c else d) ≡ d
neither-front is_front blank_is quote_is true a b c d none front = absurd (cc)
neither-front true true quote_is false a b c d none front = absurd (cc)
neither-front true false true false a b c d none front = absurd (cc)
neither-front true false false false a b c d none front = refl
neither-front false blank_is quote_is false a b c d none front = refl

unit-grows : (names : Named Entry) (name : ShortName) (appends : Bool) (before : List (List ℕ)) (is_front : Bool) (text : List ℕ) (unit : CopyUnit) (i : PageInput)
    → matched_behind unit ≡ None → StaysInText is_front unit
    → string_unit (input_at names (setting name appends before is_front text) i) (Some name) appends is_front unit
    ≡ going_on (input_at names (setting name appends before false (text ++ unit_bytes unit)) i) (Collecting (StringText (Some name) appends false))
unit-grows names name appends before is_front text (Byte b) i behind front =
    let here : PageInput = input_at names (setting name appends before is_front text) i in
    neither-front is_front (b == blank) (b == quote) (b == newline)
    (going_on (string_entered (Some name) appends here) LineStart) (going_on here (Collecting (StringText (Some name) appends true))) (going_on here (Collecting (StringText (Some name) appends false)))
    (going_on (string_grown (Some name) (Byte b) here) (Collecting (StringText (Some name) appends false))) (none-newline (b == newline) behind) front
    ∙ ap (λ (j : PageInput). going_on j (Collecting (StringText (Some name) appends false))) (grown-by (Some name) before [] text (b ∷ []) here)
unit-grows names name appends before is_front text (Kept b) i behind front =
    let here : PageInput = input_at names (setting name appends before is_front text) i in
    ap (λ (j : PageInput). going_on j (Collecting (StringText (Some name) appends false))) (grown-by (Some name) before [] text (backslash ∷ b ∷ []) here)

-- the bytes of a unit, and others behind it
abbrev escaping : ShortName → Bool → List (List ℕ) → Bool → List ℕ → Stage
escaping name appends before is_front text = record (setting name appends before is_front text) { escapes = Backslash ∷ [] }

gives-unit : (names : Named Entry) (name : ShortName) (appends : Bool) (before : List (List ℕ)) (is_front : Bool) (text : List ℕ) (half : List OpenEscape) (unit : CopyUnit) (b : ℕ) (k : Known) (i : PageInput)
    → is_dropped b ≡ false → byte_read AboveCopy half b ≡ (GivesUnit unit, [])
    → byte_taking k (Collecting (StringText (Some name) appends is_front)) (record (input_at names (setting name appends before is_front text) i) { escapes = half }) b
    ≡ string_unit (input_at names (setting name appends before is_front text) i) (Some name) appends is_front unit
gives-unit names name appends before is_front text half unit b k i is_kept reads =
    let reading : LineState = Collecting (StringText (Some name) appends is_front) in
    let here : PageInput = record (input_at names (setting name appends before is_front text) i) { escapes = half } in
    ap (λ (c : Bool). if c then going_on here reading else undropped_taking k reading here b) is_kept
    ∙ ap (read_in k (Collecting (StringText (Some name) appends is_front)) here) reads

pub path-unit : (names : Named Entry) (name : ShortName) (appends : Bool) (before : List (List ℕ)) (bound : ℕ) (is_front : Bool) (text : List ℕ) (unit : CopyUnit) (written bytes : List ℕ) (r : Stage)
    → Writes unit written → matched_behind unit ≡ None → StaysInText is_front unit → length text ≤ bound → length (text ++ unit_bytes unit) ≤ bound
    → Path (most_for name before bound) names (setting name appends before false (text ++ unit_bytes unit)) bytes r
    → Path (most_for name before bound) names (setting name appends before is_front text) (written ++ bytes) r
path-unit names name appends before bound is_front text _ _ bytes r (AsItself b itself) behind stays few few_there path =
    onward-text names name appends before bound is_front false text (text ++ b ∷ []) b bytes r few_there
    (λ k i. gives-unit names name appends before is_front text [] (Byte b) b k i (none_dropped b itself) (reads-itself b (no_backslash b itself))
    ∙ unit-grows names name appends before is_front text (Byte b) i behind stays) path
path-unit names name appends before bound is_front text unit _ bytes r (Escaped _ b is_kept reads) behind stays few few_there path =
    Onward (setting name appends before is_front text) (escaping name appends before is_front text) r backslash (b ∷ bytes) refl refl (λ k i. refl)
    (record { none_half = refl; held_few = omega arith; stored_few = making-few before text bound few; texts_few = omega (arith, length-append before (text ∷ [])) }) (omega arith)
    (Onward (escaping name appends before is_front text) (setting name appends before false (text ++ unit_bytes unit)) r b bytes refl refl
    (λ k i. gives-unit names name appends before is_front text (Backslash ∷ []) unit b k i is_kept reads
    ∙ unit-grows names name appends before is_front text unit i behind stays)
    (record {
      none_half = refl;
      held_few = omega arith;
      stored_few = making-few before (text ++ unit_bytes unit) bound few_there;
      texts_few = omega (arith, length-append before ((text ++ unit_bytes unit) ∷ []));
    }) (omega arith) path)

-- the text of the line is copied
record ReadsText (names : Named Entry) (name : ShortName) (appends : Bool) (before : List (List ℕ)) (bound : ℕ) (is_front : Bool) (text line copy : List ℕ) : Type 0 where
  ends_front : Bool
  path : Path (most_for name before bound) names (setting name appends before is_front text) line (setting name appends before ends_front (text ++ copy))

pub stays-behind : (unit : CopyUnit) → StaysInText false unit
stays-behind (Byte b) = refl
stays-behind (Kept b) = refl

neither-is : (c : Bool) → not c ≡ true → c ≡ false
neither-is true is = absurd (cc)
neither-is false is = refl

pub stays-front : (quoted : Bool) (unit : CopyUnit) (copy : List ℕ) → may_stand quoted (unit_bytes unit ++ copy) ≡ true → StaysInText (not quoted) unit
stays-front true unit copy stands = stays-behind unit
stays-front false (Byte b) copy stands = neither-is (b == blank || b == quote) stands
stays-front false (Kept b) copy stands = refl

reads-text : (names : Named Entry) (name : ShortName) (appends : Bool) (before : List (List ℕ)) (bound : ℕ) (quoted : Bool) (text line copy : List ℕ)
    → IsCopied line copy → may_stand quoted copy ≡ true → length text + length copy ≤ bound → ReadsText names name appends before bound (not quoted) text line copy
reads-text names name appends before bound quoted text _ _ NoUnit stands few =
    let here : Stage = setting name appends before (not quoted) text in
    record {
      ends_front = not quoted;
      path = subst (λ (all : List ℕ). Path (most_for name before bound) names here [] (setting name appends before (not quoted) all)) (sym (append-nil text)) (Here here);
    }
reads-text names name appends before bound quoted text _ _ (OneUnit unit written line copy writes behind others) stands few =
    let bytes : List ℕ = unit_bytes unit in
    let rest = reads-text names name appends before bound true (text ++ bytes) line copy others refl (omega (arith, few, length-append text bytes, length-append bytes copy)) in
    record {
      ends_front = rest.ends_front;
      path =
          subst (λ (all : List ℕ). Path (most_for name before bound) names (setting name appends before (not quoted) text) (written ++ line) (setting name appends before rest.ends_front all))
          (append_assoc text bytes copy)
          (path-unit names name appends before bound (not quoted) text unit written line (setting name appends before rest.ends_front ((text ++ bytes) ++ copy)) writes behind
          (stays-front quoted unit copy stands) (omega (arith, few)) (omega (arith, few, length-append text bytes, length-append bytes copy)) rest.path);
    }

-- behind the blanks in front of it, and behind a quote
reads-behind : (names : Named Entry) (name : ShortName) (appends : Bool) (before : List (List ℕ)) (bound : ℕ) (quoted : Bool) (text copy : List ℕ)
    → IsCopied text copy → may_stand quoted copy ≡ true → length copy ≤ bound → ReadsText names name appends before bound true [] (if quoted then quote ∷ text else text) copy
reads-behind names name appends before bound false text copy copies stands few = reads-text names name appends before bound false [] text copy copies stands (omega (arith, few))
reads-behind names name appends before bound true text copy copies stands few =
    let rest = reads-text names name appends before bound true [] text copy copies refl (omega (arith, few)) in
    record {
      ends_front = rest.ends_front;
      path =
          onward-text names name appends before bound true false [] [] quote text (setting name appends before rest.ends_front copy) (omega arith)
          (turns-quote names name appends before) rest.path;
    }

pub path-blanks : (names : Named Entry) (name : ShortName) (appends : Bool) (before : List (List ℕ)) (bound blanks : ℕ)
    → Path (most_for name before bound) names (setting name appends before true []) (replicate blanks blank) (setting name appends before true [])
path-blanks names name appends before bound zero = Here (setting name appends before true [])
path-blanks names name appends before bound (suc blanks) =
    onward-text names name appends before bound true true [] [] blank (replicate blanks blank) (setting name appends before true []) (omega arith)
    (turns-blank names name appends before) (path-blanks names name appends before bound blanks)

-- the name, and the blank behind it
onward-naming : (names : Named Entry) (name : ShortName) (appends : Bool) (before : List (List ℕ)) (bound : ℕ) (begun : List ℕ) (place : Place) (b : ℕ) (bytes : List ℕ) (r : Stage)
    → IsPlain begun place → IsOfWord b → length begun + 1 ≤ length (name_bytes name)
    → Path (most_for name before bound) names (naming appends before (b ∷ begun) InPlain) bytes r
    → Path (most_for name before bound) names (naming appends before begun place) (b ∷ bytes) r
onward-naming names name appends before bound begun place b bytes r plain of_word few path =
    Onward (naming appends before begun place) (naming appends before (b ∷ begun) InPlain) r b bytes refl refl (turns-naming names appends before begun place b plain of_word)
    (record { none_half = refl; held_few = omega (arith, few); stored_few = omega arith; texts_few = omega arith }) (omega arith) path

onward-named : (names : Named Entry) (appends : Bool) (before : List (List ℕ)) (bound first : ℕ) (second : Option ℕ) (bytes : List ℕ) (r : Stage)
    → let name : ShortName = record { first = first; second = second } in
    Path (most_for name before bound) names (setting name appends before true []) bytes r
    → Path (most_for name before bound) names (naming appends before (reverse (name_bytes name)) InPlain) (blank ∷ bytes) r
onward-named names appends before bound first second bytes r path =
    let name : ShortName = record { first = first; second = second } in
    Onward (naming appends before (reverse (name_bytes name)) InPlain) (setting name appends before true []) r blank bytes refl refl (turns-named names appends before first second)
    (record { none_half = refl; held_few = omega arith; stored_few = making-few before [] bound (omega arith); texts_few = omega (arith, length-append before ([] ∷ [])) })
    (omega arith) path

pub path-name : (names : Named Entry) (appends : Bool) (before : List (List ℕ)) (bound first : ℕ) (second : Option ℕ) (bytes : List ℕ) (r : Stage)
    → let name : ShortName = record { first = first; second = second } in
    All IsOfWord (name_bytes name) → Path (most_for name before bound) names (setting name appends before true []) bytes r
    → Path (most_for name before bound) names (naming appends before [] Between) (name_bytes name ++ blank ∷ bytes) r
path-name names appends before bound first None bytes r words path =
    let name : ShortName = record { first = first; second = None } in
    onward-naming names name appends before bound [] Between first (blank ∷ bytes) r BeforeFirst (All-head IsOfWord first [] words) (omega arith)
    (onward-named names appends before bound first None bytes r path)
path-name names appends before bound first (Some second) bytes r words path =
    let name : ShortName = record { first = first; second = Some second } in
    let others : All IsOfWord (second ∷ []) = All-tail IsOfWord first (second ∷ []) words in
    onward-naming names name appends before bound [] Between first (second ∷ blank ∷ bytes) r BeforeFirst (All-head IsOfWord first (second ∷ []) words) (omega arith)
    (onward-naming names name appends before bound (first ∷ []) InPlain second (blank ∷ bytes) r (BehindByte (first ∷ [])) (All-head IsOfWord second [] others) (omega arith)
    (onward-named names appends before bound first (Some second) bytes r path))

-- a run that set a string
abbrev pub set_from : State → Origin → List ℕ → ShortName → Bool → List ℕ → State
set_from s from line name appends text =
    record s { tape = tape_at from [] s.tape; input = with_definition name appends text s.input.open_texts (counted from line s.input) }

-- the newline of the line enters its text
pub newline-sets : (s : State) (from : Origin) (front : List ℕ) (name : ShortName) (appends is_front : Bool) (text : List ℕ) → BeginsLine s
    → byte_taken newline (run_at s s.input.names (setting name appends s.input.open_texts is_front text) from [] (behind_byte from newline (behind_bytes from front s.input)))
    ≡ set_from s from (front ++ newline ∷ []) name appends text
newline-sets s from front name appends is_front text begins =
    let before : List (List ℕ) = s.input.open_texts in
    let q : Stage = setting name appends before is_front text in
    let i : PageInput = behind_byte from newline (behind_bytes from front s.input) in
    let u : State = run_at s s.input.names q from [] i in
    let here : PageInput = record (input_at s.input.names q i) { ahead = ahead_at from [] } in
    let at : PageInput → Arguments → List OpenEscape → LineState → State = λ j a h r. record s {
      tape = tape_at from [] s.tape;
      input = with_definition name appends text before (record j { arguments = a; escapes = h; names = s.input.names; open_texts = before });
      reading = r;
    } in
    let j : PageInput = counted from (front ++ newline ∷ []) s.input in
    let entered : PageInput = with_definition name appends text before (record here { open_texts = before }) in
    ap (λ (t : Taking). taken_as t u) (ap (λ (k : PageInput). going_on k LineStart) (entered-by (Some name) appends before before text here))
    ∙ taken_as-going_on entered LineStart u
    ∙ ap (λ (k : PageInput). at k no_arguments [] LineStart) (counted-last from front newline s.input)
    ∙ ap (λ (a : Arguments). at j a [] LineStart) (sym begins.arguments)
    ∙ ap (λ (h : List OpenEscape). at j s.input.arguments h LineStart) (sym begins.escapes)
    ∙ ap (λ (r : LineState). at j s.input.arguments s.input.escapes r) (sym begins.reading)

-- the whole line
set-from : (l : Limits) (s : State) (from : Origin) (control : ℕ) (request : ShortName) (appends : Bool) (name : ShortName) (blanks : ℕ) (quoted : Bool) (text : List ℕ)
    → BeginsLine s → SetsString s.input.names control request appends name quoted text
    → let line : List ℕ = string_line control request name blanks quoted text in
    s.input.ahead ≡ ahead_at from line → s.tape ≡ tape_at from line s.tape → HasRoomFor l s line (copied text) → HasRoomForOne l s name
    → IsWithin l s → IsWithin l (set_from s from line name appends (copied text))
    → after l (length line) s ≡ set_from s from line name appends (copied text)
set-from l s from control request appends name blanks quoted text begins sets ahead tape room one within within_set =
    let names : Named Entry = s.input.names in
    let before : List (List ℕ) = s.input.open_texts in
    let bound : ℕ = length (copied text) in
    let most : Most = most_for name before bound in
    let line : List ℕ = string_line control request name blanks quoted text in
    let behind_name : List ℕ = (blank ∷ name_bytes name) ++ (blank ∷ replicate blanks blank) in
    let behind : List ℕ = if quoted then quote ∷ text else text in
    let start : Stage = stage LineStart no_arguments before in
    let mid : Stage = setting name appends before true [] in
    let allows : Allows most no_arguments before = record { held_few = omega arith; stored_few = omega arith; texts_few = omega arith } in
    let reads : ReadsName most names no_arguments before (control ∷ name_bytes request) (Collecting (StringName appends)) =
    reads-name most names no_arguments before control request (Collecting (StringName appends)) sets.begins sets.is_name_of_request allows
    (reads-request names request appends sets.of_request sets.stands_for sets.reads_string) in
    let named : Stage = stage reads.reading no_arguments before in
    let path_named : Path most names named behind_name mid =
    onward most names no_arguments before reads.reading (Collecting (StringName appends)) blank (name_bytes name ++ blank ∷ replicate blanks blank) mid reads.does.none_due
    (λ k i. reads.does.at_blank k named i) allows
    (path-name names appends before bound name.first name.second (replicate blanks blank) mid sets.is_name (path-blanks names name appends before bound blanks)) in
    let written = reads-behind names name appends before bound quoted text (copied text) (copied-line text sets.bytes sets.only_copied sets.whole) sets.stands (omega arith) in
    let last : Stage = setting name appends before written.ends_front (copied text) in
    let front : List ℕ = ((control ∷ name_bytes request) ++ behind_name) ++ behind in
    let path : Path most names start front last =
    Path-append most names start mid last ((control ∷ name_bytes request) ++ behind_name) behind
    (Path-append most names start named mid (control ∷ name_bytes request) behind_name reads.path path_named) written.path in
    let is : run_at s names start from line s.input ≡ s = is-run_at s from line start begins.reading begins.escapes begins.arguments refl ahead tape in
    let has_room : HasRoom l s names from most start line s.input =
    HasRoom-start l s names from most start line s.input (subst (IsWithin l) (sym is) within) room.taken (omega (arith, one.named)) (omega (arith, room.stored_beside)) (omega (arith, one.making)) in
    ap (after l (length line)) (sym is)
    ∙ after-last l s names from most start last front newline s.input (set_from s from line name appends (copied text))
    begins.takes path has_room refl refl (newline-sets s from front name appends written.ends_front (copied text) begins) within_set

pub strings_are_the_rests_of_their_lines : StringsAreTheRestsOfTheirLines
strings_are_the_rests_of_their_lines l s control request appends name blanks quoted text rest begins sets ahead room one within within_set =
    let line : List ℕ = string_line control request name blanks quoted text in
    let is : set_from s (FromAhead rest) line name appends (copied text)
    ≡ record s { input = with_definition name appends (copied text) s.input.open_texts (record s.input { ahead = rest; charge = s.input.charge + length line }) } =
    ap (λ (i : PageInput). record s { input = with_definition name appends (copied text) s.input.open_texts i }) (counted-ahead rest line s.input) in
    set-from l s (FromAhead rest) control request appends name blanks quoted text begins sets ahead refl room one within (subst (IsWithin l) (sym is) within_set) ∙ is

pub strings_of_the_source_are_the_rests_of_their_lines : StringsOfTheSourceAreTheRestsOfTheirLines
strings_of_the_source_are_the_rests_of_their_lines l s control request appends name blanks quoted text tape begins sets none stands room one within within_set =
    let line : List ℕ = string_line control request name blanks quoted text in
    let is : set_from s (FromSource tape) line name appends (copied text)
    ≡ record s { tape = tape; input = with_definition name appends (copied text) s.input.open_texts (lines_taken line s.input) } =
    ap (λ (i : PageInput). record s { tape = tape; input = with_definition name appends (copied text) s.input.open_texts i }) (counted-source tape line s.input none) in
    set-from l s (FromSource tape) control request appends name blanks quoted text begins sets none stands room one within (subst (IsWithin l) (sym is) within_set) ∙ is
