-- The bytes of a message are held, one after another, but for blanks in front, and are what it tells.
use Rattle.std.proofs.Common.{◌≡◌, ℕ, ◌+◌, ◌≤◌, Bool, true, false, List, [], ◌∷◌, ◌++◌, length, reverse, refl, ap, sym, ◌∙◌, arith, append_assoc, subst, All, fold, ◌&&◌, if◌then◌else◌, ◌==◌, ◌||◌, append-nil}
use Rattle.std.proofs.lemmas.List.{reverse-append}
use Rattle.std.proofs.lemmas.List.Elements.{All-head, All-tail}
use Rattle.roff_num.specs.declared.short_name.ShortName.{ShortName}
use Rattle.roff_num.specs.ShortNames.{name_bytes}
use Rattle.input_model.specs.Arguments.{Arguments, held, no_arguments, with_byte}
use Rattle.input_model.specs.declared.place.Place.TheVariants.{InPlain}
use Rattle.input_source.specs.Bytes.{blank, newline, backslash, is_dropped, behind_blanks}
use Rattle.roff_store.specs.Named.{Named}
use Rattle.roff_store.specs.Texts.{Entry}
use Rattle.law_reading.proofs.LineNames.{Allows, ReadsAs, ReadsName, onward, reads-name}
use Rattle.law_reading.specs.InterpolationLaws.{StandsForItself}
use Rattle.law_reading.specs.MessageLaws.{HasMessage, MessagesAreTheirTexts, TellsText}
use Rattle.run_model.proofs.NameBytes.{stage}
use Rattle.run_model.proofs.PlainRuns.{Here, Onward, Path, Path-append}
use Rattle.run_model.specs.Reading.ControlLines.{behind_name, line_taking}
use Rattle.run_model.specs.Reading.Items.{PageInput, going_on, Taking}
use Rattle.run_model.specs.Stages.{Stage, Turns}
use Rattle.run_model.specs.declared.line_state.LineState.TheVariants.{LineStart, Told, Collecting}
use Rattle.run_model.specs.declared.purpose.Purpose.TheVariants.{Telling}
use Rattle.run_model.specs.declared.request.Called.TheVariants.{Request as ARequest}
use Rattle.run_model.specs.declared.request.LineReading.{LineReading}
use Rattle.law_reading.proofs.CalledArguments.{most_of}
use Rattle.input_model.proofs.KeptArguments.{reverse-cons}
use Rattle.input_escapes.specs.OpenEscapes.{byte_read}
use Rattle.input_model.specs.Input.{holding_plain}
use Rattle.input_escapes.specs.declared.open_escape.CopyUnit.TheVariants.{Byte}
use Rattle.input_escapes.specs.OpenEscape.{OpenEscape, Backslash}
use Rattle.input_escapes.specs.declared.open_escape.Found.TheVariants.{GoesOn, Unit as GivesUnit}
use Rattle.input_escapes.specs.declared.open_escape.Surroundings.TheVariants.{Copy as AboveCopy}
use Rattle.law_reading.proofs.Interpolation.{IsRead, IsRead-itself}
use Rattle.run_model.proofs.ItemsTaken.{not-first, not-second}
use Rattle.law_reading.specs.Quoting.{taking_all}
use Rattle.run_model.specs.Reading.{undropped_taking, byte_taking}
use Rattle.run_model.specs.Reading.Found.{read_in}
use Rattle.run_model.specs.Registers.{Known}
use Rattle.run_model.specs.declared.line_state.LineState.{LineState}

-- an input that holds these arguments
abbrev pub with_text : PageInput → Arguments → PageInput
with_text i a = record i { escapes = []; arguments = a }

-- a byte of the text, by whether it is a blank in front
pub taking-message : (k : Known) (aborts is_front : Bool) (i : PageInput) (a : Arguments) (b : ℕ) → StandsForItself b
    → byte_taking k (Collecting (Telling aborts is_front)) (with_text i a) b
    ≡ (if is_front && b == blank then going_on (with_text i a) (Collecting (Telling aborts true)) else going_on (with_text i (with_byte a InPlain b)) (Collecting (Telling aborts false)))
taking-message k aborts is_front i a b itself =
    let reading : LineState = Collecting (Telling aborts is_front) in
    let held : PageInput = with_text i a in
    let read : IsRead b = IsRead-itself b itself in
    let others : Taking = if is_front && b == blank then going_on held (Collecting (Telling aborts true)) else going_on (holding_plain (Byte b) held) (Collecting (Telling aborts false)) in
    let unit : byte_read AboveCopy [] b ≡ (GivesUnit (Byte b), []) =
    ap (λ (c : Bool). if c then (GoesOn, Backslash ∷ []) else (GivesUnit (Byte b), [])) (not-first (b == backslash) (is_dropped b || b == newline) itself) in
    ap (λ (c : Bool). if c then going_on held reading else undropped_taking k reading held b) (not-first (is_dropped b) (b == newline) read)
    ∙ ap (read_in k (Collecting (Telling aborts is_front)) held) unit
    ∙ ap (λ (c : Bool). if c then going_on held (Told aborts) else others) (not-second (is_dropped b) (b == newline) read)

-- behind a byte the others tell what is left
tells-cons : (k : Known) (aborts is_front : Bool) (i : PageInput) (b : ℕ) (bytes text : List ℕ) (t : Taking) → byte_taking k (Collecting (Telling aborts is_front)) i b ≡ t
    → TellsText aborts text (taking_all k t.reading t.input bytes) → TellsText aborts text (taking_all k (Collecting (Telling aborts is_front)) i (b ∷ bytes))
tells-cons k aborts is_front i b bytes text t is tells =
    let others : TellsText aborts text (taking_all k (byte_taking k (Collecting (Telling aborts is_front)) i b).reading (byte_taking k (Collecting (Telling aborts is_front)) i b).input bytes) =
    subst (λ (u : Taking). TellsText aborts text (taking_all k u.reading u.input bytes)) (sym is) tells in
    record { reading = others.reading; told = others.told }

-- the bytes behind the front
tells-behind : (k : Known) (aborts : Bool) (i : PageInput) (a : Arguments) (text : List ℕ) → All StandsForItself text
    → TellsText aborts (reverse a.begun ++ text) (taking_all k (Collecting (Telling aborts false)) (with_text i a) (text ++ newline ∷ []))
tells-behind k aborts i a [] themselves = record { reading = refl; told = sym (append-nil (reverse a.begun)) }
tells-behind k aborts i a (b ∷ text) themselves =
    let more : Arguments = with_byte a InPlain b in
    let same : reverse more.begun ++ text ≡ reverse a.begun ++ b ∷ text =
    ap (λ (front : List ℕ). front ++ text) (reverse-cons b a.begun) ∙ append_assoc (reverse a.begun) (b ∷ []) text in
    tells-cons k aborts false (with_text i a) b (text ++ newline ∷ []) (reverse a.begun ++ b ∷ text) (going_on (with_text i more) (Collecting (Telling aborts false)))
    (taking-message k aborts false i a b (All-head StandsForItself b text themselves))
    (subst (λ (all : List ℕ). TellsText aborts all (taking_all k (Collecting (Telling aborts false)) (with_text i more) (text ++ newline ∷ []))) same
    (tells-behind k aborts i more text (All-tail StandsForItself b text themselves)))

-- the first byte, by whether it is a blank
tells-first : (k : Known) (aborts is_blank : Bool) (i : PageInput) (b : ℕ) (text : List ℕ) → (b == blank) ≡ is_blank → All StandsForItself (b ∷ text)
    → TellsText aborts (behind_blanks text) (taking_all k (Collecting (Telling aborts true)) (with_text i no_arguments) (text ++ newline ∷ []))
    → TellsText aborts (if is_blank then behind_blanks text else b ∷ text) (taking_all k (Collecting (Telling aborts true)) (with_text i no_arguments) (b ∷ text ++ newline ∷ []))
tells-first k aborts true i b text is themselves others =
    tells-cons k aborts true (with_text i no_arguments) b (text ++ newline ∷ []) (behind_blanks text) (going_on (with_text i no_arguments) (Collecting (Telling aborts true)))
    (taking-message k aborts true i no_arguments b (All-head StandsForItself b text themselves)
    ∙ ap (λ (c : Bool). if c then going_on (with_text i no_arguments) (Collecting (Telling aborts true)) else going_on (with_text i (with_byte no_arguments InPlain b)) (Collecting (Telling aborts false))) is)
    others
tells-first k aborts false i b text is themselves others =
    tells-cons k aborts true (with_text i no_arguments) b (text ++ newline ∷ []) (b ∷ text) (going_on (with_text i (with_byte no_arguments InPlain b)) (Collecting (Telling aborts false)))
    (taking-message k aborts true i no_arguments b (All-head StandsForItself b text themselves)
    ∙ ap (λ (c : Bool). if c then going_on (with_text i no_arguments) (Collecting (Telling aborts true)) else going_on (with_text i (with_byte no_arguments InPlain b)) (Collecting (Telling aborts false))) is)
    (tells-behind k aborts i (with_byte no_arguments InPlain b) text (All-tail StandsForItself b text themselves))

-- the whole line
tells-line : (k : Known) (aborts : Bool) (i : PageInput) (text : List ℕ) → All StandsForItself text
    → TellsText aborts (behind_blanks text) (taking_all k (Collecting (Telling aborts true)) (with_text i no_arguments) (text ++ newline ∷ []))
tells-line k aborts i [] themselves = record { reading = refl; told = refl }
tells-line k aborts i (b ∷ text) themselves =
    tells-first k aborts (b == blank) i b text refl themselves (tells-line k aborts i text (All-tail StandsForItself b text themselves))

pub messages_are_their_texts : MessagesAreTheirTexts
messages_are_their_texts k aborts i text half none themselves =
    let input : with_text i no_arguments ≡ i =
    ap (λ (h : List OpenEscape). record i { escapes = h; arguments = no_arguments }) (sym half) ∙ ap (λ (a : Arguments). record i { arguments = a }) (sym none) in
    subst (λ (j : PageInput). TellsText aborts (behind_blanks text) (taking_all k (Collecting (Telling aborts true)) j (text ++ newline ∷ []))) input
    (tells-line k aborts i text themselves)

-- what is held of a message, and whether nothing but blanks was read of it
abbrev pub tell : Bool × Arguments → ℕ → Bool × Arguments
tell t b = if t.0 && b == blank then (true, t.1) else (false, with_byte t.1 InPlain b)

abbrev pub telling : List (List ℕ) → Bool × Arguments → Stage
telling texts t = stage (Collecting (Telling false t.0)) t.1 texts

turns-if : (names : Named Entry) (texts : List (List ℕ)) (i : PageInput) (a : Arguments) (b : ℕ) (c : Bool)
    → let here : Arguments → PageInput = λ h. record i { escapes = []; arguments = h; names = names; open_texts = texts } in
    let u : Bool × Arguments = if c then (true, a) else (false, with_byte a InPlain b) in
    (if c then going_on (here a) (Collecting (Telling false true)) else going_on (here (with_byte a InPlain b)) (Collecting (Telling false false))) ≡ going_on (here u.1) (Collecting (Telling false u.0))
turns-if names texts i a b true = refl
turns-if names texts i a b false = refl

turns-tell : (names : Named Entry) (texts : List (List ℕ)) (t : Bool × Arguments) (b : ℕ) → StandsForItself b → Turns names (telling texts t) b (telling texts (tell t b))
turns-tell names texts t b itself k i =
    taking-message k false t.0 (record i { names = names; open_texts = texts }) t.1 b itself ∙ turns-if names texts i t.1 b (t.0 && b == blank)

-- a byte more is held at the most
held-tell : (t : Bool × Arguments) (b : ℕ) → (held t.1 ≤ held (tell t b).1) × (held (tell t b).1 ≤ held t.1 + 1)
held-tell t b = by_blank (t.0 && b == blank)
  where
    by_blank : (c : Bool) → let u : Bool × Arguments = if c then (true, t.1) else (false, with_byte t.1 InPlain b) in (held t.1 ≤ held u.1) × (held u.1 ≤ held t.1 + 1)
    by_blank true = (omega arith, omega arith)
    by_blank false = (omega arith, omega arith)

pub path-tell : (names : Named Entry) (texts : List (List ℕ)) (most : ℕ) (t : Bool × Arguments) (bytes : List ℕ) → All StandsForItself bytes → held t.1 + length bytes ≤ most
    → Path (most_of most texts) names (telling texts t) bytes (telling texts (fold tell t bytes))
path-tell names texts most t [] themselves few = Here (telling texts t)
path-tell names texts most t (b ∷ bytes) themselves few =
    let u : Bool × Arguments = tell t b in
    let grows = held-tell t b in
    Onward (telling texts t) (telling texts u) (telling texts (fold tell u bytes)) b bytes refl refl (turns-tell names texts t b (All-head StandsForItself b bytes themselves))
    (record { none_half = refl; held_few = omega (arith, grows.1, few); stored_few = omega arith; texts_few = omega arith }) grows.1
    (path-tell names texts most u bytes (All-tail StandsForItself b bytes themselves) (omega (arith, grows.1, few)))

-- how much is held
pub held-fold : (t : Bool × Arguments) (bytes : List ℕ) → held (fold tell t bytes).1 ≤ held t.1 + length bytes
held-fold t [] = omega arith
held-fold t (b ∷ bytes) = omega (arith, held-fold (tell t b) bytes, (held-tell t b).1)

-- and what it tells
told-behind : (a : Arguments) (bytes : List ℕ) → reverse (fold tell (false, a) bytes).1.begun ≡ reverse a.begun ++ bytes
told-behind a [] = sym (append-nil (reverse a.begun))
told-behind a (b ∷ bytes) =
    told-behind (with_byte a InPlain b) bytes
    ∙ ap (λ (front : List ℕ). front ++ bytes) (reverse-append (b ∷ []) a.begun)
    ∙ append_assoc (reverse a.begun) (b ∷ []) bytes

told-if : (b : ℕ) (bytes : List ℕ) (c : Bool) → reverse (fold tell (true, no_arguments) bytes).1.begun ≡ behind_blanks bytes
    → reverse (fold tell (if c then (true, no_arguments) else (false, with_byte no_arguments InPlain b)) bytes).1.begun ≡ (if c then behind_blanks bytes else b ∷ bytes)
told-if b bytes true others = others
told-if b bytes false others = told-behind (with_byte no_arguments InPlain b) bytes

pub told-front : (bytes : List ℕ) → reverse (fold tell (true, no_arguments) bytes).1.begun ≡ behind_blanks bytes
told-front [] = refl
told-front (b ∷ bytes) = told-if b bytes (b == blank) (told-front bytes)

-- the name, the blank behind it, and the front of the message
reads-message : (names : Named Entry) (control : ℕ) (name : ShortName) → HasMessage names control name → ReadsAs names name (Collecting (Telling false true))
reads-message names control name has = record {
  called = ARequest has.of_request;
  is = has.stands_for;
  none_due = refl;
  whole = λ i breaks. ap (behind_name i breaks has.of_request) has.reads_message;
  ended = λ k i breaks b. ap (λ (reads : LineReading). line_taking k i breaks has.of_request reads b) has.reads_message;
}

pub path-front : (names : Named Entry) (texts : List (List ℕ)) (most : ℕ) (control : ℕ) (name : ShortName) (front : List ℕ) → HasMessage names control name
    → All StandsForItself front → length front ≤ most
    → Path (most_of most texts) names (stage LineStart no_arguments texts) ((control ∷ name_bytes name) ++ blank ∷ front) (telling texts (fold tell (true, no_arguments) front))
path-front names texts most control name front has themselves few =
    let allows : Allows (most_of most texts) no_arguments texts = record { held_few = omega arith; stored_few = omega arith; texts_few = omega arith } in
    let begins : ReadsName (most_of most texts) names no_arguments texts (control ∷ name_bytes name) (Collecting (Telling false true)) =
    reads-name (most_of most texts) names no_arguments texts control name (Collecting (Telling false true)) has.begins has.is_name allows (reads-message names control name has) in
    let mid : Stage = stage begins.reading no_arguments texts in
    let end : Stage = telling texts (fold tell (true, no_arguments) front) in
    Path-append (most_of most texts) names (stage LineStart no_arguments texts) mid end (control ∷ name_bytes name) (blank ∷ front) begins.path
    (onward (most_of most texts) names no_arguments texts begins.reading (Collecting (Telling false true)) blank front end begins.does.none_due
    (λ k i. begins.does.at_blank k mid i ∙ turns-tell names texts (true, no_arguments) blank refl k i) allows
    (path-tell names texts most (true, no_arguments) front themselves (omega (arith, few))))
