-- Bytes of a string's name are held in the first argument of the line, one after another, as long as none ends it.
use Rattle.std.proofs.Common.{◌≡◌, ℕ, ◌<◌, ◌==◌, Bool, true, false, not, ◌||◌, List, [], ◌∷◌, length, Some, inl, inr, refl, sym, ap, subst, ◌∙◌, arith, if◌then◌else◌, eqb-true}
use Rattle.std.specs.List.{AllByRecursion}
use Rattle.input_arguments.proofs.HeldBytes.{held-byte}
use Rattle.input_model.specs.Arguments.{Arguments, HeldFewer, bytes_held, is_behind_quote, only_kept, with_argument_byte}
use Rattle.input_model.specs.declared.place.Place.{Place}
use Rattle.input_model.specs.declared.place.Place.TheVariants.{Between, InPlain, InQuotes, BehindQuote}
use Rattle.input_source.specs.Bytes.{backslash, blank, is_argument_byte, is_dropped, newline, quote}
use Rattle.input_source.specs.Tape.{Tape}
use Rattle.input_escapes.specs.OpenEscape.{OpenEscape}
use Rattle.input_escapes.specs.Waiting.{is_ended_by}
use Rattle.input_escapes.specs.declared.open_escape.CopyUnit.TheVariants.{Byte}
use Rattle.roff_store.specs.Named.{Named}
use Rattle.roff_store.specs.Texts.{Entry}
use Rattle.input_model.specs.Unread.{IsWithin}
use Rattle.roff_scan.specs.Unread.FirstArguments.{MayStand, TakesFirst, Unended}
use Rattle.roff_scan.specs.declared.run_kind.RunKind.TheVariants.{CallArguments}
use Rattle.read_lines.proofs.TextTaken.{plain-found}
use Rattle.read_lines.specs.Reader.State.{ReaderState}
use Rattle.run_model.specs.Reading.{byte_taking, undropped_taking}
use Rattle.run_model.specs.Reading.Items.{PageInput, PageUnread, going_on}
use Rattle.run_model.specs.Reading.Strings.{string_name_unit}
use Rattle.run_model.specs.Reading.Units.{holding, settling}
use Rattle.run_model.specs.Registers.{Known}
use Rattle.run_model.specs.Stages.{Here, Onward, Stage, Turned, input_at, stage_of}
use Rattle.run_model.specs.declared.line_state.LineState.{LineState}
use Rattle.run_model.specs.declared.line_state.LineState.TheVariants.{Collecting}
use Rattle.run_model.specs.declared.purpose.Purpose.TheVariants.{StringName}
use Rattle.read_shortcuts.specs.Stages.{ReadsPast}
use Rattle.read_shortcuts.proofs.HeldRuns.{held-byte_least, none_of_three, stage_with}
use Rattle.read_shortcuts.proofs.RunsRead.{reads-taken, turned-behind}

-- a byte of an argument is neither a blank nor a quote
inside_parts : (is_blank is_quote : Bool) → not (is_blank || is_quote) ≡ true → (is_blank ≡ false) × (is_quote ≡ false)
inside_parts true is_quote none = absurd (cc)
inside_parts false true none = absurd (cc)
inside_parts false false none = (refl, refl)

-- fewer than one is none
none_whole : (whole : List (List ℕ)) → length whole < 1 → whole ≡ []
none_whole [] few = refl
none_whole (text ∷ whole) few = absurd (omega (arith, few))

-- an input with such arguments
abbrev arguments_at : PageInput → List (List ℕ) → List ℕ → Place → PageInput
arguments_at i whole begun place = record i { arguments = record { whole = whole; begun = begun; place = place } }

-- a byte of the name is held there
abbrev HoldsName : PageInput → Bool → ℕ → List (List ℕ) → List ℕ → Place → Type 0
HoldsName i appends b whole begun place =
    string_name_unit (arguments_at i whole begun place) appends (Byte b) ≡ going_on (holding (Byte b) (arguments_at i whole begun place)) (Collecting (StringName appends))

-- a blank between arguments
holds-blank : (i : PageInput) (appends : Bool) (begun : List ℕ) → HoldsName i appends 32 [] begun Between
holds-blank i appends begun = refl

-- a byte that neither ends an argument nor quotes, but behind a quote
holds-inside : (i : PageInput) (appends : Bool) (b : ℕ) (begun : List ℕ) (place : Place) → is_behind_quote place ≡ false → (b == newline) ≡ false
    → (b == blank) ≡ false → (b == quote) ≡ false → HoldsName i appends b [] begun place
holds-inside i appends b begun Between unquoted no_newline no_blank no_quote = rw (no_newline, no_quote, no_blank) refl
holds-inside i appends b begun InPlain unquoted no_newline no_blank no_quote = rw (no_newline, no_quote, no_blank) refl
holds-inside i appends b begun InQuotes unquoted no_newline no_blank no_quote = rw (no_newline, no_quote) refl
holds-inside i appends b begun BehindQuote unquoted no_newline no_blank no_quote = absurd (cc)

-- where the reading stands behind it
stands-blank : (whole : List (List ℕ)) (begun : List ℕ) → (only_kept (with_argument_byte (record { whole = whole; begun = begun; place = Between }) 32)).place ≡ Between
stands-blank whole begun = refl

stands-inside : (whole : List (List ℕ)) (begun : List ℕ) (place : Place) (b : ℕ) → is_behind_quote place ≡ false → (b == blank) ≡ false → (b == quote) ≡ false
    → is_behind_quote (only_kept (with_argument_byte (record { whole = whole; begun = begun; place = place }) b)).place ≡ false
stands-inside whole begun Between b unquoted no_blank no_quote = rw (no_blank, no_quote) refl
stands-inside whole begun InPlain b unquoted no_blank no_quote = rw (no_blank) refl
stands-inside whole begun InQuotes b unquoted no_blank no_quote = rw (no_quote) refl
stands-inside whole begun BehindQuote b unquoted no_blank no_quote = absurd (cc)

-- where none is begun the reading isn't behind a quote either
unquoted : (none_begun : Bool) (place : Place) → MayStand none_begun place → is_behind_quote place ≡ false
unquoted true place is = ap is_behind_quote is
unquoted false place is = is

between : (none_begun : Bool) (place : Place) → none_begun ≡ true → MayStand none_begun place → place ≡ Between
between true place begun is = is
between false place begun is = absurd (cc)

-- a byte of the name where nothing is half read
takes-name : (k : Known) (appends : Bool) (i : PageInput) (b : ℕ) → i.escapes ≡ [] → (b == backslash) ≡ false → is_dropped b ≡ false
    → string_name_unit i appends (Byte b) ≡ going_on (holding (Byte b) i) (Collecting (StringName appends))
    → byte_taking k (Collecting (StringName appends)) i b ≡ going_on (holding (Byte b) i) (Collecting (StringName appends))
takes-name k appends i b none_half no_escape stays holds =
    let reading : LineState = Collecting (StringName appends) in
    ap (λ (c : Bool). if c then going_on (settling i) reading else undropped_taking k reading i b) stays
    ∙ sym (plain-found k reading i b none_half no_escape) ∙ holds

module _ (names : Named Entry) (appends : Bool) (half : List OpenEscape) (texts : List (List ℕ)) (none_half : half ≡ []) where
  -- where the name is read
  abbrev at_name : Arguments → Stage
  at_name a = stage_with (Collecting (StringName appends)) half texts a

  -- a byte that is held, and others
  step-name : (a : Arguments) (b : ℕ) (bytes : List ℕ) (last : Stage) → is_argument_byte b ≡ true
      → ((i : PageInput) → HoldsName i appends b a.whole a.begun a.place)
      → Turned names (at_name (only_kept (with_argument_byte a b))) bytes last → Turned names (at_name a) (b ∷ bytes) last
  step-name a b bytes last plain holds others =
      let none = none_of_three (b == backslash) (is_dropped b) (b == newline) plain in
      Onward (at_name a) (at_name (only_kept (with_argument_byte a b))) last b bytes refl (ap (λ (h : List OpenEscape). is_ended_by h (Some b)) none_half)
      (λ k i. takes-name k appends (input_at names (at_name a) i) b none_half none.0 none.1.0 (holds (input_at names (at_name a) i))) refl
      (omega (arith, held-byte_least a b)) (omega (arith, held-byte a b)) others

  -- bytes of the name lead from stage to stage
  pub turned-name : (a : Arguments) (none_begun : Bool) (bytes : List ℕ) → MayStand none_begun a.place → Unended none_begun bytes
      → AllByRecursion (λ b. is_argument_byte b ≡ true) bytes → HeldFewer (Some 1) bytes a → Turned names (at_name a) bytes (at_name (bytes_held bytes a))
  turned-name a none_begun [] stands unended plain fewer = Here (at_name a)
  turned-name a none_begun (b ∷ bytes) stands (inl is) plain fewer =
      let there : Arguments = only_kept (with_argument_byte a b) in
      let none : a.whole ≡ [] = none_whole a.whole fewer.0 in
      let place : a.place ≡ Between = between none_begun a.place is.1.0 stands in
      let byte : b ≡ 32 = eqb-true b blank is.0 in
      let behind : there.place ≡ Between =
      subst (λ (c : ℕ). (only_kept (with_argument_byte a c)).place ≡ Between) (sym byte)
      (subst (λ (p : Place). (only_kept (with_argument_byte (record { whole = a.whole; begun = a.begun; place = p }) 32)).place ≡ Between) (sym place) (stands-blank a.whole a.begun)) in
      step-name a b bytes (at_name (bytes_held bytes there)) plain.0
      (λ i. subst (λ (p : Place). HoldsName i appends b a.whole a.begun p) (sym place)
      (subst (λ (w : List (List ℕ)). HoldsName i appends b w a.begun Between) (sym none)
      (subst (λ (c : ℕ). HoldsName i appends c [] a.begun Between) (sym byte) (holds-blank i appends a.begun))))
      (turned-name there none_begun bytes (subst (λ (p : Bool). MayStand p there.place) (sym is.1.0) behind) is.1.1 plain.1 fewer.1)
  turned-name a none_begun (b ∷ bytes) stands (inr is) plain fewer =
      let there : Arguments = only_kept (with_argument_byte a b) in
      let none : a.whole ≡ [] = none_whole a.whole fewer.0 in
      let other = inside_parts (b == blank) (b == quote) is.0 in
      let apart : is_behind_quote a.place ≡ false = unquoted none_begun a.place stands in
      let line = none_of_three (b == backslash) (is_dropped b) (b == newline) plain.0 in
      step-name a b bytes (at_name (bytes_held bytes there)) plain.0
      (λ i. subst (λ (w : List (List ℕ)). HoldsName i appends b w a.begun a.place) (sym none) (holds-inside i appends b a.begun a.place apart line.1.1 other.0 other.1))
      (turned-name there false bytes (stands-inside a.whole a.begun a.place b apart other.0 other.1) is.1 plain.1 fewer.1)

-- bytes of the name were read past
pub reads-name : (gave gives : Tape → Type 0) (ready : List ℕ) (count : ℕ) (r : ReaderState) (appends : Bool) (before after : PageUnread) → r.reading ≡ Collecting (StringName appends)
    → before.input.escapes ≡ [] → TakesFirst gave gives ready count before after → IsWithin after → ReadsPast gave gives r r before after
reads-name gave gives ready count r appends before after is none_half took within =
    let i : PageInput = before.input in
    let bytes : List ℕ = took.took.bytes in
    let turned : Turned i.names (stage_of (Collecting (StringName appends)) i) bytes (stage_of (Collecting (StringName appends)) after.input) =
    turned-behind i.names (stage_of (Collecting (StringName appends)) i) bytes (Collecting (StringName appends)) after.input i.escapes (bytes_held bytes i.arguments) i.open_texts
    took.took.half_read took.took.arguments took.took.texts
    (turned-name i.names appends i.escapes i.open_texts none_half i.arguments took.none_begun bytes took.stands took.unended took.took.are_of took.took.fewer) in
    reads-taken (CallArguments 1) gave gives ready count r r before after took.took
    (subst (λ (reading : LineState). Turned i.names (stage_of reading i) bytes (stage_of reading after.input)) (sym is) turned) refl refl within
