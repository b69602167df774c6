-- Bytes behind the name of a body that a line calls are held in the arguments of the line.
use Rattle.std.proofs.Common.{◌≡◌, ℕ, ◌+◌, ◌<◌, ◌≤◌, ◌==◌, Bool, false, inl, inr, List, [], ◌∷◌, length, take, drop, refl, sym, ap, ◌∙◌, arith, if◌then◌else◌, filter, reverse, length-append, length-drop, length-take}
use Rattle.std.proofs.lemmas.Bool.{cases_Bool, lt-leb}
use Rattle.std.proofs.lemmas.List.{length-reverse}
use Rattle.std.proofs.lemmas.List.Sums.{count_by-le-length, length-filter}
use Rattle.input_model.proofs.KeptArguments.{only_kept-with_unit}
use Rattle.input_model.specs.Arguments.{Arguments, has_byte, kept, only_kept, settled, settled_at, with_argument_byte}
use Rattle.input_source.specs.Bytes.{backslash, newline, quote}
use Rattle.input_escapes.specs.OpenEscape.{OpenEscape, Backslash}
use Rattle.input_escapes.specs.OpenEscapes.{byte_read}
use Rattle.input_model.specs.declared.place.Place.{Place}
use Rattle.input_model.specs.declared.place.Place.TheVariants.{Between, InPlain, InQuotes, BehindQuote}
use Rattle.input_escapes.specs.declared.open_escape.CopyUnit.TheVariants.{Byte}
use Rattle.input_escapes.specs.declared.open_escape.Found.TheVariants.{GoesOn, Unit as GivesUnit}
use Rattle.input_escapes.specs.declared.open_escape.Surroundings.TheVariants.{Arguments as AboveArguments}
use Rattle.run_model.specs.Reading.{undropped_taking}
use Rattle.run_model.specs.Reading.Calls.{call_unit, holding_call}
use Rattle.run_model.specs.Reading.Found.{read_in}
use Rattle.run_model.specs.Reading.Items.{PageInput, going_on}
use Rattle.run_model.specs.Reading.Units.{holding, settling}
use Rattle.run_model.specs.Registers.{Known}
use Rattle.run_model.specs.declared.line_state.LineState.TheVariants.{Collecting}
use Rattle.run_model.specs.declared.purpose.Purpose.TheVariants.{Calling}
use Rattle.roff_num.specs.declared.short_name.ShortName.{ShortName}

-- no more arguments are kept than there are
kept-fewer : (texts : List (List ℕ)) → length (kept texts) ≤ length texts
kept-fewer texts =
    omega (
      arith,
      length-append (take 32 texts) (filter has_byte (drop 32 texts)),
      length-take 32 texts,
      length-filter has_byte (drop 32 texts),
      count_by-le-length has_byte (drop 32 texts),
      length-drop 32 texts,
    )

-- where no quote follows one argument more is whole at the most
settled-longer : (place : Place) (a : Arguments) → length (settled_at place a).whole ≤ length a.whole + 1
settled-longer Between a = omega arith
settled-longer InPlain a = omega arith
settled-longer InQuotes a = omega arith
settled-longer BehindQuote a = omega arith

-- a byte that is no quote tells that itself
settled-byte : (whole : List (List ℕ)) (begun : List ℕ) (place : Place) (b : ℕ) → (b == quote) ≡ false
    → with_argument_byte (settled (record { whole = whole; begun = begun; place = place })) b
    ≡ with_argument_byte (record { whole = whole; begun = begun; place = place }) b
settled-byte whole begun Between b other = refl
settled-byte whole begun InPlain b other = refl
settled-byte whole begun InQuotes b other = refl
settled-byte whole begun BehindQuote b other = rw other refl

module _ (i : PageInput) (b : ℕ) (few : length i.arguments.whole < 8) where
  abbrev a : Arguments
  a = i.arguments

  -- so there is room for one of them
  settled-few : length (settling i).arguments.whole < 9
  settled-few =
      omega (
        arith,
        length-reverse (kept (reverse (settled a).whole)),
        kept-fewer (reverse (settled a).whole),
        length-reverse (settled a).whole,
        settled-longer a.place a,
        few,
      )

  -- such a byte is held
  held-settled : (b == quote) ≡ false → holding_call (Byte b) (settling i) ≡ holding (Byte b) i
  held-settled other =
      ap (λ (full : Bool). if full then settling i else holding (Byte b) (settling i)) (lt-leb 9 (length (settling i).arguments.whole) settled-few)
      ∙ ap (λ (arguments : Arguments). record i { arguments = arguments })
      (only_kept-with_unit (settled a) (Byte b) ∙ ap only_kept (settled-byte a.whole a.begun a.place b other))

  -- and a quote
  held-quote : holding_call (Byte b) i ≡ holding (Byte b) i
  held-quote =
      let fewer : length i.arguments.whole < 9 = omega (arith, few) in
      ap (λ (full : Bool). if full then i else holding (Byte b) i) (lt-leb 9 (length i.arguments.whole) fewer)

  -- so each unit of one byte is, but for a newline
  held-unit : (name : ShortName) → (b == newline) ≡ false → call_unit i name (Byte b) ≡ going_on (holding (Byte b) i) (Collecting (Calling name))
  held-unit name no_newline =
      elim (cases_Bool (b == quote)) [
        | inl e ↦ rw (no_newline, e) (ap (λ (j : PageInput). going_on j (Collecting (Calling name))) held-quote)
        | inr e ↦ rw (no_newline, e) (ap (λ (j : PageInput). going_on j (Collecting (Calling name))) (held-settled e))
      ]

-- a byte there that is neither a newline nor a backslash is held
pub call-byte : (k : Known) (name : ShortName) (i : PageInput) (b : ℕ) → i.escapes ≡ [] → length i.arguments.whole < 8
    → (b == backslash) ≡ false → (b == newline) ≡ false → going_on (holding (Byte b) i) (Collecting (Calling name)) ≡ undropped_taking k (Collecting (Calling name)) i b
call-byte k name i b none few no_escape no_newline =
    let bare : PageInput = record i { escapes = [] } in
    let unit : byte_read AboveArguments [] b ≡ (GivesUnit (Byte b), []) =
    ap (λ (c : Bool). if c then (GoesOn, Backslash ∷ []) else (GivesUnit (Byte b), [])) no_escape in
    sym
    (ap (λ (half : List OpenEscape). read_in k (Collecting (Calling name)) i (byte_read AboveArguments half b)) none
    ∙ ap (read_in k (Collecting (Calling name)) i) unit
    ∙ held-unit bare b few name no_newline
    ∙ ap (λ (half : List OpenEscape). going_on (holding (Byte b) (record i { escapes = half })) (Collecting (Calling name))) (sym none))
