-- The escape that steps a register on a text line: what is half read on its way, and what is done behind it.
use Rattle.std.proofs.Common.{◌≡◌, ℕ, ◌==◌, Bool, true, false, List, [], ◌∷◌, Option, Some, None, refl, ap, ◌∙◌, arith, if◌then◌else◌}
use Rattle.input_model.specs.Arguments.{Arguments}
use Rattle.input_escapes.specs.EscapeFronts.{ReadsOn}
use Rattle.input_escapes.specs.OpenEscape.{OpenEscape, Backslash, Name, Reads}
use Rattle.input_escapes.specs.OpenEscapes.{byte_read}
use Rattle.input_escapes.specs.declared.escapes.NameUse.TheVariants.{Register}
use Rattle.input_escapes.specs.declared.open_escape.Found.TheVariants.{Asks, GoesOn}
use Rattle.input_escapes.specs.declared.open_escape.NamePart.{NamePart}
use Rattle.input_escapes.specs.declared.open_escape.NamePart.TheVariants.{First, Nothing, Opened}
use Rattle.input_escapes.specs.declared.open_escape.Surroundings.{Surroundings}
use Rattle.roff_num.specs.ShortNames.{name_bytes}
use Rattle.roff_num.specs.declared.direction.Direction.{Direction}
use Rattle.roff_num.specs.declared.direction.Direction.TheVariants.{Up, Down}
use Rattle.run_model.specs.Reading.{byte_taking}
use Rattle.run_model.specs.Reading.Escapes.{interpolating}
use Rattle.run_model.specs.Reading.Found.{place_in, read_in}
use Rattle.run_model.specs.Reading.Items.{PageInput}
use Rattle.run_model.specs.Registers.{Known}
use Rattle.run_model.specs.Stages.{Here, Onward, Stage, Turned, Turns, input_at}
use Rattle.run_model.specs.declared.line_state.LineState.TheVariants.{Text as InText}
use Rattle.run_model.specs.declared.line_state.TextLine.{TextLine}
use Rattle.input_source.specs.Bytes.{is_argument_byte, is_dropped}
use Rattle.roff_store.specs.Named.{Named}
use Rattle.roff_store.specs.Texts.{Entry}
use Rattle.read_shortcuts.specs.Registers.{IsNameOf}
use Rattle.read_shortcuts.specs.SteppedNames.{AsksStep, sign_of, step_behind}
use Rattle.read_shortcuts.proofs.RegisterNames.{name_byte, undropped}

-- the part of a name that is half read behind a sign
abbrev part_read : Direction → NamePart → List OpenEscape
part_read direction part = Name (Register (Some direction)) part ∷ []

-- the bytes in front of the name are read on
begins : ReadsOn [] 92 (Backslash ∷ [])
begins = record { stands = refl; no_newline = refl; stays = refl; goes_on = λ base. refl; held = refl }

named : ReadsOn (Backslash ∷ []) 110 (Name (Register None) Nothing ∷ [])
named = record { stands = refl; no_newline = refl; stays = refl; goes_on = λ base. refl; held = refl }

signed : (direction : Direction) → ReadsOn (Name (Register None) Nothing ∷ []) (sign_of direction) (part_read direction Nothing)
signed Up = record { stands = refl; no_newline = refl; stays = refl; goes_on = λ base. refl; held = refl }
signed Down = record { stands = refl; no_newline = refl; stays = refl; goes_on = λ base. refl; held = refl }

opened : (direction : Direction) → ReadsOn (part_read direction Nothing) 40 (part_read direction Opened)
opened direction = record { stands = refl; no_newline = refl; stays = refl; goes_on = λ base. refl; held = refl }

-- and the first of two of the name
first_read : (direction : Direction) (b : ℕ) → is_argument_byte b ≡ true → ReadsOn (part_read direction Opened) b (part_read direction (First b))
first_read direction b plain =
    let none = name_byte b plain in
    record {
      stands = none.1.0;
      no_newline = none.1.1;
      stays = none.1.1;
      goes_on = λ base.
          ap (λ (c : Bool). let r : Reads = if c then (GoesOn, Backslash ∷ part_read direction Opened) else (GoesOn, part_read direction (First b)) in r) none.0;
      held = refl;
    }

-- behind the last one the register is asked for
short_asked : (direction : Direction) (b : ℕ) → is_argument_byte b ≡ true → (b == 40) ≡ false
    → (base : Surroundings) → byte_read base (part_read direction Nothing) b ≡ (Asks (Register (Some direction)) (Some (b ∷ [])), [])
short_asked direction b plain no_paren base = let none = name_byte b plain in rw (none.0, no_paren) refl

long_asked : (direction : Direction) (a b : ℕ) → is_argument_byte b ≡ true
    → (base : Surroundings) → byte_read base (part_read direction (First a)) b ≡ (Asks (Register (Some direction)) (Some (a ∷ b ∷ [])), [])
long_asked direction a b plain base = let none = name_byte b plain in rw (none.0) refl

module _ (direction : Direction) (names : Named Entry) (line : TextLine) (a : Arguments) (texts : List (List ℕ)) where
  -- where this is half read on the line
  abbrev within : List OpenEscape → Stage
  within half = record { reading = InText line; escapes = half; arguments = a; texts = texts }

  -- a byte that gives nothing yet
  turns-on : (half next : List OpenEscape) (b : ℕ) → ReadsOn half b next → Turns names (within half) b (within next)
  turns-on half next b on k i =
      undropped k (InText line) (input_at names (within half) i) b on.stands
      ∙ ap (λ (r : Reads). read_in k (InText line) (input_at names (within half) i) r) (on.goes_on (place_in k (InText line)))

  -- and the last one
  asks-last : (half : List OpenEscape) (b : ℕ) (name : List ℕ) → is_dropped b ≡ false → ((base : Surroundings) → byte_read base half b ≡ (Asks (Register (Some direction)) (Some name), []))
      → (k : Known) (i : PageInput) → byte_taking k (InText line) (input_at names (within half) i) b ≡ interpolating k (input_at names (within []) i) (InText line) (Some direction) name
  asks-last half b name stands is k i =
      undropped k (InText line) (input_at names (within half) i) b stands
      ∙ ap (λ (r : Reads). read_in k (InText line) (input_at names (within half) i) r) (is (place_in k (InText line)))

  -- bytes of it lead on
  read_on : (half next : List OpenEscape) (b : ℕ) (bytes : List ℕ) (q : Stage) → ReadsOn half b next → Turned names (within next) bytes q → Turned names (within half) (b ∷ bytes) q
  read_on half next b bytes q on others =
      Onward (within half) (within next) q b bytes refl on.stays (turns-on half next b on) refl (omega (arith, on.held)) (omega (arith, on.held)) others

  -- up to behind the sign
  behind_sign : (bytes : List ℕ) (q : Stage) → Turned names (within (part_read direction Nothing)) bytes q → Turned names (within []) (92 ∷ 110 ∷ sign_of direction ∷ bytes) q
  behind_sign bytes q others =
      read_on [] (Backslash ∷ []) 92 (110 ∷ sign_of direction ∷ bytes) q begins
      (read_on (Backslash ∷ []) (Name (Register None) Nothing ∷ []) 110 (sign_of direction ∷ bytes) q named
      (read_on (Name (Register None) Nothing ∷ []) (part_read direction Nothing) (sign_of direction) bytes q (signed direction) others))

  -- the escape asks for the step
  pub asks_step : (first : ℕ) (second : Option ℕ) → IsNameOf first second
      → AsksStep direction names (within []) (step_behind direction first second) (name_bytes (record { first = first; second = second }))
  asks_step first None is =
      let half : List OpenEscape = part_read direction Nothing in
      let none = name_byte first is.0 in
      record {
        front = 92 ∷ 110 ∷ sign_of direction ∷ [];
        last = first;
        is = refl;
        there = within half;
        turned = behind_sign [] (within half) (Here (within half));
        none_due = refl;
        stays = none.1.1;
        held = omega arith;
        texts = refl;
        asks = asks-last half first (first ∷ []) none.1.0 (short_asked direction first is.0 is.1);
      }
  asks_step first (Some second) is =
      let half : List OpenEscape = part_read direction (First first) in
      let none = name_byte second is.1 in
      record {
        front = 92 ∷ 110 ∷ sign_of direction ∷ 40 ∷ first ∷ [];
        last = second;
        is = refl;
        there = within half;
        turned = behind_sign (40 ∷ first ∷ []) (within half)
            (read_on (part_read direction Nothing) (part_read direction Opened) 40 (first ∷ []) (within half) (opened direction)
            (read_on (part_read direction Opened) half first [] (within half) (first_read direction first is.0) (Here (within half))));
        none_due = refl;
        stays = none.1.1;
        held = omega arith;
        texts = refl;
        asks = asks-last half second (first ∷ second ∷ []) none.1.0 (long_asked direction first second is.1);
      }
