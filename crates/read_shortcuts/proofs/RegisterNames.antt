-- The escape of a register, a string or an argument: what is half read on its way, and what is read in its place.
use Rattle.std.proofs.Common.{◌≡◌, ℕ, ◌==◌, Bool, true, false, List, [], ◌∷◌, Option, Some, None, refl, ap, ◌∙◌, arith, if◌then◌else◌}
use Rattle.input_model.proofs.Settling.{held-only_kept-settled, settled-only_kept}
use Rattle.input_model.specs.Arguments.{Arguments}
use Rattle.input_escapes.specs.EscapeFronts.{ReadsOn}
use Rattle.input_escapes.specs.OpenEscape.{OpenEscape, Backslash, Condition, Name, Reads}
use Rattle.input_escapes.specs.OpenEscapes.{byte_read, name_given}
use Rattle.input_escapes.specs.declared.open_escape.ConditionPart.TheVariants.{Choice}
use Rattle.input_escapes.specs.declared.escapes.NameUse.TheVariants.{Argument, Register, Text}
use Rattle.input_escapes.specs.declared.open_escape.Found.TheVariants.{Asks, GoesOn}
use Rattle.input_escapes.specs.declared.open_escape.NamePart.{NamePart}
use Rattle.input_escapes.specs.declared.open_escape.NamePart.TheVariants.{First, Nothing, Opened}
use Rattle.input_escapes.specs.declared.open_escape.Surroundings.{Surroundings}
use Rattle.input_escapes.specs.declared.open_escape.Waiting.TheVariants.{Takes, Waits}
use Rattle.input_model.specs.Input.{pushing}
use Rattle.input_model.specs.Input.Calls.{arguments_live}
use Rattle.input_model.specs.Input.Names.{body_named}
use Rattle.roff_num.specs.ShortNames.{name_bytes}
use Rattle.roff_num.specs.declared.short_name.ShortName.{ShortName}
use Rattle.run_model.specs.Reading.{byte_taking, undropped_taking}
use Rattle.run_model.specs.Reading.Escapes.{argument_named}
use Rattle.run_model.specs.Reading.Found.{place_in, read_in}
use Rattle.run_model.specs.Reading.Items.{PageInput, going_on}
use Rattle.run_model.specs.Reading.Units.{interrupted, settled_for}
use Rattle.run_model.specs.Registers.{Known, text_of_register}
use Rattle.run_model.specs.Stages.{Here, Onward, Stage, Turned, Turns, input_at}
use Rattle.run_model.specs.declared.line_state.LineState.{LineState}
use Rattle.run_model.specs.declared.line_state.LineState.TheVariants.{Deciding, LineStart, Text as InText, Collecting}
use Rattle.run_model.specs.declared.purpose.Purpose.TheVariants.{Arguments as InArguments, Calling}
use Rattle.run_model.specs.declared.line_state.TextLine.{TextLine}
use Rattle.run_model.specs.declared.request.Request.{Request}
use Rattle.input_source.specs.Bytes.{backslash, is_argument_byte, is_dropped, newline}
use Rattle.roff_store.specs.Named.{Named}
use Rattle.roff_store.specs.Texts.{Entry}
use Rattle.read_shortcuts.specs.Registers.{Asked, OfArgument, OfRegister, OfString, AsksText, HasLongNames, IsNameFor, ReadsNames, escape_behind, letter_of, purpose_of, text_asked}
use Rattle.read_shortcuts.proofs.HeldRuns.{none_of_three}

-- a byte that isn't dropped is read by what is half read
pub undropped : (k : Known) (reading : LineState) (i : PageInput) (b : ℕ) → is_dropped b ≡ false → byte_taking k reading i b ≡ undropped_taking k reading i b
undropped k reading i b stands = ap (λ (c : Bool). if c then going_on (interrupted reading i) reading else undropped_taking k reading i b) stands

-- where a name's text is put in front behind it, that is so of its last byte
asked_in : (reading : LineState)
    → ((k : Known) (i : PageInput) (b : ℕ) → undropped_taking k reading i b ≡ read_in k reading i (byte_read (place_in k reading) i.escapes b))
    → ((k : Known) (i : PageInput) (rest : List OpenEscape) (name : List ℕ) → let behind : PageInput = record (interrupted reading i) { escapes = rest } in
    read_in k reading i (Asks (Register None) (Some name), rest) ≡ going_on (pushing (text_of_register k name) behind) reading)
    → ((k : Known) (i : PageInput) (rest : List OpenEscape) (name : List ℕ) → let behind : PageInput = record (interrupted reading i) { escapes = rest } in
    read_in k reading i (Asks Text (Some name), rest) ≡ going_on (pushing (body_named name behind) behind) reading)
    → ((k : Known) (i : PageInput) (rest : List OpenEscape) (name : List ℕ) → let behind : PageInput = record (interrupted reading i) { escapes = rest } in
    read_in k reading i (Asks Argument (Some name), rest) ≡ going_on (pushing (argument_named name (arguments_live behind)) behind) reading)
    → (asked : Asked) (k : Known) (i : PageInput) (b : ℕ) (rest : List OpenEscape) (name : List ℕ) → is_dropped b ≡ false
    → ((base : Surroundings) → byte_read base i.escapes b ≡ (Asks (purpose_of asked) (Some name), rest))
    → let behind : PageInput = record (interrupted reading i) { escapes = rest } in
    byte_taking k reading i b ≡ going_on (pushing (text_asked asked k behind name) behind) reading
asked_in reading reads register string argument OfRegister k i b rest name stands goes =
    undropped k reading i b stands ∙ reads k i b ∙ ap (λ (r : Reads). read_in k reading i r) (goes (place_in k reading)) ∙ register k i rest name
asked_in reading reads register string argument OfString k i b rest name stands goes =
    undropped k reading i b stands ∙ reads k i b ∙ ap (λ (r : Reads). read_in k reading i r) (goes (place_in k reading)) ∙ string k i rest name
asked_in reading reads register string argument OfArgument k i b rest name stands goes =
    undropped k reading i b stands ∙ reads k i b ∙ ap (λ (r : Reads). read_in k reading i r) (goes (place_in k reading)) ∙ argument k i rest name

-- a text line reads names so
pub reads_names-text : (line : TextLine) → ReadsNames (InText line)
reads_names-text line = record {
  none_due = refl;
  goes_on = λ k i b next stands goes.
      undropped k (InText line) i b stands ∙ ap (λ (r : Reads). read_in k (InText line) i r) (goes (place_in k (InText line)));
  asks = λ asked. asked_in (InText line) (λ k i b. refl) (λ k i rest name. refl) (λ k i rest name. refl) (λ k i rest name. refl) asked;
  twice = λ a. refl;
  same_held = λ a. refl;
  takes = λ place none. refl;
}

-- so it does where a line begins, and one begins still behind it
pub reads_names-start : ReadsNames LineStart
reads_names-start = record {
  none_due = refl;
  goes_on = λ k i b next stands goes.
      undropped k LineStart i b stands ∙ ap (λ (r : Reads). read_in k LineStart i r) (goes (place_in k LineStart));
  asks = λ asked. asked_in LineStart (λ k i b. refl) (λ k i rest name. refl) (λ k i rest name. refl) (λ k i rest name. refl) asked;
  twice = λ a. refl;
  same_held = λ a. refl;
  takes = λ place none. refl;
}

-- and so do arguments
pub reads_names-arguments : (breaks : Bool) (request : Request) → ReadsNames (Collecting (InArguments breaks request))
reads_names-arguments breaks request =
    let reading : LineState = Collecting (InArguments breaks request) in
    record {
      none_due = refl;
      goes_on = λ k i b next stands goes. undropped k reading i b stands ∙ ap (λ (r : Reads). read_in k reading i r) (goes (place_in k reading));
      asks = λ asked. asked_in reading (λ k i b. refl) (λ k i rest name. refl) (λ k i rest name. refl) (λ k i rest name. refl) asked;
      twice = λ a. settled-only_kept a;
      same_held = λ a. held-only_kept-settled a;
      takes = λ place none. ap (λ (c : Bool). if c then Waits else Takes) none;
    }

-- and so do those of a line that calls a body
pub reads_names-calling : (called : ShortName) → ReadsNames (Collecting (Calling called))
reads_names-calling called =
    let reading : LineState = Collecting (Calling called) in
    record {
      none_due = refl;
      goes_on = λ k i b next stands goes. undropped k reading i b stands ∙ ap (λ (r : Reads). read_in k reading i r) (goes (place_in k reading));
      asks = λ asked. asked_in reading (λ k i b. refl) (λ k i rest name. refl) (λ k i rest name. refl) (λ k i rest name. refl) asked;
      twice = λ a. settled-only_kept a;
      same_held = λ a. held-only_kept-settled a;
      takes = λ place none. ap (λ (c : Bool). if c then Waits else Takes) none;
    }

-- and so does a condition
pub reads_names-deciding : (keeps : Bool) → ReadsNames (Deciding keeps)
reads_names-deciding keeps =
    let reading : LineState = Deciding keeps in
    record {
      none_due = refl;
      goes_on = λ k i b next stands goes. undropped k reading i b stands ∙ ap (λ (r : Reads). read_in k reading i r) (goes (place_in k reading));
      asks = λ asked. asked_in reading (λ k i b. refl) (λ k i rest name. refl) (λ k i rest name. refl) (λ k i rest name. refl) asked;
      twice = λ a. refl;
      same_held = λ a. refl;
      takes = λ place none. refl;
    }

-- what a byte of a name is none of
pub name_byte : (b : ℕ) → is_argument_byte b ≡ true → ((b == backslash) ≡ false) × ((is_dropped b ≡ false) × ((b == newline) ≡ false))
name_byte b plain = none_of_three (b == backslash) (is_dropped b) (b == newline) plain

-- Where these are half read an escape is read: its first two bytes, and a name, which is asked for.
pub record ReadsEscape (asked : Asked) (rest : List OpenEscape) : Type 0 where
  pub begins : ReadsOn rest 92 (Backslash ∷ rest)
  pub named : ReadsOn (Backslash ∷ rest) (letter_of asked) (Name (purpose_of asked) Nothing ∷ rest)
  pub opened : HasLongNames asked → ReadsOn (Name (purpose_of asked) Nothing ∷ rest) 40 (Name (purpose_of asked) Opened ∷ rest)
  pub short : (b : ℕ) → is_argument_byte b ≡ true → (b == 40) ≡ false → (b == 43) ≡ false → (b == 45) ≡ false
      → (base : Surroundings) → byte_read base (Name (purpose_of asked) Nothing ∷ rest) b ≡ name_given rest (purpose_of asked) (Some (b ∷ []))
  pub given : (name : List ℕ) → name_given rest (purpose_of asked) (Some name) ≡ (Asks (purpose_of asked) (Some name), rest)

-- a register's name of one byte
short_register : (rest : List OpenEscape) (b : ℕ) → is_argument_byte b ≡ true → (b == 40) ≡ false → (b == 43) ≡ false → (b == 45) ≡ false
    → (base : Surroundings) → byte_read base (Name (Register None) Nothing ∷ rest) b ≡ name_given rest (Register None) (Some (b ∷ []))
short_register rest b plain no_paren no_plus no_minus base = let none = name_byte b plain in rw (none.0, no_plus, no_minus, no_paren) refl

-- where nothing is half read
pub reads_escape-alone : (asked : Asked) → ReadsEscape asked []
reads_escape-alone OfRegister = record {
  begins = record { stands = refl; no_newline = refl; stays = refl; goes_on = λ base. refl; held = refl };
  named = record { stands = refl; no_newline = refl; stays = refl; goes_on = λ base. refl; held = refl };
  opened = λ long. record { stands = refl; no_newline = refl; stays = refl; goes_on = λ base. refl; held = refl };
  short = short_register [];
  given = λ name. refl;
}
reads_escape-alone OfString = record {
  begins = record { stands = refl; no_newline = refl; stays = refl; goes_on = λ base. refl; held = refl };
  named = record { stands = refl; no_newline = refl; stays = refl; goes_on = λ base. refl; held = refl };
  opened = λ long. record { stands = refl; no_newline = refl; stays = refl; goes_on = λ base. refl; held = refl };
  short = λ b plain no_paren no_plus no_minus base. (let none = name_byte b plain in rw (none.0, no_paren) refl);
  given = λ name. refl;
}
reads_escape-alone OfArgument = record {
  begins = record { stands = refl; no_newline = refl; stays = refl; goes_on = λ base. refl; held = refl };
  named = record { stands = refl; no_newline = refl; stays = refl; goes_on = λ base. refl; held = refl };
  opened = λ long. absurd long;
  short = λ b plain no_paren no_plus no_minus base. (let none = name_byte b plain in rw (none.0) refl);
  given = λ name. refl;
}

-- and of a register where nothing is read of a condition yet
pub reads_escape-choice : ReadsEscape OfRegister (Condition (Choice false) [] ∷ [])
reads_escape-choice = record {
  begins = record { stands = refl; no_newline = refl; stays = refl; goes_on = λ base. refl; held = refl };
  named = record { stands = refl; no_newline = refl; stays = refl; goes_on = λ base. refl; held = refl };
  opened = λ long. record { stands = refl; no_newline = refl; stays = refl; goes_on = λ base. refl; held = refl };
  short = short_register (Condition (Choice false) [] ∷ []);
  given = λ name. refl;
}

module _ (asked : Asked) (rest : List OpenEscape) (escape : ReadsEscape asked rest) where
  -- a name in it
  abbrev part_read : NamePart → List OpenEscape
  part_read part = Name (purpose_of asked) part ∷ rest

  -- the first of two bytes of the name
  first_read : (b : ℕ) → is_argument_byte b ≡ true → ReadsOn (part_read Opened) b (part_read (First b))
  first_read b plain =
      let none = name_byte b plain in
      record {
        stands = none.1.0;
        no_newline = none.1.1;
        stays = none.1.1;
        goes_on = λ base.
            ap (λ (c : Bool). let r : Reads = if c then (GoesOn, Backslash ∷ part_read Opened) else (GoesOn, part_read (First b)) in r) none.0;
        held = refl;
      }

  -- a name of one byte is asked for
  short_asked : (b : ℕ) → is_argument_byte b ≡ true → (b == 40) ≡ false → (b == 43) ≡ false → (b == 45) ≡ false
      → (base : Surroundings) → byte_read base (part_read Nothing) b ≡ (Asks (purpose_of asked) (Some (b ∷ [])), rest)
  short_asked b plain no_paren no_plus no_minus base = escape.short b plain no_paren no_plus no_minus base ∙ escape.given (b ∷ [])

  -- and one of two
  long_asked : (a b : ℕ) → is_argument_byte b ≡ true
      → (base : Surroundings) → byte_read base (part_read (First a)) b ≡ (Asks (purpose_of asked) (Some (a ∷ b ∷ [])), rest)
  long_asked a b plain base = let none = name_byte b plain in rw (none.0) (escape.given (a ∷ b ∷ []))

module _ (asked : Asked) (names : Named Entry) (reading : LineState) (reads : ReadsNames reading) (rest : List OpenEscape) (escape : ReadsEscape asked rest) (a : Arguments) (texts : List (List ℕ)) where
  -- in front of the escape, and where this is half read in it
  abbrev before : Stage
  before = record { reading = reading; escapes = rest; arguments = a; texts = texts }

  abbrev within : List OpenEscape → Stage
  within half = record { reading = reading; escapes = half; arguments = settled_for reading a; texts = texts }

  -- its first byte
  turns-begins : Turns names before 92 (within (Backslash ∷ rest))
  turns-begins k i = reads.goes_on k (input_at names before i) 92 (Backslash ∷ rest) escape.begins.stands escape.begins.goes_on

  -- a further one that gives nothing yet
  turns-on : (half next : List OpenEscape) (b : ℕ) → ReadsOn half b next → Turns names (within half) b (within next)
  turns-on half next b on k i =
      reads.goes_on k (input_at names (within half) i) b next on.stands on.goes_on
      ∙ ap (λ (settled : Arguments). going_on (record (input_at names (within next) i) { arguments = settled }) reading) (reads.twice a)

  -- and its last one
  asks-last : (half : List OpenEscape) (b : ℕ) (name : List ℕ) → is_dropped b ≡ false → ((base : Surroundings) → byte_read base half b ≡ (Asks (purpose_of asked) (Some name), rest))
      → (k : Known) (i : PageInput) → let behind : PageInput = input_at names (within rest) i in
      byte_taking k reading (input_at names (within half) i) b ≡ going_on (pushing (text_asked asked k behind name) behind) reading
  asks-last half b name stands is k i =
      reads.asks asked k (input_at names (within half) i) b rest name stands is
      ∙ ap (λ (settled : Arguments). let behind : PageInput = record (input_at names (within rest) i) { arguments = settled } in going_on (pushing (text_asked asked k behind name) behind) reading)
      (reads.twice a)

  -- bytes of it lead on
  read_on : (half next : List OpenEscape) (b : ℕ) (bytes : List ℕ) (q : Stage) → ReadsOn half b next → Turned names (within next) bytes q → Turned names (within half) (b ∷ bytes) q
  read_on half next b bytes q on others =
      Onward (within half) (within next) q b bytes reads.none_due on.stays (turns-on half next b on) refl (omega (arith, on.held)) (omega (arith, on.held)) others

  begun : (bytes : List ℕ) (q : Stage) → Turned names (within (Backslash ∷ rest)) bytes q → Turned names before (92 ∷ bytes) q
  begun bytes q others =
      let same = reads.same_held a in
      Onward before (within (Backslash ∷ rest)) q 92 bytes reads.none_due escape.begins.stays turns-begins refl (omega (arith, same)) (omega (arith, same)) others

  -- the escape asks for the name's text
  pub asks_text : (first : ℕ) (second : Option ℕ) → IsNameFor asked first second → AsksText asked names before (escape_behind asked first second) (name_bytes (record { first = first; second = second }))
  asks_text first None is =
      let half : List OpenEscape = Name (purpose_of asked) Nothing ∷ rest in
      let none = name_byte first is.0 in
      let same = reads.same_held a in
      record {
        front = 92 ∷ letter_of asked ∷ [];
        last = first;
        is = refl;
        there = within half;
        turned = begun (letter_of asked ∷ []) (within half) (read_on (Backslash ∷ rest) half (letter_of asked) [] (within half) escape.named (Here (within half)));
        none_due = reads.none_due;
        stays = none.1.1;
        held = omega (arith, same);
        texts = refl;
        asks = asks-last half first (first ∷ []) none.1.0 (short_asked asked rest escape first is.0 is.1 is.2 is.3);
      }
  asks_text first (Some second) is =
      let half : List OpenEscape = Name (purpose_of asked) (First first) ∷ rest in
      let none = name_byte second is.0.1 in
      let same = reads.same_held a in
      record {
        front = 92 ∷ letter_of asked ∷ 40 ∷ first ∷ [];
        last = second;
        is = refl;
        there = within half;
        turned = begun (letter_of asked ∷ 40 ∷ first ∷ []) (within half)
            (read_on (Backslash ∷ rest) (Name (purpose_of asked) Nothing ∷ rest) (letter_of asked) (40 ∷ first ∷ []) (within half) escape.named
            (read_on (Name (purpose_of asked) Nothing ∷ rest) (Name (purpose_of asked) Opened ∷ rest) 40 (first ∷ []) (within half) (escape.opened is.1)
            (read_on (Name (purpose_of asked) Opened ∷ rest) half first [] (within half) (first_read asked rest escape first is.0.0) (Here (within half)))));
        none_due = reads.none_due;
        stays = none.1.1;
        held = omega (arith, same);
        texts = refl;
        asks = asks-last half second (first ∷ second ∷ []) none.1.0 (long_asked asked rest escape first second is.0.1);
      }
