-- Names in parentheses as copy mode makes them: their first two bytes.
use Rattle.std.proofs.Common.{◌≡◌, ◌<◌, ℕ, Bool, true, false, List, [], ◌∷◌, ◌++◌, Some, refl, ◌∙◌, ap, length, take, ◌||◌, ◌==◌, if◌then◌else◌}
use Rattle.roff_num.specs.declared.limits.Limits.{Limits}
use Rattle.input_source.specs.Bytes.{backslash, dot, is_dropped, newline, tab}
use Rattle.input_escapes.specs.EscapeLaws.{sign}
use Rattle.input_escapes.specs.Escapes.{escape_of, is_copied}
use Rattle.input_escapes.specs.OpenEscape.{OpenEscape, Backslash, Name, names_in, unit_bytes}
use Rattle.input_escapes.specs.OpenEscapes.{Reads, byte_read, copied_escape, escape_read, most_names, name_beginning, unit_of_name, unit_taken}
use Rattle.input_escapes.specs.declared.escapes.Escape.{Escape as Kind}
use Rattle.input_escapes.specs.declared.escapes.Escape.TheVariants.{Prints, Blank, NoWidth, Nothing as GivesNothing, Tab as GivesTab, Interrupts, Brace, LeftOut as IsLeftOut, Comment as BeginsComment, Size as BeginsSize, Name as BeginsName, Text as BeginsText, Width as BeginsWidth}
use Rattle.input_escapes.specs.declared.escapes.NameUse.{NameUse}
use Rattle.input_escapes.specs.declared.escapes.NameUse.TheVariants.{Register, Text as OfText}
use Rattle.input_escapes.specs.declared.open_escape.CopyUnit.{CopyUnit}
use Rattle.input_escapes.specs.declared.open_escape.CopyUnit.TheVariants.{Byte, Kept}
use Rattle.input_escapes.specs.declared.open_escape.Found.TheVariants.{GoesOn, Unit as GivesUnit, Asks}
use Rattle.input_escapes.specs.declared.open_escape.NamePart.{NamePart}
use Rattle.input_escapes.specs.declared.open_escape.NamePart.TheVariants.{Opened, First}
use Rattle.input_escapes.specs.declared.open_escape.Surroundings.{Surroundings}
use Rattle.input_escapes.specs.declared.open_escape.Surroundings.TheVariants.{Copy as InCopy}
use Rattle.run_model.specs.ItemsTaken.{TakesItems}
use Rattle.run_model.specs.Reading.Found.{place_in}
use Rattle.run_model.specs.Run.{State, after, known}
use Rattle.run_model.specs.Within.{IsWithin}
use Rattle.run_model.proofs.ItemsTaken.{FromAhead, FromSource, Origin, ahead_at, not-first, tape_at}
use Rattle.law_reading.specs.InterpolationLaws.{StandsForItself, reads_above, reads_escapes}
use Rattle.law_reading.proofs.InterpolatedNames.{ARegister, AString, escape-reads, read_from}
use Rattle.law_reading.proofs.Interpolation.{AtLast, Behind, IsRead-itself, ReadsEscapes, ReadsEscapes-reads_escapes, is_no_newline}
use Rattle.law_reading.proofs.NamesAsked.{AsksAtLast, byte_read-opening, finds-signed, finds-string, name_given-names}
use Rattle.law_escapes.specs.CopiedNames.{Escaped, HasName, IsName, IsUnit, Itself, NamesAreTheirFirstTwoBytes, NamesOfTheSourceAreTheirFirstTwoBytes, OfRegister, OfString, OneUnit, TwoUnits}

-- what copy mode makes of the byte behind a backslash
abbrev made_of : List OpenEscape → Bool → Bool → Bool → Bool → ℕ → Reads
made_of rest a b c d byte =
    if a then (GoesOn, rest)
    else if b then unit_taken rest (Byte backslash)
    else if c then unit_taken rest (Byte dot)
    else if d then unit_taken rest (Byte tab)
    else unit_taken rest (Kept byte)

-- it makes that above a name too
copied-by : (rest : List OpenEscape) (unit : CopyUnit) (a b c d : Bool) (byte : ℕ) → made_of [] a b c d byte ≡ (GivesUnit unit, [])
    → made_of rest a b c d byte ≡ unit_taken rest unit
copied-by rest unit true b c d byte is = let found = ap (λ (r : Reads). r.0) is in absurd (cc)
copied-by rest unit false true c d byte is =
    let found = ap (λ (r : Reads). r.0) is in
    let same : Byte backslash ≡ unit = cc in ap (unit_taken rest) same
copied-by rest unit false false true d byte is =
    let found = ap (λ (r : Reads). r.0) is in
    let same : Byte dot ≡ unit = cc in ap (unit_taken rest) same
copied-by rest unit false false false true byte is =
    let found = ap (λ (r : Reads). r.0) is in
    let same : Byte tab ≡ unit = cc in ap (unit_taken rest) same
copied-by rest unit false false false false byte is =
    let found = ap (λ (r : Reads). r.0) is in
    let same : Kept byte ≡ unit = cc in ap (unit_taken rest) same

copied-above : (rest : List OpenEscape) (unit : CopyUnit) (b : ℕ) → copied_escape [] b ≡ (GivesUnit unit, [])
    → copied_escape rest b ≡ unit_taken rest unit
copied-above rest unit b is = copied-by rest unit (b == newline) (b == backslash) (b == dot) (b == 116) b is

-- a name that isn't read in copy mode
named-above : (rest : List OpenEscape) (unit : CopyUnit) (purpose : NameUse) (copies : Bool) (b : ℕ)
    → ◌≡◌ {A = Reads} (if copies then name_beginning [] purpose else (GivesUnit (Kept b), [])) (GivesUnit unit, [])
    → (if copies then name_beginning rest purpose else unit_taken rest (Kept b)) ≡ unit_taken rest unit
named-above rest unit purpose true b is = let found = ap (λ (r : Reads). r.0) is in absurd (cc)
named-above rest unit purpose false b is =
    let found = ap (λ (r : Reads). r.0) is in
    let same : Kept b ≡ unit = cc in ap (unit_taken rest) same

read-above : (rest : List OpenEscape) (unit : CopyUnit) (b : ℕ) (kind : Kind) → escape_read InCopy [] b kind ≡ (GivesUnit unit, [])
    → escape_read InCopy rest b kind ≡ unit_taken rest unit
read-above rest unit b BeginsComment is = let found = ap (λ (r : Reads). r.0) is in absurd (cc)
read-above rest unit b (BeginsName purpose) is = named-above rest unit purpose (is_copied purpose || false) b is
read-above rest unit b BeginsWidth is = copied-above rest unit b is
read-above rest unit b BeginsSize is = copied-above rest unit b is
read-above rest unit b (BeginsText purpose) is = copied-above rest unit b is
read-above rest unit b (Prints byte) is = copied-above rest unit b is
read-above rest unit b Blank is = copied-above rest unit b is
read-above rest unit b NoWidth is = copied-above rest unit b is
read-above rest unit b GivesNothing is = copied-above rest unit b is
read-above rest unit b GivesTab is = copied-above rest unit b is
read-above rest unit b Interrupts is = copied-above rest unit b is
read-above rest unit b Brace is = copied-above rest unit b is
read-above rest unit b IsLeftOut is = copied-above rest unit b is

-- a byte that stands for itself is a unit of a name
byte_read-name : (base : Surroundings) (asks : NameUse) (part : NamePart) (names : List OpenEscape) (b : ℕ) → StandsForItself b
    → byte_read base (Name asks part ∷ names) b ≡ unit_of_name names asks part (Byte b)
byte_read-name base asks part names b may =
    ap (λ (c : Bool). if c then (GoesOn, Backslash ∷ Name asks part ∷ names) else unit_of_name names asks part (Byte b))
    (not-first (b == backslash) (is_dropped b || b == newline) may)

-- a unit with which a name is whole
last-unit : (base : Surroundings) (asks : NameUse) (part : NamePart) (names : List OpenEscape) (name : List ℕ) (unit : CopyUnit) (bytes : List ℕ)
    → IsUnit unit bytes
    → unit_of_name names asks part unit ≡ (Asks asks (Some name), names) → AsksAtLast base asks name names (Name asks part ∷ names) bytes
last-unit base asks part names name _ _ (Itself b may) whole =
    AtLast (Name asks part ∷ names) b (IsRead-itself b may) (is_no_newline b may) (byte_read-name base asks part names b may ∙ whole)
last-unit base asks part names name _ _ (Escaped unit b read is) whole =
    Behind _ _ backslash (b ∷ []) refl refl refl refl
    (AtLast (Backslash ∷ Name asks part ∷ names) b read refl (read-above (Name asks part ∷ names) unit b (escape_of b) is ∙ whole))

-- one behind which it isn't
first-unit : (base : Surroundings) (asks : NameUse) (names : List OpenEscape) (name : List ℕ) (a : ℕ) (front bytes : List ℕ) → IsUnit (Byte a) front
    → AsksAtLast base asks name names (Name asks (First a) ∷ names) bytes → AsksAtLast base asks name names (Name asks Opened ∷ names) (front ++ bytes)
first-unit base asks names name _ _ bytes (Itself b may) last =
    Behind _ _ b bytes (IsRead-itself b may) (is_no_newline b may) (byte_read-name base asks Opened names b may) refl last
first-unit base asks names name a _ bytes (Escaped _ b read is) last =
    Behind _ _ backslash (b ∷ bytes) refl refl refl refl
    (Behind (Backslash ∷ Name asks Opened ∷ names) _ b bytes read refl (read-above (Name asks Opened ∷ names) (Byte a) b (escape_of b) is) refl last)

-- the bytes behind a parenthesis
asks-name : (base : Surroundings) (asks : NameUse) (names : List OpenEscape) (name bytes : List ℕ) → reads_above names ≡ true → IsName name bytes
    → AsksAtLast base asks name names (Name asks Opened ∷ names) bytes
asks-name base asks names _ bytes are (OneUnit b _ is) =
    last-unit base asks Opened names (unit_bytes (Kept b)) (Kept b) bytes is (name_given-names names asks (Some (unit_bytes (Kept b))) are)
asks-name base asks names _ _ are (TwoUnits a unit front bytes first second) =
    let name : List ℕ = take 2 (a ∷ unit_bytes unit) in
    first-unit base asks names name a front bytes first
    (last-unit base asks (First a) names name unit bytes second (name_given-names names asks (Some name) are))

-- such an escape is read
names_read_from : (l : Limits) (s : State) (from : Origin) (asks : NameUse) (name escape : List ℕ)
    → HasName asks name escape → TakesItems s → reads_above s.input.escapes ≡ true → names_in s.input.escapes < most_names
    → reads_escapes s.reading ≡ true → s.input.ahead ≡ ahead_at from escape → s.tape ≡ tape_at from escape s.tape
    → let read : State = read_from from asks name (length escape) s in
    IsWithin l s → IsWithin l read → after l (length escape) s ≡ read
names_read_from l s from _ _ _ (OfRegister step name bytes is) takes are few reads ahead tape =
    let on : ReadsEscapes s.reading = ReadsEscapes-reads_escapes s.reading reads in
    let base : Surroundings = place_in (known s) s.reading in
    escape-reads l s from (Register step) name (110 ∷ sign step ++ 40 ∷ bytes) (ARegister step) takes on are
    (finds-signed base (Asks (Register step) (Some name)) s.input.escapes step (40 ∷ bytes) s.input.escapes few
    (Behind _ _ 40 bytes refl refl (byte_read-opening base step s.input.escapes) refl
    (asks-name base (Register step) s.input.escapes name bytes are is))) ahead tape
names_read_from l s from _ _ _ (OfString name bytes is) takes are few reads ahead tape =
    let on : ReadsEscapes s.reading = ReadsEscapes-reads_escapes s.reading reads in
    let base : Surroundings = place_in (known s) s.reading in
    escape-reads l s from OfText name (42 ∷ 40 ∷ bytes) AString takes on are
    (finds-string base (Asks OfText (Some name)) s.input.escapes (40 ∷ bytes) s.input.escapes few
    (Behind _ _ 40 bytes refl refl refl refl (asks-name base OfText s.input.escapes name bytes are is))) ahead tape

pub names_are_their_first_two_bytes : NamesAreTheirFirstTwoBytes
names_are_their_first_two_bytes l s asks name escape rest has takes are few reads ahead =
    names_read_from l s (FromAhead rest) asks name escape has takes are few reads ahead refl

pub names_of_the_source_are_their_first_two_bytes : NamesOfTheSourceAreTheirFirstTwoBytes
names_of_the_source_are_their_first_two_bytes l s asks name escape tape has takes are few reads none stands =
    names_read_from l s (FromSource tape) asks name escape has takes are few reads none stands
