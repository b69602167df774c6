-- The bytes of an escape, up to the last one of its name, which asks for a text.
use Rattle.std.proofs.Common.{◌≡◌, ℕ, ◌<◌, Bool, true, false, List, ◌∷◌, ◌++◌, Option, Some, None, refl, ap, ◌∙◌, [], nat_le, not, ◌&&◌, ◌||◌, if◌then◌else◌, ◌==◌}
use Rattle.std.proofs.lemmas.Bool.{lt-leb}
use Rattle.std.specs.List.{list_any}
use Rattle.input_source.specs.Bytes.{newline, backslash, is_dropped}
use Rattle.input_escapes.specs.Conditions.{delimiter_met, ends_condition}
use Rattle.input_escapes.specs.EscapeLaws.{is_special, sign}
use Rattle.input_escapes.specs.declared.escapes.NameUse.{NameUse}
use Rattle.input_escapes.specs.declared.escapes.NameUse.TheVariants.{Register, Text as OfText, Argument}
use Rattle.input_escapes.specs.OpenEscapes.{Reads, byte_read, most_names, name_given}
use Rattle.input_escapes.specs.Waiting.{ends_backslash, is_ended_by, takes_backslash_alone}
use Rattle.input_escapes.specs.OpenEscape.{OpenEscape, Backslash, Comment, Name, Size, Delimited, Width, Condition, names_in}
use Rattle.input_escapes.specs.declared.open_escape.ConditionPart.{ConditionPart}
use Rattle.input_escapes.specs.declared.open_escape.ConditionPart.TheVariants.{Choice, Expression, Compared, Decided}
use Rattle.input_escapes.specs.declared.open_escape.NamePart.TheVariants.{Nothing, Opened, First}
use Rattle.input_escapes.specs.declared.open_escape.Found.{Found}
use Rattle.input_escapes.specs.declared.open_escape.Found.TheVariants.{GoesOn, Asks}
use Rattle.input_escapes.specs.declared.open_escape.Surroundings.{Surroundings}
use Rattle.roff_num.specs.declared.direction.Direction.{Direction}
use Rattle.roff_num.specs.declared.direction.Direction.TheVariants.{Up, Down}
use Rattle.law_reading.proofs.Interpolation.{AtLast, Behind, FindsAtLast, IsRead-itself, is_no_newline}
use Rattle.run_model.proofs.ItemsTaken.{not-first}
use Rattle.law_reading.specs.InterpolationLaws.{StandsForItself, reads_in_condition, reads_above}

-- what a name asks for is read there, within names and in a condition
pub name_given-names : (names : List OpenEscape) (asks : NameUse) (name : Option (List ℕ)) → reads_above names ≡ true → name_given names asks name ≡ (Asks asks name, names)
name_given-names [] asks name are = refl
name_given-names (Backslash ∷ rest) asks name are = refl
name_given-names (Comment ∷ rest) asks name are = refl
name_given-names (Size part ∷ rest) asks name are = refl
name_given-names (Name other part ∷ rest) asks name are = refl
name_given-names (Delimited purpose delimiter text ∷ rest) asks name are = refl
name_given-names (Width delimiter width is_deep ∷ rest) asks name are = absurd (cc)
name_given-names (Condition part text ∷ rest) asks name are = refl

-- what isn't so is false
false-not : (c : Bool) → not c ≡ true → c ≡ false
false-not true is = absurd (cc)
false-not false is = refl

-- a backslash begins an escape in a condition that reads them
byte_read-condition : (base : Surroundings) (part : ConditionPart) (text : List ℕ) (rest : List OpenEscape) → reads_in_condition part ≡ true
    → byte_read base (Condition part text ∷ rest) backslash ≡ (GoesOn, Backslash ∷ Condition part text ∷ rest)
byte_read-condition base (Choice negated) text rest reads = refl
byte_read-condition base (Expression negated) text rest reads = refl
byte_read-condition base (Compared negated d first) text rest reads =
    ap (λ (c : Bool). if c then delimiter_met rest negated d first text else (GoesOn, Backslash ∷ Condition (Compared negated d first) text ∷ rest))
    (false-not (backslash == d) reads)
byte_read-condition base (Decided decision freed) text rest reads = absurd (cc)

-- and within names
pub byte_read-backslash : (base : Surroundings) (names : List OpenEscape) → reads_above names ≡ true → byte_read base names backslash ≡ (GoesOn, Backslash ∷ names)
byte_read-backslash base [] are = refl
byte_read-backslash base (Backslash ∷ rest) are = absurd (cc)
byte_read-backslash base (Comment ∷ rest) are = absurd (cc)
byte_read-backslash base (Size part ∷ rest) are = absurd (cc)
byte_read-backslash base (Delimited purpose delimiter text ∷ rest) are = absurd (cc)
byte_read-backslash base (Width delimiter width is_deep ∷ rest) are = absurd (cc)
byte_read-backslash base (Name asks part ∷ rest) are = refl
byte_read-backslash base (Condition part text ∷ rest) are = byte_read-condition base part text rest are

-- and ends nothing there
goes_on-condition : (part : ConditionPart) → reads_in_condition part ≡ true → ends_condition part (Some backslash) ≡ false
goes_on-condition (Choice negated) reads = refl
goes_on-condition (Expression negated) reads = refl
goes_on-condition (Compared negated d first) reads = refl
goes_on-condition (Decided decision freed) reads = absurd (cc)

pub goes_on-names : (names : List OpenEscape) → reads_above names ≡ true → is_ended_by names (Some backslash) ≡ false
goes_on-names [] are = refl
goes_on-names (Backslash ∷ rest) are = absurd (cc)
goes_on-names (Comment ∷ rest) are = absurd (cc)
goes_on-names (Size part ∷ rest) are = absurd (cc)
goes_on-names (Delimited purpose delimiter text ∷ rest) are = absurd (cc)
goes_on-names (Width delimiter width is_deep ∷ rest) are = absurd (cc)
goes_on-names (Name asks part ∷ rest) are = refl
goes_on-names (Condition part text ∷ rest) are = goes_on-condition part are

-- nor does a byte that is read behind it in arguments too, whether the backslash is taken alone there or not
pub goes_on-escape : (alone : Bool) (b : ℕ) → ends_backslash (Some b) ≡ false → (alone && ends_backslash (Some b)) ≡ false
goes_on-escape true b read = read
goes_on-escape false b read = refl

-- bytes of which the last asks for a text, and the others for nothing
abbrev pub AsksAtLast : Surroundings → NameUse → List ℕ → List OpenEscape → List OpenEscape → List ℕ → Type 0
AsksAtLast base asks name behind half bytes = FindsAtLast base (Asks asks (Some name)) behind half bytes

-- the first unit of a name, where it is none of the special bytes
name_begun-plain : (backslash opening plus minus : Bool) (a b c d e : Reads) → (backslash || (opening || (plus || (minus || false)))) ≡ false
    → (if backslash then a else if plus then b else if minus then c else if opening then d else e) ≡ e
name_begun-plain true opening plus minus a b c d e none = absurd (cc)
name_begun-plain false true plus minus a b c d e none = absurd (cc)
name_begun-plain false false true minus a b c d e none = absurd (cc)
name_begun-plain false false false true a b c d e none = absurd (cc)
name_begun-plain false false false false a b c d e none = refl

name_begun-stepped : (backslash opening others : Bool) (a b c : Reads) → (backslash || (opening || others)) ≡ false
    → (if backslash then a else if opening then b else c) ≡ c
name_begun-stepped true opening others a b c none = absurd (cc)
name_begun-stepped false true others a b c none = absurd (cc)
name_begun-stepped false false others a b c none = refl

-- a name of one byte
pub byte_read-short : (base : Surroundings) (asks : Option Direction) (x : ℕ) (names : List OpenEscape) → reads_above names ≡ true → is_special x ≡ false
    → byte_read base (Name (Register asks) Nothing ∷ names) x ≡ (Asks (Register asks) (Some (x ∷ [])), names)
byte_read-short base None x names are plain =
    name_begun-plain (x == backslash) (x == 40) (x == 43) (x == 45) _ _ _ _ _ plain ∙ name_given-names names (Register None) (Some (x ∷ [])) are
byte_read-short base (Some direction) x names are plain =
    name_begun-stepped (x == backslash) (x == 40) (list_any (λ c. x == c) (43 ∷ 45 ∷ [])) _ _ _ plain
    ∙ name_given-names names (Register (Some direction)) (Some (x ∷ [])) are

-- a string's
pub byte_read-string : (base : Surroundings) (x : ℕ) (names : List OpenEscape) → reads_above names ≡ true → (x == backslash) ≡ false → (x == 40) ≡ false
    → byte_read base (Name OfText Nothing ∷ names) x ≡ (Asks OfText (Some (x ∷ [])), names)
byte_read-string base x names are plain no_opening =
    let whole : Reads = name_given names OfText (Some (x ∷ [])) in
    ap (λ (c : Bool). if c then (GoesOn, Backslash ∷ Name OfText Nothing ∷ names) else if x == 40 then (GoesOn, Name OfText Opened ∷ names) else whole) plain
    ∙ ap (λ (c : Bool). if c then (GoesOn, Name OfText Opened ∷ names) else whole) no_opening
    ∙ name_given-names names OfText (Some (x ∷ [])) are

-- and an argument's
pub byte_read-argument : (base : Surroundings) (x : ℕ) (names : List OpenEscape) → reads_above names ≡ true → (x == backslash) ≡ false
    → byte_read base (Name Argument Nothing ∷ names) x ≡ (Asks Argument (Some (x ∷ [])), names)
byte_read-argument base x names are plain =
    ap (λ (c : Bool). if c then (GoesOn, Backslash ∷ Name Argument Nothing ∷ names) else name_given names Argument (Some (x ∷ []))) plain
    ∙ name_given-names names Argument (Some (x ∷ [])) are

-- the byte behind a backslash begins a name
pub begun-names : (names : List OpenEscape) (asks : NameUse) → names_in names < most_names
    → ◌≡◌ {A = Reads} (GoesOn, (if nat_le most_names (names_in names) then names else Name asks Nothing ∷ names)) (GoesOn, Name asks Nothing ∷ names)
begun-names names asks few =
    ap (λ (full : Bool). (GoesOn, (if full then names else Name asks Nothing ∷ names))) (lt-leb most_names (names_in names) few)

-- `n`
pub byte_read-n : (base : Surroundings) (names : List OpenEscape) → names_in names < most_names
    → byte_read base (Backslash ∷ names) 110 ≡ (GoesOn, Name (Register None) Nothing ∷ names)
byte_read-n base names few = begun-names names (Register None) few

-- the bytes behind the backslash: `n`, the sign of the step, and what of the name finds this
pub finds-signed : (base : Surroundings) (found : Found) (behind : List OpenEscape) (asks : Option Direction) (bytes : List ℕ) (names : List OpenEscape)
    → names_in names < most_names → FindsAtLast base found behind (Name (Register asks) Nothing ∷ names) bytes
    → FindsAtLast base found behind (Backslash ∷ names) (110 ∷ sign asks ++ bytes)
finds-signed base found behind None bytes names few last =
    Behind _ _ 110 bytes refl (goes_on-escape (takes_backslash_alone names) 110 refl) (byte_read-n base names few) refl last
finds-signed base found behind (Some Up) bytes names few last =
    Behind _ _ 110 (43 ∷ bytes) refl (goes_on-escape (takes_backslash_alone names) 110 refl) (byte_read-n base names few) refl
    (Behind _ _ 43 bytes refl refl refl refl last)
finds-signed base found behind (Some Down) bytes names few last =
    Behind _ _ 110 (45 ∷ bytes) refl (goes_on-escape (takes_backslash_alone names) 110 refl) (byte_read-n base names few) refl
    (Behind _ _ 45 bytes refl refl refl refl last)

-- a string's: `*`, and the name
pub finds-string : (base : Surroundings) (found : Found) (behind : List OpenEscape) (bytes : List ℕ) (names : List OpenEscape) → names_in names < most_names
    → FindsAtLast base found behind (Name OfText Nothing ∷ names) bytes → FindsAtLast base found behind (Backslash ∷ names) (42 ∷ bytes)
finds-string base found behind bytes names few last =
    Behind _ _ 42 bytes refl (goes_on-escape (takes_backslash_alone names) 42 refl) (begun-names names OfText few) refl last

-- an argument's: `$`, and the name
pub asks-argument : (base : Surroundings) (name bytes : List ℕ) (names : List OpenEscape) → names_in names < most_names
    → AsksAtLast base Argument name names (Name Argument Nothing ∷ names) bytes
    → AsksAtLast base Argument name names (Backslash ∷ names) (36 ∷ bytes)
asks-argument base name bytes names few last =
    Behind _ _ 36 bytes refl (goes_on-escape (takes_backslash_alone names) 36 refl) (begun-names names Argument few) refl last

-- the first of two bytes behind a parenthesis
pub byte_read-opened : (base : Surroundings) (asks : NameUse) (x : ℕ) (names : List OpenEscape) → StandsForItself x
    → byte_read base (Name asks Opened ∷ names) x ≡ (GoesOn, Name asks (First x) ∷ names)
byte_read-opened base asks x names may =
    ap (λ (c : Bool). if c then (GoesOn, Backslash ∷ Name asks Opened ∷ names) else (GoesOn, Name asks (First x) ∷ names))
    (not-first (x == backslash) (is_dropped x || x == newline) may)

-- two bytes behind a parenthesis
pub asks-opened : (base : Surroundings) (asks : NameUse) (x y : ℕ) (names : List OpenEscape) → reads_above names ≡ true → StandsForItself x → StandsForItself y
    → AsksAtLast base asks (x ∷ y ∷ []) names (Name asks Opened ∷ names) (x ∷ y ∷ [])
asks-opened base asks x y names are first second =
    let begun : List OpenEscape = Name asks (First x) ∷ names in
    let of_second : byte_read base begun y ≡ (Asks asks (Some (x ∷ y ∷ [])), names) =
    ap (λ (c : Bool). if c then (GoesOn, Backslash ∷ begun) else name_given names asks (Some (x ∷ y ∷ [])))
    (not-first (y == backslash) (is_dropped y || y == newline) second)
    ∙ name_given-names names asks (Some (x ∷ y ∷ [])) are in
    Behind _ _ x (y ∷ []) (IsRead-itself x first) (is_no_newline x first) (byte_read-opened base asks x names first) refl
    (AtLast _ y (IsRead-itself y second) (is_no_newline y second) of_second)

-- a register's parenthesis
pub byte_read-opening : (base : Surroundings) (asks : Option Direction) (names : List OpenEscape)
    → byte_read base (Name (Register asks) Nothing ∷ names) 40 ≡ (GoesOn, Name (Register asks) Opened ∷ names)
byte_read-opening base None names = refl
byte_read-opening base (Some direction) names = refl
