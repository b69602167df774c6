-- Names behind escapes, read within each other.
use Rattle.std.proofs.Common.{◌≡◌, ℕ, zero, suc, ◌+◌, ◌<◌, ◌≤◌, Bool, true, false, List, [], ◌∷◌, ◌++◌, length, replicate, Option, Some, None, refl, arith, rules, ap, ◌∙◌, ◌==◌, ◌||◌, nat_le, if◌then◌else◌}
use Rattle.std.proofs.lemmas.Bool.{lt-leb}
use Rattle.std.proofs.lemmas.List.{length-replicate}
use Rattle.input_source.specs.Bytes.{quote, backslash}
use Rattle.input_escapes.specs.Escapes.{escape_of, is_copied}
use Rattle.input_escapes.specs.OpenEscape.{OpenEscape, Backslash, Comment, Name, Size, Delimited, Width, Condition, names_in}
use Rattle.input_escapes.specs.EscapeLaws.{found_before, escapes_behind, is_special, long_escape, openings, reads_through, short_escape, sign}
use Rattle.input_escapes.specs.OpenEscapes.{Reads, byte_read, escape_read, most_names, name_beginning, name_begun, name_given, name_or_opening, part_at_first, reads_text, surroundings, unit_of_name, unit_taken}
use Rattle.input_escapes.specs.Nesting.{AreNames, are_all_names}
use Rattle.input_escapes.specs.declared.escapes.Escape.TheVariants.{Name as BeginsName}
use Rattle.input_escapes.specs.declared.escapes.NameUse.{NameUse}
use Rattle.input_escapes.specs.declared.escapes.NameUse.TheVariants.{Register, Text, Argument, Character, Font, LeftOut}
use Rattle.input_escapes.specs.declared.open_escape.CopyUnit.TheVariants.{Byte, Kept}
use Rattle.input_escapes.specs.declared.open_escape.NamePart.{NamePart}
use Rattle.input_escapes.specs.declared.open_escape.NamePart.TheVariants.{Nothing, Opened, First}
use Rattle.input_escapes.specs.declared.open_escape.Found.{Found}
use Rattle.input_escapes.specs.declared.open_escape.Found.TheVariants.{GoesOn, Asks}
use Rattle.input_escapes.specs.declared.open_escape.Surroundings.{Surroundings}
use Rattle.roff_num.specs.declared.direction.Direction.{Direction}
use Rattle.roff_num.specs.declared.direction.Direction.TheVariants.{Up, Down}

-- where all are names each of them counts
names_in-names : (names : List OpenEscape) → are_all_names names ≡ true → names_in names ≡ length names
names_in-names [] all = refl
names_in-names (Backslash ∷ rest) all = cc
names_in-names (Comment ∷ rest) all = cc
names_in-names (Name purpose part ∷ rest) all = omega (arith, names_in-names rest all)
names_in-names (Size part ∷ rest) all = cc
names_in-names (Delimited purpose d text ∷ rest) all = cc
names_in-names (Width d width is_deep ∷ rest) all = cc
names_in-names (Condition part text ∷ rest) all = cc

-- a name above them asks for what it names
name_given-names : (names : List OpenEscape) (purpose : NameUse) (name : Option (List ℕ)) → AreNames names → name_given names purpose name ≡ (Asks purpose name, names)
name_given-names [] purpose name are = refl
name_given-names (Backslash ∷ rest) purpose name are = absurd (search (rules, are.all))
name_given-names (Comment ∷ rest) purpose name are = absurd (search (rules, are.all))
name_given-names (Name other part ∷ rest) purpose name are = refl
name_given-names (Size part ∷ rest) purpose name are = absurd (search (rules, are.all))
name_given-names (Delimited other d text ∷ rest) purpose name are = absurd (search (rules, are.all))
name_given-names (Width d width is_deep ∷ rest) purpose name are = absurd (search (rules, are.all))
name_given-names (Condition part text ∷ rest) purpose name are = absurd (search (rules, are.all))

-- what is read on behind a reading
abbrev pub read_on : Surroundings → List ℕ → Reads → List Found × List OpenEscape
read_on base bytes r =
    let others = reads_through base (escapes_behind r.0 r.1) bytes in
    (found_before r.0 others.0, others.1)

-- a byte behind a backslash within names
behind_backslash :
    (base : Surroundings) (names : List OpenEscape) (b : ℕ) (bytes : List ℕ) → AreNames names
    → reads_through base names (backslash ∷ b ∷ bytes) ≡ reads_through base (Backslash ∷ names) (b ∷ bytes)
behind_backslash base [] b bytes are = refl
behind_backslash base (Backslash ∷ rest) b bytes are = absurd (search (rules, are.all))
behind_backslash base (Comment ∷ rest) b bytes are = absurd (search (rules, are.all))
behind_backslash base (Name purpose part ∷ rest) b bytes are = refl
behind_backslash base (Size part ∷ rest) b bytes are = absurd (search (rules, are.all))
behind_backslash base (Delimited purpose d text ∷ rest) b bytes are = absurd (search (rules, are.all))
behind_backslash base (Width d width is_deep ∷ rest) b bytes are = absurd (search (rules, are.all))
behind_backslash base (Condition part text ∷ rest) b bytes are = absurd (search (rules, are.all))

-- an escape that copy mode reads begins a name, if fewer are half read than may be
begun : (purpose : NameUse) (is_full : Bool) (around : Surroundings) (names : List OpenEscape) (b : ℕ) → is_copied purpose ≡ true → nat_le most_names (names_in names) ≡ is_full
    → escape_read around names b (BeginsName purpose) ≡ (GoesOn, (if is_full then names else Name purpose (part_at_first purpose) ∷ names))
begun purpose is_full around names b copied is =
    ap (λ (c : Bool). if c || reads_text around then name_beginning names purpose else unit_taken names (Kept b)) copied
    ∙ ap (λ (c : Bool). (GoesOn, (if c then names else Name purpose (part_at_first purpose) ∷ names))) is

-- and nothing of it is read, but what copy mode reads has no parenthesis in it
part-copied : (purpose : NameUse) → is_copied purpose ≡ true → part_at_first purpose ≡ Nothing
part-copied (Register step) copied = refl
part-copied Text copied = refl
part-copied Argument copied = refl
part-copied Character copied = absurd (cc)
part-copied Font copied = refl
part-copied (LeftOut byte) copied = refl

-- so it does where it is read byte by byte
byte_read-begins :
    (base : Surroundings) (names : List OpenEscape) (b : ℕ) (purpose : NameUse) (is_full : Bool) → AreNames names → escape_of b ≡ BeginsName purpose → is_copied purpose ≡ true
    → nat_le most_names (length names) ≡ is_full
    → byte_read base (Backslash ∷ names) b ≡ (GoesOn, (if is_full then names else Name purpose Nothing ∷ names))
byte_read-begins base names b purpose is_full are is copied room =
    ap (escape_read (surroundings base names) names b) is
    ∙ begun purpose is_full (surroundings base names) names b copied (ap (nat_le most_names) (names_in-names names are.all) ∙ room)
    ∙ ap (λ (part : NamePart). (GoesOn, (if is_full then names else Name purpose part ∷ names))) (part-copied purpose copied)

-- an escape that copy mode reads begins a name
pub begins :
    (base : Surroundings) (names : List OpenEscape) (b : ℕ) (purpose : NameUse) (bytes : List ℕ) → AreNames names → length names < most_names
    → escape_of b ≡ BeginsName purpose → is_copied purpose ≡ true
    → reads_through base names (backslash ∷ b ∷ bytes) ≡ reads_through base (Name purpose Nothing ∷ names) bytes
begins base names b purpose bytes are room is copied =
    behind_backslash base names b bytes are
    ∙ ap (read_on base bytes) (byte_read-begins base names b purpose false are is copied (lt-leb most_names (length names) room))

-- and gives nothing where it would be one too many
pub begins_no_more :
    (base : Surroundings) (names : List OpenEscape) (b : ℕ) (purpose : NameUse) (bytes : List ℕ) → AreNames names → length names ≡ most_names
    → escape_of b ≡ BeginsName purpose → is_copied purpose ≡ true
    → reads_through base names (backslash ∷ b ∷ bytes) ≡ reads_through base names bytes
begins_no_more base names b purpose bytes are all is copied =
    behind_backslash base names b bytes are
    ∙ ap (read_on base bytes) (byte_read-begins base names b purpose true are is copied (ap (nat_le most_names) all))

-- a register's name behind a parenthesis
abbrev opened_name : OpenEscape
opened_name = Name (Register None) Opened

-- many of them are all names
all-opened : (k : ℕ) → are_all_names (replicate k opened_name) ≡ true
all-opened zero = refl
all-opened (suc k) = all-opened k

-- `\n(` so many times begins as many names, within so many
opened-within :
    (base : Surroundings) (k within : ℕ) → within + k ≤ most_names
    → reads_through base (replicate within opened_name) (openings k) ≡ ([], replicate (within + k) opened_name)
opened-within base zero within few = ap (λ n. ([], replicate n opened_name)) (omega arith)
opened-within base (suc k) within few =
    let long : length (replicate within opened_name) ≡ within = length-replicate within opened_name in
    let room : length (replicate within opened_name) < most_names = omega arith in
    let are : AreNames (replicate within opened_name) = record { all = all-opened within; few = omega arith } in
    begins base (replicate within opened_name) 110 (Register None) (40 ∷ openings k) are room refl refl
    ∙ opened-within base k (suc within) (omega arith)
    ∙ ap (λ n. ([], replicate n opened_name)) (omega arith)

-- and where nothing is half read
pub opened-names : (base : Surroundings) (k : ℕ) → k ≤ most_names → reads_through base [] (openings k) ≡ ([], replicate k opened_name)
opened-names base k few =
    opened-within base k 0 (omega arith) ∙ ap (λ n. ([], replicate n opened_name)) (omega arith)

-- in a comment nothing is found
comment_within : (base : Surroundings) (names : List OpenEscape) (bytes : List ℕ) → reads_through base (Comment ∷ names) bytes ≡ ([], Comment ∷ names)
comment_within base names [] = refl
comment_within base names (b ∷ bytes) = comment_within base names bytes

-- so in one behind its escape
pub comment_read : (base : Surroundings) (names : List OpenEscape) (bytes : List ℕ) → AreNames names
    → reads_through base names (backslash ∷ quote ∷ bytes) ≡ ([], Comment ∷ names)
comment_read base names bytes are = behind_backslash base names quote bytes are ∙ comment_within base names bytes

-- a byte that isn't a backslash goes to the name
byte_of_name : (base : Surroundings) (names : List OpenEscape) (purpose : NameUse) (part : NamePart) (x : ℕ)
    → (x == backslash) ≡ false
    → byte_read base (Name purpose part ∷ names) x ≡ unit_of_name names purpose part (Byte x)
byte_of_name base names purpose part x plain =
    ap (λ (c : Bool). if c then (GoesOn, Backslash ∷ Name purpose part ∷ names) else unit_of_name names purpose part (Byte x)) plain

module _ (base : Surroundings) (names : List OpenEscape) (are : AreNames names) where
  -- two bytes behind a parenthesis are a name
  pub opened_read : (purpose : NameUse) (x y : ℕ) → (x == backslash) ≡ false → (y == backslash) ≡ false
      → reads_through base (Name purpose Opened ∷ names) (x ∷ y ∷ []) ≡ (Asks purpose (Some (x ∷ y ∷ [])) ∷ [], names)
  opened_read purpose x y first second =
      ap (read_on base (y ∷ [])) (byte_of_name base names purpose Opened x first)
      ∙ ap (read_on base []) (byte_of_name base names purpose (First x) y second ∙ name_given-names names purpose (Some (x ∷ y ∷ [])) are)

  -- a name of one byte that isn't opened
  name_or_opening-byte : (purpose : NameUse) (x : ℕ) → (x == 40) ≡ false → name_or_opening names purpose x ≡ (Asks purpose (Some (x ∷ [])), names)
  name_or_opening-byte purpose x no_opening =
      ap (λ (c : Bool). if c then (GoesOn, Name purpose Opened ∷ names) else name_given names purpose (Some (x ∷ []))) no_opening
      ∙ name_given-names names purpose (Some (x ∷ [])) are

  -- a string's name of one byte
  pub string_read : (x : ℕ) → (x == backslash) ≡ false → (x == 40) ≡ false
      → reads_through base (Name Text Nothing ∷ names) (x ∷ []) ≡ (Asks Text (Some (x ∷ [])) ∷ [], names)
  string_read x plain no_opening = ap (read_on base []) (byte_of_name base names Text Nothing x plain ∙ name_or_opening-byte Text x no_opening)

  -- an argument's name
  pub argument_read : (x : ℕ) → (x == backslash) ≡ false
      → reads_through base (Name Argument Nothing ∷ names) (x ∷ []) ≡ (Asks Argument (Some (x ∷ [])) ∷ [], names)
  argument_read x plain =
      ap (read_on base []) (byte_of_name base names Argument Nothing x plain ∙ name_given-names names Argument (Some (x ∷ [])) are)

  -- the first byte of a register's name
  register_begun : (step : Option Direction) (x : ℕ) → (x == 43) ≡ false → (x == 45) ≡ false → name_begun names (Register step) x ≡ name_or_opening names (Register step) x
  register_begun None x no_plus no_minus =
      ap (λ (c : Bool). if c then (GoesOn, Name (Register (Some Up)) Nothing ∷ names) else if x == 45 then (GoesOn, Name (Register (Some Down)) Nothing ∷ names) else name_or_opening names (Register None) x) no_plus
      ∙ ap (λ (c : Bool). if c then (GoesOn, Name (Register (Some Down)) Nothing ∷ names) else name_or_opening names (Register None) x) no_minus
  register_begun (Some direction) x no_plus no_minus = refl

  -- a register's name of one byte
  register_byte : (step : Option Direction) (x : ℕ) → (x == backslash) ≡ false → (x == 40) ≡ false → (x == 43) ≡ false → (x == 45) ≡ false
      → reads_through base (Name (Register step) Nothing ∷ names) (x ∷ []) ≡ (Asks (Register step) (Some (x ∷ [])) ∷ [], names)
  register_byte step x plain no_opening no_plus no_minus =
      ap (read_on base [])
      (byte_of_name base names (Register step) Nothing x plain ∙ register_begun step x no_plus no_minus ∙ name_or_opening-byte (Register step) x no_opening)

  -- behind its sign
  behind_sign : (step : Option Direction) (bytes : List ℕ)
      → reads_through base (Name (Register None) Nothing ∷ names) (sign step ++ bytes) ≡ reads_through base (Name (Register step) Nothing ∷ names) bytes
  behind_sign None bytes = refl
  behind_sign (Some Up) bytes = refl
  behind_sign (Some Down) bytes = refl

  -- behind its parenthesis
  behind_opening : (step : Option Direction) (bytes : List ℕ)
      → reads_through base (Name (Register step) Nothing ∷ names) (40 ∷ bytes) ≡ reads_through base (Name (Register step) Opened ∷ names) bytes
  behind_opening None bytes = refl
  behind_opening (Some direction) bytes = refl

  -- a byte that is none of four
  none_of_four : (a b c d : Bool) → (a || (b || (c || (d || false)))) ≡ false → (a ≡ false) × (b ≡ false) × (c ≡ false) × (d ≡ false)
  none_of_four true b c d none = cc
  none_of_four false true c d none = cc
  none_of_four false false true d none = cc
  none_of_four false false false true none = cc
  none_of_four false false false false none = (refl, refl, refl, refl)

  module _ (room : length names < most_names) (step : Option Direction) where
    -- the escape of a register with a name of one byte
    pub short_register_read : (x : ℕ) → is_special x ≡ false → reads_through base names (short_escape step x) ≡ (Asks (Register step) (Some (x ∷ [])) ∷ [], names)
    short_register_read x plain =
        let none = none_of_four (x == backslash) (x == 40) (x == 43) (x == 45) plain in
        begins base names 110 (Register None) (sign step ++ x ∷ []) are room refl refl
        ∙ behind_sign step (x ∷ []) ∙ register_byte step x none.0 none.1 none.2 none.3

    -- and of two
    pub long_register_read : (x y : ℕ) → (x == backslash) ≡ false → (y == backslash) ≡ false
        → reads_through base names (long_escape step x y) ≡ (Asks (Register step) (Some (x ∷ y ∷ [])) ∷ [], names)
    long_register_read x y first second =
        begins base names 110 (Register None) (sign step ++ 40 ∷ x ∷ y ∷ []) are room refl refl
        ∙ behind_sign step (40 ∷ x ∷ y ∷ []) ∙ behind_opening step (x ∷ y ∷ []) ∙ opened_read (Register step) x y first second
