-- Texts without interpolations, copied.
use Rattle.std.proofs.Common.{◌≡◌, ℕ, Bool, true, false, ◌&&◌, cond, List, [], ◌∷◌, ◌++◌, map, Option, Some, refl, sym, ap, subst, append_assoc, ◌∙◌, ◌==◌, ◌||◌, find, flat_map, not, if◌then◌else◌, eqb-true}
use Rattle.std.specs.List.{list_all, list_any}
use Rattle.std.proofs.lemmas.Grind.{flat_map-append}
use Rattle.std.proofs.lemmas.List.{map-append}
use Rattle.input_source.specs.Bytes.{start_of_text, tab, newline, dot, backslash}
use Rattle.input_escapes.specs.Escapes.{escape_in, escape_of, escapes, is_copied}
use Rattle.input_escapes.specs.OpenEscape.{OpenEscape, Backslash, unit_bytes}
use Rattle.input_escapes.specs.EscapeLaws.{FindsBytes, begins_reading, copied, copied_escape, doubled, found_before, escapes_behind, is_only_copied, reads_through, reads_to_end}
use Rattle.input_escapes.specs.OpenEscapes.{Reads, copied_escape as copies_escape, escape_given, escape_read, escape_taken, name_beginning, reading_ended, reads_text, unit_taken}
use Rattle.input_escapes.specs.declared.escapes.Escape.{Escape as Kind}
use Rattle.input_escapes.specs.declared.escapes.Escape.TheVariants.{Prints, Blank, NoWidth, Nothing as GivesNothing, Tab as GivesTab, Interrupts, Brace, LeftOut as IsLeftOut, Comment as BeginsComment, Size as BeginsSize, Name as BeginsName, Text as BeginsText, Width as BeginsWidth}
use Rattle.input_escapes.specs.declared.escapes.Row.{Row}
use Rattle.input_escapes.specs.declared.open_escape.CopyUnit.{CopyUnit}
use Rattle.input_escapes.specs.declared.open_escape.CopyUnit.TheVariants.{Byte, Kept}
use Rattle.input_escapes.specs.declared.open_escape.Found.{Found}
use Rattle.input_escapes.specs.declared.open_escape.Found.TheVariants.{GoesOn, Unit as GivesUnit}
use Rattle.input_escapes.specs.declared.open_escape.Surroundings.{Surroundings}
use Rattle.input_escapes.proofs.NamesRead.{read_on}

-- a byte that is no backslash is copied
copied-plain : (b : ℕ) (text : List ℕ) → (b == backslash) ≡ false → copied (b ∷ text) ≡ b ∷ copied text
copied-plain b [] plain = refl
copied-plain b (c ∷ text) plain = ap (λ (is : Bool). if is then copied_escape c ++ copied text else b ∷ copied (c ∷ text)) plain

-- a byte, twice if it is a backslash
abbrev doubled_byte : Bool → ℕ → List ℕ
doubled_byte is b = if is then backslash ∷ backslash ∷ [] else b ∷ []

copied-doubled_byte :
    (is : Bool) (b : ℕ) (text : List ℕ) → (b == backslash) ≡ is → copied (doubled text) ≡ text → copied (doubled_byte is b ++ doubled text) ≡ b ∷ text
copied-doubled_byte true b text is same = ap (λ (rest : List ℕ). backslash ∷ rest) same ∙ ap (λ (c : ℕ). c ∷ text) (sym (eqb-true b backslash is))
copied-doubled_byte false b text plain same = copied-plain b (doubled text) plain ∙ ap (λ (rest : List ℕ). b ∷ rest) same

-- a text with each backslash twice is copied to itself
pub copied-doubled : (text : List ℕ) → copied (doubled text) ≡ text
copied-doubled [] = refl
copied-doubled (b ∷ text) = copied-doubled_byte (b == backslash) b text refl (copied-doubled text)

-- where each stands four times two copies do
pub copied-doubled_twice : (text : List ℕ) → copied (copied (doubled (doubled text))) ≡ text
copied-doubled_twice text = ap copied (copied-doubled (doubled text)) ∙ copied-doubled text

-- what a byte in copy mode gives
abbrev byte_given : Bool → ℕ → Reads
byte_given is b = if is then (GoesOn, Backslash ∷ []) else (GivesUnit (Byte b), [])

-- units that are bytes
abbrev units_of : List ℕ → List Found
units_of text = map (λ b. GivesUnit (Byte b)) text

-- what is copied where text isn't read
copied_unless : (base : Surroundings) (r : Reads) (b : ℕ) → reads_text base ≡ false → (if reads_text base then r else copies_escape [] b) ≡ copies_escape [] b
copied_unless base r b copies = ap (λ (c : Bool). if c then r else copies_escape [] b) copies

read-doubled_byte :
    (base : Surroundings) (is : Bool) (b : ℕ) (text : List ℕ) → reads_text base ≡ false → (b == backslash) ≡ is
    → reads_through base [] (doubled text) ≡ (units_of text, [])
    → reads_through base [] (doubled_byte is b ++ doubled text) ≡ (GivesUnit (Byte b) ∷ units_of text, [])
read-doubled_byte base true b text copies is same =
    ap (read_on base (doubled text)) (copied_unless base _ backslash copies)
    ∙ ap (λ (r : List Found × List OpenEscape). (GivesUnit (Byte backslash) ∷ r.0, r.1)) same
    ∙ ap (λ (c : ℕ). (GivesUnit (Byte c) ∷ units_of text, [])) (sym (eqb-true b backslash is))
read-doubled_byte base false b text copies plain same =
    ap (λ (is : Bool). read_on base (doubled text) (byte_given is b)) plain
    ∙ ap (λ (r : List Found × List OpenEscape). (GivesUnit (Byte b) ∷ r.0, r.1)) same

-- so it is read
pub read-doubled : (base : Surroundings) (text : List ℕ) → reads_text base ≡ false → reads_through base [] (doubled text) ≡ (units_of text, [])
read-doubled base [] copies = refl
read-doubled base (b ∷ text) copies = read-doubled_byte base (b == backslash) b text copies refl (read-doubled base text copies)

-- whether copy mode changes an escape: `\` and a newline, `\\`, `\.` and `\t`
abbrev is_changed : ℕ → Bool
is_changed b = list_any (λ c. b == c) (newline ∷ backslash ∷ dot ∷ 116 ∷ [])

-- whether an escape is copied where text isn't read: neither a comment nor measured, and a name only if it is kept
abbrev is_plain : ℕ → Kind → Bool
is_plain b BeginsComment = false
is_plain b BeginsWidth = false
is_plain b (BeginsName purpose) = not (is_copied purpose) && not (is_changed b)
is_plain b (_) = true

-- it begins something to be read, or is copied
abbrev begins_or_plain : Row → Bool
begins_or_plain row = begins_reading row.byte || is_plain row.byte row.escape

-- so it is with each row, by computing
each-row : list_all begins_or_plain escapes ≡ true
each-row = refl

any_or_true : (c : Bool) → (c || true) ≡ true
any_or_true true = refl
any_or_true false = refl

both_hold : (a b : Bool) → (a && b) ≡ true → (a ≡ true) × (b ≡ true)
both_hold true b both = (refl, both)
both_hold false b both = cc

not-true : (c : Bool) → not c ≡ true → c ≡ false
not-true true is = cc
not-true false is = refl

-- the escape that is found for a byte
found-row :
    (is : Bool) (b : ℕ) (row : Row) (found : Option Row) → (row.byte == b) ≡ is → begins_or_plain row ≡ true → (begins_reading b || is_plain b (escape_in found b)) ≡ true
    → (begins_reading b || is_plain b (escape_in (cond is (Some row) found) b)) ≡ true
found-row true b row found is plain others = subst (λ (c : ℕ). (begins_reading c || is_plain c row.escape) ≡ true) (eqb-true row.byte b is) plain
found-row false b row found is plain others = others

among-rows : (b : ℕ) (rows : List Row) → list_all begins_or_plain rows ≡ true → (begins_reading b || is_plain b (escape_in (find (λ (row : Row). row.byte == b) rows) b)) ≡ true
among-rows b [] plain = any_or_true (begins_reading b)
among-rows b (row ∷ rows) plain =
    let both = both_hold (begins_or_plain row) (list_all begins_or_plain rows) plain in
    found-row (row.byte == b) b row _ refl both.0 (among-rows b rows both.1)

-- none of four
none_of_four : (a b c d : Bool) → not (a || (b || (c || (d || false)))) ≡ true → (a ≡ false) × (b ≡ false) × (c ≡ false) × (d ≡ false)
none_of_four true b c d none = cc
none_of_four false true c d none = cc
none_of_four false false true d none = cc
none_of_four false false false true none = cc
none_of_four false false false false none = (refl, refl, refl, refl)

-- a byte of which copy mode makes nothing else is kept behind its backslash
kept_behind : (a b c d : Bool) (byte : ℕ) → (a ≡ false) × (b ≡ false) × (c ≡ false) × (d ≡ false)
    → unit_taken [] (Kept byte) ≡ (if a then (GoesOn, []) else if b then unit_taken [] (Byte backslash) else if c then unit_taken [] (Byte dot) else if d then unit_taken [] (Byte tab) else unit_taken [] (Kept byte))
kept_behind a b c d byte none = rw (none.0, none.1, none.2, none.3) refl

-- an escape that is copied
read-plain : (base : Surroundings) (b : ℕ) (kind : Kind) → reads_text base ≡ false → is_plain b kind ≡ true → escape_read base [] b kind ≡ copies_escape [] b
read-plain base b BeginsComment copies plain = cc
read-plain base b BeginsWidth copies plain = cc
read-plain base b (BeginsName purpose) copies plain =
    let both = both_hold (not (is_copied purpose)) (not (is_changed b)) plain in
    ap (λ (c : Bool). if is_copied purpose || c then name_beginning [] purpose else unit_taken [] (Kept b)) copies
    ∙ ap (λ (c : Bool). if c || false then name_beginning [] purpose else unit_taken [] (Kept b)) (not-true (is_copied purpose) both.0)
    ∙ kept_behind (b == newline) (b == backslash) (b == dot) (b == 116) b (none_of_four (b == newline) (b == backslash) (b == dot) (b == 116) both.1)
read-plain base b (Prints byte) copies plain = copied_unless base _ b copies
read-plain base b Blank copies plain = copied_unless base _ b copies
read-plain base b NoWidth copies plain = copied_unless base _ b copies
read-plain base b GivesNothing copies plain = copied_unless base _ b copies
read-plain base b Brace copies plain = copied_unless base _ b copies
read-plain base b GivesTab copies plain = copied_unless base _ b copies
read-plain base b Interrupts copies plain = copied_unless base _ b copies
read-plain base b IsLeftOut copies plain = copied_unless base _ b copies
read-plain base b BeginsSize copies plain = copied_unless base _ b copies
read-plain base b (BeginsText purpose) copies plain = copied_unless base _ b copies

taken-plain : (base : Surroundings) (b : ℕ) (begins : Bool) → reads_text base ≡ false → begins ≡ false → (begins || is_plain b (escape_of b)) ≡ true
    → escape_taken base [] b ≡ copies_escape [] b
taken-plain base b true copies none plain = cc
taken-plain base b false copies none plain = read-plain base b (escape_of b) copies plain

-- so are all that begin nothing to be read
pub taken-copied : (base : Surroundings) (b : ℕ) → reads_text base ≡ false → begins_reading b ≡ false → escape_taken base [] b ≡ copies_escape [] b
taken-copied base b copies none = taken-plain base b (begins_reading b) copies none (among-rows b escapes each-row)

-- what a byte gives are units with these bytes
record Copies (r : Reads) (bytes : List ℕ) : Type 0 where
  units : List CopyUnit
  found : (others : List Found) → found_before r.0 others ≡ map GivesUnit units ++ others
  none : escapes_behind r.0 r.1 ≡ []
  joined : flat_map unit_bytes units ≡ bytes

either : (c : Bool) (x y : Reads) (of_x of_y : List ℕ) → Copies x of_x → Copies y of_y → Copies (if c then x else y) (if c then of_x else of_y)
either true x y of_x of_y copies others = copies
either false x y of_x of_y copies others = others

-- a unit does
Copies-unit : (unit : CopyUnit) → Copies (GivesUnit unit, []) (unit_bytes unit)
Copies-unit (Byte b) = record { units = Byte b ∷ []; found = λ others. refl; none = refl; joined = refl }
Copies-unit (Kept b) = record { units = Kept b ∷ []; found = λ others. refl; none = refl; joined = refl }

-- so does the byte behind a backslash
Copies-escape : (b : ℕ) → Copies (copies_escape [] b) (copied_escape b)
Copies-escape b =
    either (b == newline) _ _ _ _ (record { units = []; found = λ others. refl; none = refl; joined = refl })
    (either (b == backslash) _ _ _ _ (Copies-unit (Byte backslash))
    (either (b == dot) _ _ _ _ (Copies-unit (Byte dot))
    (either (b == 116) _ _ _ _ (Copies-unit (Byte tab)) (Copies-unit (Kept b)))))

-- what was found up to the end
abbrev ended : Surroundings → List Found × List OpenEscape → List Found
ended base read = read.0 ++ found_before (reading_ended base read.1).0 []

-- units behind units
FindsBytes-behind : (base : Surroundings) (r : Reads) (bytes text behind : List ℕ) → Copies r bytes → FindsBytes (reads_to_end base text) behind
    → FindsBytes (ended base (read_on base text r)) (bytes ++ behind)
FindsBytes-behind base r bytes text behind copies rest = record {
  units = copies.units ++ rest.units;
  only =
      ap (λ (half : List OpenEscape). ended base (found_before r.0 (reads_through base half text).0, (reads_through base half text).1)) copies.none
      ∙ ap (λ (found : List Found). found ++ found_before (reading_ended base (reads_through base [] text).1).0 []) (copies.found (reads_through base [] text).0)
      ∙ append_assoc (map GivesUnit copies.units) (reads_through base [] text).0 _
      ∙ ap (λ (found : List Found). map GivesUnit copies.units ++ found) rest.only
      ∙ sym (map-append GivesUnit copies.units rest.units);
  joined =
      flat_map-append unit_bytes copies.units rest.units
      ∙ ap (λ (front : List ℕ). front ++ flat_map unit_bytes rest.units) copies.joined
      ∙ ap (λ (back : List ℕ). bytes ++ back) rest.joined;
}

-- the last byte
FindsBytes-last : (base : Surroundings) (is : Bool) (b : ℕ) → reads_text base ≡ false → (b == backslash) ≡ is
    → FindsBytes (ended base (read_on base [] (byte_given is b))) (b ∷ [])
FindsBytes-last base true b copies is = record {
  units = Byte backslash ∷ [];
  only = ap (λ (c : Bool). found_before (if c then escape_given [] start_of_text else unit_taken [] (Byte backslash)).0 []) copies;
  joined = ap (λ (c : ℕ). c ∷ []) (sym (eqb-true b backslash is));
}
FindsBytes-last base false b copies plain = record { units = Byte b ∷ []; only = refl; joined = refl }

-- a byte with another behind it
FindsBytes-two :
    (base : Surroundings) (is : Bool) (b c : ℕ) (text : List ℕ) → reads_text base ≡ false → (if is then not (begins_reading c) && is_only_copied text else is_only_copied (c ∷ text)) ≡ true
    → (is_only_copied text ≡ true → FindsBytes (reads_to_end base text) (copied text))
    → (is_only_copied (c ∷ text) ≡ true → FindsBytes (reads_to_end base (c ∷ text)) (copied (c ∷ text)))
    → FindsBytes (ended base (read_on base (c ∷ text) (byte_given is b))) (if is then copied_escape c ++ copied text else b ∷ copied (c ∷ text))
FindsBytes-two base true b c text copies only behind behind_plain =
    let both = both_hold (not (begins_reading c)) (is_only_copied text) only in
    let plain : begins_reading c ≡ false = not-true (begins_reading c) both.0 in
    subst (λ (r : Reads). FindsBytes (ended base (read_on base text r)) (copied_escape c ++ copied text)) (sym (taken-copied base c copies plain))
    (FindsBytes-behind base (copies_escape [] c) (copied_escape c) text (copied text) (Copies-escape c) (behind both.1))
FindsBytes-two base false b c text copies only behind behind_plain =
    FindsBytes-behind base (GivesUnit (Byte b), []) (b ∷ []) (c ∷ text) (copied (c ∷ text)) (Copies-unit (Byte b)) (behind_plain only)

-- a text is found as it is copied
pub FindsBytes-copied : (base : Surroundings) (text : List ℕ) → reads_text base ≡ false → is_only_copied text ≡ true → FindsBytes (reads_to_end base text) (copied text)
FindsBytes-copied base [] copies only = record { units = []; only = refl; joined = refl }
FindsBytes-copied base (b ∷ []) copies only = FindsBytes-last base (b == backslash) b copies refl
FindsBytes-copied base (b ∷ c ∷ text) copies only =
    FindsBytes-two base (b == backslash) b c text copies only (FindsBytes-copied base text copies) (FindsBytes-copied base (c ∷ text) copies)
