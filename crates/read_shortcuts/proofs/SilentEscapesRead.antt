-- An escape that prints nothing, read byte by byte on a text line or where one begins: it changes only what is read.
use Rattle.std.proofs.Common.{◌≡◌, ℕ, zero, suc, ◌≤◌, ◌<◌, Bool, true, false, not, ◌==◌, List, [], ◌∷◌, length, take, Option, None, Some, refl, sym, ap, subst, ◌∙◌, arith, ℤ, ◌&&◌, ◌||◌, nat_le, nat_lt, if◌then◌else◌, eqb-true, leb-true}
use Rattle.std.proofs.lemmas.Bool.Decides.{nat_tests}
use Rattle.input_escapes.specs.OpenEscape.{Backslash, Name, OpenEscape, Size}
use Rattle.input_escapes.specs.OpenEscapes.{byte_read, is_first_digit, is_sign, name_or_opening, unit_of_name}
use Rattle.input_escapes.specs.Waiting.{is_ended_by, is_of_size}
use Rattle.input_escapes.specs.declared.escapes.NameUse.TheVariants.{Font}
use Rattle.input_escapes.specs.declared.open_escape.CopyUnit.TheVariants.{Byte}
use Rattle.input_escapes.specs.declared.open_escape.Found.{Found}
use Rattle.input_escapes.specs.declared.open_escape.Found.TheVariants.{Asks, Escape, GoesOn}
use Rattle.input_escapes.specs.declared.open_escape.NamePart.{NamePart}
use Rattle.input_escapes.specs.declared.open_escape.NamePart.TheVariants.{Nothing, Opened, First}
use Rattle.input_escapes.specs.declared.open_escape.SizePart.{SizePart}
use Rattle.input_escapes.specs.declared.open_escape.SizePart.TheVariants.{Nothing as NoSize, Sign, Digit}
use Rattle.input_escapes.specs.declared.open_escape.Surroundings.TheVariants.{Text as AboveText}
use Rattle.input_model.specs.Unread.{IsWithin}
use Rattle.input_source.specs.Bytes.{backslash, is_argument_byte, is_digit, is_dropped, is_silent, newline, tab}
use Rattle.input_source.specs.Tape.{Tape}
use Rattle.read_lines.specs.Reader.State.{ReaderState}
use Rattle.read_shortcuts.proofs.EscapesRead.{HoldsNone, ReadsEscape, ReadsText, front, holds-backslash, holds-name, holds-nothing, holds-size, last, text-line, text-start, turned-escape}
use Rattle.read_shortcuts.proofs.HeldRuns.{none_of_three}
use Rattle.read_shortcuts.proofs.RunsRead.{first_of_front, reads-bytes}
use Rattle.read_shortcuts.specs.SilentEscapes.{are_argument_bytes, begins_long_size, font_escape, is_silent_letter, long_font, long_size, names_font, silent_behind, silent_escape, size_escape, takes_silent}
use Rattle.read_shortcuts.specs.Stages.{ReadsPast}
use Rattle.roff_scan.specs.Unread.Calls.{NoNewline, PassesFront, front_bytes}
use Rattle.run_model.specs.Reading.Beginnings.{going_on_told, line_begun_as}
use Rattle.run_model.specs.Reading.Found.{found_in}
use Rattle.run_model.specs.Reading.Items.{PageInput, PageUnread, behind_events, meaning_events}
use Rattle.run_model.specs.Reading.TextLines.{fresh_line, other_taking}
use Rattle.run_model.specs.Registers.{Known}
use Rattle.run_model.specs.Stages.{Turned, stage_of}
use Rattle.run_model.specs.declared.line_state.LineState.{LineState}
use Rattle.run_model.specs.declared.line_state.LineState.TheVariants.{Branch, Braced, Collecting, Control, Deciding, Dropped, Exiting, LineStart, Name as OfControl, Skipping, Text as InText, Title as InTitle, TitleFront, Told}
use Rattle.run_model.specs.declared.line_state.TextLine.{TextLine}

-- a byte of an escape is neither a backslash nor a newline, and isn't dropped
pub record IsPlain (b : ℕ) : Type 0 where
  pub escape : (b == backslash) ≡ false
  pub stays : is_dropped b ≡ false
  pub line : (b == newline) ≡ false

pub is_plain : (b : ℕ) → is_argument_byte b ≡ true → IsPlain b
is_plain b plain =
    let none = none_of_three (b == backslash) (is_dropped b) (b == newline) plain in
    record { escape = none.0; stays = none.1.0; line = none.1.1 }

-- and so is one between the blank and the backslash
kept : (b : ℕ) → nat_lt b 32 ≡ false → (b == 127) ≡ false → is_dropped b ≡ false
kept b above no_del =
    ap (λ (c : Bool). (c || b == 127) && not (b == newline || b == tab || is_silent b)) above
    ∙ ap (λ (c : Bool). (false || c) && not (b == newline || b == tab || is_silent b)) no_del

between : (b : ℕ) → 32 ≤ b → b ≤ 91 → IsPlain b
between b least most = record {
  escape = grind (arith, nat_tests);
  stays = kept b (grind (arith, nat_tests)) (grind (arith, nat_tests));
  line = grind (arith, nat_tests);
}

-- the parts of tests
pub both : (a b : Bool) → (a && b) ≡ true → (a ≡ true) × (b ≡ true)
both true true is = (refl, refl)
both true false is = absurd (cc)
both false b is = absurd (cc)

not_true : (a : Bool) → not a ≡ true → a ≡ false
not_true true is = absurd (cc)
not_true false is = refl

-- a digit of a size
pub record IsDigit (b : ℕ) : Type 0 where
  pub plain : IsPlain b
  pub digit : is_digit b ≡ true
  pub no_sign : is_sign b ≡ false

is_digit-plain : (b : ℕ) → is_digit b ≡ true → IsDigit b
is_digit-plain b is =
    let bounds = both (nat_le 48 b) (nat_le b 57) is in
    let least : 48 ≤ b = leb-true 48 b bounds.0 in
    let most : b ≤ 57 = leb-true b 57 bounds.1 in
    let up : (b == 43) ≡ false = grind (arith, nat_tests) in
    let down : (b == 45) ≡ false = grind (arith, nat_tests) in
    record {
      plain = between b (omega (arith, least)) (omega (arith, most));
      digit = is;
      no_sign = ap (λ (c : Bool). c || b == 45) up ∙ ap (λ (c : Bool). false || c) down;
    }

-- a first digit is one
is_first-digit : (b : ℕ) → is_first_digit b ≡ true → is_digit b ≡ true
is_first-digit b is =
    let bounds = both (nat_le 49 b) (nat_le b 51) is in
    let least : 49 ≤ b = leb-true 49 b bounds.0 in
    let most : b ≤ 51 = leb-true b 51 bounds.1 in
    let above : nat_le 48 b ≡ true = grind (arith, nat_tests) in
    let below : nat_le b 57 ≡ true = grind (arith, nat_tests) in
    ap (λ (c : Bool). c && nat_le b 57) above ∙ below

-- the bytes of such an escape
pub data IsSilent : List ℕ → Type 0 where
  ShortFont : (b : ℕ) → IsPlain b → (b == 40) ≡ false → IsSilent (backslash ∷ 102 ∷ b ∷ [])
  LongFont : (a b : ℕ) → IsPlain a → IsPlain b → IsSilent (backslash ∷ 102 ∷ 40 ∷ a ∷ b ∷ [])
  OneDigit : (b : ℕ) → IsDigit b → is_first_digit b ≡ false → IsSilent (backslash ∷ 115 ∷ b ∷ [])
  TwoDigits : (a b : ℕ) → IsDigit a → is_first_digit a ≡ true → IsDigit b → IsSilent (backslash ∷ 115 ∷ a ∷ b ∷ [])
  Larger : (b : ℕ) → IsDigit b → IsSilent (backslash ∷ 115 ∷ 43 ∷ b ∷ [])
  Smaller : (b : ℕ) → IsDigit b → IsSilent (backslash ∷ 115 ∷ 45 ∷ b ∷ [])
  Hyphenation : IsSilent (backslash ∷ 37 ∷ [])
  Narrow : IsSilent (backslash ∷ 124 ∷ [])
  Narrower : IsSilent (backslash ∷ 94 ∷ [])

-- so many bytes in front are one
pub record SilentFront (count : ℕ) (front : List ℕ) : Type 0 where
  pub silent : IsSilent (take count front)
  pub few : count ≤ length front

long_font_by : (a b : ℕ) (bytes : List ℕ) (is_name : Bool) → are_argument_bytes a b ≡ is_name → 0 < (if is_name then 5 else 0)
    → SilentFront (if is_name then 5 else 0) (backslash ∷ 102 ∷ 40 ∷ a ∷ b ∷ bytes)
long_font_by a b bytes true is some =
    let parts = both (is_argument_byte a) (is_argument_byte b) is in
    record { silent = LongFont a b (is_plain a parts.0) (is_plain b parts.1); few = omega arith }
long_font_by a b bytes false is some = absurd (omega (arith, some))

long_font_front : (bytes : List ℕ) → 0 < long_font bytes → SilentFront (long_font bytes) (backslash ∷ 102 ∷ 40 ∷ bytes)
long_font_front [] some = absurd (omega (arith, some))
long_font_front (a ∷ []) some = absurd (omega (arith, some))
long_font_front (a ∷ b ∷ bytes) some = long_font_by a b bytes (are_argument_bytes a b) refl some

short_font_by : (b : ℕ) (bytes : List ℕ) (is_name : Bool) → names_font b ≡ is_name → 0 < (if is_name then 3 else 0)
    → SilentFront (if is_name then 3 else 0) (backslash ∷ 102 ∷ b ∷ bytes)
short_font_by b bytes true is some =
    let parts = both (is_argument_byte b) (not (b == 40)) is in
    record { silent = ShortFont b (is_plain b parts.0) (not_true (b == 40) parts.1); few = omega arith }
short_font_by b bytes false is some = absurd (omega (arith, some))

font_by : (b : ℕ) (bytes : List ℕ) (opens : Bool) → (b == 40) ≡ opens → 0 < (if opens then long_font bytes else if names_font b then 3 else 0)
    → SilentFront (if opens then long_font bytes else if names_font b then 3 else 0) (backslash ∷ 102 ∷ b ∷ bytes)
font_by b bytes true is some =
    subst (λ (n : ℕ). SilentFront (long_font bytes) (backslash ∷ 102 ∷ n ∷ bytes)) (sym (eqb-true b 40 is)) (long_font_front bytes some)
font_by b bytes false is some = short_font_by b bytes (names_font b) refl some

font_front : (bytes : List ℕ) → 0 < font_escape bytes → SilentFront (font_escape bytes) (backslash ∷ 102 ∷ bytes)
font_front [] some = absurd (omega (arith, some))
font_front (b ∷ bytes) some = font_by b bytes (b == 40) refl some

-- sizes
signed_size : (a b : ℕ) (up down first : Bool) → (a == 43) ≡ up → (a == 45) ≡ down → is_first_digit a ≡ first → ((up || down) || first) ≡ true → IsDigit b
    → IsSilent (backslash ∷ 115 ∷ a ∷ b ∷ [])
signed_size a b true down first is _ _ _ digit = subst (λ (n : ℕ). IsSilent (backslash ∷ 115 ∷ n ∷ b ∷ [])) (sym (eqb-true a 43 is)) (Larger b digit)
signed_size a b false true first _ is _ _ digit = subst (λ (n : ℕ). IsSilent (backslash ∷ 115 ∷ n ∷ b ∷ [])) (sym (eqb-true a 45 is)) (Smaller b digit)
signed_size a b false false true _ _ is _ digit = TwoDigits a b (is_digit-plain a (is_first-digit a is)) is digit
signed_size a b false false false _ _ _ wrong digit = absurd (cc)

long_size_by : (a b : ℕ) (bytes : List ℕ) (digit : Bool) → is_digit b ≡ digit → begins_long_size a ≡ true → 0 < (if digit then 4 else 0)
    → SilentFront (if digit then 4 else 0) (backslash ∷ 115 ∷ a ∷ b ∷ bytes)
long_size_by a b bytes true is begins some = record {
  silent = signed_size a b (a == 43) (a == 45) (is_first_digit a) refl refl refl begins (is_digit-plain b is);
  few = omega arith;
}
long_size_by a b bytes false is begins some = absurd (omega (arith, some))

long_size_front : (a : ℕ) (bytes : List ℕ) → begins_long_size a ≡ true → 0 < long_size bytes → SilentFront (long_size bytes) (backslash ∷ 115 ∷ a ∷ bytes)
long_size_front a [] begins some = absurd (omega (arith, some))
long_size_front a (b ∷ bytes) begins some = long_size_by a b bytes (is_digit b) refl begins some

neither : (a b : Bool) → (a || b) ≡ false → b ≡ false
neither true b none = absurd (cc)
neither false b none = none

short_size_by : (b : ℕ) (bytes : List ℕ) (digit : Bool) → is_digit b ≡ digit → begins_long_size b ≡ false → 0 < (if digit then 3 else 0)
    → SilentFront (if digit then 3 else 0) (backslash ∷ 115 ∷ b ∷ bytes)
short_size_by b bytes true is begins some = record {
  silent = OneDigit b (is_digit-plain b is) (neither (is_sign b) (is_first_digit b) begins);
  few = omega arith;
}
short_size_by b bytes false is begins some = absurd (omega (arith, some))

size_by : (b : ℕ) (bytes : List ℕ) (begins : Bool) → begins_long_size b ≡ begins → 0 < (if begins then long_size bytes else if is_digit b then 3 else 0)
    → SilentFront (if begins then long_size bytes else if is_digit b then 3 else 0) (backslash ∷ 115 ∷ b ∷ bytes)
size_by b bytes true is some = long_size_front b bytes is some
size_by b bytes false is some = short_size_by b bytes (is_digit b) refl is some

size_front : (bytes : List ℕ) → 0 < size_escape bytes → SilentFront (size_escape bytes) (backslash ∷ 115 ∷ bytes)
size_front [] some = absurd (omega (arith, some))
size_front (b ∷ bytes) some = size_by b bytes (begins_long_size b) refl some

-- single letters
letter_by : (b : ℕ) (bytes : List ℕ) (first second third : Bool) → (b == 37) ≡ first → (b == 124) ≡ second → (b == 94) ≡ third → 0 < (if first || second || third then 2 else 0)
    → SilentFront (if first || second || third then 2 else 0) (backslash ∷ b ∷ bytes)
letter_by b bytes true second third is _ _ some =
    subst (λ (n : ℕ). SilentFront 2 (backslash ∷ n ∷ bytes)) (sym (eqb-true b 37 is)) (record { silent = Hyphenation; few = omega arith })
letter_by b bytes false true third _ is _ some =
    subst (λ (n : ℕ). SilentFront 2 (backslash ∷ n ∷ bytes)) (sym (eqb-true b 124 is)) (record { silent = Narrow; few = omega arith })
letter_by b bytes false false true _ _ is some =
    subst (λ (n : ℕ). SilentFront 2 (backslash ∷ n ∷ bytes)) (sym (eqb-true b 94 is)) (record { silent = Narrower; few = omega arith })
letter_by b bytes false false false _ _ _ some = absurd (omega (arith, some))

behind_by : (b : ℕ) (bytes : List ℕ) (font size : Bool) → (b == 102) ≡ font → (b == 115) ≡ size
    → 0 < (if font then font_escape bytes else if size then size_escape bytes else if is_silent_letter b then 2 else 0)
    → SilentFront (if font then font_escape bytes else if size then size_escape bytes else if is_silent_letter b then 2 else 0) (backslash ∷ b ∷ bytes)
behind_by b bytes true size is _ some = subst (λ (n : ℕ). SilentFront (font_escape bytes) (backslash ∷ n ∷ bytes)) (sym (eqb-true b 102 is)) (font_front bytes some)
behind_by b bytes false true _ is some = subst (λ (n : ℕ). SilentFront (size_escape bytes) (backslash ∷ n ∷ bytes)) (sym (eqb-true b 115 is)) (size_front bytes some)
behind_by b bytes false false _ _ some = letter_by b bytes (b == 37) (b == 124) (b == 94) refl refl refl some

behind_front : (bytes : List ℕ) → 0 < silent_behind bytes → SilentFront (silent_behind bytes) (backslash ∷ bytes)
behind_front [] some = absurd (omega (arith, some))
behind_front (b ∷ bytes) some = behind_by b bytes (b == 102) (b == 115) refl refl some

front_by : (b : ℕ) (bytes : List ℕ) (escapes : Bool) → (b == backslash) ≡ escapes → 0 < (if escapes then silent_behind bytes else 0)
    → SilentFront (if escapes then silent_behind bytes else 0) (b ∷ bytes)
front_by b bytes true is some = subst (λ (n : ℕ). SilentFront (silent_behind bytes) (n ∷ bytes)) (sym (eqb-true b backslash is)) (behind_front bytes some)
front_by b bytes false is some = absurd (omega (arith, some))

silent_front : (front : List ℕ) → 0 < silent_escape front → SilentFront (silent_escape front) front
silent_front [] some = absurd (omega (arith, some))
silent_front (b ∷ bytes) some = front_by b bytes (b == backslash) refl some

-- where a length was told that isn't 0
above_zero : (n : ℕ) → (n ≡ 0 → ⊥) → 0 < n
above_zero zero isnt = absurd (isnt refl)
above_zero (suc n) isnt = omega arith

pub silent_of : (count : ℕ) (front : List ℕ) → count ≡ silent_escape front → (count ≡ 0 → ⊥) → SilentFront count front
silent_of count front is isnt =
    subst (λ (n : ℕ). SilentFront n front) (sym is) (silent_front front (subst (λ (n : ℕ). 0 < n) is (above_zero count isnt)))

-- no newline stands in it
no_newline : (bytes : List ℕ) → IsSilent bytes → NoNewline bytes
no_newline _ (ShortFont b plain opens) = (refl, (refl, (plain.line, tt)))
no_newline _ (LongFont a b first second) = (refl, (refl, (refl, (first.line, (second.line, tt)))))
no_newline _ (OneDigit b digit alone) = (refl, (refl, (digit.plain.line, tt)))
no_newline _ (TwoDigits a b first begins second) = (refl, (refl, (first.plain.line, (second.plain.line, tt))))
no_newline _ (Larger b digit) = (refl, (refl, (refl, (digit.plain.line, tt))))
no_newline _ (Smaller b digit) = (refl, (refl, (refl, (digit.plain.line, tt))))
no_newline _ Hyphenation = (refl, (refl, tt))
no_newline _ Narrow = (refl, (refl, tt))
no_newline _ Narrower = (refl, (refl, tt))

pub no_newline_in_silent : (count : ℕ) (front ready : List ℕ) (u : PageUnread) → SilentFront count front → front ≡ front_bytes (length front) ready u → NoNewline (front_bytes count ready u)
no_newline_in_silent count front ready u silent stood =
    subst NoNewline (first_of_front front count ready u stood silent.few) (no_newline (take count front) silent.silent)

-- what its last byte gives
pub data IsSilentFound : Found → Type 0 where
  OfFont : (name : Option (List ℕ)) → IsSilentFound (Asks Font name)
  OfSize : IsSilentFound (Escape 115)
  OfHyphenation : IsSilentFound (Escape 37)
  OfNarrow : IsSilentFound (Escape 124)
  OfNarrower : IsSilentFound (Escape 94)

-- where that changes only what is read its bytes are read so, one by one
module _ (reading there : LineState) (Ready : Known → Type 0) (text : ReadsText reading)
    (means : (k : Known) (i : PageInput) (found : Found) → IsSilentFound found → Ready k → found_in k i reading found ≡ meaning_events i there []) where
  -- its first bytes
  opened : (b : ℕ) (bytes : List ℕ) (half : List OpenEscape) → HoldsNone half → is_dropped b ≡ false → ((p : ℤ) → byte_read (AboveText p) (Backslash ∷ []) b ≡ (GoesOn, half))
      → ReadsEscape reading there [] Ready half bytes → ReadsEscape reading there [] Ready [] (backslash ∷ b ∷ bytes)
  opened b bytes half holds stays gives escape =
      front reading there [] Ready text [] (Backslash ∷ []) backslash (b ∷ bytes) holds-nothing holds-backslash refl refl (λ p. refl)
      (front reading there [] Ready text (Backslash ∷ []) half b bytes holds-backslash holds refl stays gives escape)

  -- its last byte
  ended : (half : List OpenEscape) (b : ℕ) (found : Found) → HoldsNone half → is_ended_by half (Some b) ≡ false → is_dropped b ≡ false → IsSilentFound found
      → ((p : ℤ) → byte_read (AboveText p) half b ≡ (found, [])) → ReadsEscape reading there [] Ready half (b ∷ [])
  ended half b found holds goes stays silent gives =
      last reading there [] Ready text half b found holds goes stays gives (λ k i ready. means k i found silent ready)

  letter : (b : ℕ) → is_dropped b ≡ false → IsSilentFound (Escape b) → ((p : ℤ) → byte_read (AboveText p) (Backslash ∷ []) b ≡ (Escape b, []))
      → ReadsEscape reading there [] Ready [] (backslash ∷ b ∷ [])
  letter b stays silent gives =
      front reading there [] Ready text [] (Backslash ∷ []) backslash (b ∷ []) holds-nothing holds-backslash refl refl (λ p. refl)
      (ended (Backslash ∷ []) b (Escape b) holds-backslash refl stays silent gives)

  -- the name of a font behind what is read of it
  first_name : (b : ℕ) → IsPlain b → (b == 40) ≡ false → (p : ℤ) → byte_read (AboveText p) (Name Font Nothing ∷ []) b ≡ (Asks Font (Some (b ∷ [])), [])
  first_name b plain opens p =
      ap (λ (c : Bool). if c then (GoesOn, Backslash ∷ Name Font Nothing ∷ []) else name_or_opening [] Font b) plain.escape
      ∙ ap (λ (c : Bool). if c then (GoesOn, Name Font Opened ∷ []) else (Asks Font (Some (b ∷ [])), [])) opens

  byte_named : (part : NamePart) (b : ℕ) → IsPlain b → (p : ℤ) → byte_read (AboveText p) (Name Font part ∷ []) b ≡ unit_of_name [] Font part (Byte b)
  byte_named part b plain p = ap (λ (c : Bool). if c then (GoesOn, Backslash ∷ Name Font part ∷ []) else unit_of_name [] Font part (Byte b)) plain.escape

  -- a digit of a size, where it belongs to it
  goes_on-sized : (part : SizePart) (b : ℕ) → IsDigit b → is_of_size part b ≡ true → is_ended_by (Size part ∷ []) (Some b) ≡ false
  goes_on-sized part b digit of_size = ap not of_size

  of_size-first : (b : ℕ) → IsDigit b → is_of_size NoSize b ≡ true
  of_size-first b digit = ap (λ (c : Bool). c || is_digit b) digit.no_sign ∙ digit.digit

  first_digit : (b : ℕ) (first : Bool) → IsDigit b → is_first_digit b ≡ first → (p : ℤ)
      → byte_read (AboveText p) (Size NoSize ∷ []) b ≡ (if first then (GoesOn, Size Digit ∷ []) else (Escape 115, []))
  first_digit b first digit is p =
      ap (λ (c : Bool). if c then (GoesOn, Size Sign ∷ []) else if is_first_digit b then (GoesOn, Size Digit ∷ []) else (Escape 115, [])) digit.no_sign
      ∙ ap (λ (c : Bool). if c then (GoesOn, Size Digit ∷ []) else (Escape 115, [])) is

  size_last : (part : SizePart) (b : ℕ) → IsDigit b → is_of_size part b ≡ true → ((p : ℤ) → byte_read (AboveText p) (Size part ∷ []) b ≡ (Escape 115, []))
      → ReadsEscape reading there [] Ready (Size part ∷ []) (b ∷ [])
  size_last part b digit of_size gives =
      ended (Size part ∷ []) b (Escape 115) (holds-size part) (goes_on-sized part b digit of_size) digit.plain.stays OfSize gives

  sized : (a b : ℕ) (part : SizePart) → is_dropped a ≡ false → is_of_size NoSize a ≡ true → IsDigit b → is_of_size part b ≡ true
      → ((p : ℤ) → byte_read (AboveText p) (Size NoSize ∷ []) a ≡ (GoesOn, Size part ∷ []))
      → ((p : ℤ) → byte_read (AboveText p) (Size part ∷ []) b ≡ (Escape 115, []))
      → ReadsEscape reading there [] Ready [] (backslash ∷ 115 ∷ a ∷ b ∷ [])
  sized a b part stays of_size digit more begins gives =
      opened 115 (a ∷ b ∷ []) (Size NoSize ∷ []) (holds-size NoSize) refl (λ p. refl)
      (front reading there [] Ready text (Size NoSize ∷ []) (Size part ∷ []) a (b ∷ []) (holds-size NoSize) (holds-size part) (ap not of_size) stays begins
      (size_last part b digit more gives))

  pub silent-escape : (bytes : List ℕ) → IsSilent bytes → ReadsEscape reading there [] Ready [] bytes
  silent-escape _ (ShortFont b plain opens) =
      opened 102 (b ∷ []) (Name Font Nothing ∷ []) (holds-name Font Nothing) refl (λ p. refl)
      (ended (Name Font Nothing ∷ []) b (Asks Font (Some (b ∷ []))) (holds-name Font Nothing) plain.line plain.stays (OfFont (Some (b ∷ []))) (first_name b plain opens))
  silent-escape _ (LongFont a b first second) =
      opened 102 (40 ∷ a ∷ b ∷ []) (Name Font Nothing ∷ []) (holds-name Font Nothing) refl (λ p. refl)
      (front reading there [] Ready text (Name Font Nothing ∷ []) (Name Font Opened ∷ []) 40 (a ∷ b ∷ []) (holds-name Font Nothing) (holds-name Font Opened) refl refl (λ p. refl)
      (front reading there [] Ready text (Name Font Opened ∷ []) (Name Font (First a) ∷ []) a (b ∷ []) (holds-name Font Opened) (holds-name Font (First a)) first.line first.stays
      (byte_named Opened a first)
      (ended (Name Font (First a) ∷ []) b (Asks Font (Some (a ∷ b ∷ []))) (holds-name Font (First a)) second.line second.stays (OfFont (Some (a ∷ b ∷ [])))
      (byte_named (First a) b second))))
  silent-escape _ (OneDigit b digit alone) =
      opened 115 (b ∷ []) (Size NoSize ∷ []) (holds-size NoSize) refl (λ p. refl)
      (size_last NoSize b digit (of_size-first b digit) (first_digit b false digit alone))
  silent-escape _ (TwoDigits a b first begins second) =
      sized a b Digit first.plain.stays (of_size-first a first) second second.digit (first_digit a true first begins) (λ p. refl)
  silent-escape _ (Larger b digit) = sized 43 b Sign refl refl digit digit.digit (λ p. refl) (λ p. refl)
  silent-escape _ (Smaller b digit) = sized 45 b Sign refl refl digit digit.digit (λ p. refl) (λ p. refl)
  silent-escape _ Hyphenation = letter 37 refl OfHyphenation (λ p. refl)
  silent-escape _ Narrow = letter 124 refl OfNarrow (λ p. refl)
  silent-escape _ Narrower = letter 94 refl OfNarrower (λ p. refl)

-- on a text line
means-line : (line : TextLine) (k : Known) (i : PageInput) (found : Found) → IsSilentFound found
    → found_in k i (InText line) found ≡ meaning_events i (InText (record line { has_other = true })) []
means-line line k i _ (OfFont name) = refl
means-line line k i _ OfSize = refl
means-line line k i _ OfHyphenation = refl
means-line line k i _ OfNarrow = refl
means-line line k i _ OfNarrower = refl

-- so it was read past there
pub reads-silent : (gave gives : Tape → Type 0) (count : ℕ) (front ready : List ℕ) (line : TextLine) (old new : ReaderState) (before after : PageUnread)
    → before.input.escapes ≡ [] → old.reading ≡ InText line → SilentFront count front → front ≡ front_bytes (length front) ready before
    → PassesFront gave gives (front_bytes count ready before) before after → new ≡ record old { reading = InText (record line { has_other = true }) } → IsWithin after
    → ReadsPast gave gives old new before after
reads-silent gave gives count front ready line old new before after none_half is silent stood passes came within =
    let bytes : List ℕ = front_bytes count ready before in
    let behind : LineState = InText (record line { has_other = true }) in
    let escape : ReadsEscape (InText line) behind [] (λ k. Unit {0}) [] bytes =
    subst (λ (these : List ℕ). ReadsEscape (InText line) behind [] (λ k. Unit {0}) [] these) (first_of_front front count ready before stood silent.few)
    (silent-escape (InText line) behind (λ k. Unit {0}) (text-line line) (λ k i found silent ready. means-line line k i found silent) (take count front) silent.silent) in
    let turned = turned-escape before.input.names (InText line) behind before.input.arguments before.input.open_texts bytes refl escape in
    let there : Turned before.input.names (stage_of (InText line) before.input) bytes (stage_of behind before.input) = rw none_half turned in
    reads-bytes gave gives bytes old new before after passes
    (subst (λ (r : LineState). Turned before.input.names (stage_of old.reading before.input) bytes (stage_of r before.input)) (sym (ap (λ (r : ReaderState). r.reading) came))
    (subst (λ (r : LineState). Turned before.input.names (stage_of r before.input) bytes (stage_of behind before.input)) (sym is) there))
    (ap (λ (r : ReaderState). r.registers) came) (ap (λ (r : ReaderState). r.meaning) came) within

-- where a line begins, and no interrupted one goes on
abbrev pub behind_first : LineState
behind_first = InText (record fresh_line { has_other = true })

means-first : (k : Known) (i : PageInput) (found : Found) → IsSilentFound found → k.interrupted ≡ None → found_in k i LineStart found ≡ meaning_events i behind_first []
means-first k i _ (OfFont name) none = ap (λ (line : Option TextLine). behind_events (going_on_told line) (other_taking i (line_begun_as line))) none
means-first k i _ OfSize none = ap (λ (line : Option TextLine). behind_events (going_on_told line) (other_taking i (line_begun_as line))) none
means-first k i _ OfHyphenation none = ap (λ (line : Option TextLine). behind_events (going_on_told line) (other_taking i (line_begun_as line))) none
means-first k i _ OfNarrow none = ap (λ (line : Option TextLine). behind_events (going_on_told line) (other_taking i (line_begun_as line))) none
means-first k i _ OfNarrower none = ap (λ (line : Option TextLine). behind_events (going_on_told line) (other_taking i (line_begun_as line))) none

pub first-silent : (bytes : List ℕ) → IsSilent bytes → ReadsEscape LineStart behind_first [] (λ k. k.interrupted ≡ None) [] bytes
first-silent bytes silent = silent-escape LineStart behind_first (λ k. k.interrupted ≡ None) text-start means-first bytes silent

-- none is taken off a text line
pub takes-none : (reading : LineState) (bytes : List ℕ) → ((line : TextLine) → reading ≡ InText line → ⊥) → takes_silent reading bytes ≡ false
takes-none (InText line) bytes off = absurd (off line refl)
takes-none LineStart bytes off = refl
takes-none Branch bytes off = refl
takes-none Braced bytes off = refl
takes-none (Control breaks) bytes off = refl
takes-none (OfControl breaks first) bytes off = refl
takes-none (Collecting purpose) bytes off = refl
takes-none (Deciding keeping) bytes off = refl
takes-none (Skipping opened closed behind) bytes off = refl
takes-none Dropped bytes off = refl
takes-none (Told aborts) bytes off = refl
takes-none Exiting bytes off = refl
takes-none TitleFront bytes off = refl
takes-none (InTitle delimiter) bytes off = refl
