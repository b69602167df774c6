-- Escapes that print a glyph on a text line, read byte by byte: the run leads to where it is printed.
use Rattle.std.proofs.Common.{◌≡◌, ℕ, ◌+◌, ◌≤◌, Bool, true, false, List, [], ◌∷◌, length, take, Option, Some, None, refl, sym, ap, subst, ◌∙◌, arith, ℤ, ◌==◌, ◌||◌, ◌&&◌, not, if◌then◌else◌, eqb-true, le-ltb}
use Rattle.roff_num.specs.declared.limit.Limit.TheVariants.{Line}
use Rattle.roff_num.specs.declared.limits.Limits.{Limits}
use Rattle.page_model.specs.declared.event.Event.TheVariants.{Print}
use Rattle.page_model.specs.Behind.{pending_length}
use Rattle.page_model.specs.declared.glyph.Glyph.{Glyph}
use Rattle.page_model.specs.declared.glyph.Glyph.TheVariants.{Blanks, Printed}
use Rattle.input_escapes.specs.Characters.{character}
use Rattle.input_escapes.specs.OpenEscape.{Backslash, Name, OpenEscape}
use Rattle.input_escapes.specs.OpenEscapes.{byte_read, unit_of_name}
use Rattle.input_escapes.specs.declared.escapes.NameUse.TheVariants.{Character}
use Rattle.input_escapes.specs.declared.open_escape.CopyUnit.TheVariants.{Byte}
use Rattle.input_escapes.specs.declared.open_escape.Found.{Found}
use Rattle.input_escapes.specs.declared.open_escape.Found.TheVariants.{Asks, Escape, GoesOn}
use Rattle.input_escapes.specs.declared.open_escape.NamePart.{NamePart}
use Rattle.input_escapes.specs.declared.open_escape.NamePart.TheVariants.{Opened, First}
use Rattle.input_escapes.specs.declared.open_escape.Surroundings.TheVariants.{Text as AboveText}
use Rattle.input_source.specs.Bytes.{backslash, is_argument_byte, is_dropped, newline}
use Rattle.input_source.specs.Tape.{Tape}
use Rattle.roff_scan.specs.Unread.Calls.{NoNewline, front_bytes}
use Rattle.run_model.proofs.ItemsTaken.{IsOpenFor, Origin, ahead_at, tape_at}
use Rattle.run_model.proofs.Leads.{Leads-trans}
use Rattle.run_model.proofs.PlainRuns.{behind_bytes}
use Rattle.read_shortcuts.proofs.EscapesRead.{ReadsEscape, ReadsText, front, holds-backslash, holds-name, holds-nothing, last, leads-escape, text-line, text-start}
use Rattle.read_shortcuts.proofs.PrintedRuns.{Fits, TakesText, told_at, told_from}
use Rattle.read_shortcuts.proofs.RunsRead.{first_of_front}
use Rattle.read_shortcuts.proofs.SilentEscapesRead.{IsPlain, both, is_plain}
use Rattle.run_model.specs.Output.{PageHistory, text_of}
use Rattle.run_model.specs.Reading.Beginnings.{beginning_text, going_on_told, line_begun_as}
use Rattle.run_model.specs.Reading.Ends.{due}
use Rattle.run_model.specs.Reading.Found.{found_in}
use Rattle.run_model.specs.Reading.TextLines.{character_printed, escape_taking}
use Rattle.run_model.specs.Reading.Items.{PageInput, PageUnread, behind_events, meaning_events}
use Rattle.run_model.specs.Registers.{AllRegisters, Known}
use Rattle.run_model.specs.PageEvents.{PageEvent}
use Rattle.run_model.specs.declared.event.PageEvent.TheVariants.{Text}
use Rattle.run_model.specs.Run.{State, Leads, known_at, done_if, performed, performing, followed_by, nothing_follows, step, unless_refused}
use Rattle.run_model.specs.Springs.{needs_page, page_begin_or}
use Rattle.run_model.specs.declared.line_state.LineState.{LineState}
use Rattle.run_model.specs.declared.line_state.LineState.TheVariants.{LineStart, Text as InText}
use Rattle.run_model.specs.declared.line_state.TextLine.{TextLine}
use Rattle.run_model.specs.declared.phase.Phase.{Phase}
use Rattle.read_shortcuts.specs.Glyphs.{glyph_behind, glyph_in_front, glyph_of_letter, named_glyph, only_glyph, prints_itself, with_length}
use Rattle.read_shortcuts.specs.SilentEscapes.{are_argument_bytes}

-- a letter that prints this glyph
pub data IsLetter : ℕ → Glyph → Type 0 where
  Unpaddable : IsLetter 32 (Blanks 1)
  AsWideAsADigit : IsLetter 48 (Blanks 1)
  WithoutWidth : IsLetter 38 (Blanks 0)
  PrintsBackslash : IsLetter 101 (Printed 92)
  Doubled : IsLetter 92 (Printed 92)
  Minus : IsLetter 45 (Printed 45)
  Dot : IsLetter 46 (Printed 46)
  Acute : IsLetter 39 (Printed 39)
  Grave : IsLetter 96 (Printed 96)

-- it is one of these, by what it is the same as
letter-of : (g : Glyph) (n m : ℕ) (other : Glyph) → IsLetter m other → (n == m) ≡ true → Some other ≡ Some g → IsLetter n g
letter-of g n m other is same gives =
    let glyph : other ≡ g = cc in
    subst (λ (b : ℕ). IsLetter b g) (sym (eqb-true n m same)) (subst (λ (x : Glyph). IsLetter m x) glyph is)

-- one that stands for itself
itself-of : (g : Glyph) (n m : ℕ) → IsLetter m (Printed m) → (n == m) ≡ true → Some (Printed n) ≡ Some g → IsLetter n g
itself-of g n m is same gives = letter-of g n m (Printed m) is same (ap (λ (b : ℕ). Some (Printed b)) (sym (eqb-true n m same)) ∙ gives)

itself-by : (g : Glyph) (n : ℕ) (minus dot acute grave : Bool) → (n == 45) ≡ minus → (n == 46) ≡ dot → (n == 39) ≡ acute → (n == 96) ≡ grave
    → (if minus || dot || acute || grave then Some (Printed n) else None) ≡ Some g → IsLetter n g
itself-by g n true dot acute grave a b c d gives = itself-of g n 45 Minus a gives
itself-by g n false true acute grave a b c d gives = itself-of g n 46 Dot b gives
itself-by g n false false true grave a b c d gives = itself-of g n 39 Acute c gives
itself-by g n false false false true a b c d gives = itself-of g n 96 Grave d gives
itself-by g n false false false false a b c d gives = absurd (cc)

letter-by : (g : Glyph) (n : ℕ) (blank digit none letter doubled : Bool) → (n == 32) ≡ blank → (n == 48) ≡ digit → (n == 38) ≡ none → (n == 101) ≡ letter → (n == 92) ≡ doubled
    → (if blank || digit then Some (Blanks 1) else if none then Some (Blanks 0) else if letter || doubled then Some (Printed 92)
    else if prints_itself n then Some (Printed n) else None) ≡ Some g → IsLetter n g
letter-by g n true digit none letter doubled a b c d e gives = letter-of g n 32 (Blanks 1) Unpaddable a gives
letter-by g n false true none letter doubled a b c d e gives = letter-of g n 48 (Blanks 1) AsWideAsADigit b gives
letter-by g n false false true letter doubled a b c d e gives = letter-of g n 38 (Blanks 0) WithoutWidth c gives
letter-by g n false false false true doubled a b c d e gives = letter-of g n 101 (Printed 92) PrintsBackslash d gives
letter-by g n false false false false true a b c d e gives = letter-of g n 92 (Printed 92) Doubled e gives
letter-by g n false false false false false a b c d e gives = itself-by g n (n == 45) (n == 46) (n == 39) (n == 96) refl refl refl refl gives

pub is_letter : (g : Glyph) (n : ℕ) → glyph_of_letter n ≡ Some g → IsLetter n g
is_letter g n gives = letter-by g n (n == 32) (n == 48) (n == 38) (n == 101) (n == 92) refl refl refl refl refl gives

-- the bytes of an escape that prints this glyph: a letter behind a backslash, or the name of a character that prints it alone
pub data PrintsGlyph : Glyph → List ℕ → Type 0 where
  ByLetter : (b : ℕ) (g : Glyph) → IsLetter b g → PrintsGlyph g (backslash ∷ b ∷ [])
  ByName : (a b c : ℕ) → IsPlain a → IsPlain b → character (a ∷ b ∷ []) ≡ Some (c ∷ []) → PrintsGlyph (Printed c) (backslash ∷ 40 ∷ a ∷ b ∷ [])

-- so many bytes in front are one
pub record GlyphFront (g : Glyph) (count : ℕ) (front : List ℕ) : Type 0 where
  pub prints : PrintsGlyph g (take count front)
  pub few : count ≤ length front

-- the text of a character that prints a glyph alone
record OneGlyph (g : Glyph) (text : Option (List ℕ)) : Type 0 where
  byte : ℕ
  is : text ≡ Some (byte ∷ [])
  prints : Printed byte ≡ g

one_glyph : (g : Glyph) (text : Option (List ℕ)) → only_glyph text ≡ Some g → OneGlyph g text
one_glyph g None gives = absurd (cc)
one_glyph g (Some []) gives = absurd (cc)
one_glyph g (Some (b ∷ [])) gives = record { byte = b; is = refl; prints = cc }
one_glyph g (Some (b ∷ c ∷ text)) gives = absurd (cc)

name_by : (g : Glyph) (a b : ℕ) (bytes : List ℕ) (plain : Bool) → are_argument_bytes a b ≡ plain → (if plain then only_glyph (character (a ∷ b ∷ [])) else None) ≡ Some g
    → GlyphFront g 4 (backslash ∷ 40 ∷ a ∷ b ∷ bytes)
name_by g a b bytes true is gives =
    let parts = both (is_argument_byte a) (is_argument_byte b) is in
    let one = one_glyph g (character (a ∷ b ∷ [])) gives in
    subst (λ (x : Glyph). GlyphFront x 4 (backslash ∷ 40 ∷ a ∷ b ∷ bytes)) one.prints
    (record { prints = ByName a b one.byte (is_plain a parts.0) (is_plain b parts.1) one.is; few = omega arith })
name_by g a b bytes false is gives = absurd (cc)

named_front : (g : Glyph) (bytes : List ℕ) → named_glyph bytes ≡ Some g → GlyphFront g 4 (backslash ∷ 40 ∷ bytes)
named_front g [] gives = absurd (cc)
named_front g (a ∷ []) gives = absurd (cc)
named_front g (a ∷ b ∷ bytes) gives = name_by g a b bytes (are_argument_bytes a b) refl gives

-- the parts of a glyph with its length
parts_of : (found : Option Glyph) (n : ℕ) (g : Glyph) (count : ℕ) → with_length found n ≡ Some (g, count) → (found ≡ Some g) × (n ≡ count)
parts_of None n g count gives = absurd (cc)
parts_of (Some other) n g count gives =
    let pair : (other, n) ≡ (g, count) = cc in
    (ap (λ (p : Glyph × ℕ). Some p.0) pair, ap (λ (p : Glyph × ℕ). p.1) pair)

behind_by : (g : Glyph) (count b : ℕ) (bytes : List ℕ) (opens : Bool) → (b == 40) ≡ opens
    → (if opens then with_length (named_glyph bytes) 4 else with_length (glyph_of_letter b) 2) ≡ Some (g, count) → GlyphFront g count (backslash ∷ b ∷ bytes)
behind_by g count b bytes true is gives =
    let found = parts_of (named_glyph bytes) 4 g count gives in
    subst (λ (n : ℕ). GlyphFront g n (backslash ∷ b ∷ bytes)) found.1
    (subst (λ (n : ℕ). GlyphFront g 4 (backslash ∷ n ∷ bytes)) (sym (eqb-true b 40 is)) (named_front g bytes found.0))
behind_by g count b bytes false is gives =
    let found = parts_of (glyph_of_letter b) 2 g count gives in
    subst (λ (n : ℕ). GlyphFront g n (backslash ∷ b ∷ bytes)) found.1
    (record { prints = ByLetter b g (is_letter g b found.0); few = omega arith })

behind_front : (g : Glyph) (count : ℕ) (bytes : List ℕ) → glyph_behind bytes ≡ Some (g, count) → GlyphFront g count (backslash ∷ bytes)
behind_front g count [] gives = absurd (cc)
behind_front g count (b ∷ bytes) gives = behind_by g count b bytes (b == 40) refl gives

front_by : (g : Glyph) (count b : ℕ) (bytes : List ℕ) (escapes : Bool) → (b == backslash) ≡ escapes → (if escapes then glyph_behind bytes else None) ≡ Some (g, count)
    → GlyphFront g count (b ∷ bytes)
front_by g count b bytes true is gives = subst (λ (n : ℕ). GlyphFront g count (n ∷ bytes)) (sym (eqb-true b backslash is)) (behind_front g count bytes gives)
front_by g count b bytes false is gives = absurd (cc)

pub glyph_front : (g : Glyph) (count : ℕ) (front : List ℕ) → glyph_in_front front ≡ Some (g, count) → GlyphFront g count front
glyph_front g count [] gives = absurd (cc)
glyph_front g count (b ∷ bytes) gives = front_by g count b bytes (b == backslash) refl gives

-- what is read behind the backslash of such a letter
record LetterRead (b : ℕ) : Type 0 where
  stays : is_dropped b ≡ false
  line : (b == newline) ≡ false
  gives : (p : ℤ) → byte_read (AboveText p) (Backslash ∷ []) b ≡ (Escape b, [])

letter_read : (b : ℕ) (g : Glyph) → IsLetter b g → LetterRead b
letter_read _ _ Unpaddable = record { stays = refl; line = refl; gives = λ p. refl }
letter_read _ _ AsWideAsADigit = record { stays = refl; line = refl; gives = λ p. refl }
letter_read _ _ WithoutWidth = record { stays = refl; line = refl; gives = λ p. refl }
letter_read _ _ PrintsBackslash = record { stays = refl; line = refl; gives = λ p. refl }
letter_read _ _ Doubled = record { stays = refl; line = refl; gives = λ p. refl }
letter_read _ _ Minus = record { stays = refl; line = refl; gives = λ p. refl }
letter_read _ _ Dot = record { stays = refl; line = refl; gives = λ p. refl }
letter_read _ _ Acute = record { stays = refl; line = refl; gives = λ p. refl }
letter_read _ _ Grave = record { stays = refl; line = refl; gives = λ p. refl }

-- no newline stands in such an escape
no_newline : (g : Glyph) (bytes : List ℕ) → PrintsGlyph g bytes → NoNewline bytes
no_newline _ _ (ByLetter b g letter) = (refl, ((letter_read b g letter).line, tt))
no_newline _ _ (ByName a b c first second is) = (refl, (refl, (first.line, (second.line, tt))))

pub no_newline_in_glyph : (g : Glyph) (count : ℕ) (front ready : List ℕ) (u : PageUnread) → GlyphFront g count front → front ≡ front_bytes (length front) ready u
    → NoNewline (front_bytes count ready u)
no_newline_in_glyph g count front ready u glyph stood =
    subst NoNewline (first_of_front front count ready u stood glyph.few) (no_newline g (take count front) glyph.prints)

-- what its last byte gives
data GlyphFound : Glyph → Found → Type 0 where
  OfLetter : (b : ℕ) (g : Glyph) → IsLetter b g → GlyphFound g (Escape b)
  OfName : (a b c : ℕ) → character (a ∷ b ∷ []) ≡ Some (c ∷ []) → GlyphFound (Printed c) (Asks Character (Some (a ∷ b ∷ [])))

-- where that prints the glyph the bytes are read so, one by one
module _ (reading there : LineState) (Ready : Known → Type 0) (text : ReadsText reading)
    (means : (k : Known) (i : PageInput) (g : Glyph) (found : Found) → GlyphFound g found → Ready k → found_in k i reading found ≡ meaning_events i there (Text (Print g) ∷ [])) where
  abbrev Escaped : Glyph → List OpenEscape → List ℕ → Type 0
  Escaped g half bytes = ReadsEscape reading there (Text (Print g) ∷ []) Ready half bytes

  byte_named : (part : NamePart) (b : ℕ) → IsPlain b → (p : ℤ) → byte_read (AboveText p) (Name Character part ∷ []) b ≡ unit_of_name [] Character part (Byte b)
  byte_named part b plain p = ap (λ (c : Bool). if c then (GoesOn, Backslash ∷ Name Character part ∷ []) else unit_of_name [] Character part (Byte b)) plain.escape

  glyph-escape : (g : Glyph) (bytes : List ℕ) → PrintsGlyph g bytes → Escaped g [] bytes
  glyph-escape _ _ (ByLetter b g letter) =
      let read = letter_read b g letter in
      front reading there (Text (Print g) ∷ []) Ready text [] (Backslash ∷ []) backslash (b ∷ []) holds-nothing holds-backslash refl refl (λ p. refl)
      (last reading there (Text (Print g) ∷ []) Ready text (Backslash ∷ []) b (Escape b) holds-backslash refl read.stays read.gives
      (λ k i ready. means k i g (Escape b) (OfLetter b g letter) ready))
  glyph-escape _ _ (ByName a b c first second is) =
      let events : List PageEvent = Text (Print (Printed c)) ∷ [] in
      let opened : List OpenEscape = Name Character Opened ∷ [] in
      let begun : List OpenEscape = Name Character (First a) ∷ [] in
      front reading there events Ready text [] (Backslash ∷ []) backslash (40 ∷ a ∷ b ∷ []) holds-nothing holds-backslash refl refl (λ p. refl)
      (front reading there events Ready text (Backslash ∷ []) opened 40 (a ∷ b ∷ []) holds-backslash (holds-name Character Opened) refl refl (λ p. refl)
      (front reading there events Ready text opened begun a (b ∷ []) (holds-name Character Opened) (holds-name Character (First a)) first.line first.stays (byte_named Opened a first)
      (last reading there events Ready text begun b (Asks Character (Some (a ∷ b ∷ []))) (holds-name Character (First a)) second.line second.stays (byte_named (First a) b second)
      (λ k i ready. means k i (Printed c) (Asks Character (Some (a ∷ b ∷ []))) (OfName a b c is) ready))))

-- a text line behind a glyph
abbrev pub behind_glyph : Bool → Bool → TextLine
behind_glyph other brace = record { has_glyph = true; has_other = other; has_brace = brace; leading = 0 }

-- behind any glyph of a line
prints-letter : (other brace : Bool) (i : PageInput) (b : ℕ) (g : Glyph) → IsLetter b g
    → escape_taking i (behind_glyph other brace) b ≡ meaning_events i (InText (behind_glyph other brace)) (Text (Print g) ∷ [])
prints-letter other brace i _ _ Unpaddable = refl
prints-letter other brace i _ _ AsWideAsADigit = refl
prints-letter other brace i _ _ WithoutWidth = refl
prints-letter other brace i _ _ PrintsBackslash = refl
prints-letter other brace i _ _ Doubled = refl
prints-letter other brace i _ _ Minus = refl
prints-letter other brace i _ _ Dot = refl
prints-letter other brace i _ _ Acute = refl
prints-letter other brace i _ _ Grave = refl

prints-behind : (other brace : Bool) (k : Known) (i : PageInput) (g : Glyph) (found : Found) → GlyphFound g found
    → found_in k i (InText (behind_glyph other brace)) found ≡ meaning_events i (InText (behind_glyph other brace)) (Text (Print g) ∷ [])
prints-behind other brace k i _ _ (OfLetter b g letter) = prints-letter other brace i b g letter
prints-behind other brace k i _ _ (OfName a b c is) =
    ap (λ (text : Option (List ℕ)). character_printed i (behind_glyph other brace) (Some (a ∷ b ∷ [])) text) is

pub escape_behind : (g : Glyph) (bytes : List ℕ) (other brace : Bool) → PrintsGlyph g bytes
    → ReadsEscape (InText (behind_glyph other brace)) (InText (behind_glyph other brace)) (Text (Print g) ∷ []) (λ k. Unit {0}) [] bytes
escape_behind g bytes other brace prints =
    glyph-escape (InText (behind_glyph other brace)) (InText (behind_glyph other brace)) (λ k. Unit {0}) (text-line (behind_glyph other brace))
    (λ k i g found of_glyph ready. prints-behind other brace k i g found of_glyph) g bytes prints

-- and where a line begins, and no interrupted one goes on
prints-first_letter : (k : Known) (i : PageInput) (b : ℕ) (g : Glyph) → IsLetter b g → k.interrupted ≡ None
    → found_in k i LineStart (Escape b) ≡ meaning_events i (InText (behind_glyph false false)) (Text (Print g) ∷ [])
prints-first_letter k i _ _ Unpaddable none = ap (λ (line : Option TextLine). behind_events (going_on_told line) (escape_taking i (line_begun_as line) 32)) none
prints-first_letter k i _ _ AsWideAsADigit none = ap (λ (line : Option TextLine). behind_events (going_on_told line) (escape_taking i (line_begun_as line) 48)) none
prints-first_letter k i _ _ WithoutWidth none = ap (λ (line : Option TextLine). behind_events (going_on_told line) (escape_taking i (line_begun_as line) 38)) none
prints-first_letter k i _ _ PrintsBackslash none = ap (λ (line : Option TextLine). behind_events (going_on_told line) (escape_taking i (line_begun_as line) 101)) none
prints-first_letter k i _ _ Doubled none = ap (λ (line : Option TextLine). behind_events (going_on_told line) (escape_taking i (line_begun_as line) 92)) none
prints-first_letter k i _ _ Minus none = ap (λ (line : Option TextLine). behind_events (going_on_told line) (escape_taking i (line_begun_as line) 45)) none
prints-first_letter k i _ _ Dot none = ap (λ (line : Option TextLine). behind_events (going_on_told line) (escape_taking i (line_begun_as line) 46)) none
prints-first_letter k i _ _ Acute none = ap (λ (line : Option TextLine). behind_events (going_on_told line) (escape_taking i (line_begun_as line) 39)) none
prints-first_letter k i _ _ Grave none = ap (λ (line : Option TextLine). behind_events (going_on_told line) (escape_taking i (line_begun_as line) 96)) none

prints-first : (k : Known) (i : PageInput) (g : Glyph) (found : Found) → GlyphFound g found → k.interrupted ≡ None
    → found_in k i LineStart found ≡ meaning_events i (InText (behind_glyph false false)) (Text (Print g) ∷ [])
prints-first k i _ _ (OfLetter b g letter) none = prints-first_letter k i b g letter none
prints-first k i _ _ (OfName a b c is) none =
    ap (λ (text : Option (List ℕ)). beginning_text k (λ line. character_printed i line (Some (a ∷ b ∷ [])) text)) is
    ∙ ap (λ (line : Option TextLine). behind_events (going_on_told line) (character_printed i (line_begun_as line) (Some (a ∷ b ∷ [])) (Some (c ∷ [])))) none

pub escape_first : (g : Glyph) (bytes : List ℕ) → PrintsGlyph g bytes
    → ReadsEscape LineStart (InText (behind_glyph false false)) (Text (Print g) ∷ []) (λ k. k.interrupted ≡ None) [] bytes
escape_first g bytes prints = glyph-escape LineStart (InText (behind_glyph false false)) (λ k. k.interrupted ≡ None) text-start prints-first g bytes prints

-- a run that reads this on, with these registers and messages, and is led to where the glyph is printed
module _ (l : Limits) (reading there : LineState) (g : Glyph) (Ready : Known → Type 0) (rs : AllRegisters) (messages : List ℕ) (phase : Phase) (closed : Bool)
    (none_due : due reading ≡ None) where
  step-glyph : (tape : Tape) (input : PageInput) (h : PageHistory) → pending_length (Print g ∷ text_of h) ≤ l.line → TakesText h
      → step l (told_at l there rs messages phase closed tape input h (Text (Print g) ∷ [])) ≡ told_at l there rs messages phase closed tape input (Text (Print g) ∷ h) []
  step-glyph tape input h short takes =
      let e : PageEvent = Text (Print g) in
      let before : State = told_at l there rs messages phase closed tape input h (e ∷ []) in
      let behind : State = record before { history = Text (Print g) ∷ h } in
      ap (λ (takes_text : Bool). performing l (page_begin_or (not takes_text && needs_page h e) None) e [] before) takes.takes
      ∙ ap (λ (passed : Bool). unless_refused l (if passed then Some Line else None) before (performed (Text (Print g)) [] before))
      (le-ltb l.line (pending_length (Print g ∷ text_of h)) short)
      ∙ ap (λ (is_over : Bool). done_if is_over behind (followed_by nothing_follows [] behind)) takes.goes_on

  -- wherever its bytes come from
  pub leads-glyph : (from : Origin) (tape : Tape) (bytes : List ℕ) (i : PageInput) (h : PageHistory) → ReadsEscape reading there (Text (Print g) ∷ []) Ready [] bytes
      → ((j : PageInput) → Ready (known_at h rs j)) → IsOpenFor from closed → i.escapes ≡ [] → Fits l reading rs messages phase closed from bytes i → i.charge + length bytes ≤ l.bytes
      → pending_length (Print g ∷ text_of h) ≤ l.line → TakesText h
      → Leads l (told_from l reading rs messages phase closed from bytes tape i h)
      (told_at l there rs messages phase closed (tape_at from [] tape) (record (behind_bytes from bytes i) { ahead = ahead_at from [] }) (Text (Print g) ∷ h) [])
      × Fits l reading rs messages phase closed from [] (behind_bytes from bytes i)
  leads-glyph from tape bytes i h escape ready is_open none fits few short takes =
      let led = leads-escape l reading there (Text (Print g) ∷ []) Ready rs messages phase closed none_due from tape bytes i h escape ready is_open none fits few in (
        Leads-trans l (told_from l reading rs messages phase closed from bytes tape i h) _ _ led.0
            (record { steps = 1; there = step-glyph (tape_at from [] tape) (record (behind_bytes from bytes i) { ahead = ahead_at from [] }) h short takes }),
        led.1,
      )
