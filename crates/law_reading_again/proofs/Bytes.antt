-- What the bytes of a diversion's text do, one after another.
use Rattle.std.proofs.Common.{◌≡◌, ℕ, Bool, true, false, List, [], ◌∷◌, Option, None, inl, inr, refl, sym, ap, subst, ◌∙◌, ◌==◌, ◌||◌, codes, not, nat_lt, if◌then◌else◌, eqb-true}
use Rattle.std.proofs.lemmas.Bool.{cases_Bool}
use Rattle.input_escapes.specs.OpenEscape.{OpenEscape, Backslash}
use Rattle.input_source.specs.Bytes.{backslash, is_text_byte}
use Rattle.page_model.specs.Diverted.{escaped_byte}
use Rattle.page_model.specs.declared.event.Event.TheVariants.{Print, WordEnd, Gap, LineEnd, Count}
use Rattle.page_model.specs.declared.glyph.Glyph.{Glyph}
use Rattle.page_model.specs.declared.glyph.Glyph.TheVariants.{Printed, Blanks}
use Rattle.run_model.proofs.TextBytes.{prints_text}
use Rattle.run_model.specs.declared.event.PageEvent.TheVariants.{Text}
use Rattle.run_model.specs.PageEvents.{PageEvent}
use Rattle.run_model.specs.Reading.{byte_taking}
use Rattle.run_model.specs.Reading.Beginnings.{going_on_told, line_begun_as}
use Rattle.run_model.specs.Reading.Items.{PageInput, behind_events, meaning_events}
use Rattle.run_model.specs.Reading.TextLines.{blank_line, escape_taking, text_taking}
use Rattle.run_model.specs.Registers.{Known}
use Rattle.run_model.specs.declared.line_state.LineState.{LineState}
use Rattle.run_model.specs.declared.line_state.LineState.TheVariants.{LineStart, Text as InText}
use Rattle.run_model.specs.declared.line_state.TextLine.{TextLine}
use Rattle.law_reading_again.specs.Again.{is_printable}
use Rattle.law_reading_again.proofs.Glyphs.{glyph_of}

-- a line behind its first glyph
abbrev pub glyph_line : LineState
glyph_line = InText (record { has_glyph = true; has_other = false; has_brace = false; leading = 0 })

-- where this is read, and this half read, a byte means these events, and that is read behind it, and that half read, if no line goes on
abbrev pub Means : LineState → List OpenEscape → ℕ → List PageEvent → LineState → List OpenEscape → Type 0
Means p half b events q next =
    (k : Known) (i : PageInput) → k.interrupted ≡ None → byte_taking k p (record i { escapes = half }) b ≡ meaning_events
    (record i { escapes = next }) q events

-- a backslash where a line begins, and within one
pub means-first_backslash : Means LineStart [] 92 [] LineStart (Backslash ∷ [])
means-first_backslash = λ k i none. refl

pub means-backslash : Means glyph_line [] 92 [] glyph_line (Backslash ∷ [])
means-backslash = λ k i none. refl

-- the glyph without width with which a line begins
pub means-no_width : Means LineStart (Backslash ∷ []) 38 (Text (Print (Blanks 0)) ∷ []) glyph_line []
means-no_width = λ k i none.
    ap (λ (line : Option TextLine). behind_events (going_on_told line) (escape_taking (record i { escapes = [] }) (line_begun_as line) 38)) none

-- a blank that isn't spread, and a backslash that begins no escape
pub means-blank : Means glyph_line (Backslash ∷ []) 32 (Text (Print (Blanks 1)) ∷ []) glyph_line []
means-blank = λ k i none. refl

pub means-slash : Means glyph_line (Backslash ∷ []) 101 (Text (Print (Printed 92)) ∷ []) glyph_line []
means-slash = λ k i none. refl

-- any other byte
pub means-byte : (b : ℕ) → is_text_byte b ≡ true → (b == 32) ≡ false → Means glyph_line [] b (Text (Print (Printed b)) ∷ []) glyph_line []
means-byte b text other = λ k i none.
    prints_text (record { has_glyph = true; has_other = false; has_brace = false; leading = 0 }) refl refl b text k
    (record i { escapes = [] }) refl
    ∙ ap (λ (c : Bool). meaning_events (record i { escapes = [] }) glyph_line (if c then Text WordEnd ∷ Text (Gap 1) ∷ [] else Text (Print (Printed b)) ∷ [])) other

-- a newline behind a glyph, and where a line begins
pub means-newline : Means glyph_line [] 10 (Text WordEnd ∷ Text LineEnd ∷ Text Count ∷ []) LineStart []
means-newline = λ k i none. refl

pub means-empty : Means LineStart [] 10 blank_line LineStart []
means-empty = λ k i none.
    ap (λ (line : Option TextLine). behind_events (going_on_told line) (text_taking (record i { escapes = [] }) (line_begun_as line) 10)) none

-- the forms of a byte in a diversion's text, with the glyph that each is
pub data Form : List ℕ → Glyph → Type 0 where
  IsBlank : Form (92 ∷ 32 ∷ []) (Blanks 1)
  IsSlash : Form (92 ∷ 101 ∷ []) (Printed 92)
  IsByte : (b : ℕ) → is_text_byte b ≡ true → (b == 32) ≡ false → Form (b ∷ []) (Printed b)

-- as text is diverted each byte has one of them
form-blank : (b : ℕ) → (b == 32) ≡ true → Form (escaped_byte b) (glyph_of b)
form-blank b is = subst (λ (n : ℕ). Form (escaped_byte n) (glyph_of n)) (sym (eqb-true b 32 is)) IsBlank

form-slash : (b : ℕ) → (b == 92) ≡ true → Form (escaped_byte b) (glyph_of b)
form-slash b is = subst (λ (n : ℕ). Form (escaped_byte n) (glyph_of n)) (sym (eqb-true b 92 is)) IsSlash

is_text : (low del slash : Bool) → not (low || del) ≡ true → slash ≡ false → not (low || (del || slash)) ≡ true
is_text true del slash printable none = absurd (cc)
is_text false true slash printable none = absurd (cc)
is_text false false slash printable none = ap not none

form-byte : (b : ℕ) → is_printable b ≡ true → (b == 32) ≡ false → (b == 92) ≡ false → Form (escaped_byte b) (glyph_of b)
form-byte b printable no_blank no_slash =
    let of : Bool → Bool → List ℕ = λ blank slash. if blank then codes "\\ " else if slash then codes "\\e" else b ∷ [] in
    let bytes : escaped_byte b ≡ b ∷ [] = ap (λ (c : Bool). of c (b == 92)) no_blank ∙ ap (of false) no_slash in
    let glyph : glyph_of b ≡ Printed b = ap (λ (c : Bool). if c then Blanks 1 else Printed b) no_blank in
    subst (λ (text : List ℕ). Form text (glyph_of b)) (sym bytes)
    (subst (Form (b ∷ [])) (sym glyph) (IsByte b (is_text (nat_lt b 32) (b == 127) (b == backslash) printable no_slash) no_blank))

pub form : (b : ℕ) → is_printable b ≡ true → Form (escaped_byte b) (glyph_of b)
form b printable = elim (cases_Bool (b == 32)) [
  | inl blank ↦ form-blank b blank
  | inr no_blank ↦ elim (cases_Bool (b == 92)) [
    | inl slash ↦ form-slash b slash
    | inr no_slash ↦ form-byte b printable no_blank no_slash
  ]
]
