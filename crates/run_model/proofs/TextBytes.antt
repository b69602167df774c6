-- A byte of plain text behind a glyph of its line is told, and changes nothing of what is read.
use Rattle.std.proofs.Common.{◌≡◌, ℕ, Bool, true, false, List, [], ◌∷◌, inl, inr, refl, sym, ap, subst, ◌∙◌, ◌==◌, ◌||◌, ◌&&◌, not, nat_lt, if◌then◌else◌, eqb-true}
use Rattle.std.specs.List.{AllByRecursion, list_any}
use Rattle.std.proofs.lemmas.Bool.{cases_Bool}
use Rattle.page_model.specs.declared.event.Event.TheVariants.{Print, WordEnd, Gap}
use Rattle.page_model.specs.declared.glyph.Glyph.TheVariants.{Printed}
use Rattle.input_source.specs.Bytes.{blank, backslash, is_silent, is_text_byte, newline, tab}
use Rattle.input_escapes.specs.OpenEscape.{OpenEscape, Backslash}
use Rattle.input_escapes.specs.OpenEscapes.{byte_read}
use Rattle.input_escapes.specs.declared.open_escape.CopyUnit.TheVariants.{Byte}
use Rattle.input_escapes.specs.declared.open_escape.Found.TheVariants.{GoesOn, Unit as GivesUnit}
use Rattle.run_model.specs.Reading.{undropped_taking}
use Rattle.run_model.specs.Reading.Units.{interrupted}
use Rattle.run_model.specs.Reading.Items.{PageInput, Taking, going_on, meaning_events}
use Rattle.run_model.specs.Reading.TextLines.{blank_taking, glyph_taking, on_line, other_taking, tab_taking, text_line_end, text_taking}
use Rattle.run_model.specs.Reading.Found.{read_in}
use Rattle.run_model.specs.Requests.{Text}
use Rattle.run_model.specs.Registers.{no_registers}
use Rattle.run_model.specs.Run.{first_input, known_at}
use Rattle.run_model.specs.Telling.{Prints, PrintsText, byte_events}
use Rattle.run_model.specs.declared.line_state.LineState.{LineState}
use Rattle.run_model.specs.declared.line_state.LineState.TheVariants.{LineStart, Text as InText}
use Rattle.run_model.specs.declared.line_state.TextLine.{TextLine}

-- a byte of plain text is none of another kind
pub is_other : (b c : ℕ) → is_text_byte b ≡ true → is_text_byte c ≡ false → (b == c) ≡ false
is_other b c text other = elim (cases_Bool (b == c)) [
  | inl same ↦ let is : is_text_byte c ≡ true = subst (λ (d : ℕ). is_text_byte d ≡ true) (eqb-true b c same) text in cc
  | inr differs ↦ differs
]

-- it isn't dropped
pub kept-text : (below is_del is_escape meant : Bool) → not (below || (is_del || is_escape)) ≡ true → ((below || is_del) && meant) ≡ false
kept-text true is_del is_escape meant text = cc
kept-text false true is_escape meant text = cc
kept-text false false is_escape meant text = refl

-- and is none of those that print nothing
none_of : (b : ℕ) (bytes : List ℕ) → AllByRecursion (λ c. is_text_byte c ≡ false) bytes → is_text_byte b ≡ true → list_any (λ c. b == c) bytes ≡ false
none_of b [] others text = refl
none_of b (c ∷ bytes) others text =
    ap (λ (same : Bool). same || list_any (λ d. b == d) bytes) (is_other b c text others.0) ∙ none_of b bytes others.1 text

pub heard-text : (b : ℕ) → is_text_byte b ≡ true → is_silent b ≡ false
heard-text b text = none_of b (2 ∷ 3 ∷ 5 ∷ 6 ∷ 7 ∷ []) (refl, (refl, (refl, (refl, (refl, tt))))) text

-- a line with a glyph, and without leading blanks
abbrev line_of : Bool → Bool → TextLine
line_of has_other has_brace = record { has_glyph = true; has_other = has_other; has_brace = has_brace; leading = 0 }

-- a blank or a glyph of such a line
told-by : (i : PageInput) (reading : LineState) (is_blank : Bool) (b : ℕ)
    → (if is_blank then meaning_events i reading (Text WordEnd ∷ Text (Gap 1) ∷ []) else meaning_events i reading (Text (Print (Printed b)) ∷ []))
    ≡ meaning_events i reading (if is_blank then Text WordEnd ∷ Text (Gap 1) ∷ [] else Text (Print (Printed b)) ∷ [])
told-by i reading true b = refl
told-by i reading false b = refl

-- so it is of a byte that is neither dropped nor silent
told-kept : (i : PageInput) (has_other has_brace : Bool) (b : ℕ) → is_text_byte b ≡ true
    → text_taking i (line_of has_other has_brace) b ≡ meaning_events i (InText (line_of has_other has_brace)) (byte_events b)
told-kept i has_other has_brace b text =
    let line : TextLine = line_of has_other has_brace in
    let printed : Taking = if b == blank then blank_taking i line else glyph_taking i line (Printed b) in
    let sounding : Taking = if is_silent b then other_taking i line else printed in
    let moving : Taking = if b == tab then tab_taking i line else sounding in
    ap (λ (c : Bool). if c then meaning_events i LineStart (text_line_end line) else moving) (is_other b newline text refl)
    ∙ ap (λ (c : Bool). if c then tab_taking i line else sounding) (is_other b tab text refl)
    ∙ ap (λ (c : Bool). if c then other_taking i line else printed) (heard-text b text)
    ∙ told-by i (InText line) (b == blank) b

prints-plain : (has_other has_brace : Bool) (b : ℕ) → is_text_byte b ≡ true → Prints (InText (line_of has_other has_brace)) b
prints-plain has_other has_brace b text = λ k i none_half.
    let line : TextLine = line_of has_other has_brace in
    ap (λ (c : Bool). if c then going_on (interrupted (InText line) i) (InText line) else undropped_taking k (InText line) i b)
    (kept-text (nat_lt b 32) (b == 127) (b == backslash) (not (b == newline || b == tab || is_silent b)) text)
    ∙ ap (λ (half : List OpenEscape). read_in k (InText line) i (byte_read (on_line k line) half b)) none_half
    ∙ ap (λ (c : Bool). read_in k (InText line) i (if c then (GoesOn, Backslash ∷ []) else (GivesUnit (Byte b), []))) (is_other b backslash text refl)
    ∙ ap (λ (half : List OpenEscape). text_taking (record i { escapes = half }) line b) (sym none_half)
    ∙ told-kept i has_other has_brace b text

-- on any line with a glyph, and without leading blanks
pub prints_text : (line : TextLine) → line.has_glyph ≡ true → line.leading ≡ 0 → (b : ℕ) → is_text_byte b ≡ true → Prints (InText line) b
prints_text line has_glyph none_leading b text =
    let of : Bool → ℕ → TextLine = λ has leading. record line { has_glyph = has; leading = leading } in
    let is : line ≡ of true 0 = ap (λ (has : Bool). of has line.leading) has_glyph ∙ ap (of true) none_leading in
    subst (λ (there : TextLine). Prints (InText there) b) (sym is) (prints-plain line.has_other line.has_brace b text)

-- what a line has, as what is read says it: whether a glyph, and whether no leading blanks
abbrev has_glyph_in : LineState → Bool
has_glyph_in (InText line) = line.has_glyph
has_glyph_in reading = true

abbrev none_leading_in : LineState → Bool
none_leading_in (InText line) = line.leading == 0
none_leading_in reading = true

-- behind an `a` a line has a glyph, and no leading blanks: where that leaves the line as it was, it had
pub printing_line : (line : TextLine) → PrintsText (InText line) → (line.has_glyph ≡ true) × ((line.leading == 0) ≡ true)
printing_line line prints =
    let same : InText (record line { has_glyph = true; leading = 0 }) ≡ InText line =
    ap (λ (t : Taking). t.reading) (prints 97 refl (known_at [] no_registers first_input) first_input refl) in
    (sym (ap has_glyph_in same), sym (ap none_leading_in same))
