-- Bytes of the part of a title that stand in front.
use Rattle.std.proofs.Common.{◌≡◌, ℕ, ◌+◌, ◌≤◌, Bool, true, false, not, ◌||◌, ◌&&◌, List, [], ◌∷◌, length, None, refl, sym, ap, ◌∙◌, arith, map, nat_le, nat_lt, pos, if◌then◌else◌, ◌==◌, le-ltb}
use Rattle.std.proofs.lemmas.Bool.Decides.{nat_tests}
use Rattle.std.proofs.lemmas.List.{length-map}
use Rattle.roff_num.specs.declared.limits.Limits.{Limits}
use Rattle.page_model.specs.Glyphs.{glyph_blank}
use Rattle.page_model.specs.Words.{is_empty}
use Rattle.page_model.specs.Titles.{page_mark}
use Rattle.input_source.specs.Bytes.{backslash, blank, is_silent, is_text_byte, newline, tab}
use Rattle.input_escapes.specs.OpenEscape.{OpenEscape, Backslash}
use Rattle.input_escapes.specs.OpenEscapes.{byte_read}
use Rattle.input_escapes.specs.declared.open_escape.CopyUnit.TheVariants.{Byte}
use Rattle.input_escapes.specs.declared.open_escape.Found.TheVariants.{GoesOn, Unit as GivesUnit}
use Rattle.input_escapes.specs.declared.open_escape.Surroundings.TheVariants.{Text as AboveText}
use Rattle.run_model.proofs.InputCounts.{first_passed-few_names}
use Rattle.run_model.proofs.TextBytes.{heard-text, is_other, kept-text}
use Rattle.run_model.specs.Reading.{byte_taking, title_read, undropped_taking}
use Rattle.run_model.specs.Reading.Units.{interrupted}
use Rattle.run_model.specs.Reading.Found.{read_in}
use Rattle.run_model.specs.Reading.Items.{PageInput, going_on}
use Rattle.run_model.specs.Reading.Titles.{bytes_for, is_page_character, part_taking, title_byte, title_ended}
use Rattle.run_model.specs.Registers.{AllRegisters, Known, TitleGets, changed_by}
use Rattle.run_model.specs.Run.Counts.{counts_in, first_passed}
use Rattle.run_model.specs.TitleTexts.{TitleText, title_length}
use Rattle.run_model.specs.declared.line_state.LineState.{LineState}
use Rattle.run_model.specs.declared.line_state.LineState.TheVariants.{Title as InTitle}
use Rattle.run_state.proofs.TitleTexts.{bytes_added_again, bytes_added_length}
use Rattle.read_registers.specs.Titles.Fronts.{is_plain, kept_byte}
use Rattle.read_lines.proofs.TakesAs.{few_names_in}

-- what a byte is that stands for the page number, a blank or itself
pub record Plain (delimiter b : ℕ) : Type 0 where
  pub above : 32 ≤ b
  pub del : (b == 127) ≡ false
  pub escape : (b == backslash) ≡ false
  pub other : (b == delimiter) ≡ false

pub plain-of : (delimiter b : ℕ) → is_plain delimiter b ≡ true → Plain delimiter b
plain-of delimiter b is = by (nat_le 32 b) (b == 127) (b == backslash) (b == delimiter) refl refl refl refl is
  where
    by : (above del escape other : Bool) → nat_le 32 b ≡ above → (b == 127) ≡ del → (b == backslash) ≡ escape → (b == delimiter) ≡ other
        → (above && (not del && (not escape && not other))) ≡ true → Plain delimiter b
    by true false false false above del escape other is = record { above = grind (arith, nat_tests, above); del = del; escape = escape; other = other }
    by true false false true above del escape other is = absurd (cc)
    by true false true o above del escape other is = absurd (cc)
    by true true e o above del escape other is = absurd (cc)
    by false d e o above del escape other is = absurd (cc)

-- it is one of plain text
pub text-plain : (delimiter b : ℕ) → Plain delimiter b → is_text_byte b ≡ true
text-plain delimiter b plain =
    ap (λ (below : Bool). not (below || (b == 127 || b == backslash))) (le-ltb b 32 plain.above)
    ∙ ap (λ (del : Bool). not (del || b == backslash)) plain.del
    ∙ ap (λ (escape : Bool). not escape) plain.escape

-- what it stands for
pub kept-for : (b : ℕ) (is_number is_blank none : Bool) → none ≡ false
    → (if is_number then page_mark ∷ [] else (if is_blank then glyph_blank ∷ [] else if none then [] else b ∷ []))
    ≡ (if is_number then page_mark else (if is_blank then glyph_blank else b)) ∷ []
kept-for b true is_blank none is = refl
kept-for b false true none is = refl
kept-for b false false none is = ap (λ (c : Bool). if c then [] else b ∷ []) is

pub bytes_for-plain : (k : Known) (delimiter b : ℕ) → Plain delimiter b → bytes_for k b ≡ kept_byte k.registers.page_character b ∷ []
bytes_for-plain k delimiter b plain =
    let text : is_text_byte b ≡ true = text-plain delimiter b plain in
    let none : (b == tab || is_silent b) ≡ false = ap (λ (c : Bool). c || is_silent b) (is_other b tab text refl) ∙ heard-text b text in
    kept-for b (is_page_character k.registers.page_character b) (b == blank) (b == tab || is_silent b) none

-- so it is read as a byte of the part
pub plain-title : (k : Known) (i : PageInput) (delimiter b : ℕ) → i.escapes ≡ [] → is_plain delimiter b ≡ true
    → byte_taking k (InTitle delimiter) i b ≡ part_taking i delimiter (kept_byte k.registers.page_character b ∷ [])
plain-title k i delimiter b none_half is =
    let plain : Plain delimiter b = plain-of delimiter b is in
    let text : is_text_byte b ≡ true = text-plain delimiter b plain in
    let reading : LineState = InTitle delimiter in
    ap (λ (c : Bool). if c then going_on (interrupted reading i) reading else undropped_taking k reading i b)
    (kept-text (nat_lt b 32) (b == 127) (b == backslash) (not (b == newline || b == tab || is_silent b)) text)
    ∙ ap (λ (half : List OpenEscape). title_read k i delimiter b (is_empty half && b == delimiter)) none_half
    ∙ ap (λ (same : Bool). title_read k i delimiter b same) plain.other
    ∙ ap (λ (half : List OpenEscape). read_in k reading i (byte_read (AboveText (pos 0)) half b)) none_half
    ∙ ap (λ (c : Bool). read_in k reading i (if c then (GoesOn, Backslash ∷ []) else (GivesUnit (Byte b), []))) plain.escape
    ∙ ap (λ (half : List OpenEscape). title_byte k (record i { escapes = half }) delimiter b) (sym none_half)
    ∙ ap (λ (c : Bool). if c then title_ended k i else part_taking i delimiter (bytes_for k b)) (is_other b newline text refl)
    ∙ ap (λ (bytes : List ℕ). part_taking i delimiter bytes) (bytes_for-plain k delimiter b plain)

-- the registers behind bytes of a title
abbrev pub with_title : List ℕ → AllRegisters → AllRegisters
with_title bytes rs = changed_by (TitleGets (map (kept_byte rs.page_character) bytes)) rs

-- with a byte, and then with others
pub with_title-next : (b : ℕ) (bytes : List ℕ) (rs : AllRegisters) → with_title bytes (with_title (b ∷ []) rs) ≡ with_title (b ∷ bytes) rs
with_title-next b bytes rs = ap (λ (t : TitleText). record rs { title = t }) (bytes_added_again (kept_byte rs.page_character b ∷ []) (map (kept_byte rs.page_character) bytes) rs.title)

-- a title has so many bytes more
pub length-title : (bytes : List ℕ) (rs : AllRegisters) → title_length (with_title bytes rs).title ≡ title_length rs.title + length bytes
length-title bytes rs =
    let kept : ℕ → ℕ = kept_byte rs.page_character in omega (arith, bytes_added_length (map kept bytes) rs.title, length-map bytes kept)

-- no count is above its limit where the title has bytes more, if they are within that on the line
pub fits-title : (l : Limits) (bytes : List ℕ) (rs : AllRegisters) (i : PageInput) → title_length rs.title + length bytes ≤ l.line
    → first_passed l (counts_in rs i) ≡ None → first_passed l (counts_in (with_title bytes rs) i) ≡ None
fits-title l bytes rs i room fits =
    let few : nat_lt l.names (length rs.named) ≡ false = few_names_in l rs i fits in
    let short : nat_lt l.line (title_length rs.title) ≡ false = le-ltb l.line (title_length rs.title) (omega (arith, room)) in
    let longer : nat_lt l.line (title_length (with_title bytes rs).title) ≡ false =
    le-ltb l.line (title_length (with_title bytes rs).title) (omega (arith, room, length-title bytes rs)) in
    first_passed-few_names l (with_title bytes rs) i few longer ∙ sym (first_passed-few_names l rs i few short) ∙ fits
