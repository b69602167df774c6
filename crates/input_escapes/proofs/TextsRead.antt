-- Texts between delimiters, read as they are.
use Rattle.std.proofs.Common.{◌≡◌, ℕ, ◌+◌, ◌*◌, ◌≤◌, Bool, true, false, ◌&&◌, List, [], ◌∷◌, ◌++◌, Some, refl, sym, ap, append_assoc, arith, ◌∙◌, ℤ, ◌==◌, ◌||◌, min, not, if◌then◌else◌, eq-eqb, append-nil}
use Rattle.std.proofs.lemmas.List.Sums.{sum_by-cons}
use Rattle.input_source.specs.Bytes.{newline, backslash}
use Rattle.input_escapes.specs.Escapes.{escape_of}
use Rattle.input_escapes.specs.OpenEscape.{OpenEscape, Backslash, Delimited, Width}
use Rattle.input_escapes.specs.EscapeLaws.{columns_in, is_between, reads_through, text_escape}
use Rattle.input_escapes.specs.OpenEscapes.{Reads, byte_measured, escape_read, reads_widths, text_given, unit_of_text}
use Rattle.input_escapes.specs.Measures.{byte_columns, most_width, motion_of, wider}
use Rattle.input_escapes.specs.declared.escapes.Escape.{Escape as Kind}
use Rattle.input_escapes.specs.declared.escapes.Escape.TheVariants.{Text as BeginsText}
use Rattle.input_escapes.specs.declared.escapes.TextUse.TheVariants.{Motion as OfMotion, LeftOut as LeftOutText}
use Rattle.input_escapes.specs.declared.open_escape.CopyUnit.TheVariants.{Byte}
use Rattle.input_escapes.specs.declared.open_escape.Found.{Found}
use Rattle.input_escapes.specs.declared.open_escape.Found.TheVariants.{GoesOn, Escape, Measures, Motion}
use Rattle.input_escapes.specs.declared.open_escape.Surroundings.{Surroundings}
use Rattle.input_escapes.specs.declared.open_escape.Surroundings.TheVariants.{Text as InText, Arguments as InArguments, Copy as InCopy}
use Rattle.input_escapes.proofs.NamesRead.{read_on}

-- a byte that may stand between delimiters, and those behind it
pub between_parts : (a b c rest : Bool) → (not (a || b || c) && rest) ≡ true → (a ≡ false) × (b ≡ false) × (rest ≡ true)
between_parts true b c rest all = cc
between_parts false true c rest all = cc
between_parts false false true rest all = cc
between_parts false false false rest all = (refl, refl, all)

-- what a byte gives there, unless it is the delimiter or a backslash
pub inner_byte : (delimits escapes : Bool) (x y z : Reads) → delimits ≡ false → escapes ≡ false → (if delimits then x else if escapes then y else z) ≡ z
inner_byte delimits escapes x y z other plain = rw (other, plain) refl

-- a width that grows twice
wider-twice : (width a b both : ℕ) → both ≡ a + b → min (min (width + 24 * a) most_width + 24 * b) most_width ≡ min (width + 24 * both) most_width
wider-twice width a b both is = omega (arith, is)

module _ (base : Surroundings) (d : ℕ) where
  -- a text that is measured
  width_within :
      (text : List ℕ) (width : ℕ) → is_between d text ≡ true → width ≤ most_width
      → reads_through base (Width (Some d) width false ∷ []) (text ++ d ∷ []) ≡ (Measures (min (width + 24 * columns_in text) most_width) ∷ [], [])
  width_within [] width between small =
      ap (λ (c : Bool). read_on base [] (if c then (Measures width, []) else if d == backslash then (GoesOn, Backslash ∷ Width (Some d) width false ∷ []) else byte_measured [] (Some d) width false d)) (eq-eqb d d refl)
      ∙ ap (λ (w : ℕ). (Measures w ∷ [], [])) (omega (arith, small))
  width_within (b ∷ text) width between small =
      let parts = between_parts (b == d) (b == backslash) (b == newline) (is_between d text) between in
      ap (read_on base (text ++ d ∷ [])) (inner_byte (b == d) (b == backslash) _ _ _ parts.0 parts.1)
      ∙ width_within text (wider width (byte_columns b)) parts.2 (omega arith)
      ∙ ap (λ (w : ℕ). (Measures w ∷ [], [])) (wider-twice width (byte_columns b) (columns_in text) (columns_in (b ∷ text)) (sum_by-cons byte_columns b text))

-- its escape
width_begun : (base : Surroundings) (d : ℕ) (text : List ℕ) → reads_widths base ≡ true
    → reads_through base [] (text_escape 119 d text) ≡ reads_through base (Width (Some d) 0 false ∷ []) (text ++ d ∷ [])
width_begun (InText place) d text reads = refl
width_begun InArguments d text reads = refl
width_begun InCopy d text reads = cc

pub width_read :
    (base : Surroundings) (d : ℕ) (text : List ℕ) → reads_widths base ≡ true → is_between d text ≡ true
    → reads_through base [] (text_escape 119 d text) ≡ (Measures (min (24 * columns_in text) most_width) ∷ [], [])
width_read base d text reads between =
    width_begun base d text reads ∙ width_within base d text 0 between (omega arith)
    ∙ ap (λ (w : ℕ). (Measures (min w most_width) ∷ [], [])) (omega arith)

-- what a motion's text finds
abbrev moved : ℤ → List ℕ → List Found × List OpenEscape
moved place text = (Motion (motion_of place text).columns (motion_of place text).remark ∷ [], [])

-- the text of a motion is held
motion_within : (place : ℤ) (d : ℕ) (text so_far : List ℕ) → is_between d text ≡ true
    → reads_through (InText place) (Delimited OfMotion (Some d) so_far ∷ []) (text ++ d ∷ []) ≡ moved place (so_far ++ text)
motion_within place d [] so_far between =
    ap (λ (c : Bool). read_on (InText place) [] (if c then text_given place [] OfMotion so_far else if d == backslash then (GoesOn, Backslash ∷ Delimited OfMotion (Some d) so_far ∷ []) else unit_of_text [] OfMotion (Some d) so_far (Byte d))) (eq-eqb d d refl)
    ∙ ap (moved place) (sym (append-nil so_far))
motion_within place d (b ∷ text) so_far between =
    let parts = between_parts (b == d) (b == backslash) (b == newline) (is_between d text) between in
    ap (read_on (InText place) (text ++ d ∷ [])) (inner_byte (b == d) (b == backslash) _ _ _ parts.0 parts.1)
    ∙ motion_within place d text (so_far ++ b ∷ []) parts.2
    ∙ ap (moved place) (append_assoc so_far (b ∷ []) text)

pub motion_read : (place : ℤ) (d : ℕ) (text : List ℕ) → is_between d text ≡ true
    → reads_through (InText place) [] (text_escape 104 d text) ≡ moved place text
motion_read place d text between = motion_within place d text [] between

-- a text that is left out is dropped
left_out_within : (place : ℤ) (kind d : ℕ) (text : List ℕ) → is_between d text ≡ true
    → reads_through (InText place) (Delimited (LeftOutText kind) (Some d) [] ∷ []) (text ++ d ∷ []) ≡ (Escape kind ∷ [], [])
left_out_within place kind d [] between =
    ap (λ (c : Bool). read_on (InText place) [] (if c then text_given place [] (LeftOutText kind) [] else if d == backslash then (GoesOn, Backslash ∷ Delimited (LeftOutText kind) (Some d) [] ∷ []) else unit_of_text [] (LeftOutText kind) (Some d) [] (Byte d))) (eq-eqb d d refl)
left_out_within place kind d (b ∷ text) between =
    let parts = between_parts (b == d) (b == backslash) (b == newline) (is_between d text) between in
    ap (read_on (InText place) (text ++ d ∷ [])) (inner_byte (b == d) (b == backslash) _ _ _ parts.0 parts.1)
    ∙ left_out_within place kind d text parts.2

pub left_out_read : (place : ℤ) (b kind d : ℕ) (text : List ℕ) → escape_of b ≡ BeginsText (LeftOutText kind) → is_between d text ≡ true
    → reads_through (InText place) [] (text_escape b d text) ≡ (Escape kind ∷ [], [])
left_out_read place b kind d text is between =
    ap (λ (kind : Kind). read_on (InText place) (d ∷ text ++ d ∷ []) (escape_read (InText place) [] b kind)) is ∙ left_out_within place kind d text between
