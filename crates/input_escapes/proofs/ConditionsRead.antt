-- Conditions of two texts, read as they are.
use Rattle.std.proofs.Common.{◌≡◌, ℕ, Bool, true, false, ◌&&◌, List, [], ◌∷◌, ◌++◌, length, Option, Some, None, refl, sym, ap, ap₂, append_assoc, ◌∙◌, bytes_eq, ◌==◌, ◌||◌, not, if◌then◌else◌, eq-eqb, append-nil}
use Rattle.std.proofs.Math.Seq.{drop-append_seam, take-append_seam}
use Rattle.input_source.specs.Bytes.{newline, blank, backslash}
use Rattle.input_escapes.specs.Conditions.{begins_expression, byte_or_backslash, delimiter_met, so_unless}
use Rattle.input_escapes.specs.OpenEscape.{OpenEscape, Condition}
use Rattle.input_escapes.specs.EscapeLaws.{decided, delimits_texts, is_between, reads_through, two_texts}
use Rattle.input_escapes.specs.OpenEscapes.{Reads}
use Rattle.input_escapes.specs.declared.open_escape.ConditionPart.TheVariants.{Choice, Compared}
use Rattle.input_escapes.specs.declared.open_escape.Decision.TheVariants.{Is}
use Rattle.input_escapes.specs.declared.open_escape.Surroundings.TheVariants.{Arguments as InArguments}
use Rattle.input_escapes.proofs.NamesRead.{read_on}
use Rattle.input_escapes.proofs.TextsRead.{between_parts, inner_byte}

-- what a byte gives where a condition begins, if it asks for nothing: neither a backslash nor any other of these
none_asked :
    (escapes blank bang o e t n line number free : Bool) (a b c d f g h i z : Reads)
    → not (blank || (bang || (o || (e || (t || (n || (escapes || (line || false))))))) || number) ≡ true
    → (if escapes then a else if blank && free then b else if bang && free then c else if o then d else if e then f else if t then g else if n then h else if number then i else z) ≡ z
none_asked escapes true bang o e t n line number free a b c d f g h i z none = cc
none_asked escapes false true o e t n line number free a b c d f g h i z none = cc
none_asked escapes false false true e t n line number free a b c d f g h i z none = cc
none_asked escapes false false false true t n line number free a b c d f g h i z none = cc
none_asked escapes false false false false true n line number free a b c d f g h i z none = cc
none_asked escapes false false false false false true line number free a b c d f g h i z none = cc
none_asked true false false false false false false line number free a b c d f g h i z none = cc
none_asked false false false false false false false true number free a b c d f g h i z none = cc
none_asked false false false false false false false false true free a b c d f g h i z none = cc
none_asked false false false false false false false false false free a b c d f g h i z none = refl

module _ (negated : Bool) (d : ℕ) where
  -- two texts of which so much is read
  abbrev within : Option ℕ → List ℕ → List OpenEscape
  within first text = Condition (Compared negated d first) text ∷ []

  -- a byte that asks for nothing else delimits them
  delimiter_behind : (bytes : List ℕ) → delimits_texts d ≡ true
      → reads_through InArguments (Condition (Choice negated) [] ∷ []) (d ∷ bytes) ≡ reads_through InArguments (within None []) bytes
  delimiter_behind bytes delimits =
      ap (read_on InArguments bytes)
      (none_asked (d == backslash) (d == blank) (d == 33) (d == 111) (d == 101) (d == 116) (d == 110) (d == newline) (begins_expression d) (not negated) _ _ _ _ _ _ _ _ _ delimits)

  -- a text is held up to its delimiter
  text_read : (first : Option ℕ) (text so_far bytes : List ℕ) → is_between d text ≡ true
      → reads_through InArguments (within first so_far) (text ++ d ∷ bytes) ≡ read_on InArguments bytes (delimiter_met [] negated d first (so_far ++ text))
  text_read first [] so_far bytes between =
      ap (λ (c : Bool). read_on InArguments bytes (if c then delimiter_met [] negated d first so_far else byte_or_backslash [] (Compared negated d first) so_far d)) (eq-eqb d d refl)
      ∙ ap (λ (text : List ℕ). read_on InArguments bytes (delimiter_met [] negated d first text)) (sym (append-nil so_far))
  text_read first (b ∷ text) so_far bytes between =
      let parts = between_parts (b == d) (b == backslash) (b == newline) (is_between d text) between in
      ap (read_on InArguments (text ++ d ∷ bytes)) (inner_byte (b == d) (b == backslash) _ _ _ parts.0 parts.1)
      ∙ text_read first text (so_far ++ b ∷ []) bytes parts.2
      ∙ ap (λ (text : List ℕ). read_on InArguments bytes (delimiter_met [] negated d first text)) (append_assoc so_far (b ∷ []) text)

  first_read : (first bytes : List ℕ) → is_between d first ≡ true
      → reads_through InArguments (within None []) (first ++ d ∷ bytes) ≡ reads_through InArguments (within (Some (length first)) first) bytes
  first_read first bytes between = text_read None first [] bytes between

  second_read : (first second : List ℕ) → is_between d second ≡ true
      → reads_through InArguments (within (Some (length first)) first) (second ++ d ∷ []) ≡ decided (Is (so_unless negated (bytes_eq first second))) (first ++ second)
  second_read first second between =
      text_read (Some (length first)) second first [] between
      ∙ ap₂ (λ (front back : List ℕ). decided (Is (so_unless negated (bytes_eq front back))) (first ++ second)) (take-append_seam first second) (drop-append_seam first second)

  -- two texts
  pub texts_read : (first second : List ℕ) → delimits_texts d ≡ true → is_between d first ≡ true → is_between d second ≡ true
      → reads_through InArguments (Condition (Choice negated) [] ∷ []) (two_texts d first second) ≡ decided (Is (so_unless negated (bytes_eq first second))) (first ++ second)
  texts_read first second delimits first_between second_between =
      ap (λ (bytes : List ℕ). reads_through InArguments (Condition (Choice negated) [] ∷ []) (d ∷ bytes)) (append_assoc first (d ∷ second) (d ∷ []))
      ∙ delimiter_behind (first ++ (d ∷ second ++ d ∷ [])) delimits
      ∙ first_read first (second ++ d ∷ []) first_between ∙ second_read first second second_between
