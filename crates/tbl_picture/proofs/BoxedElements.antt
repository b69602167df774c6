-- The elements of a boxed picture, with the rules that its box adds.
use Rattle.std.proofs.Common.{◌≡◌, ℕ, Bool, true, false, ◌&&◌, List, [], ◌∷◌, ◌++◌, refl, ap, ◌∙◌, append_assoc, if◌then◌else◌, ◌==◌}
use Rattle.tbl_format.specs.Format.{FormatRow}
use Rattle.tbl_options.specs.declared.options.Boxing.{Boxing}
use Rattle.tbl_layout.specs.Entries.{Command, Content, Element, Row, Rule}
use Rattle.tbl_layout.specs.declared.data_lines.RuleSign.{RuleSign}
use Rattle.tbl_layout.specs.declared.data_lines.RuleSign.TheVariants.{Single}
use Rattle.tbl_picture.specs.ElementsWalked.{boxed_from, lines_on}
use Rattle.tbl_lines.specs.PictureLines.{Neighbour, NoRow, OfKeys, OfRow, OfRules, Sheet, Whole, behind_rules, frame_rules, frame_sign, height, line_below, lines_behind, lines_from, row_cells, rule_line, rule_lines, ruled_between}

-- elements with a rule in front of each row behind another, or without
abbrev pub inside : Bool → Bool → List Element → List Element
inside is_inside behind_row elements = if is_inside then ruled_between behind_row elements else elements

-- what comes first of them
inside-rule : (is_inside behind_row : Bool) (sign : RuleSign) (elements : List Element)
    → inside is_inside behind_row (Rule sign ∷ elements) ≡ Rule sign ∷ inside is_inside false elements
inside-rule true true sign elements = refl
inside-rule true false sign elements = refl
inside-rule false behind_row sign elements = refl

inside-command : (is_inside behind_row : Bool) (bytes : List ℕ) (elements : List Element)
    → inside is_inside behind_row (Command bytes ∷ elements) ≡ Command bytes ∷ inside is_inside behind_row elements
inside-command true true bytes elements = refl
inside-command true false bytes elements = refl
inside-command false behind_row bytes elements = refl

inside-row : (is_inside behind_row : Bool) (rules : List FormatRow) (format : FormatRow) (fields : List Content) (elements : List Element)
    → (is_inside && behind_row) ≡ false
    → inside is_inside behind_row (Row rules format fields ∷ elements) ≡ Row rules format fields ∷ inside is_inside true elements
inside-row true true rules format fields elements none = absurd (cc)
inside-row true false rules format fields elements none = refl
inside-row false behind_row rules format fields elements none = refl

inside-keys : (is_inside behind_row : Bool) (rule : FormatRow) (rules : List FormatRow) (format : FormatRow) (fields : List Content)
    (elements : List Element)
    → inside is_inside behind_row (Row (rule ∷ rules) format fields ∷ elements) ≡ Row (rule ∷ rules) format fields ∷ inside is_inside true elements
inside-keys true true rule rules format fields elements = refl
inside-keys true false rule rules format fields elements = refl
inside-keys false behind_row rule rules format fields elements = refl

inside-between : (is_inside behind_row : Bool) (format : FormatRow) (fields : List Content) (elements : List Element) → (is_inside && behind_row) ≡ true
    → inside is_inside behind_row (Row [] format fields ∷ elements) ≡ Rule Single ∷ inside is_inside false (Row [] format fields ∷ elements)
inside-between true true format fields elements some = refl
inside-between true false format fields elements some = absurd (cc)
inside-between false behind_row format fields elements some = absurd (cc)

inside-none : (is_inside behind_row : Bool) → inside is_inside behind_row [] ≡ []
inside-none true true = refl
inside-none true false = refl
inside-none false behind_row = refl

-- no rule that is added stands in front of the first of them, so the line below is the same
below-plain : (frame elements : List Element) → line_below frame ≡ NoRow → line_below (elements ++ frame) ≡ line_below elements
below-plain frame [] none = none
below-plain frame (Row rules format fields ∷ elements) none = refl
below-plain frame (Rule sign ∷ elements) none = refl
below-plain frame (Command bytes ∷ elements) none = below-plain frame elements none

below-each : (frame elements : List Element) → line_below frame ≡ NoRow → line_below (ruled_between false elements ++ frame) ≡ line_below elements
below-each frame [] none = none
below-each frame (Row rules format fields ∷ elements) none = refl
below-each frame (Rule sign ∷ elements) none = refl
below-each frame (Command bytes ∷ elements) none = below-each frame elements none

below-inside : (is_inside : Bool) (frame elements : List Element) → line_below frame ≡ NoRow
    → line_below (inside is_inside false elements ++ frame) ≡ line_below elements
below-inside true frame elements none = below-each frame elements none
below-inside false frame elements none = below-plain frame elements none

below-frame : (t : Bool) (sign : RuleSign) → line_below (if t then [] else Rule sign ∷ []) ≡ NoRow
below-frame true sign = refl
below-frame false sign = refl

module _ (boxing : Boxing) where
  abbrev pub with-frame : List Element → List Element
  with-frame elements = elements ++ frame_rules boxing

  pub boxed-rule : (behind_row : Bool) (sign : RuleSign) (elements : List Element)
      → boxed_from boxing behind_row (Rule sign ∷ elements) ≡ Rule sign ∷ boxed_from boxing false elements
  boxed-rule behind_row sign elements = ap with-frame (inside-rule boxing.is_inside behind_row sign elements)

  pub boxed-command : (behind_row : Bool) (bytes : List ℕ) (elements : List Element)
      → boxed_from boxing behind_row (Command bytes ∷ elements) ≡ Command bytes ∷ boxed_from boxing behind_row elements
  boxed-command behind_row bytes elements = ap with-frame (inside-command boxing.is_inside behind_row bytes elements)

  pub boxed-row : (behind_row : Bool) (rules : List FormatRow) (format : FormatRow) (fields : List Content) (elements : List Element)
      → (boxing.is_inside && behind_row) ≡ false
      → boxed_from boxing behind_row (Row rules format fields ∷ elements) ≡ Row rules format fields ∷ boxed_from boxing true elements
  boxed-row behind_row rules format fields elements none =
      ap with-frame (inside-row boxing.is_inside behind_row rules format fields elements none)

  -- a row behind one of rule keys: there is no rule in front of these
  pub boxed-keys : (behind_row : Bool) (rule : FormatRow) (rules : List FormatRow) (format : FormatRow) (fields : List Content) (elements : List Element)
      → boxed_from boxing behind_row (Row (rule ∷ rules) format fields ∷ elements) ≡ Row (rule ∷ rules) format fields ∷ boxed_from boxing true elements
  boxed-keys behind_row rule rules format fields elements =
      ap with-frame (inside-keys boxing.is_inside behind_row rule rules format fields elements)

  -- a rule in front of a row behind another
  pub boxed-between : (behind_row : Bool) (format : FormatRow) (fields : List Content) (elements : List Element) → (boxing.is_inside && behind_row) ≡ true
      → boxed_from boxing behind_row (Row [] format fields ∷ elements) ≡ Rule Single ∷ boxed_from boxing false (Row [] format fields ∷ elements)
  boxed-between behind_row format fields elements some = ap with-frame (inside-between boxing.is_inside behind_row format fields elements some)

  -- behind all of them
  pub boxed-none : (behind_row t : Bool) → (boxing.bars == 0) ≡ t
      → boxed_from boxing behind_row [] ≡ (if t then [] else Rule (frame_sign boxing.bars) ∷ [])
  boxed-none behind_row t is =
      ap with-frame (inside-none boxing.is_inside behind_row) ∙ ap (λ (u : Bool). if u then [] else Rule (frame_sign boxing.bars) ∷ []) is

  below-boxed : (elements : List Element) → line_below (boxed_from boxing false elements) ≡ line_below elements
  below-boxed elements =
      below-inside boxing.is_inside (frame_rules boxing) elements (below-frame (boxing.bars == 0) (frame_sign boxing.bars))

-- a rule in front of elements
pub rule-lines : (s : Sheet) (above : Neighbour) (sign : RuleSign) (elements : List Element)
    → lines_behind s above (Rule sign ∷ boxed_from s.bars.boxing false elements)
    ≡ rule_line s (Whole sign) above (line_below elements) ++ lines_on s false NoRow elements
rule-lines s above sign elements =
    ap (λ (below : Neighbour). rule_line s (Whole sign) above below ++ lines_on s false NoRow elements) (below-boxed s.bars.boxing elements)

-- the first row of rule keys in front of a row
pub keys-lines : (s : Sheet) (above : Neighbour) (rule : FormatRow) (rules : List FormatRow) (format : FormatRow) (fields : List Content)
    (elements : List Element)
    → lines_behind s above (Row (rule ∷ rules) format fields ∷ elements)
    ≡ rule_line s (OfKeys rule) above (behind_rules rules (OfRow true format fields)) ++ lines_behind s (OfRules rule above) (Row rules format fields ∷ elements)
keys-lines s above rule rules format fields elements =
    let cells = row_cells s format fields in
    append_assoc (rule_line s (OfKeys rule) above (behind_rules rules (OfRow true format fields)))
    (rule_lines s (OfRules rule above) rules (OfRow true format fields))
    (lines_from 0 (height cells) cells ++ lines_behind s (OfRow (height cells == 1) format fields) elements)
