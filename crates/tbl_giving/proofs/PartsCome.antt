-- A table's picture, part by part: its first part and what follows.
use Rattle.std.proofs.Common.{◌≡◌, ℕ, zero, suc, ◌+◌, ◌-◌, ◌≤◌, List, [], ◌∷◌, ◌++◌, drop, get_or, length, map, refl, sym, ap, ◌∙◌, arith, append_assoc}
use Rattle.input_source.specs.Bytes.{newline}
use Rattle.tbl_format.specs.Format.{FormatRow}
use Rattle.tbl_layout.specs.Entries.{Command, Content, Element, Row, Rule}
use Rattle.tbl_lines.specs.CellsLeft.{Left, bars_at_end, behind_line, cells_next}
use Rattle.tbl_lines.specs.LinesLeft.{Beside, OfRow, OfRules, overs, row_line, rule_line_left}
use Rattle.tbl_lines.specs.PictureLeft.{behind_keys, behind_lines, key_lines, lines_left, row_lines, through_rule, through_rules}
use Rattle.tbl_lines.specs.PictureLines.{OfKeys, RuleLine, Sheet}
use Rattle.tbl_giving.specs.PartsToCome.{HasPart, HasPartBy, ToCome, all_lines, at_first, behind_by, behind_part, behind_parts, behind_row_line, first_part, part_by, parts_in, with_parts}
use Rattle.tbl_tall.specs.TallRows.{KeysCome, RuleComes, WholeComes, below_rule}

module _ (s : Sheet) where
  -- the lines of a row, of which it has so many, and of what follows
  row-first : (lines height : ℕ) (heights : List ℕ) (cells : List Left) (above : Beside) (format : FormatRow) (fields : List Content)
      (elements : List Element) → get_or heights 0 0 ≡ suc lines
      → lines_left s heights cells above (Row [] format fields ∷ elements)
      ≡ row_line s (bars_at_end (length s.columns) format) cells ++ all_lines s (behind_row_line s lines (drop 1 heights) cells above format fields elements)
  row-first zero height heights cells above format fields elements is =
      let count = length s.columns in
      let last = bars_at_end count format in
      let own : List Left = cells in
      ap (λ (n : ℕ). row_lines s last n own ++ lines_left s (drop 1 heights) (cells_next count format.keys (behind_lines n own) (drop 1 heights) elements)
      (OfRow (behind_lines (n - 1) own) last) elements) is
      ∙ append_assoc (row_line s last cells) [] (lines_left s (drop 1 heights) (cells_next count format.keys (map behind_line cells) (drop 1 heights) elements) (OfRow cells last) elements)
  row-first (suc lines) height heights cells above format fields elements is =
      let count = length s.columns in
      let last = bars_at_end count format in
      let own : List Left = cells in
      let rest = λ (n : ℕ) (m : ℕ). lines_left s (drop 1 heights) (cells_next count format.keys (behind_lines n own) (drop 1 heights) elements)
      (OfRow (behind_lines m own) last) elements in
      let less : suc (suc lines) - 1 ≡ suc lines = omega arith in
      let lesser : suc lines - 1 ≡ lines = omega arith in
      ap (λ (n : ℕ). row_lines s last n own ++ rest n (n - 1)) is
      ∙ ap (λ (m : ℕ). row_lines s last (suc (suc lines)) own ++ rest (suc (suc lines)) m) less
      ∙ append_assoc (row_line s last cells) (row_lines s last (suc lines) (map behind_line cells)) (rest (suc (suc lines)) (suc lines))
      ∙ ap (λ (m : ℕ). row_line s last cells ++ (row_lines s last (suc lines) (map behind_line cells)
      ++ lines_left s (drop 1 heights) (cells_next count format.keys (behind_lines (suc lines) (map behind_line cells)) (drop 1 heights) elements)
      (OfRow (behind_lines m (map behind_line cells)) last) elements)) (sym lesser)

  -- the first part, and what follows
  first-by : (heights : List ℕ) (cells : List Left) (above : Beside) (elements : List Element) → HasPartBy heights elements
      → lines_left s heights cells above elements ≡ part_by s cells above elements ++ all_lines s (behind_by s heights cells above elements)
  first-by heights cells above [] has = absurd has
  first-by heights cells above (Row [] format fields ∷ elements) has =
      row-first (get_or heights 0 0 - 1) 0 heights cells above format fields elements (omega (arith, has))
  first-by heights cells above (Row (rule ∷ rules) format fields ∷ elements) has =
      let count = length s.columns in
      let own = through_rules (length rules) (map through_rule cells) in
      let height = get_or heights 0 0 in
      let last = bars_at_end count format in
      append_assoc (rule_line_left s (OfKeys rule) cells above (behind_keys s cells rules (OfRow own last)))
      (key_lines s (map through_rule cells) (OfRules (OfKeys rule) (overs 0 cells s.columns) above) rules (OfRow own last))
      (row_lines s last height own ++ lines_left s (drop 1 heights) (cells_next count format.keys (behind_lines height own) (drop 1 heights) elements)
      (OfRow (behind_lines (height - 1) own) last) elements)
  first-by heights cells above (Rule sign ∷ elements) has = refl
  first-by heights cells above (Command bytes ∷ elements) has = sym (append_assoc bytes (newline ∷ []) (lines_left s heights cells above elements))

  pub part-first : (x : ToCome) → HasPart x → all_lines s x ≡ first_part s x ++ all_lines s (behind_part s x)
  part-first x has = first-by x.heights x.cells x.above x.elements has

  -- one part fewer is to come behind it
  row-fewer : (lines : ℕ) (heights : List ℕ) (cells : List Left) (above : Beside) (format : FormatRow) (fields : List Content)
      (elements : List Element)
      → suc lines + parts_in heights elements
      ≡ suc (parts_in (behind_row_line s lines heights cells above format fields elements).heights (behind_row_line s lines heights cells above format fields elements).elements)
  row-fewer zero heights cells above format fields elements = omega arith
  row-fewer (suc lines) heights cells above format fields elements = omega arith

  fewer-by : (heights : List ℕ) (cells : List Left) (above : Beside) (elements : List Element) → HasPartBy heights elements
      → parts_in heights elements ≡ suc (parts_in (behind_by s heights cells above elements).heights (behind_by s heights cells above elements).elements)
  fewer-by heights cells above [] has = absurd has
  fewer-by heights cells above (Row [] format fields ∷ elements) has =
      let lines = get_or heights 0 0 - 1 in
      let is : get_or heights 0 0 ≡ suc lines = omega (arith, has) in
      let more : 0 + (get_or heights 0 0 + parts_in (drop 1 heights) elements) ≡ suc lines + parts_in (drop 1 heights) elements = omega (arith, is) in
      more ∙ row-fewer lines (drop 1 heights) cells above format fields elements
  fewer-by heights cells above (Row (rule ∷ rules) format fields ∷ elements) has = omega arith
  fewer-by heights cells above (Rule sign ∷ elements) has = refl
  fewer-by heights cells above (Command bytes ∷ elements) has = refl

  pub part-fewer : (x : ToCome) → HasPart x → parts_in x.heights x.elements ≡ suc (parts_in (behind_part s x).heights (behind_part s x).elements)
  part-fewer x has = fewer-by x.heights x.cells x.above x.elements has

  -- behind a part it is as if one more had been given
  pub part-on : (heights : List ℕ) (elements : List Element) (count next : ℕ) → count ≡ suc next → count ≤ parts_in heights elements
      → with_parts s heights elements next ≡ behind_part s (with_parts s heights elements count)
  part-on heights elements count next is within =
      let more : parts_in heights elements - next ≡ suc (parts_in heights elements - count) = omega (arith, is, within) in
      ap (λ (n : ℕ). behind_parts s (at_first s heights elements) n) more

  -- what a line of rules is, and what follows it
  pub rule-has : (heights : List ℕ) (elements rest : List Element) (line : RuleLine) → RuleComes elements line rest → HasPartBy heights elements
  rule-has heights _ _ _ WholeComes = tt
  rule-has heights _ _ _ KeysCome = tt

  pub rule-part : (cells : List Left) (above : Beside) (elements rest : List Element) (line : RuleLine) → RuleComes elements line rest
      → part_by s cells above elements ≡ rule_line_left s line cells above (below_rule s line cells rest)
  rule-part cells above _ _ _ WholeComes = refl
  rule-part cells above _ _ _ KeysCome = refl

  pub rule-behind : (heights : List ℕ) (cells : List Left) (above : Beside) (elements rest : List Element) (line : RuleLine) → RuleComes elements line rest
      → behind_by s heights cells above elements
      ≡ record { heights = heights; cells = map through_rule cells; above = OfRules line (overs 0 cells s.columns) above; elements = rest }
  rule-behind heights cells above _ _ _ WholeComes = refl
  rule-behind heights cells above _ _ _ KeysCome = refl
