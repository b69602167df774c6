-- What holds of each row of rule keys in a picture, and of each other row, holds of each that is to come.
use Rattle.std.proofs.Common.{ℕ, zero, suc, ◌-◌, Bool, true, false, List, [], ◌∷◌, ◌++◌, drop, get_or, if◌then◌else◌, ◌==◌}
use Rattle.std.specs.List.{AllByRecursion}
use Rattle.tbl_format.specs.Format.{FormatRow}
use Rattle.tbl_layout.specs.Entries.{Command, Content, Element, Row, Rule}
use Rattle.tbl_layout.specs.declared.data_lines.RuleSign.{RuleSign}
use Rattle.tbl_lines.specs.CellsLeft.{Left}
use Rattle.tbl_lines.specs.LinesLeft.{Beside}
use Rattle.tbl_lines.specs.PictureLines.{OfKeys, RuleLine, Sheet, Whole, boxed, frame_rules, frame_sign, ruled_between, ruled_inside}
use Rattle.tbl_options.specs.declared.options.Boxing.{Boxing}
use Rattle.tbl_giving.specs.PartsToCome.{ToCome, at_first, behind_by, behind_parts, behind_row_line, with_parts, parts_in}
use Rattle.tbl_tall.specs.TallRows.{KeysCome, RuleComes, WholeComes}

module _ (P Q : FormatRow → Type 0) where
  abbrev pub AllRules : List Element → Type 0
  AllRules [] = Unit {0}
  AllRules (Row rules format fields ∷ elements) = AllByRecursion P rules × Q format × AllRules elements
  AllRules (Rule sign ∷ elements) = AllRules elements
  AllRules (Command bytes ∷ elements) = AllRules elements

  -- in what is to come behind a part
  row-rules : (s : Sheet) (lines : ℕ) (heights : List ℕ) (cells : List Left) (above : Beside) (format : FormatRow) (fields : List Content)
      (elements : List Element) → Q format → AllRules elements → AllRules (behind_row_line s lines heights cells above format fields elements).elements
  row-rules s zero heights cells above format fields elements own all = all
  row-rules s (suc lines) heights cells above format fields elements own all = (tt, own, all)

  behind-rules : (s : Sheet) (heights : List ℕ) (cells : List Left) (above : Beside) (elements : List Element) → AllRules elements
      → AllRules (behind_by s heights cells above elements).elements
  behind-rules s heights cells above [] all = tt
  behind-rules s heights cells above (Row [] format fields ∷ elements) all =
      row-rules s (get_or heights 0 0 - 1) (drop 1 heights) cells above format fields elements all.1 all.2
  behind-rules s heights cells above (Row (rule ∷ rules) format fields ∷ elements) all = (all.0.1, all.1, all.2)
  behind-rules s heights cells above (Rule sign ∷ elements) all = all
  behind-rules s heights cells above (Command bytes ∷ elements) all = all

  parts-rules : (s : Sheet) (x : ToCome) (count : ℕ) → AllRules x.elements → AllRules (behind_parts s x count).elements
  parts-rules s x zero all = all
  parts-rules s x (suc count) all =
      let y = behind_parts s x count in behind-rules s y.heights y.cells y.above y.elements (parts-rules s x count all)

  pub coming-rules : (s : Sheet) (heights : List ℕ) (elements : List Element) (count : ℕ) → AllRules elements
      → AllRules (with_parts s heights elements count).elements
  coming-rules s heights elements count all = parts-rules s (at_first s heights elements) (parts_in heights elements - count) all

  -- with the rules that the box adds
  frame-rules : (t : Bool) (sign : RuleSign) (elements : List Element) → AllRules elements → AllRules (elements ++ (if t then [] else Rule sign ∷ []))
  frame-rules true sign [] all = tt
  frame-rules false sign [] all = tt
  frame-rules t sign (Row rules format fields ∷ elements) all = (all.0, all.1, frame-rules t sign elements all.2)
  frame-rules t sign (Rule other ∷ elements) all = frame-rules t sign elements all
  frame-rules t sign (Command bytes ∷ elements) all = frame-rules t sign elements all

  between-rules : (behind : Bool) (elements : List Element) → AllRules elements → AllRules (ruled_between behind elements)
  between-rules behind [] all = tt
  between-rules true (Row [] format fields ∷ elements) all = (tt, all.1, between-rules true elements all.2)
  between-rules false (Row [] format fields ∷ elements) all = (tt, all.1, between-rules true elements all.2)
  between-rules true (Row (rule ∷ rules) format fields ∷ elements) all = (all.0, all.1, between-rules true elements all.2)
  between-rules false (Row (rule ∷ rules) format fields ∷ elements) all = (all.0, all.1, between-rules true elements all.2)
  between-rules behind (Rule sign ∷ elements) all = between-rules false elements all
  between-rules behind (Command bytes ∷ elements) all = between-rules behind elements all

  inside-rules : (is_inside : Bool) (elements : List Element) → AllRules elements → AllRules (if is_inside then ruled_between false elements else elements)
  inside-rules true elements all = between-rules false elements all
  inside-rules false elements all = all

  top-rules : (t : Bool) (sign : RuleSign) (elements : List Element) → AllRules elements → AllRules ((if t then [] else Rule sign ∷ []) ++ elements)
  top-rules true sign elements all = all
  top-rules false sign elements all = all

  pub boxed-rules : (boxing : Boxing) (elements : List Element) → AllRules elements → AllRules (boxed boxing elements)
  boxed-rules boxing elements all =
      let t = boxing.bars == 0 in
      let sign = frame_sign boxing.bars in
      let inner = ruled_inside boxing false elements in
      top-rules t sign (inner ++ frame_rules boxing) (frame-rules t sign inner (inside-rules boxing.is_inside elements all))

  -- and so of a line of rule keys that comes
  abbrev pub OfLine : RuleLine → Type 0
  OfLine (Whole sign) = Unit {0}
  OfLine (OfKeys format) = P format

  pub of-line : (elements rest : List Element) (line : RuleLine) → RuleComes elements line rest → AllRules elements → OfLine line
  of-line _ _ _ WholeComes all = tt
  of-line _ _ _ KeysCome all = all.0.0
