-- What is to come as a line of rules begins, and behind it.
use Rattle.std.proofs.Common.{◌≡◌, ℕ, zero, suc, ◌+◌, ◌-◌, ◌*◌, ◌<◌, Bool, true, false, List, ◌∷◌, ◌++◌, length, codes, replicate, refl, sym, ap, ◌∙◌, arith, append_assoc, length-append}
use Rattle.std.proofs.Math.Nat.{suc-mul}
use Rattle.tbl_format.specs.Format.{FormatRow}
use Rattle.tbl_format.specs.RowsServed.{row_at}
use Rattle.tbl_kept.specs.Rows.{KeptElement, KeptRows, Row, elements_of, fields_of}
use Rattle.tbl_layout.specs.Entries.{Row as OneRow}
use Rattle.tbl_layout.specs.LayoutLaws.{first_start}
use Rattle.tbl_layout.specs.declared.columns.Column.{Column}
use Rattle.tbl_layout.specs.declared.entry.Entry.{Entry}
use Rattle.tbl_picture.specs.ElementsWalked.{IsKeysLine, StandsAt, behind_line_by, boxed_from, from_line_by, keys_front, lines_behind_rule, lines_with_rules, steps_behind_rule, steps_by, to_come_by}
use Rattle.tbl_lines.specs.PictureLines.{Neighbour, OfKeys, OfRules, Sheet, bar, behind_rules, lines_behind, rule_from, rule_line}
use Rattle.tbl_lines.specs.RulePlaces.{HavePlaces}
use Rattle.tbl_picture.specs.RulesWalked.{RuleLies, RuleStands, above_by, below_by, come_behind, line_of_first, line_walked, next_behind_rule, rows_at, rule_behind, rule_front, ruled_left, sheet_of}
use Rattle.tbl_picture.specs.Walks.{KeptWalk}
use Rattle.tbl_picture.specs.Nexts.{AtRule, Next}
use Rattle.tbl_picture.specs.declared.walk.beside.Beside.TheVariants.{Nothing as NoRowBeside}
use Rattle.tbl_picture.specs.declared.walk.rules.RuleBegun.{RuleBegun}
use Rattle.tbl_picture.specs.declared.walk.rules.RuleLine.{RuleLine as LineBegun}
use Rattle.tbl_picture.specs.declared.walk.rules.RuleLine.TheVariants.{OfKeys as KeysBegun, Whole as WholeBegun}
use Rattle.tbl_picture.proofs.BoxedElements.{keys-lines}
use Rattle.tbl_picture.proofs.RulePlaces.{walked-same}
use Rattle.tbl_picture.proofs.RulesBegun.{rows-first, rule-begun}

-- behind a rule over the whole picture
module _ (bytes : List ℕ) (formats : List FormatRow) (rows : KeptRows) (w : KeptWalk) (elements : List KeptElement) where
  abbrev pub behind-rule : Bool → KeptWalk
  behind-rule is_last = record w { next = next_behind_rule is_last; above = NoRowBeside }

  pub lines-behind : (t : Bool) → to_come_by (next_behind_rule t) bytes formats rows (behind-rule t) elements
      ≡ lines_behind_rule t (sheet_of rows w) (elements_of bytes formats elements)
  lines-behind true = refl
  lines-behind false = refl

  pub steps-behind : (t : Bool) → steps_by (next_behind_rule t) bytes formats rows (behind-rule t) elements
      ≡ steps_behind_rule t bytes formats rows elements
  steps-behind true = refl
  steps-behind false = omega arith

  pub stands-behind : (t : Bool) → StandsAt (next_behind_rule t) bytes formats rows (behind-rule t) elements
  stands-behind true = tt
  stands-behind false = tt

-- a line of rules that is walked stands the same where another place is reached
pub lies-moved : (formats : List FormatRow) (rows : KeptRows) (rule : RuleBegun) (w : KeptWalk) (elements : List KeptElement) (place : ℕ) (next : Next)
    → RuleLies formats rows rule w elements → RuleLies formats rows rule (record w { place = place; next = next }) elements
lies-moved formats rows rule w elements place next l = record {
  above = l.above;
  below = l.below;
  line = l.line;
  stands = l.stands;
  column = l.column;
  narrow = l.narrow;
  from = l.from;
  ended = l.ended;
  lengths_below = l.lengths_below;
  last_below = l.last_below;
}

pub stands-moved : (bytes : List ℕ) (formats : List FormatRow) (rows : KeptRows) (rule : RuleBegun) (w : KeptWalk) (elements : List KeptElement)
    (place : ℕ) (next : Next) → RuleStands bytes formats rows rule w elements
    → RuleStands bytes formats rows rule (record w { place = place; next = next }) elements
stands-moved bytes formats rows rule w elements place next s = record {
  lies = lies-moved formats rows rule w elements place next s.lies;
  shown_above = s.shown_above;
  left = s.left;
  right = s.right;
}

-- and behind a column
pub stands-behind-column : (bytes : List ℕ) (formats : List FormatRow) (rows : KeptRows) (rule : RuleBegun) (w : KeptWalk) (elements : List KeptElement)
    (from place : ℕ) → RuleStands bytes formats rows rule w elements → RuleLies formats rows (rule_behind rule from) w elements
    → RuleStands bytes formats rows (rule_behind rule from) (come_behind rule from place w) elements
stands-behind-column bytes formats rows rule w elements from place s lies = record {
  lies = lies-moved formats rows (rule_behind rule from) w elements place (AtRule (rule_behind rule from)) lies;
  shown_above = s.shown_above;
  left = s.left;
  right = s.right;
}

-- a line of rules begins: what is given of it, and what is to come
pub line-begins : (bytes : List ℕ) (formats : List FormatRow) (rows : KeptRows) (rule : RuleBegun) (w : KeptWalk) (elements : List KeptElement)
    → HavePlaces formats (sheet_of rows w) → RuleStands bytes formats rows rule w elements → rule.column ≡ 0
    → rule.from ≡ rule_from (line_walked formats rule.line) rule.left rows.columns
    → from_line_by rule bytes formats rows w elements
    ≡ rule_front (line_walked formats rule.line) rule.left
    ++ to_come_by (AtRule rule) bytes formats rows (record w { place = rule.left; next = AtRule rule }) elements
line-begins bytes formats rows rule w elements places s first from =
    let line = line_walked formats rule.line in
    let above = above_by rule.line bytes formats rows w elements in
    let below = below_by rule.line rule.below.line bytes formats rows elements in
    let behind = behind_line_by rule.line bytes formats rows w elements in
    ap (λ (xs : List ℕ). xs ++ behind)
    (walked-same bytes formats rows w elements rule.line rule.below.line places
    ∙ rule-begun (sheet_of rows w) line above below rule first s.left s.right from)
    ∙ append_assoc (rule_front line rule.left) (ruled_left (sheet_of rows w) line above below rule rule.left) behind

-- one more of something
pub more-steps : (n m : ℕ) → suc n * m ≡ m + n * m
more-steps n m = omega (arith, suc-mul n m)

pub one-more : (n m : ℕ) → 0 < n → n * m ≡ m + (n - 1) * m
one-more zero m some = absurd (omega (arith, some))
one-more (suc n) m some = let less : suc n - 1 ≡ n = omega arith in more-steps n m ∙ ap (λ (k : ℕ). m + k * m) (sym less)

pub front-some : (n : ℕ) → 0 < length (keys_front n)
front-some n = omega (arith, length-append (codes "\\&") (replicate n bar))

-- what is to come from rows of rule keys on in front of a row
module _ (bytes : List ℕ) (formats : List FormatRow) (s : Sheet) (keys rules height : ℕ) (entries : List Entry) (elements : List KeptElement) where
  pub from-keys : (above : Neighbour) (row left : ℕ) → row < length formats
      → lines_with_rules bytes formats s above (rows_at formats row (suc left)) (Row keys rules height entries ∷ elements)
      ≡ rule_line s (OfKeys (row_at formats row)) above
      (behind_rules (rows_at formats (suc row) left) (line_of_first bytes formats true (Row keys rules height entries ∷ elements)))
      ++ lines_with_rules bytes formats s (OfRules (row_at formats row) above) (rows_at formats (suc row) left) (Row keys rules height entries ∷ elements)
  from-keys above row left within =
      let format = row_at formats keys in
      let fields = fields_of bytes format entries in
      let behind = boxed_from s.bars.boxing true (elements_of bytes formats elements) in
      ap (λ (rs : List FormatRow). lines_behind s above (OneRow rs format fields ∷ behind)) (rows-first formats row left within)
      ∙ keys-lines s above (row_at formats row) (rows_at formats (suc row) left) format fields behind

-- a line of a row of rule keys
pub keys-front : (formats : List FormatRow) (line : LineBegun) (left : ℕ) → IsKeysLine line → rule_front (line_walked formats line) left ≡ keys_front left
keys-front formats (WholeBegun sign is_last) left keys = absurd keys
keys-front formats (KeysBegun row behind) left keys = refl

pub keys-from : (formats : List FormatRow) (line : LineBegun) (left : ℕ) (columns : List Column) → IsKeysLine line
    → rule_from (line_walked formats line) left columns ≡ first_start left columns
keys-from formats (WholeBegun sign is_last) left columns keys = absurd keys
keys-from formats (KeysBegun row behind) left columns keys = refl
