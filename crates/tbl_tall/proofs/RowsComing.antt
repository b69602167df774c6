-- The row that comes first of the elements of a picture, behind rules and commands.
use Rattle.std.proofs.Common.{◌≡◌, ℕ, zero, suc, ◌+◌, ◌==◌, Bool, true, false, ◌&&◌, List, [], ◌∷◌, ◌++◌, get_or, length, map, refl, sym, ap, subst, ◌∙◌, arith, append_assoc, ne_eqb, if◌then◌else◌, Option, None, Some}
use Rattle.std.specs.List.{AllByRecursion}
use Rattle.tbl_format.specs.Format.{FormatRow}
use Rattle.tbl_format.specs.RowsServed.{row_at}
use Rattle.tbl_format.specs.declared.format.FormatKey.{FormatKey}
use Rattle.tbl_kept.specs.Rows.{Command as CommandKept, KeptElement, Row as RowKept, Rule as RuleKept, elements_of, fields_of, rows_in_front}
use Rattle.tbl_layout.specs.Entries.{Command, Content, Element, Row, Rule, field_at}
use Rattle.tbl_layout.specs.declared.data_lines.RuleSign.{RuleSign}
use Rattle.tbl_layout.specs.declared.entry.Entry.{Entry}
use Rattle.tbl_lines.specs.CellsLeft.{Left, begun, cell_by, cells_from, cells_next, gone_on, lines_over}
use Rattle.tbl_lines.specs.PictureLeft.{through_rules}
use Rattle.tbl_lines.specs.PictureLines.{boxed, boxed_from, frame_rules, frame_sign, rule_in_front, ruled_between, ruled_inside}
use Rattle.tbl_options.specs.declared.options.Boxing.{Boxing}
use Rattle.tbl_tall.proofs.CellsNext.{append-none}
use Rattle.tbl_tall.proofs.LinesOver.{below-kept, over-boxed, over-rule-last}
use Rattle.tbl_tall.specs.LinesOver.{HasInFront, heights_kept, lines_kept}
use Rattle.tbl_tall.specs.RowsNext.{BehindCommand, BehindRule, Here, RulesThen, above_kept, begun_kept, boxed_behind, cell_kept, cells_by, rules_in_front}
use Rattle.tbl_tall.specs.TallRows.{HaveKeys, keys_in_front, next_format, next_height, row_below, wholes_in_front}

-- what is said of elements behind rules and commands is said of those from the rules on
pub record Foreseen (rules : ℕ) (all rest : List Element) : Type 0 where
  pub wholes : wholes_in_front all ≡ rules + wholes_in_front rest
  pub keys : keys_in_front all ≡ keys_in_front rest
  pub format : next_format all ≡ next_format rest
  pub height : (heights : List ℕ) → next_height heights all ≡ next_height heights rest
  pub cells : (columns : ℕ) (keys : List FormatKey) (above : List Left) (heights : List ℕ)
      → cells_next columns keys above heights all ≡ cells_next columns keys above heights rest
  pub below : (columns : ℕ) (cells : List Left) → row_below columns cells all ≡ row_below columns (through_rules rules cells) rest

pub foreseen : {rules : ℕ} {all rest : List Element} → RulesThen rules all rest → Foreseen rules all rest
foreseen Here = record {
  wholes = omega arith;
  keys = refl;
  format = refl;
  height = λ heights. refl;
  cells = λ columns keys above heights. refl;
  below = λ columns cells. refl;
}
foreseen (BehindRule more) =
    let f = foreseen more in
    record {
      wholes = omega (arith, f.wholes);
      keys = f.keys;
      format = f.format;
      height = λ heights. f.height heights;
      cells = λ columns keys above heights. f.cells columns keys above heights;
      below = λ columns cells. f.below columns _;
    }
foreseen (BehindCommand more) =
    let f = foreseen more in
    record {
      wholes = f.wholes;
      keys = f.keys;
      format = f.format;
      height = λ heights. f.height heights;
      cells = λ columns keys above heights. f.cells columns keys above heights;
      below = λ columns cells. f.below columns cells;
    }

-- a rule more, and a command
pub then-rule : {rules : ℕ} {all rest : List Element} {sign : RuleSign} → RulesThen rules all (Rule sign ∷ rest) → RulesThen (suc rules) all rest
then-rule Here = BehindRule Here
then-rule (BehindRule more) = BehindRule (then-rule more)
then-rule (BehindCommand more) = BehindCommand (then-rule more)

pub then-command : {rules : ℕ} {all rest : List Element} {bytes : List ℕ} → RulesThen rules all (Command bytes ∷ rest) → RulesThen rules all rest
then-command Here = BehindCommand Here
then-command (BehindRule more) = BehindRule (then-command more)
then-command (BehindCommand more) = BehindCommand (then-command more)

-- elements with the rules that a box adds
and-false : (b : Bool) → (b && false) ≡ false
and-false true = refl
and-false false = refl

not-none : (b : Bool) (rules : ℕ) → (b && (suc rules == 0)) ≡ false
not-none b rules = ap (λ (t : Bool). b && t) (ne_eqb (suc rules) 0 (λ same. omega (arith, same))) ∙ and-false b

rule-by : (t b : Bool) (sign : RuleSign) (es last : List Element)
    → (if t then ruled_between b (Rule sign ∷ es) else (Rule sign ∷ es)) ++ last ≡ Rule sign ∷ ((if t then ruled_between false es else es) ++ last)
rule-by true b sign es last = refl
rule-by false b sign es last = refl

command-by : (t b : Bool) (bytes : List ℕ) (es last : List Element)
    → (if t then ruled_between b (Command bytes ∷ es) else (Command bytes ∷ es)) ++ last ≡ Command bytes ∷ ((if t then ruled_between b es else es) ++ last)
command-by true b bytes es last = refl
command-by false b bytes es last = refl

row-by : (t b : Bool) (rules : List FormatRow) (format : FormatRow) (fields : List Content) (es last : List Element)
    → (if t then ruled_between b (Row rules format fields ∷ es) else (Row rules format fields ∷ es)) ++ last
    ≡ (if t then rule_in_front b rules else []) ++ (Row rules format fields ∷ ((if t then ruled_between true es else es) ++ last))
row-by true b rules format fields es last = append_assoc (rule_in_front b rules) (Row rules format fields ∷ ruled_between true es) last
row-by false b rules format fields es last = refl

none-by : (t b : Bool) (last : List Element) → (if t then ruled_between b [] else []) ++ last ≡ last
none-by true b last = refl
none-by false b last = refl

-- a row is in front, with the rule that the box adds or without it
then-front : (t b : Bool) (rules : ℕ) (rule_rows : List FormatRow) (all rest : List Element)
    → RulesThen rules all ((if t then rule_in_front (b && (rules == 0)) rule_rows else []) ++ rest)
    → RulesThen (rules_in_front (t && b) rules (length rule_rows)) all rest
then-front false b zero [] all rest more = more
then-front false b zero (r ∷ rule_rows) all rest more = more
then-front false b (suc rules) rule_rows all rest more = more
then-front true false zero [] all rest more = more
then-front true false zero (r ∷ rule_rows) all rest more = more
then-front true false (suc rules) rule_rows all rest more = more
then-front true true zero [] all rest more = then-rule more
then-front true true zero (r ∷ rule_rows) all rest more = more
then-front true true (suc rules) rule_rows all rest more =
    subst (λ (c : Bool). RulesThen (suc rules) all (rule_in_front c rule_rows ++ rest)) (not-none true rules) more

module _ (bytes : List ℕ) (formats : List FormatRow) (boxing : Boxing) (is_below : Bool) (rules : ℕ) (all : List Element) where
  pub step-rule : (sign : RuleSign) (es : List KeptElement) → RulesThen rules all (boxed_behind bytes formats boxing is_below rules (RuleKept sign ∷ es))
      → RulesThen (rules + 1) all (boxed_behind bytes formats boxing is_below (rules + 1) es)
  step-rule sign es more =
      let own = elements_of bytes formats es in
      let next : suc rules ≡ rules + 1 = omega arith in
      subst (λ (n : ℕ). RulesThen n all (boxed_from boxing (is_below && (n == 0)) own)) next
      (subst (λ (b : Bool). RulesThen (suc rules) all (boxed_from boxing b own)) (sym (not-none is_below rules))
      (then-rule (subst (λ (xs : List Element). RulesThen rules all xs)
      (rule-by boxing.is_inside (is_below && (rules == 0)) sign own (frame_rules boxing)) more)))

  pub step-command : (from to : ℕ) (es : List KeptElement)
      → RulesThen rules all (boxed_behind bytes formats boxing is_below rules (CommandKept from to ∷ es))
      → RulesThen rules all (boxed_behind bytes formats boxing is_below rules es)
  step-command from to es more =
      then-command (subst (λ (xs : List Element). RulesThen rules all xs)
      (command-by boxing.is_inside (is_below && (rules == 0)) _ (elements_of bytes formats es) (frame_rules boxing)) more)

  pub step-row : (keys rule_rows height : ℕ) (entries : List Entry) (es : List KeptElement)
      → length (rows_in_front formats keys rule_rows) ≡ rule_rows
      → RulesThen rules all (boxed_behind bytes formats boxing is_below rules (RowKept keys rule_rows height entries ∷ es))
      → RulesThen (rules_in_front (boxing.is_inside && is_below) rules rule_rows) all
      (Row (rows_in_front formats keys rule_rows) (row_at formats keys) (fields_of bytes (row_at formats keys) entries)
      ∷ boxed_from boxing true (elements_of bytes formats es))
  step-row keys rule_rows height entries es many more =
      let format = row_at formats keys in
      let fields = fields_of bytes format entries in
      let in_front = rows_in_front formats keys rule_rows in
      let rest = Row in_front format fields ∷ boxed_from boxing true (elements_of bytes formats es) in
      subst (λ (n : ℕ). RulesThen (rules_in_front (boxing.is_inside && is_below) rules n) all rest) many
      (then-front boxing.is_inside is_below rules in_front all rest
      (subst (λ (xs : List Element). RulesThen rules all xs)
      (row-by boxing.is_inside (is_below && (rules == 0)) in_front format fields (elements_of bytes formats es) (frame_rules boxing)) more))

  pub step-end : RulesThen rules all (boxed_behind bytes formats boxing is_below rules []) → RulesThen rules all (frame_rules boxing)
  step-end more =
      subst (λ (xs : List Element). RulesThen rules all xs) (none-by boxing.is_inside (is_below && (rules == 0)) (frame_rules boxing)) more

-- the rules of the box behind everything, and above
frame-by : (t : Bool) (sign : RuleSign) (rules : ℕ) (all : List Element) → RulesThen rules all (if t then [] else Rule sign ∷ [])
    → RulesThen (rules + length (if t then [] else Rule sign ∷ [])) all []
frame-by true sign rules all more =
    let same : rules ≡ rules + 0 = omega arith in
    subst (λ (n : ℕ). RulesThen n all []) same more
frame-by false sign rules all more =
    let same : suc rules ≡ rules + 1 = omega arith in
    subst (λ (n : ℕ). RulesThen n all []) same (then-rule more)

pub frame-last : (boxing : Boxing) (rules : ℕ) (all : List Element) → RulesThen rules all (frame_rules boxing)
    → RulesThen (rules + length (frame_rules boxing)) all []
frame-last boxing rules all more = frame-by (boxing.bars == 0) (frame_sign boxing.bars) rules all more

above-by : (t : Bool) (sign : RuleSign) (es : List Element)
    → RulesThen (length (if t then [] else Rule sign ∷ [])) ((if t then [] else Rule sign ∷ []) ++ es) es
above-by true sign es = Here
above-by false sign es = BehindRule Here

pub frame-first : (boxing : Boxing) (es : List Element) → RulesThen (length (frame_rules boxing)) (boxed boxing es) (boxed_from boxing false es)
frame-first boxing es = above-by (boxing.bars == 0) (frame_sign boxing.bars) (boxed_from boxing false es)

-- how many lines a cell has below its row, in front of all elements behind it
last-by : (t : Bool) (sign : RuleSign) (keys : List FormatKey) (cell : ℕ) (heights : List ℕ) (es : List Element)
    → lines_over keys cell 0 heights (es ++ (if t then [] else Rule sign ∷ [])) ≡ lines_over keys cell 0 heights es
last-by true sign keys cell heights es = ap (λ (xs : List Element). lines_over keys cell 0 heights xs) (append-none es)
last-by false sign keys cell heights es = over-rule-last keys cell 0 heights es sign

module _ (bytes : List ℕ) (formats : List FormatRow) (boxing : Boxing) (keys rules height : ℕ) (entries : List Entry)
    (es : List KeptElement) (fronts : AllByRecursion (HasInFront formats) es) where
  over-behind : (cell : ℕ) → lines_over (row_at formats keys).keys cell 0 (heights_kept es) (boxed_from boxing true (elements_of bytes formats es))
      ≡ lines_kept bytes formats boxing.is_inside (RowKept keys rules height entries) cell 0 es
  over-behind cell =
      let own = elements_of bytes formats es in
      let names = (row_at formats keys).keys in
      last-by (boxing.bars == 0) (frame_sign boxing.bars) names cell (heights_kept es) (ruled_inside boxing true own)
      ∙ over-boxed boxing names cell (heights_kept es) own
      ∙ below-kept bytes formats boxing.is_inside keys rules height entries cell 0 es fronts

  -- the cells of a row, one by one
  pub cells-one : (above : List FormatKey) (lefts : List Left) (cell : ℕ) (own : List FormatKey)
      → cells_from above lefts (height ∷ heights_kept es) (boxed_from boxing true (elements_of bytes formats es)) (row_at formats keys)
      (fields_of bytes (row_at formats keys) entries) cell own
      ≡ cells_by (cell_kept bytes formats boxing.is_inside above lefts (RowKept keys rules height entries) es) cell own
  cells-one above lefts cell [] = refl
  cells-one above lefts cell (k ∷ own) =
      let row = RowKept keys rules height entries in
      let format = row_at formats keys in
      let fields = fields_of bytes format entries in
      let rest = boxed_from boxing true (elements_of bytes formats es) in
      ap (λ (n : ℕ). cell_by (above_kept bytes formats above row cell) lefts (begun k (field_at fields cell) height n)
      ∷ cells_from above lefts (height ∷ heights_kept es) rest format fields (suc cell) own) (over-behind cell)
      ∙ ap (λ (cells : List Left). cell_kept bytes formats boxing.is_inside above lefts row es cell k ∷ cells) (cells-one above lefts (suc cell) own)

-- their keys
pub key-begun : (bytes : List ℕ) (formats : List FormatRow) (is_inside : Bool) (row : KeptElement) (es : List KeptElement) (cell : ℕ) (k : FormatKey)
    → (begun_kept bytes formats is_inside row es cell k).key ≡ k
key-begun bytes formats is_inside (RowKept keys rules height entries) es cell k = refl
key-begun bytes formats is_inside (RuleKept sign) es cell k = refl
key-begun bytes formats is_inside (CommandKept from to) es cell k = refl

module _ {A : Type 0} (of : FormatKey → A) (same : (k : FormatKey) (c : Left) → of ((gone_on k c).key) ≡ of k) where
  of-map : (k : FormatKey) (lefts : List Left) (other : ℕ) (new : Left) → of new.key ≡ of k → of ((get_or (map (gone_on k) lefts) other new).key) ≡ of k
  of-map k [] other new is = is
  of-map k (l ∷ lefts) zero new is = same k l
  of-map k (l ∷ lefts) (suc other) new is = of-map k lefts other new is

  of-by : (other : Option ℕ) (lefts : List Left) (new : Left) → of ((cell_by other lefts new).key) ≡ of new.key
  of-by None lefts new = refl
  of-by (Some other) lefts new = of-map new.key lefts other new refl

  pub of-cells : (bytes : List ℕ) (formats : List FormatRow) (is_inside : Bool) (above : List FormatKey) (lefts : List Left) (row : KeptElement)
      (es : List KeptElement) (cell : ℕ) (own : List FormatKey)
      → map (λ (c : Left). of c.key) (cells_by (cell_kept bytes formats is_inside above lefts row es) cell own) ≡ map of own
  of-cells bytes formats is_inside above lefts row es cell [] = refl
  of-cells bytes formats is_inside above lefts row es cell (k ∷ own) =
      let new = begun_kept bytes formats is_inside row es cell k in
      let rest = cells_by (cell_kept bytes formats is_inside above lefts row es) (suc cell) own in
      ap (λ (x : A). x ∷ map (λ (c : Left). of c.key) rest)
      (of-by (above_kept bytes formats above row cell) lefts new ∙ ap of (key-begun bytes formats is_inside row es cell k))
      ∙ ap (λ (xs : List A). of k ∷ xs) (of-cells bytes formats is_inside above lefts row es (suc cell) own)

pub keys-kept : (bytes : List ℕ) (formats : List FormatRow) (is_inside : Bool) (above : List FormatKey) (lefts : List Left) (row : KeptElement)
    (es : List KeptElement) (own : List FormatKey) → HaveKeys (cells_by (cell_kept bytes formats is_inside above lefts row es) 0 own) own
keys-kept bytes formats is_inside above lefts row es own = record {
  bars = of-cells (λ (k : FormatKey). k.bars) (λ k c. refl) bytes formats is_inside above lefts row es 0 own;
  ends = of-cells (λ (k : FormatKey). k.end) (λ k c. refl) bytes formats is_inside above lefts row es 0 own;
}
