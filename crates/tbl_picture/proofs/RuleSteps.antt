-- What a step of a walk does on a line of rules.
use Rattle.std.proofs.Common.{◌≡◌, ℕ, suc, ◌+◌, ◌-◌, ◌≤◌, ◌<◌, ◌^◌, max, Bool, true, false, ◌&&◌, List, [], ◌∷◌, ◌++◌, length, drop, get_or, Option, refl, sym, ap, ◌∙◌, arith, if◌then◌else◌, ◌==◌}
use Rattle.input_source.specs.Bytes.{newline}
use Rattle.tbl_format.specs.Format.{FormatRow}
use Rattle.tbl_kept.specs.Rows.{Command, KeptElement, KeptRows, Row, Rule}
use Rattle.tbl_layout.specs.Columns.{bar_place, bars_end}
use Rattle.tbl_layout.specs.declared.columns.Column.{Column}
use Rattle.tbl_options.specs.declared.options.Boxing.{Boxing}
use Rattle.tbl_layout.specs.declared.data_lines.RuleSign.{RuleSign}
use Rattle.tbl_lines.specs.PictureLines.{Mark, Neighbour, RuleLine, behind_rules, edge_byte, last_mark, own_behind, rule_to, shown_behind, sign_over}
use Rattle.tbl_picture.specs.RuleMarks.{goes_on, mark_behind}
use Rattle.tbl_lines.specs.RowsWalked.{IsNarrow}
use Rattle.tbl_pieces.specs.PieceQueue.{Adds, KeptPieces}
use Rattle.tbl_picture.specs.RulesWalked.{AreServed, IsAmong, LengthsAre, RuleCrosses, RuleLies, RuleStands, StandsBelow, above_by, below_by, bytes_at, come_behind, first_below, line_beside, line_of_first, line_walked, mark_given, met_there, place_behind, rule_behind, rule_left, rows_at, rows_of, ruled_left, rules_first_beside, sheet_of, shown_through}
use Rattle.tbl_picture.specs.Walks.{KeptWalk}
use Rattle.tbl_picture.specs.Nexts.{Next}
use Rattle.tbl_picture.specs.declared.walk.beside.Beside.{Beside}
use Rattle.tbl_picture.specs.declared.walk.beside.Lengths.{Lengths}
use Rattle.tbl_picture.specs.declared.walk.rules.RuleBegun.{RuleBegun}
use Rattle.tbl_picture.specs.declared.walk.rules.RuleLine.TheVariants.{OfKeys as KeysBegun, Whole as WholeBegun}
use Rattle.tbl_picture.specs.declared.walk.rules.RuleLine.{RuleLine as LineBegun}
use Rattle.tbl_pieces.proofs.Adding.{adds-fewer, adds-none}
use Rattle.tbl_lines.proofs.RowColumns.{narrow-at}
use Rattle.tbl_picture.proofs.RuleLengths.{rows-beside, served-drop}
use Rattle.tbl_picture.proofs.RulesShown.{rules-shown}
use Rattle.tbl_picture.proofs.RuleMarks.{bar-small, end-small, left-end, left-last, left-none, left-some}

-- what is left of a line of rules behind a column
pub left-behind : (bytes : List ℕ) (formats : List FormatRow) (rows : KeptRows) (rule : RuleBegun) (from place : ℕ) (w : KeptWalk)
    (elements : List KeptElement)
    → rule_left bytes formats rows (rule_behind rule from) (come_behind rule from place w) elements
    ≡ ruled_left (sheet_of rows w) (line_walked formats rule.line) (above_by rule.line bytes formats rows w elements)
    (below_by rule.line rule.below.line bytes formats rows elements) (rule_behind rule from) place
left-behind bytes formats rows rule from place w elements = refl

-- it lies as it did, wherever it has come to
pub lies-at : (formats : List FormatRow) (rows : KeptRows) (rule : RuleBegun) (place : ℕ) (next : Next) (w : KeptWalk) (elements : List KeptElement)
    → RuleLies formats rows rule w elements → RuleLies formats rows rule (record w { place = place; next = next }) elements
lies-at formats rows rule place next w elements lies = record {
  above = lies.above;
  below = lies.below;
  line = lies.line;
  stands = lies.stands;
  column = lies.column;
  narrow = lies.narrow;
  from = lies.from;
  ended = lies.ended;
  lengths_below = lies.lengths_below;
  last_below = lies.last_below;
}

pub stands-at : (bytes : List ℕ) (formats : List FormatRow) (rows : KeptRows) (rule : RuleBegun) (place : ℕ) (next : Next) (w : KeptWalk)
    (elements : List KeptElement)
    → RuleStands bytes formats rows rule w elements → RuleStands bytes formats rows rule (record w { place = place; next = next }) elements
stands-at bytes formats rows rule place next w elements stands = record {
  lies = lies-at formats rows rule place next w elements stands.lies;
  shown_above = stands.shown_above;
  left = stands.left;
  right = stands.right;
}

-- a row of rule keys is among those of the formats
among-by : (line : LineBegun) (below : Beside) (formats : List FormatRow) (w : KeptWalk) (elements : List KeptElement) → AreServed formats elements
    → StandsBelow line below formats w elements → IsAmong formats line
among-by (WholeBegun sign is_last) below formats w elements served stands = tt
among-by (KeysBegun row left) below formats w [] served stands = absurd stands.1
among-by (KeysBegun row left) below formats w (Row keys rules height entries ∷ elements) served stands = omega (arith, stands.1.1, served.0.serves)
among-by (KeysBegun row left) below formats w (Rule sign ∷ elements) served stands = absurd stands.1
among-by (KeysBegun row left) below formats w (Command from to ∷ elements) served stands = absurd stands.1

pub rule-among : (formats : List FormatRow) (rows : KeptRows) (rule : RuleBegun) (w : KeptWalk) → AreServed formats rows.elements
    → RuleLies formats rows rule w (drop w.element rows.elements) → IsAmong formats rule.line
rule-among formats rows rule w served lies =
    among-by rule.line rule.below.line formats w (drop w.element rows.elements) (served-drop formats rows.elements w.element served) lies.stands

-- how many bars the line below shows behind a column
below-shown : (line : LineBegun) (boxing : Boxing) (bytes : List ℕ) (formats : List FormatRow) (rows : KeptRows) (w : KeptWalk) (below : Beside)
    (lengths : Option Lengths) (column : ℕ) → StandsBelow line below formats w (drop w.element rows.elements)
    → LengthsAre (rows_of formats (first_below line below rows.elements)) lengths
    → shown_behind boxing (below_by line below bytes formats rows (drop w.element rows.elements)) column
    ≡ shown_through boxing lengths column (shown_behind boxing (line_beside bytes formats true rows.elements below) column)
below-shown (WholeBegun sign is_last) boxing bytes formats rows w below lengths column stands are =
    let line = line_beside bytes formats true rows.elements below in
    ap (λ (fs : List FormatRow). shown_behind boxing (behind_rules fs line) column) (sym (rows-beside formats rows.elements below))
    ∙ rules-shown boxing column (rows_of formats (rules_first_beside rows.elements below)) lengths line are
below-shown (KeysBegun row left) boxing bytes formats rows w below lengths column stands are =
    rules-shown boxing column (rows_at formats (suc row) left) lengths (line_of_first bytes formats true (drop w.element rows.elements)) are
    ∙ ap (λ (b : Beside). shown_through boxing lengths column (shown_behind boxing (line_beside bytes formats true rows.elements b) column)) (sym stands.0)

-- how many bars meet behind a column
module _ (bytes : List ℕ) (formats : List FormatRow) (rows : KeptRows) (rule : RuleBegun) (w : KeptWalk) where
  abbrev shown-by : Option Lengths → Bool → Beside → ℕ
  shown-by lengths is_below beside =
      shown_through w.bars.boxing lengths rule.column (shown_behind w.bars.boxing (line_beside bytes formats is_below rows.elements beside) rule.column)

  pub met-none : w.bars.has_any ≡ false → 0 ≡ met_there bytes formats rows rule w (drop w.element rows.elements)
  met-none none =
      let elements = drop w.element rows.elements in
      let above = above_by rule.line bytes formats rows w elements in
      let below = below_by rule.line rule.below.line bytes formats rows elements in
      let boxing = w.bars.boxing in
      let most =
      max (own_behind boxing (line_walked formats rule.line) rule.column) (max (shown_behind boxing above rule.column) (shown_behind boxing below rule.column)) in
      sym (ap (λ (t : Bool). if t then most else 0) none)

  pub met-some : RuleStands bytes formats rows rule w (drop w.element rows.elements) → w.bars.has_any ≡ true → (own above below : ℕ)
      → own ≡ own_behind w.bars.boxing (line_walked formats rule.line) rule.column
      → above ≡ shown-by rule.above.rules false rule.above.line
      → below ≡ shown-by rule.below.rules true rule.below.line
      → max own (max above below) ≡ met_there bytes formats rows rule w (drop w.element rows.elements)
  met-some stands any own above below own_is above_is below_is =
      let elements = drop w.element rows.elements in
      let boxing = w.bars.boxing in
      let line = line_walked formats rule.line in
      let column = rule.column in
      let upper = shown_behind boxing (above_by rule.line bytes formats rows w elements) column in
      let lower = shown_behind boxing (below_by rule.line rule.below.line bytes formats rows elements) column in
      let most : ℕ → ℕ → ℕ → ℕ = λ a b c. max a (max b c) in
      let upper_is : above ≡ upper =
      above_is ∙ ap (shown-by rule.above.rules false) stands.lies.line ∙ sym (stands.shown_above.shown column) in
      let lower_is : below ≡ lower =
      below_is
      ∙ sym (below-shown rule.line boxing bytes formats rows w rule.below.line rule.below.rules column stands.lies.stands stands.lies.lengths_below) in
      ap (λ (n : ℕ). most n above below) own_is
      ∙ ap (λ (n : ℕ). most (own_behind boxing line column) n below) upper_is
      ∙ ap (λ (n : ℕ). most (own_behind boxing line column) upper n) lower_is
      ∙ sym (ap (λ (t : Bool). if t then most (own_behind boxing line column) upper lower else 0) any)

-- what it comes to behind a column
behind-small : (t : Bool) (at count : ℕ) (c d : Column) → IsNarrow c → IsNarrow d → at < 2 ^ 40 → count < 2 ^ 8
    → (if t then at + count else bars_end c d) < 2 ^ 62
behind-small true at count c d first second few many = omega (arith, few, many)
behind-small false at count c d first second few many = omega (arith, end-small c d first second)

module _ (bytes frame : List ℕ) (formats : List FormatRow) (rows : KeptRows) (rule : RuleBegun) (w : KeptWalk) (before after : KeptPieces) where
  abbrev elements-left : List KeptElement
  elements-left = drop w.element rows.elements

  abbrev line-now : RuleLine
  line-now = line_walked formats rule.line

  abbrev above-now : Neighbour
  above-now = above_by rule.line bytes formats rows w elements-left

  abbrev below-now : Neighbour
  below-now = below_by rule.line rule.below.line bytes formats rows elements-left

  abbrev left-from : RuleBegun → ℕ → List ℕ
  left-from r place = ruled_left (sheet_of rows w) line-now above-now below-now r place

  -- behind a column
  module _ (no_column : Column) (within : rule.column + 1 < length rows.columns) (lies : RuleLies formats rows rule w elements-left) where
    abbrev now-there : Column
    now-there = get_or rows.columns rule.column no_column

    abbrev next-there : Column
    next-there = get_or rows.columns (rule.column + 1) no_column

    lies-behind : (from : ℕ) → from < 2 ^ 63 → RuleLies formats rows (rule_behind rule from) w elements-left
    lies-behind from small = record {
      above = lies.above;
      below = lies.below;
      line = lies.line;
      stands = lies.stands;
      column = omega (arith, within);
      narrow = lies.narrow;
      from = λ few. small;
      ended = λ few. absurd (omega (arith, few, within));
      lengths_below = lies.lengths_below;
      last_below = lies.last_below;
    }

    -- where nothing is drawn
    pub crosses-none : (is_on : Bool) (count : ℕ) → is_on ≡ goes_on line-now rule.column → count ≡ met_there bytes formats rows rule w elements-left
        → (is_on && count == 0) ≡ true → RuleCrosses bytes frame formats rows rule w (come_behind rule rule.from w.place w) before before
    crosses-none is_on count on_is count_is is = record {
      added = [];
      adds = adds-fewer bytes frame 0 4 before before [] (omega arith) (adds-none bytes frame before);
      place = w.place;
      from = rule.from;
      walk = refl;
      joins =
          let met = met_there bytes formats rows rule w elements-left in
          left-none (sheet_of rows w) line-now above-now below-now rule w.place no_column within
          (ap (λ (t : Bool). t && met == 0) (sym on_is) ∙ ap (λ (n : ℕ). is_on && n == 0) (sym count_is) ∙ is)
          ∙ sym (left-behind bytes formats rows rule rule.from w.place w elements-left);
      lies = lies-behind rule.from (lies.from (omega (arith, within)));
    }

    -- and where something is
    module _ (sign : Option RuleSign) (is_on : Bool) (count at end : ℕ) (sign_is : sign ≡ sign_over line-now rule.column)
        (on_is : is_on ≡ goes_on line-now rule.column) (count_is : count ≡ met_there bytes formats rows rule w elements-left)
        (at_is : at ≡ bar_place count now-there next-there) (end_is : end ≡ (if is_on then at + count else bars_end now-there next-there)) where
      abbrev mark-of : Mark
      mark-of = mark_behind sign false rule.from count at end

      abbrev met-now : ℕ
      met-now = met_there bytes formats rows rule w elements-left

      abbrev on-now : Bool
      on-now = goes_on line-now rule.column

      abbrev at-now : ℕ
      at-now = bar_place met-now now-there next-there

      abbrev end-now : ℕ
      end-now = if on-now then at-now + met-now else bars_end now-there next-there

      at-same : at ≡ at-now
      at-same = at_is ∙ ap (λ (n : ℕ). bar_place n now-there next-there) count_is

      end-same : end ≡ end-now
      end-same =
          end_is
          ∙ ap (λ (t : Bool). if t then at + count else bars_end now-there next-there) on_is
          ∙ ap (λ (p : ℕ). if on-now then p + count else bars_end now-there next-there) at-same
          ∙ ap (λ (n : ℕ). if on-now then at-now + n else bars_end now-there next-there) count_is

      mark-same : mark-of ≡ mark_behind (sign_over line-now rule.column) false rule.from met-now at-now end-now
      mark-same =
          ap (λ (s : Option RuleSign). mark_behind s false rule.from count at end) sign_is
          ∙ ap (λ (n : ℕ). mark_behind (sign_over line-now rule.column) false rule.from n at end) count_is
          ∙ ap (λ (p : ℕ). mark_behind (sign_over line-now rule.column) false rule.from met-now p end) at-same
          ∙ ap (λ (p : ℕ). mark_behind (sign_over line-now rule.column) false rule.from met-now at-now p) end-same

      pub end-few : count < 2 ^ 8 → end < 2 ^ 62
      end-few many =
          let first = narrow-at rows.columns rule.column no_column lies.narrow (omega (arith, within)) in
          let second = narrow-at rows.columns (rule.column + 1) no_column lies.narrow within in
          omega (
            arith,
            end_is,
            behind-small is_on at count now-there next-there first second (omega (arith, at_is, bar-small count now-there next-there first second)) many,
          )

      pub crosses-some : count < 2 ^ 8 → (is_on && count == 0) ≡ false → Adds bytes frame 4 before after (mark_given mark-of w.place)
          → RuleCrosses bytes frame formats rows rule w (come_behind rule end (place_behind mark-of w.place) w) before after
      crosses-some many is adds = record {
        added = mark_given mark-of w.place;
        adds = adds;
        place = place_behind mark-of w.place;
        from = end;
        walk = refl;
        joins =
            left-some (sheet_of rows w) line-now above-now below-now rule w.place no_column within
            (ap (λ (t : Bool). t && met-now == 0) (sym on_is) ∙ ap (λ (n : ℕ). is_on && n == 0) (sym count_is) ∙ is)
            ∙ sym (ap (λ (m : Mark). mark_given m w.place ++ left-from (rule_behind rule end-now) (place_behind m w.place)) mark-same)
            ∙ sym (ap (λ (p : ℕ). mark_given mark-of w.place ++ left-from (rule_behind rule p) (place_behind mark-of w.place)) end-same)
            ∙ sym (ap (λ (xs : List ℕ). mark_given mark-of w.place ++ xs)
            (left-behind bytes formats rows rule end (place_behind mark-of w.place) w elements-left));
        lies = lies-behind end (omega (arith, end-few many));
      }

  -- behind the last column
  module _ (sign : Option RuleSign) (right to : ℕ) (sign_is : sign ≡ sign_over line-now rule.column) (right_is : right ≡ w.picture_width - rule.right)
      (to_is : to ≡ rule_to line-now right rows.columns) where
    abbrev last-of-line : Mark
    last-of-line = last_mark sign rule.from to

    to-same : to ≡ rule_to line-now (w.picture_width - rule.right) rows.columns
    to-same = to_is ∙ ap (λ (n : ℕ). rule_to line-now n rows.columns) right_is

    mark-last : last-of-line ≡ last_mark (sign_over line-now rule.column) rule.from (rule_to line-now (w.picture_width - rule.right) rows.columns)
    mark-last =
        ap (λ (s : Option RuleSign). last_mark s rule.from to) sign_is ∙ ap (λ (n : ℕ). last_mark (sign_over line-now rule.column) rule.from n) to-same

    pub crosses-last : length rows.columns ≤ rule.column + 1 → rule.column < max 1 (length rows.columns)
        → RuleLies formats rows rule w elements-left → Adds bytes frame 4 before after (mark_given last-of-line w.place)
        → RuleCrosses bytes frame formats rows rule w (come_behind rule to (place_behind last-of-line w.place) w) before after
    crosses-last few within lies adds = record {
      added = mark_given last-of-line w.place;
      adds = adds;
      place = place_behind last-of-line w.place;
      from = to;
      walk = refl;
      joins =
          left-last (sheet_of rows w) line-now above-now below-now rule w.place few
          ∙ sym (ap (λ (m : Mark). mark_given m w.place
          ++ left-from (rule_behind rule (rule_to line-now (w.picture_width - rule.right) rows.columns)) (place_behind m w.place)) mark-last)
          ∙ sym (ap (λ (p : ℕ). mark_given last-of-line w.place ++ left-from (rule_behind rule p) (place_behind last-of-line w.place)) to-same)
          ∙ sym (ap (λ (xs : List ℕ). mark_given last-of-line w.place ++ xs)
          (left-behind bytes formats rows rule to (place_behind last-of-line w.place) w elements-left));
      lies = record {
        above = lies.above;
        below = lies.below;
        line = lies.line;
        stands = lies.stands;
        column = omega (arith, within);
        narrow = lies.narrow;
        from = λ less. absurd (omega (arith, less, few));
        ended = λ all. omega (arith, to-same);
        lengths_below = lies.lengths_below;
        last_below = lies.last_below;
      };
    }

  -- its end
  pub ends-with : (at right byte : ℕ) → at ≡ w.picture_width - rule.right → right ≡ rule.right → byte ≡ edge_byte line-now
      → max 1 (length rows.columns) ≤ rule.column → RuleLies formats rows rule w elements-left
      → mark_given (bytes_at at byte right) w.place ++ newline ∷ [] ≡ rule_left bytes formats rows rule w elements-left
  ends-with at right byte at_is right_is byte_is all lies =
      let mark : ℕ → ℕ → ℕ → List ℕ = λ a b n. mark_given (bytes_at a b n) w.place ++ newline ∷ [] in
      ap (λ (a : ℕ). mark a byte right) at_is
      ∙ ap (λ (b : ℕ). mark (w.picture_width - rule.right) b right) byte_is
      ∙ ap (λ (n : ℕ). mark (w.picture_width - rule.right) (edge_byte line-now) n) right_is
      ∙ sym (left-end (sheet_of rows w) line-now above-now below-now rule w.place (omega (arith, all)) (lies.ended all))
