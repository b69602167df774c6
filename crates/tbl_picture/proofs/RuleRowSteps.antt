-- How lines of rules begin: what stands above them and below them, and how many bars meet at their edges.
use Rattle.std.proofs.Common.{◌≡◌, ℕ, suc, ◌-◌, ◌^◌, ◌<◌, Bool, true, false, List, [], ◌∷◌, length, drop, Option, None, refl, sym, ap, subst, ◌∙◌, arith}
use Rattle.tbl_format.specs.Format.{FormatRow}
use Rattle.tbl_format.specs.RowsServed.{row_at}
use Rattle.tbl_kept.specs.Rows.{Command, KeptElement, KeptRows, Row, Rule}
use Rattle.tbl_layout.specs.LayoutLaws.{first_start}
use Rattle.tbl_layout.specs.declared.columns.Column.{Column}
use Rattle.tbl_layout.specs.declared.data_lines.RuleSign.{RuleSign}
use Rattle.tbl_layout.specs.declared.data_lines.RuleSign.TheVariants.{Single}
use Rattle.tbl_layout.specs.declared.entry.Entry.{Entry}
use Rattle.tbl_options.specs.declared.options.Boxing.{Boxing}
use Rattle.tbl_picture.specs.ElementsWalked.{RowBehind, RulesCome}
use Rattle.tbl_lines.specs.PictureLines.{Neighbour, OfKeys, OfRules, Whole, behind_rules, met_at_edge}
use Rattle.tbl_lines.specs.RowsWalked.{AreNarrow}
use Rattle.tbl_picture.specs.RulesWalked.{AreServed, IsBelow, IsRowFirst, IsRowThere, IsRuleOf, IsServed, LastIs, LengthsAre, RowServed, RuleRowNext, RuleStands, ShownThrough, above_of, above_rules, below_by, first_below, line_beside, line_of_first, line_walked, rows_at, rows_of, rules_beside, rules_first, rules_first_beside}
use Rattle.tbl_picture.specs.Walks.{KeptWalk}
use Rattle.tbl_picture.specs.Nexts.{AtRule, AtRuleRow}
use Rattle.tbl_picture.specs.declared.walk.beside.Beside.{Beside}
use Rattle.tbl_picture.specs.declared.walk.beside.Beside.TheVariants.{Row as RowBeside}
use Rattle.tbl_picture.specs.declared.walk.beside.Lengths.{Lengths}
use Rattle.tbl_picture.specs.declared.walk.beside.RuleRows.{RuleRows}
use Rattle.tbl_picture.specs.declared.walk.rules.RuleBegun.{RuleBegun}
use Rattle.tbl_picture.specs.declared.walk.rules.RuleLine.{RuleLine as LineBegun}
use Rattle.tbl_picture.specs.declared.walk.rules.RuleLine.TheVariants.{OfKeys as KeysBegun, Whole as WholeBegun}
use Rattle.tbl_picture.proofs.RowSteps.{all-at}
use Rattle.tbl_picture.proofs.RulesBegun.{above-next, edge-above, edge-next, rows-first}

-- the first column begins at a small place
pub first-small : (left : ℕ) (columns : List Column) → AreNarrow columns → 0 < length columns → first_start left columns < 2 ^ 63
first-small left [] narrow some = absurd (omega (arith, some))
first-small left (c ∷ columns) narrow some = omega (arith, narrow.0.end)

-- through no row of rule keys all is seen
pub shown-alone : (boxing : Boxing) (line : Neighbour) → ShownThrough boxing None line line
shown-alone boxing line = record { shown = λ column. refl; order = tt }

-- a rule over the whole picture begins
module _ (bytes : List ℕ) (formats : List FormatRow) (rows : KeptRows) (w : KeptWalk) (sign : RuleSign) (is_last : Bool) (below : Beside)
    (lengths : Option Lengths) (left right : ℕ) where
  abbrev pub whole_rule : RuleBegun
  whole_rule = record {
    line = WholeBegun sign is_last;
    column = 0;
    from = left;
    above = record { line = w.above; rules = None };
    below = record { line = below; rules = lengths };
    left = left;
    right = right;
  }

  pub whole-stands : (rules : RuleRows) → AreNarrow rows.columns → IsRowThere rows.elements w.above → IsRowThere rows.elements below
      → left < 2 ^ 8
      → rules ≡ rules_first_beside rows.elements below → rows_of formats rules ≡ rules_beside formats rows.elements below
      → LengthsAre (rows_of formats rules) lengths → LastIs formats rules.first rules.count lengths
      → (let met : ℕ → ℕ = met_at_edge w.bars (Whole sign) (line_beside bytes formats false rows.elements w.above)
      (behind_rules (rows_of formats rules) (line_beside bytes formats true rows.elements below)) in
      (left ≡ met 0) × (right ≡ met (length rows.columns)))
      → RuleStands bytes formats rows whole_rule (record w { place = left; next = AtRule whole_rule }) (drop w.element rows.elements)
  whole-stands rules narrow above there small rules_is rows_is lengths_are last edges =
      let met : List FormatRow → ℕ → ℕ = λ rs at.
      met_at_edge w.bars (Whole sign) (line_beside bytes formats false rows.elements w.above)
      (behind_rules rs (line_beside bytes formats true rows.elements below)) at in
      record {
        lies = record {
          above = above;
          below = there;
          line = refl;
          stands = tt;
          column = omega arith;
          narrow = narrow;
          from = λ some. omega (arith, small);
          ended = λ most. absurd (omega (arith, most));
          lengths_below = subst (λ (r : RuleRows). LengthsAre (rows_of formats r) lengths) rules_is lengths_are;
          last_below = subst (λ (r : RuleRows). LastIs formats r.first r.count lengths) rules_is last;
        };
        shown_above = shown-alone w.bars.boxing (line_beside bytes formats false rows.elements w.above);
        left = edges.0 ∙ ap (λ (rs : List FormatRow). met rs 0) rows_is;
        right = edges.1 ∙ ap (λ (rs : List FormatRow). met rs (length rows.columns)) rows_is;
      }

-- rows of rule keys come next, in front of a row
module _ (bytes : List ℕ) (formats : List FormatRow) (rows : KeptRows) (w : KeptWalk) (keys rules height : ℕ) (entries : List Entry)
    (elements : List KeptElement) (at : drop w.element rows.elements ≡ Row keys rules height entries ∷ elements) (served : RowServed formats keys rules) where
  abbrev pub row-first : List KeptElement
  row-first = Row keys rules height entries ∷ elements

  abbrev pub first_rule : (count left right : ℕ) → Option Lengths → RuleBegun
  first_rule count left right lengths = record {
    line = KeysBegun (keys - rules) count;
    column = 0;
    from = first_start left rows.columns;
    above = record { line = w.above; rules = None };
    below = record { line = RowBeside w.element; rules = lengths };
    left = left;
    right = right;
  }

  abbrev pub first-met : ℕ → ℕ
  first-met column =
      met_at_edge w.bars (Whole Single) (line_beside bytes formats false rows.elements w.above)
      (behind_rules (rows_at formats (keys - rules) rules) (line_beside bytes formats true rows.elements (RowBeside w.element))) column

  -- as many bars meet at an edge of the first of them
  first-edge : (count column : ℕ) → rules ≡ suc count → first-met column
      ≡ met_at_edge w.bars (OfKeys (row_at formats (keys - rules)))
      (above_of (KeysBegun (keys - rules) count) formats (line_beside bytes formats false rows.elements w.above) row-first)
      (behind_rules (rows_at formats (suc (keys - rules)) count) (line_of_first bytes formats true row-first)) column
  first-edge count column rules_is =
      let first = keys - rules in
      let line = line_beside bytes formats false rows.elements w.above in
      let under = line_of_first bytes formats true row-first in
      let none : first - first ≡ 0 = omega arith in
      let met : List FormatRow → List KeptElement → ℕ = λ rs es.
      met_at_edge w.bars (Whole Single) line (behind_rules rs (line_of_first bytes formats true es)) column in
      ap (λ (es : List KeptElement). met (rows_at formats first rules) es) at
      ∙ ap (λ (n : ℕ). met (rows_at formats first n) row-first) rules_is
      ∙ ap (λ (rs : List FormatRow). met rs row-first) (rows-first formats first count (omega (arith, served.serves, served.in_front, rules_is)))
      ∙ sym (edge-above w.bars Single (row_at formats first) line (behind_rules (rows_at formats (suc first) count) under) column)
      ∙ sym (ap (λ (n : ℕ). met_at_edge w.bars (OfKeys (row_at formats first)) (above_rules formats (first - n) n line)
      (behind_rules (rows_at formats (suc first) count) under) column) none)

  pub first-comes : (count left right : ℕ) (lengths : Option Lengths) → rules ≡ suc count → AreNarrow rows.columns → IsRowThere rows.elements w.above
      → LengthsAre (rows_at formats (suc (keys - rules)) count) lengths → LastIs formats (suc (keys - rules)) count lengths
      → left ≡ first-met 0 → right ≡ first-met (length rows.columns)
      → RulesCome bytes formats rows (keys - rules) count w (record w { next = AtRuleRow (first_rule count left right lengths) })
  first-comes count left right lengths rules_is narrow above lengths_are last left_is right_is =
      let first = keys - rules in
      let rule = first_rule count left right lengths in
      let line = line_beside bytes formats false rows.elements w.above in
      let none : first - first ≡ 0 = omega arith in
      let new : KeptWalk = record w { next = AtRuleRow rule } in
      let seen : line ≡ above_of (KeysBegun first count) formats line row-first = sym (ap (λ (n : ℕ). above_rules formats (first - n) n line) none) in
      let stands : RuleStands bytes formats rows rule new row-first = record {
        lies = record {
          above = above;
          below = subst IsRowFirst (sym at) tt;
          line = refl;
          stands = (refl, (omega arith, omega (arith, served.in_front, rules_is)));
          column = omega arith;
          narrow = narrow;
          from = λ some. first-small left rows.columns narrow some;
          ended = λ most. absurd (omega (arith, most));
          lengths_below = lengths_are;
          last_below = last;
        };
        shown_above = subst (ShownThrough w.bars.boxing None line) seen (shown-alone w.bars.boxing line);
        left = left_is ∙ first-edge count 0 rules_is;
        right = right_is ∙ first-edge count (length rows.columns) rules_is;
      } in
      record {
        rule = rule;
        line = refl;
        walk = refl;
        stands = record {
          stands = subst (RuleStands bytes formats rows rule new) (sym at) stands;
          keys = tt;
          column = refl;
          from = refl;
        };
      }

  -- behind one of them the next one comes
  pub next-comes : (rule next : RuleBegun) (row count : ℕ) → rule.line ≡ KeysBegun row (suc count) → RowBehind formats rows.columns rule row (suc count) next
      → RuleStands bytes formats rows rule w (drop w.element rows.elements)
      → RuleRowNext bytes formats rows rule row count w (record w { next = AtRuleRow next })
  next-comes rule next row count line b stands =
      let s : RuleStands bytes formats rows rule w row-first = subst (RuleStands bytes formats rows rule w) at stands in
      let beside = line_beside bytes formats false rows.elements w.above in
      let under = line_of_first bytes formats true row-first in
      let is_below = subst (λ (l : LineBegun). IsBelow l rule.below.line w.element formats row-first) line s.lies.stands in
      let within : suc row < length formats = omega (arith, served.serves, is_below.1.1) in
      let less : suc count - 1 ≡ count = omega arith in
      let next_line : next.line ≡ KeysBegun (suc row) count = b.line ∙ ap (KeysBegun (suc row)) less in
      let above : LineBegun → Neighbour = λ l. above_of l formats beside row-first in
      let above_is : above (KeysBegun (suc row) count) ≡ OfRules (row_at formats row) (above (KeysBegun row (suc count))) =
      above-next formats (keys - rules) row beside is_below.1.0 in
      let seen : OfRules (row_at formats row) (above rule.line) ≡ above next.line =
      ap (λ (l : LineBegun). OfRules (row_at formats row) (above l)) line ∙ sym above_is ∙ ap above (sym next_line) in
      let met : LineBegun → Beside → ℕ → ℕ = λ l below column.
      met_at_edge w.bars (line_walked formats l) (above l) (below_by l below bytes formats rows row-first) column in
      let rows_is = rows-first formats (suc row) count within in
      let edge : (column : ℕ) → met rule.line rule.below.line column ≡ met next.line next.below.line column = λ column.
      ap (λ (l : LineBegun). met l rule.below.line column) line
      ∙ ap (λ (rs : List FormatRow). met_at_edge w.bars (OfKeys (row_at formats row)) (above (KeysBegun row (suc count))) (behind_rules rs under) column) rows_is
      ∙ sym (edge-next w.bars Single (row_at formats row) (row_at formats (suc row)) (above (KeysBegun row (suc count)))
      (behind_rules (rows_at formats (suc (suc row)) count) under) column)
      ∙ ap (λ (x : Neighbour). met_at_edge w.bars (OfKeys (row_at formats (suc row))) x (behind_rules (rows_at formats (suc (suc row)) count) under) column)
      (sym above_is)
      ∙ ap (λ (l : LineBegun). met l next.below.line column) (sym next_line) in
      let below_there : next.below.line ≡ RowBeside w.element = b.below ∙ is_below.0 in
      let rows_below : LineBegun → RuleRows = λ l. first_below l next.below.line rows.elements in
      let stands_next : RuleStands bytes formats rows next w row-first = record {
        lies = record {
          above = s.lies.above;
          below = subst (IsRowThere rows.elements) (sym below_there) (subst IsRowFirst (sym at) tt);
          line = b.above ∙ s.lies.line;
          stands = subst (λ (l : LineBegun). IsBelow l next.below.line w.element formats row-first) (sym next_line)
              (below_there, (omega (arith, is_below.1.0), omega (arith, is_below.1.1)));
          column = omega (arith, b.column);
          narrow = s.lies.narrow;
          from = λ some.
              omega (arith, b.from, first-small rule.left rows.columns s.lies.narrow (omega (arith, some)));
          ended = λ most. absurd (omega (arith, most, b.column));
          lengths_below = subst (λ (l : LineBegun). LengthsAre (rows_of formats (rows_below l)) next.below.rules) (sym next_line)
              (subst (λ (n : ℕ). LengthsAre (rows_at formats (suc (suc row)) n) next.below.rules) less b.lengths_below);
          last_below = subst (λ (l : LineBegun). LastIs formats (rows_below l).first (rows_below l).count next.below.rules) (sym next_line)
              (subst (λ (n : ℕ). LastIs formats (suc (suc row)) n next.below.rules) less b.last_below);
        };
        shown_above = subst (ShownThrough w.bars.boxing next.above.rules beside) seen
            (b.shown_above w.bars.boxing beside (above rule.line) s.shown_above);
        left = b.left ∙ s.left ∙ edge 0;
        right = b.right ∙ s.right ∙ edge (length rows.columns);
      } in
      record {
        next = next;
        walk = refl;
        line = next_line;
        column = b.column;
        from = b.from;
        same_left = b.left;
        same_right = b.right;
        stands = subst (RuleStands bytes formats rows next w) (sym at) stands_next;
      }

-- both where the first of the elements is a row, as it is
module _ (bytes : List ℕ) (formats : List FormatRow) (rows : KeptRows) (w : KeptWalk) (served : AreServed formats rows.elements) where
  abbrev pub rules-met : RuleRows → ℕ → ℕ
  rules-met r column =
      met_at_edge w.bars (Whole Single) (line_beside bytes formats false rows.elements w.above)
      (behind_rules (rows_of formats r) (line_beside bytes formats true rows.elements (RowBeside w.element))) column

  abbrev pub rules_rule : RuleRows → (left right : ℕ) → Option Lengths → RuleBegun
  rules_rule r left right lengths = record {
    line = KeysBegun r.first (r.count - 1);
    column = 0;
    from = first_start left rows.columns;
    above = record { line = w.above; rules = None };
    below = record { line = RowBeside w.element; rules = lengths };
    left = left;
    right = right;
  }

  abbrev RulesComeBy : RuleRows → (left right : ℕ) → Option Lengths → Type 0
  RulesComeBy r left right lengths =
      0 < r.count → LengthsAre (rows_at formats (suc r.first) (r.count - 1)) lengths → LastIs formats (suc r.first) (r.count - 1) lengths
      → left ≡ rules-met r 0 → right ≡ rules-met r (length rows.columns)
      → RulesCome bytes formats rows r.first (r.count - 1) w (record w { next = AtRuleRow (rules_rule r left right lengths) })

  pub rules-come-by : (es : List KeptElement) → drop w.element rows.elements ≡ es → (r : RuleRows) (left right : ℕ) (lengths : Option Lengths)
      → AreNarrow rows.columns → IsRowThere rows.elements w.above → r ≡ rules_first es → RulesComeBy r left right lengths
  rules-come-by [] at r left right lengths narrow above is = λ some. absurd (omega (arith, some, ap (λ (x : RuleRows). x.count) is))
  rules-come-by (Rule sign ∷ elements) at r left right lengths narrow above is =
      λ some. absurd (omega (arith, some, ap (λ (x : RuleRows). x.count) is))
  rules-come-by (Command from to ∷ elements) at r left right lengths narrow above is =
      λ some. absurd (omega (arith, some, ap (λ (x : RuleRows). x.count) is))
  rules-come-by (Row keys rules height entries ∷ elements) at r left right lengths narrow above is =
      subst (λ (x : RuleRows). RulesComeBy x left right lengths) (sym is)
      (λ some lengths_are last left_is right_is.
      first-comes bytes formats rows w keys rules height entries elements at
      (all-at (IsServed formats) w.element rows.elements (Row keys rules height entries) elements served at)
      (rules - 1) left right lengths (omega (arith, some)) narrow above lengths_are last left_is right_is)

  pub next-comes-by : (es : List KeptElement) → drop w.element rows.elements ≡ es → (rule next : RuleBegun) (row count : ℕ)
      → rule.line ≡ KeysBegun row (suc count) → RowBehind formats rows.columns rule row (suc count) next
      → RuleStands bytes formats rows rule w (drop w.element rows.elements) → IsRuleOf formats row (suc count) es
      → RuleRowNext bytes formats rows rule row count w (record w { next = AtRuleRow next })
  next-comes-by [] at rule next row count line b stands of = absurd of
  next-comes-by (Rule sign ∷ elements) at rule next row count line b stands of = absurd of
  next-comes-by (Command from to ∷ elements) at rule next row count line b stands of = absurd of
  next-comes-by (Row keys rules height entries ∷ elements) at rule next row count line b stands of =
      next-comes bytes formats rows w keys rules height entries elements at
      (all-at (IsServed formats) w.element rows.elements (Row keys rules height entries) elements served at) rule next row count line b stands
