-- What a step of a walk does where a rule, rows of rule keys or a row come next.
use Rattle.std.proofs.Common.{◌≡◌, ℕ, suc, ◌+◌, ◌-◌, ◌*◌, ◌≤◌, ◌<◌, Bool, true, false, List, [], ◌∷◌, ◌++◌, length, drop, refl, sym, ap, subst, ◌∙◌, arith, length-append, ◌==◌}
use Rattle.tbl_format.specs.Format.{FormatRow}
use Rattle.tbl_format.specs.RowsServed.{row_at}
use Rattle.tbl_kept.specs.Rows.{KeptElement, KeptRows, Row, elements_of, fields_of}
use Rattle.tbl_layout.specs.Entries.{Content, Element, Row as OneRow}
use Rattle.tbl_layout.specs.KeptEntries.{all_entries}
use Rattle.tbl_layout.specs.declared.data_lines.RuleSign.{RuleSign}
use Rattle.tbl_layout.specs.declared.entry.Entry.{Entry}
use Rattle.tbl_picture.specs.ElementsWalked.{CanWalk, Given, IsInRow, RuleAtElement, RuleBegin, RulesCome, Steps, behind_line_by, boxed_from, lines_behind_rule, lines_on, lines_with_rules, plain_rule, row_to_come, rule_steps, steps_before_row, steps_behind, steps_behind_line, steps_behind_rule, steps_by, steps_in_row, steps_left, steps_on, still_to_come, to_come_by}
use Rattle.tbl_lines.specs.PictureLines.{Neighbour, OfKeys, OfRow, OfRules, Whole, behind_rules, height as row_height, line_below, lines_behind, lines_from, row_cells, rule_from, rule_line}
use Rattle.tbl_pieces.specs.PieceQueue.{Adds, AddsFitting, KeptPieces}
use Rattle.tbl_pieces.specs.Pieces.{AreWithin}
use Rattle.tbl_picture.specs.RulesWalked.{RuleBegins, RuleStands, above_by, above_rules, below_by, line_beside, line_of_first, line_walked, is_row, next_behind_rule, rows_at, rule_front, sheet_of}
use Rattle.tbl_picture.specs.Walks.{BeforeLine, KeptWalk, row_begun, row_left, steps_of_rest, walked}
use Rattle.tbl_picture.specs.Nexts.{AtElement, AtLine, AtRule, AtRuleRow, Next}
use Rattle.tbl_picture.specs.declared.walk.beside.Beside.{Beside}
use Rattle.tbl_picture.specs.declared.walk.beside.Beside.TheVariants.{Nothing as NoRowBeside}
use Rattle.tbl_picture.specs.declared.walk.rules.RuleLine.{RuleLine as LineBegun}
use Rattle.tbl_picture.specs.declared.walk.rules.RuleLine.TheVariants.{OfKeys as KeysBegun}
use Rattle.tbl_pieces.proofs.Adding.{adds-fewer, adds-fitting, adds-none}
use Rattle.tbl_kept.proofs.AllLaid.{all-laid}
use Rattle.tbl_lines.proofs.CellsLent.{narrow-cells}
use Rattle.tbl_picture.proofs.BoxedElements.{boxed-keys}
use Rattle.tbl_lines.proofs.RowLines.{lines-begun, row-high}
use Rattle.tbl_lines.proofs.RowsBegun.{entries-lie, first-places}
use Rattle.tbl_picture.proofs.RowsOn.{some-on}
use Rattle.tbl_picture.proofs.RowSteps.{row-laid, row-plain, stand-few, stand-short}
use Rattle.tbl_picture.proofs.RulePlaces.{unbarred-same}
use Rattle.tbl_picture.proofs.RulesBegun.{rows-first, unbarred}
use Rattle.tbl_picture.proofs.StepsGiven.{gives}
use Rattle.tbl_picture.proofs.LinesBegun.{behind-rule, from-keys, line-begins, lines-behind, one-more, stands-behind, steps-behind}

module _ (bytes frame : List ℕ) (formats : List FormatRow) (rows : KeptRows) (w : KeptWalk) (can : CanWalk bytes formats rows w)
    (before after : KeptPieces) (within : AreWithin bytes frame before.pieces) where
  -- a rule comes next, in front of an element
  module _ (sign : RuleSign) (is_last : Bool) (at : ℕ) (element : at ≤ length rows.elements)
      (lines : (let elements = elements_of bytes formats (drop at rows.elements) in
      still_to_come bytes formats rows w
      ≡ rule_line (sheet_of rows w) (Whole sign) (line_beside bytes formats false rows.elements w.above) (line_below elements)
      ++ lines_behind_rule is_last (sheet_of rows w) elements))
      (fewer : rule_steps rows.columns + steps_behind_rule is_last bytes formats rows (drop at rows.elements) ≤ steps_left bytes formats rows w) where
    abbrev pub line-above : Neighbour
    line-above = line_beside bytes formats false rows.elements w.above

    abbrev pub there : List KeptElement
    there = drop at rows.elements

    abbrev pub line-by : Neighbour → List ℕ
    line-by below = rule_line (sheet_of rows w) (Whole sign) line-above below

    abbrev pub lines-then : List ℕ
    lines-then = lines_behind_rule is_last (sheet_of rows w) (elements_of bytes formats there)

    some-lines : 0 < length (still_to_come bytes formats rows w)
    some-lines =
        let below = line_below (elements_of bytes formats there) in omega (arith, ap length lines, length-append (line-by below) lines-then)

    -- it begins
    rule-begins : (new : KeptWalk) → RuleBegins bytes frame formats rows sign is_last (record w { element = at }) new before after
        → Steps bytes frame formats rows w new before after
    rule-begins new b =
        let moved : KeptWalk = record w { element = at } in
        let rule = b.rule in
        let begun : KeptWalk = record moved { place = rule.left; next = AtRule rule } in
        let stands = subst (λ (k : KeptWalk). RuleStands bytes formats rows rule k there) b.walk b.stands in
        let from_is : rule.from ≡ rule_from (line_walked formats rule.line) rule.left rows.columns =
        b.from ∙ ap (λ (l : LineBegun). rule_from (line_walked formats l) rule.left rows.columns) (sym b.line) in
        let by : LineBegun → Neighbour → List ℕ = λ l below.
        rule_line (sheet_of rows w) (line_walked formats l) (above_by l bytes formats rows begun there) below
        ++ behind_line_by l bytes formats rows begun there in
        let front = rule_front (line_walked formats rule.line) rule.left in
        let front_is : front ≡ rule_front (Whole sign) rule.left = ap (λ (l : LineBegun). rule_front (line_walked formats l) rule.left) b.line in
        let steps_is : steps_behind_line rule.line bytes formats rows there ≡ steps_behind_rule is_last bytes formats rows there =
        ap (λ (l : LineBegun). steps_behind_line l bytes formats rows there) b.line in
        let text : still_to_come bytes formats rows w ≡ rule_front (Whole sign) rule.left ++ still_to_come bytes formats rows begun =
        lines
        ∙ ap (λ (l : LineBegun). by l (line_below (elements_of bytes formats there))) (sym b.line)
        ∙ ap (λ (k : Neighbour). by rule.line k) (sym b.same)
        ∙ line-begins bytes formats rows rule begun there can.places stands b.first from_is
        ∙ ap (λ (xs : List ℕ). xs ++ still_to_come bytes formats rows begun) front_is in
        subst (λ (k : KeptWalk). Steps bytes frame formats rows w k before after) (sym b.walk)
        (gives bytes frame formats rows w before after within begun (rule_front (Whole sign) rule.left)
        (adds-fitting bytes frame before after (rule_front (Whole sign) rule.left) b.adds) text some-lines
        (record {
          laid = can.laid;
          plain = can.plain;
          narrow = can.narrow;
          places = can.places;
          room = can.room;
          element = element;
          above = can.above;
          next = stands;
        })
        (omega (arith, fewer, steps_is)) refl)

    -- or is given
    rule-given : w.bars.has_any ≡ false → Adds bytes frame 4 before after (plain_rule w.picture_width sign)
        → Steps bytes frame formats rows w (record w { element = at; above = NoRowBeside; next = next_behind_rule is_last }) before after
    rule-given none adds =
        let moved : KeptWalk = record w { element = at } in
        let new = behind-rule bytes formats rows moved there is_last in
        let line = plain_rule w.picture_width sign in
        let below = line_below (elements_of bytes formats there) in
        gives bytes frame formats rows w before after within new line (adds-fitting bytes frame before after line adds)
        (lines
        ∙ ap (λ (xs : List ℕ). xs ++ lines-then)
        (unbarred-same (sheet_of rows w) sign line-above below can.places.order none ∙ unbarred (sheet_of rows w) sign line-above below none)
        ∙ ap (λ (xs : List ℕ). line ++ xs) (sym (lines-behind bytes formats rows moved there is_last)))
        some-lines
        (record {
          laid = can.laid;
          plain = can.plain;
          narrow = can.narrow;
          places = can.places;
          room = can.room;
          element = element;
          above = tt;
          next = stands-behind bytes formats rows moved there is_last;
        })
        (omega (arith, fewer, steps-behind bytes formats rows moved there is_last)) refl

    pub rule-comes : (new : KeptWalk) → RuleAtElement bytes frame formats rows sign is_last (record w { element = at }) new before after
        → Steps bytes frame formats rows w new before after
    rule-comes new (RuleBegin any b) = rule-begins new b
    rule-comes new (Given none walk adds) =
        subst (λ (k : KeptWalk). Steps bytes frame formats rows w k before after) (sym walk) (rule-given none adds)

  -- a row comes next
  module _ (keys rules height : ℕ) (entries : List Entry) (elements : List KeptElement)
      (at : drop w.element rows.elements ≡ Row keys rules height entries ∷ elements) where
    abbrev pub stand : List Entry
    stand = all_entries (row_at formats keys) entries

    abbrev pub fields : List Content
    fields = fields_of bytes (row_at formats keys) entries

    abbrev pub behind : List Element
    behind = elements_of bytes formats elements

    -- it begins, behind some bytes
    pub row-starts : (place : ℕ) (text : List ℕ) (above : Neighbour) → AddsFitting bytes frame before after text
        → still_to_come bytes formats rows w
        ≡ text ++ lines_behind (sheet_of rows w) above (OneRow [] (row_at formats keys) fields ∷ boxed_from w.bars.boxing true behind)
        → steps_before_row bytes formats rows (Row keys rules height entries ∷ elements) < steps_left bytes formats rows w
        → Steps bytes frame formats rows w (row_begun stand (record w { place = place })) before after
    row-starts place text above adds lines fewer =
        let new = row_begun stand (record w { place = place }) in
        let row = walked bytes formats w.bars w.picture_width rows.columns keys height entries in
        let cells = row_cells (sheet_of rows w) (row_at formats keys) fields in
        let laid = row-laid bytes frame formats rows w can before after within keys rules height entries elements at in
        let plain = row-plain bytes frame formats rows w can before after within keys rules height entries elements at in
        let high : row_height cells ≡ height =
        row-high bytes formats w.bars w.picture_width rows.columns keys rules height entries laid plain in
        let front = lines_from 0 (row_height cells) cells in
        let left = row_left AtLine row new in
        let lines_row : front ≡ left = lines-begun bytes formats w.bars w.picture_width rows.columns keys rules height entries laid plain in
        let rest : Bool → List ℕ = λ is_first. lines_on (sheet_of rows w) true (OfRow is_first (row_at formats keys) fields) behind in
        let before_line : BeforeLine row new = record {
          line = omega (arith, plain);
          short = stand-short bytes formats rows.columns keys rules entries laid;
          room = omega (arith, stand-few bytes formats (length rows.columns) keys rules entries laid, can.room);
          fronts = tt;
          narrow = narrow-cells (row_at formats keys).keys rows.columns can.narrow;
          lie = entries-lie bytes (row_at formats keys) 0 stand (all-laid bytes (row_at formats keys) entries laid.laid);
          places = first-places bytes stand;
        } in
        let same_height : height - 0 ≡ height = omega arith in
        gives bytes frame formats rows w before after within new text adds
        (lines
        ∙ ap (λ (n : ℕ). text ++ (front ++ rest (n == 1))) high
        ∙ ap (λ (xs : List ℕ). text ++ (xs ++ rest (height == 1))) lines_row
        ∙ sym (ap (λ (es : List KeptElement). text ++ row_to_come bytes formats rows new es) at))
        (omega (
          arith,
          ap length lines,
          length-append text (front ++ rest (row_height cells == 1)),
          length-append front (rest (row_height cells == 1)),
          ap length lines_row,
          some-on AtLine row new tt before_line,
        ))
        (record {
          laid = can.laid;
          plain = can.plain;
          narrow = can.narrow;
          places = can.places;
          room = can.room;
          element = can.element;
          above = can.above;
          next = subst (IsInRow bytes formats rows new) (sym at) before_line;
        })
        (omega (arith, fewer, ap (steps_in_row bytes formats rows new) at, ap (steps_of_rest row) same_height))
        refl

    -- rows of rule keys come next, in front of it
    pub rules-come : (new : KeptWalk) → w.next ≡ AtElement → 0 < rules → RulesCome bytes formats rows (keys - rules) (rules - 1) w new
        → Steps bytes frame formats rows w new before before
    rules-come new next some c =
        let first = keys - rules in
        let left = rules - 1 in
        let all = Row keys rules height entries ∷ elements in
        let s = sheet_of rows w in
        let above = line_beside bytes formats false rows.elements w.above in
        let rule = c.rule in
        let come : KeptWalk = record w { next = AtRuleRow rule } in
        let laid = row-laid bytes frame formats rows w can before after within keys rules height entries elements at in
        let within_rows : first < length formats = omega (arith, laid.serves, laid.in_front, some) in
        let rules_is : rules ≡ suc left = omega (arith, some) in
        let none : first - first ≡ 0 = omega arith in
        let same : first - 0 ≡ first = omega arith in
        let by : List FormatRow → List ℕ = λ rs. lines_behind s above (OneRow rs (row_at formats keys) fields ∷ boxed_from w.bars.boxing true behind) in
        let old_lines : still_to_come bytes formats rows w ≡ by (rows_at formats first (suc left)) =
        ap (λ (n : Next). to_come_by n bytes formats rows w (drop w.element rows.elements)) next
        ∙ ap (λ (es : List KeptElement). lines_on s (is_row w.above) above (elements_of bytes formats es)) at
        ∙ ap (λ (n : ℕ). lines_on s (is_row w.above) above (OneRow (rows_at formats first n) (row_at formats keys) fields ∷ behind)) rules_is
        ∙ ap (λ (rs : List FormatRow). lines_on s (is_row w.above) above (OneRow rs (row_at formats keys) fields ∷ behind)) (rows-first formats first left within_rows)
        ∙ ap (lines_behind s above)
        (boxed-keys w.bars.boxing (is_row w.above) (row_at formats first) (rows_at formats (suc first) left) (row_at formats keys) fields behind)
        ∙ ap by (sym (rows-first formats first left within_rows)) in
        let from : LineBegun → Beside → List KeptElement → List ℕ = λ l below es.
        rule_line s (line_walked formats l) (above_by l bytes formats rows w es) (below_by l below bytes formats rows es) ++ behind_line_by l bytes formats rows w es in
        let keys_from : Neighbour → List ℕ = λ x.
        rule_line s (OfKeys (row_at formats first)) x (behind_rules (rows_at formats (suc first) left) (line_of_first bytes formats true all))
        ++ lines_with_rules bytes formats s (OfRules (row_at formats first) x) (rows_at formats (suc first) left) all in
        let new_lines : still_to_come bytes formats rows come ≡ keys_from above =
        ap (λ (l : LineBegun). from l rule.below.line (drop w.element rows.elements)) c.line
        ∙ ap (λ (es : List KeptElement). from (KeysBegun first left) rule.below.line es) at
        ∙ ap (λ (n : ℕ). keys_from (above_rules formats (first - n) n above)) none in
        let old_steps : steps_left bytes formats rows w ≡ steps_behind (is_row w.above) rows.columns + steps_on bytes formats rows all =
        ap (λ (n : Next). steps_by n bytes formats rows w (drop w.element rows.elements)) next
        ∙ ap (λ (es : List KeptElement). steps_behind (is_row w.above) rows.columns + steps_on bytes formats rows es) at in
        let new_steps : steps_left bytes formats rows come
        ≡ rule_steps rows.columns + (left * suc (rule_steps rows.columns) + steps_before_row bytes formats rows all) =
        ap (λ (l : LineBegun). rule_steps rows.columns + steps_behind_line l bytes formats rows (drop w.element rows.elements)) c.line
        ∙ ap (λ (es : List KeptElement). rule_steps rows.columns + steps_behind_line (KeysBegun first left) bytes formats rows es) at in
        subst (λ (k : KeptWalk). Steps bytes frame formats rows w k before before) (sym c.walk)
        (gives bytes frame formats rows w before before within come []
        (adds-fitting bytes frame before before [] (adds-fewer bytes frame 0 4 before before [] (omega arith) (adds-none bytes frame before)))
        (old_lines ∙ from-keys bytes formats s keys rules height entries elements above first left within_rows ∙ sym new_lines)
        (omega (
          arith,
          ap length (old_lines ∙ from-keys bytes formats s keys rules height entries elements above first left within_rows),
          length-append (rule_line s (OfKeys (row_at formats first)) above
              (behind_rules (rows_at formats (suc first) left) (line_of_first bytes formats true all)))
              (lines_with_rules bytes formats s (OfRules (row_at formats first) above) (rows_at formats (suc first) left) all),
        ))
        (record {
          laid = can.laid;
          plain = can.plain;
          narrow = can.narrow;
          places = can.places;
          room = can.room;
          element = can.element;
          above = can.above;
          next = c.stands;
        })
        (omega (arith, old_steps, new_steps, one-more rules (suc (rule_steps rows.columns)) some)) refl)
