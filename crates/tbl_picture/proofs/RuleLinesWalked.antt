-- What a step of a walk does on a line of rules.
use Rattle.std.proofs.Common.{◌≡◌, ℕ, zero, suc, ◌+◌, ◌-◌, ◌<◌, max, Bool, true, false, List, [], ◌∷◌, ◌++◌, length, drop, refl, sym, ap, subst, ◌∙◌, arith, append_assoc, length-append}
use Rattle.input_source.specs.Bytes.{newline}
use Rattle.tbl_format.specs.Format.{FormatRow}
use Rattle.tbl_format.specs.RowsServed.{row_at}
use Rattle.tbl_kept.specs.Rows.{KeptElement, KeptRows, Row, Rule, Command}
use Rattle.tbl_layout.specs.KeptEntries.{all_entries}
use Rattle.tbl_layout.specs.LayoutLaws.{first_start}
use Rattle.tbl_layout.specs.declared.data_lines.RuleSign.{RuleSign}
use Rattle.tbl_layout.specs.declared.entry.Entry.{Entry}
use Rattle.tbl_picture.specs.ElementsWalked.{CanWalk, IsKeysLine, StandsAt, Steps, behind_line_by, keys_front, lines_with_rules, rule_row_begun, rule_steps, steps_behind_line, steps_by, steps_left, still_to_come, to_come_by}
use Rattle.tbl_lines.specs.PictureLines.{Neighbour, OfKeys, OfRules, behind_rules, drawn, edge_mark, rule_from, rule_line, rule_to}
use Rattle.tbl_picture.specs.RuleMarks.{marks_from}
use Rattle.tbl_pieces.specs.PieceQueue.{Adds, KeptPieces}
use Rattle.tbl_pieces.specs.Pieces.{AreWithin}
use Rattle.tbl_picture.specs.RulesWalked.{Crosses, Ends, FirstBegins, IsRuleOf, KeysEnded, LineEnded, RuleCrosses, RuleDoes, RuleRowNext, RuleStands, StandsBelow, above_by, below_by, come_behind, line_beside, line_of_first, line_walked, rows_at, rule_behind, rule_left, sheet_of}
use Rattle.tbl_picture.specs.Walks.{KeptWalk, row_begun}
use Rattle.tbl_picture.specs.Nexts.{AtRule, AtRuleRow, Next}
use Rattle.tbl_picture.specs.declared.walk.rules.RuleBegun.{RuleBegun}
use Rattle.tbl_picture.specs.declared.walk.rules.RuleLine.{RuleLine as LineBegun}
use Rattle.tbl_picture.specs.declared.walk.rules.RuleLine.TheVariants.{OfKeys as KeysBegun, Whole as WholeBegun}
use Rattle.tbl_pieces.proofs.Adding.{adds-fitting}
use Rattle.tbl_picture.proofs.RowSteps.{row-laid}
use Rattle.tbl_picture.proofs.RulesBegun.{above-next}
use Rattle.tbl_picture.proofs.StepsGiven.{gives}
use Rattle.tbl_picture.proofs.LinesBegun.{behind-rule, from-keys, front-some, keys-front, keys-from, line-begins, lines-behind, more-steps, stands-behind, stands-behind-column, stands-moved, steps-behind}
use Rattle.tbl_picture.proofs.ElementSteps.{row-starts}

module _ (bytes frame : List ℕ) (formats : List FormatRow) (rows : KeptRows) (w : KeptWalk) (can : CanWalk bytes formats rows w)
    (before after : KeptPieces) (within : AreWithin bytes frame before.pieces) where
  -- the line of a row of rule keys begins
  pub keys-begin : (rule : RuleBegun) → w.next ≡ AtRuleRow rule → Adds bytes frame 4 before after (keys_front rule.left)
      → Steps bytes frame formats rows w (rule_row_begun rule w) before after
  keys-begin rule next adds =
      let es = drop w.element rows.elements in
      let new = rule_row_begun rule w in
      let r = subst (λ (n : Next). StandsAt n bytes formats rows w es) next can.next in
      let from_is : rule.from ≡ rule_from (line_walked formats rule.line) rule.left rows.columns =
      r.from ∙ sym (keys-from formats rule.line rule.left rows.columns r.keys) in
      let begins = line-begins bytes formats rows rule w es can.places r.stands r.column from_is in
      let lines : still_to_come bytes formats rows w ≡ keys_front rule.left ++ still_to_come bytes formats rows new =
      ap (λ (n : Next). to_come_by n bytes formats rows w es) next ∙ begins
      ∙ ap (λ (xs : List ℕ). xs ++ still_to_come bytes formats rows new) (keys-front formats rule.line rule.left r.keys) in
      gives bytes frame formats rows w before after within new (keys_front rule.left) (adds-fitting bytes frame before after (keys_front rule.left) adds) lines
      (omega (arith, ap length lines, length-append (keys_front rule.left) (still_to_come bytes formats rows new), front-some rule.left))
      (record {
        laid = can.laid;
        plain = can.plain;
        narrow = can.narrow;
        places = can.places;
        room = can.room;
        element = can.element;
        above = can.above;
        next = stands-moved bytes formats rows rule w es rule.left (AtRule rule) r.stands;
      })
      (omega (arith, ap (λ (n : Next). steps_by n bytes formats rows w es) next, r.column)) refl

  -- a line of rules goes on
  module _ (rule : RuleBegun) (new : KeptWalk) (next : w.next ≡ AtRule rule) where
    abbrev pub kept-behind : List KeptElement
    kept-behind = drop w.element rows.elements

    abbrev pub line-left : List ℕ
    line-left = rule_left bytes formats rows rule w kept-behind

    rule-lines-now : still_to_come bytes formats rows w ≡ line-left ++ behind_line_by rule.line bytes formats rows w kept-behind
    rule-lines-now = ap (λ (n : Next). to_come_by n bytes formats rows w kept-behind) next

    rule-steps-now : steps_left bytes formats rows w
        ≡ suc (max 1 (length rows.columns)) - rule.column + steps_behind_line rule.line bytes formats rows kept-behind
    rule-steps-now = ap (λ (n : Next). steps_by n bytes formats rows w kept-behind) next

    rule-stands-now : RuleStands bytes formats rows rule w kept-behind
    rule-stands-now = subst (λ (n : Next). StandsAt n bytes formats rows w kept-behind) next can.next

    some-now : 0 < length (still_to_come bytes formats rows w)
    some-now =
        let s = sheet_of rows w in
        let line = line_walked formats rule.line in
        let above = above_by rule.line bytes formats rows w kept-behind in
        let below = below_by rule.line rule.below.line bytes formats rows kept-behind in
        let marks = marks_from s.bars line above below rule.column rule.from (rule_to line (s.width - rule.right) s.columns) (drop rule.column s.columns)
        ++ edge_mark line (s.width - rule.right) rule.right ∷ [] in
        omega (
          arith,
          ap length rule-lines-now,
          length-append line-left (behind_line_by rule.line bytes formats rows w kept-behind),
          length-append (drawn w.place marks) (newline ∷ []),
        )

    rule-crosses : RuleCrosses bytes frame formats rows rule w new before after → Steps bytes frame formats rows w new before after
    rule-crosses c =
        let moved = rule_behind rule c.from in
        let to = come_behind rule c.from c.place w in
        let behind = behind_line_by rule.line bytes formats rows w kept-behind in
        let joins : line-left ≡ c.added ++ rule_left bytes formats rows moved to kept-behind =
        c.joins ∙ ap (λ (k : KeptWalk). c.added ++ rule_left bytes formats rows moved k kept-behind) c.walk in
        subst (λ (k : KeptWalk). Steps bytes frame formats rows w k before after) (sym c.walk)
        (gives bytes frame formats rows w before after within to c.added (adds-fitting bytes frame before after c.added c.adds)
        (rule-lines-now ∙ ap (λ (xs : List ℕ). xs ++ behind) joins ∙ append_assoc c.added (rule_left bytes formats rows moved to kept-behind) behind)
        some-now
        (record {
          laid = can.laid;
          plain = can.plain;
          narrow = can.narrow;
          places = can.places;
          room = can.room;
          element = can.element;
          above = can.above;
          next = stands-behind-column bytes formats rows rule w kept-behind c.from c.place rule-stands-now c.lies;
        })
        (omega (arith, rule-steps-now, c.lies.column)) refl)

    -- a line that was given, behind which this is to come
    module _ (place : ℕ) (adds : Adds bytes frame 4 before after line-left) where
      whole-ends : (sign : RuleSign) (is_last : Bool) → rule.line ≡ WholeBegun sign is_last
          → Steps bytes frame formats rows w (behind-rule bytes formats rows (record w { place = place }) kept-behind is_last) before after
      whole-ends sign is_last line =
          let moved : KeptWalk = record w { place = place } in
          let to = behind-rule bytes formats rows moved kept-behind is_last in
          gives bytes frame formats rows w before after within to line-left (adds-fitting bytes frame before after line-left adds)
          (rule-lines-now
          ∙ ap (λ (l : LineBegun). line-left ++ behind_line_by l bytes formats rows w kept-behind) line
          ∙ ap (λ (xs : List ℕ). line-left ++ xs) (sym (lines-behind bytes formats rows moved kept-behind is_last)))
          some-now
          (record {
            laid = can.laid;
            plain = can.plain;
            narrow = can.narrow;
            places = can.places;
            room = can.room;
            element = can.element;
            above = tt;
            next = stands-behind bytes formats rows moved kept-behind is_last;
          })
          (omega (
            arith,
            rule-steps-now,
            rule-stands-now.lies.column,
            ap (λ (l : LineBegun). steps_behind_line l bytes formats rows kept-behind) line,
            steps-behind bytes formats rows moved kept-behind is_last,
          ))
          refl

      -- of a row of rule keys, in front of a row
      module _ (keys rules height : ℕ) (entries : List Entry) (elements : List KeptElement)
          (at : drop w.element rows.elements ≡ Row keys rules height entries ∷ elements) (row : ℕ) where
        abbrev pub row-first : List KeptElement
        row-first = Row keys rules height entries ∷ elements

        last-ends : rule.line ≡ KeysBegun row 0
            → Steps bytes frame formats rows w (row_begun (all_entries (row_at formats keys) entries) (record w { place = place })) before after
        last-ends line =
            let above = above_by (KeysBegun row 0) bytes formats rows w row-first in
            row-starts bytes frame formats rows w can before after within keys rules height entries elements at place line-left (OfRules (row_at formats row) above)
            (adds-fitting bytes frame before after line-left adds)
            (rule-lines-now
            ∙ ap (λ (l : LineBegun). line-left ++ behind_line_by l bytes formats rows w kept-behind) line
            ∙ ap (λ (es : List KeptElement). line-left ++ behind_line_by (KeysBegun row 0) bytes formats rows w es) at)
            (omega (
              arith,
              rule-steps-now,
              rule-stands-now.lies.column,
              ap (λ (l : LineBegun). steps_behind_line l bytes formats rows kept-behind) line,
              ap (λ (es : List KeptElement). steps_behind_line (KeysBegun row 0) bytes formats rows es) at,
            ))

        next-comes : (left : ℕ) → rule.line ≡ KeysBegun row (suc left) → RuleRowNext bytes formats rows rule row left (record w { place = place }) new
            → Steps bytes frame formats rows w new before after
        next-comes left line n =
            let s = sheet_of rows w in
            let above : ℕ → Neighbour = λ r. above_by (KeysBegun r 0) bytes formats rows w row-first in
            let come : KeptWalk = record w { place = place; next = AtRuleRow n.next } in
            let laid = row-laid bytes frame formats rows w can before after within keys rules height entries elements at in
            let there : IsRuleOf formats row (suc left) row-first =
            (subst (λ (es : List KeptElement). StandsBelow (KeysBegun row (suc left)) rule.below.line formats w es) at
            (subst (λ (l : LineBegun). StandsBelow l rule.below.line formats w kept-behind) line rule-stands-now.lies.stands)).1 in
            let within_rows : suc row < length formats = omega (arith, there.1, laid.serves) in
            let above_is : above (suc row) ≡ OfRules (row_at formats row) (above row) =
            above-next formats (keys - rules) row (line_beside bytes formats false rows.elements w.above) there.0 in
            let from : LineBegun → List KeptElement → List ℕ = λ l es.
            rule_line s (line_walked formats l) (above_by l bytes formats rows w es) (below_by l n.next.below.line bytes formats rows es)
            ++ behind_line_by l bytes formats rows w es in
            let keys_from : Neighbour → List ℕ = λ x.
            rule_line s (OfKeys (row_at formats (suc row))) x (behind_rules (rows_at formats (suc (suc row)) left) (line_of_first bytes formats true row-first))
            ++ lines_with_rules bytes formats s (OfRules (row_at formats (suc row)) x) (rows_at formats (suc (suc row)) left) row-first in
            let new_lines : still_to_come bytes formats rows come ≡ keys_from (OfRules (row_at formats row) (above row)) =
            ap (λ (l : LineBegun). from l kept-behind) n.line
            ∙ ap (λ (es : List KeptElement). from (KeysBegun (suc row) left) es) at
            ∙ ap keys_from above_is in
            let behind : LineBegun → List KeptElement → List ℕ = λ l es. line-left ++ behind_line_by l bytes formats rows w es in
            let steps_by_line : LineBegun → List KeptElement → ℕ = λ l es. steps_behind_line l bytes formats rows es in
            let from_is : n.next.from ≡ first_start n.next.left rows.columns =
            n.from ∙ ap (λ (k : ℕ). first_start k rows.columns) (sym n.same_left) in
            subst (λ (k : KeptWalk). Steps bytes frame formats rows w k before after) (sym n.walk)
            (gives bytes frame formats rows w before after within come line-left (adds-fitting bytes frame before after line-left adds)
            (rule-lines-now
            ∙ ap (λ (l : LineBegun). behind l kept-behind) line
            ∙ ap (λ (es : List KeptElement). behind (KeysBegun row (suc left)) es) at
            ∙ ap (λ (xs : List ℕ). line-left ++ xs)
            (from-keys bytes formats s keys rules height entries elements (OfRules (row_at formats row) (above row)) (suc row) left within_rows ∙ sym new_lines))
            some-now
            (record {
              laid = can.laid;
              plain = can.plain;
              narrow = can.narrow;
              places = can.places;
              room = can.room;
              element = can.element;
              above = can.above;
              next = record {
                stands = stands-moved bytes formats rows n.next w kept-behind place (AtRuleRow n.next)
                    (stands-moved bytes formats rows n.next (record w { place = place }) kept-behind w.place w.next n.stands);
                keys = subst IsKeysLine (sym n.line) tt;
                column = n.column;
                from = from_is;
              };
            })
            (omega (
              arith,
              rule-steps-now,
              rule-stands-now.lies.column,
              ap (λ (l : LineBegun). steps_by_line l kept-behind) line,
              ap (λ (es : List KeptElement). steps_by_line (KeysBegun row (suc left)) es) at,
              ap (λ (l : LineBegun). steps_by_line l kept-behind) n.line,
              ap (λ (es : List KeptElement). steps_by_line (KeysBegun (suc row) left) es) at,
              more-steps left (suc (rule_steps rows.columns)),
            ))
            refl)

      -- behind it
      keys-end : (es : List KeptElement) (row left : ℕ) → drop w.element rows.elements ≡ es → rule.line ≡ KeysBegun row left
          → StandsBelow (KeysBegun row left) rule.below.line formats w es → KeysEnded bytes formats rows rule row left (record w { place = place }) new
          → Steps bytes frame formats rows w new before after
      keys-end [] row left at line stands e = absurd stands.1
      keys-end (Rule sign ∷ elements) row left at line stands e = absurd stands.1
      keys-end (Command from to ∷ elements) row left at line stands e = absurd stands.1
      keys-end (Row keys rules height entries ∷ elements) row zero at line stands e =
          let walk = subst (λ (es : List KeptElement). FirstBegins formats es (record w { place = place }) new) at e in
          subst (λ (k : KeptWalk). Steps bytes frame formats rows w k before after) (sym walk) (last-ends keys rules height entries elements at row line)
      keys-end (Row keys rules height entries ∷ elements) row (suc left) at line stands e =
          next-comes keys rules height entries elements at row left line e

      line-ends : (line : LineBegun) → rule.line ≡ line → LineEnded line bytes formats rows rule (record w { place = place }) new
          → Steps bytes frame formats rows w new before after
      line-ends (WholeBegun sign is_last) line e =
          subst (λ (k : KeptWalk). Steps bytes frame formats rows w k before after) (sym e) (whole-ends sign is_last line)
      line-ends (KeysBegun row left) line e =
          keys-end kept-behind row left refl line
          (subst (λ (l : LineBegun). StandsBelow l rule.below.line formats w kept-behind) line rule-stands-now.lies.stands) e

    pub rule-by : RuleDoes bytes frame formats rows rule w new before after → Steps bytes frame formats rows w new before after
    rule-by (Crosses c) = rule-crosses c
    rule-by (Ends e) = line-ends e.place e.adds rule.line refl e.walk
