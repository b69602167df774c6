-- What a step of a walk does with the elements of a picture.
use Rattle.std.proofs.Common.{◌≡◌, ℕ, suc, ◌+◌, ◌-◌, ◌≤◌, Bool, true, false, ◌&&◌, List, [], ◌∷◌, ◌++◌, length, drop, take, refl, sym, ap, subst, ◌∙◌, arith, append_assoc, length-append, ◌==◌}
use Rattle.std.specs.List.{slice_range}
use Rattle.input_source.specs.Bytes.{newline}
use Rattle.tbl_format.specs.Format.{FormatRow}
use Rattle.tbl_format.specs.RowsServed.{row_at}
use Rattle.tbl_kept.specs.Rows.{Command, CommandLies, ElementLaid, KeptElement, KeptRows, Row, Rule, elements_of, fields_of}
use Rattle.tbl_layout.specs.Entries.{Row as OneRow}
use Rattle.tbl_layout.specs.KeptEntries.{all_entries}
use Rattle.tbl_layout.specs.declared.data_lines.RuleSign.{RuleSign}
use Rattle.tbl_layout.specs.declared.data_lines.RuleSign.TheVariants.{Single}
use Rattle.tbl_layout.specs.declared.entry.Entry.{Entry}
use Rattle.tbl_picture.specs.ElementsWalked.{BehindRow, CanWalk, HasEnded, RowAtElement, RowBegin, RuleAtElement, RuleRowsCome, StandsAt, Steps, lines_on, steps_behind, steps_by, steps_left, steps_on, still_to_come, to_come_by}
use Rattle.tbl_lines.specs.PictureLines.{Neighbour, NoRow, Sheet, Whole, frame_sign, line_below, lines_behind, rule_line}
use Rattle.tbl_pieces.specs.PieceQueue.{Adds, KeptPieces}
use Rattle.tbl_pieces.specs.Pieces.{AreWithin}
use Rattle.tbl_picture.specs.RulesWalked.{is_row, line_beside, sheet_of}
use Rattle.tbl_picture.specs.Walks.{KeptWalk, row_begun}
use Rattle.tbl_picture.specs.Nexts.{AtElement, AtTop, Next}
use Rattle.tbl_pieces.proofs.Adding.{adds-fewer, adds-fitting, adds-none}
use Rattle.tbl_picture.proofs.BoxedElements.{boxed-between, boxed-command, boxed-none, boxed-row, boxed-rule, rule-lines}
use Rattle.tbl_picture.proofs.ElementSteps.{row-starts, rule-comes, rules-come}
use Rattle.tbl_lines.proofs.RowColumns.{drop-next}
use Rattle.tbl_picture.proofs.RowSteps.{all-at, within-drop}
use Rattle.tbl_picture.proofs.StepsGiven.{gives}

second-true : (s t : Bool) → (s && t) ≡ true → t ≡ true
second-true true t is = is
second-true false t is = absurd (cc)

module _ (bytes frame : List ℕ) (formats : List FormatRow) (rows : KeptRows) (w : KeptWalk) (can : CanWalk bytes formats rows w)
    (before after : KeptPieces) (within : AreWithin bytes frame before.pieces) where
  -- in front of an element
  module _ (next : w.next ≡ AtElement) where
    abbrev pub sheet : Sheet
    sheet = sheet_of rows w

    abbrev pub above : Neighbour
    above = line_beside bytes formats false rows.elements w.above

    lines-at : (elements : List KeptElement) → drop w.element rows.elements ≡ elements
        → still_to_come bytes formats rows w ≡ lines_on sheet (is_row w.above) above (elements_of bytes formats elements)
    lines-at elements at =
        ap (λ (n : Next). to_come_by n bytes formats rows w (drop w.element rows.elements)) next
        ∙ ap (λ (es : List KeptElement). lines_on sheet (is_row w.above) above (elements_of bytes formats es)) at

    steps-at : (elements : List KeptElement) → drop w.element rows.elements ≡ elements
        → steps_left bytes formats rows w ≡ steps_behind (is_row w.above) rows.columns + steps_on bytes formats rows elements
    steps-at elements at =
        ap (λ (n : Next). steps_by n bytes formats rows w (drop w.element rows.elements)) next
        ∙ ap (λ (es : List KeptElement). steps_behind (is_row w.above) rows.columns + steps_on bytes formats rows es) at

    -- behind all elements
    pub bottom-comes : (new : KeptWalk) → drop w.element rows.elements ≡ [] → (w.bars.boxing.bars == 0) ≡ false
        → RuleAtElement bytes frame formats rows (frame_sign w.bars.boxing.bars) true w new before after → Steps bytes frame formats rows w new before after
    bottom-comes new none framed r =
        let sign = frame_sign w.bars.boxing.bars in
        let line : List KeptElement → List ℕ = λ es.
        rule_line sheet (Whole sign) above (line_below (elements_of bytes formats es)) ++ [] in
        rule-comes bytes frame formats rows w can before after within sign true w.element can.element
        (lines-at [] none ∙ ap (lines_behind sheet above) (boxed-none w.bars.boxing (is_row w.above) false framed) ∙ ap line (sym none))
        (omega (arith, steps-at [] none)) new r

    pub all-given : drop w.element rows.elements ≡ [] → (w.bars.boxing.bars == 0) ≡ true → HasEnded bytes formats rows w w before before
    all-given none unframed = record {
      none = lines-at [] none ∙ ap (lines_behind sheet above) (boxed-none w.bars.boxing (is_row w.above) true unframed);
      walk = refl;
      pieces = refl;
    }

    -- what is behind an element
    module _ (e : KeptElement) (elements : List KeptElement) (at : drop w.element rows.elements ≡ e ∷ elements) where
      there : drop (w.element + 1) rows.elements ≡ elements
      there =
          let next_is : w.element + 1 ≡ suc w.element = omega arith in
          ap (λ (n : ℕ). drop n rows.elements) next_is ∙ drop-next w.element rows.elements e elements at

      pub one-more : w.element + 1 ≤ length rows.elements
      one-more = omega (arith, within-drop w.element rows.elements e elements at)

    -- a command
    pub command-lies : (from to : ℕ) (elements : List KeptElement) → drop w.element rows.elements ≡ Command from to ∷ elements → CommandLies bytes from to
    command-lies from to elements at = all-at (ElementLaid bytes formats (length rows.columns)) w.element rows.elements (Command from to) elements can.laid.elements at

    pub command-steps : (from to : ℕ) (elements : List KeptElement) → drop w.element rows.elements ≡ Command from to ∷ elements
        → Adds bytes frame 4 before after (slice_range bytes from to ++ newline ∷ [])
        → Steps bytes frame formats rows w (record w { element = w.element + 1 }) before after
    command-steps from to elements at adds =
        let new : KeptWalk = record w { element = w.element + 1 } in
        let e = Command from to in
        let text = slice_range bytes from to in
        let rest = lines_on sheet (is_row w.above) above (elements_of bytes formats elements) in
        let lines : still_to_come bytes formats rows w ≡ text ++ newline ∷ rest =
        lines-at (e ∷ elements) at
        ∙ ap (lines_behind sheet above) (boxed-command w.bars.boxing (is_row w.above) text (elements_of bytes formats elements)) in
        let behind : drop (w.element + 1) rows.elements ≡ elements = there e elements at in
        let new_lines : still_to_come bytes formats rows new ≡ rest =
        ap (λ (n : Next). to_come_by n bytes formats rows new (drop (w.element + 1) rows.elements)) next
        ∙ ap (λ (es : List KeptElement). lines_on sheet (is_row w.above) above (elements_of bytes formats es)) behind in
        let new_steps : steps_left bytes formats rows new ≡ steps_behind (is_row w.above) rows.columns + steps_on bytes formats rows elements =
        ap (λ (n : Next). steps_by n bytes formats rows new (drop (w.element + 1) rows.elements)) next
        ∙ ap (λ (es : List KeptElement). steps_behind (is_row w.above) rows.columns + steps_on bytes formats rows es) behind in
        gives bytes frame formats rows w before after within new (text ++ newline ∷ []) (adds-fitting bytes frame before after (text ++ newline ∷ []) adds)
        (lines ∙ ap (λ (xs : List ℕ). text ++ newline ∷ xs) (sym new_lines) ∙ sym (append_assoc text (newline ∷ []) (still_to_come bytes formats rows new)))
        (omega (arith, ap length lines, length-append text (newline ∷ rest)))
        (record {
          laid = can.laid;
          plain = can.plain;
          narrow = can.narrow;
          places = can.places;
          room = can.room;
          element = one-more e elements at;
          above = can.above;
          next = subst (λ (n : Next). StandsAt n bytes formats rows new (drop (w.element + 1) rows.elements)) (sym next) tt;
        })
        (omega (arith, steps-at (e ∷ elements) at, new_steps)) refl

    -- a rule of the table
    pub rule-element : (sign : RuleSign) (elements : List KeptElement) (new : KeptWalk) → drop w.element rows.elements ≡ Rule sign ∷ elements
        → RuleAtElement bytes frame formats rows sign false (record w { element = w.element + 1 }) new before after
        → Steps bytes frame formats rows w new before after
    rule-element sign elements new at r =
        let behind : drop (w.element + 1) rows.elements ≡ elements = there (Rule sign) elements at in
        let lines : List KeptElement → List ℕ = λ es.
        rule_line sheet (Whole sign) above (line_below (elements_of bytes formats es))
        ++ lines_on sheet false NoRow (elements_of bytes formats es) in
        rule-comes bytes frame formats rows w can before after within sign false (w.element + 1) (one-more (Rule sign) elements at)
        (lines-at (Rule sign ∷ elements) at
        ∙ ap (lines_behind sheet above) (boxed-rule w.bars.boxing (is_row w.above) sign (elements_of bytes formats elements))
        ∙ rule-lines sheet above sign (elements_of bytes formats elements)
        ∙ ap lines (sym behind))
        (omega (arith, steps-at (Rule sign ∷ elements) at, ap (steps_on bytes formats rows) behind)) new r

    -- a row
    module _ (keys rules height : ℕ) (entries : List Entry) (elements : List KeptElement)
        (at : drop w.element rows.elements ≡ Row keys rules height entries ∷ elements) where
      abbrev pub row-first : List KeptElement
      row-first = Row keys rules height entries ∷ elements

      abbrev pub lines-with : List FormatRow → List ℕ
      lines-with rs =
          lines_on sheet (is_row w.above) above
          (OneRow rs (row_at formats keys) (fields_of bytes (row_at formats keys) entries) ∷ elements_of bytes formats elements)

      -- no row of rule keys stands in front of it
      lines-alone : rules ≡ 0 → still_to_come bytes formats rows w ≡ lines-with []
      lines-alone none = lines-at row-first at ∙ ap (λ (n : ℕ). lines-with (take n (drop (keys - n) formats))) none

      -- a rule in front of it
      between-comes : (new : KeptWalk) → rules ≡ 0 → (w.bars.boxing.is_inside && is_row w.above) ≡ true
          → RuleAtElement bytes frame formats rows Single false w new before after → Steps bytes frame formats rows w new before after
      between-comes new none both r =
          let format = row_at formats keys in
          let fields = fields_of bytes format entries in
          let behind = elements_of bytes formats elements in
          let with_rules : ℕ → List ℕ = λ n.
          let all = OneRow (take n (drop (keys - n) formats)) format fields ∷ behind in
          rule_line sheet (Whole Single) above (line_below all) ++ lines_on sheet false NoRow all in
          let lines : List KeptElement → List ℕ = λ es.
          rule_line sheet (Whole Single) above (line_below (elements_of bytes formats es)) ++ lines_on sheet false NoRow (elements_of bytes formats es) in
          let row_above = second-true w.bars.boxing.is_inside (is_row w.above) both in
          rule-comes bytes frame formats rows w can before after within Single false w.element can.element
          (lines-alone none
          ∙ ap (lines_behind sheet above) (boxed-between w.bars.boxing (is_row w.above) format fields behind both)
          ∙ rule-lines sheet above Single (OneRow [] format fields ∷ behind)
          ∙ ap with_rules (sym none)
          ∙ ap lines (sym at))
          (omega (arith, steps-at row-first at, ap (λ (t : Bool). steps_behind t rows.columns) row_above, ap (steps_on bytes formats rows) at)) new r

      -- it begins
      row-begins : rules ≡ 0 → (w.bars.boxing.is_inside && is_row w.above) ≡ false
          → Steps bytes frame formats rows w (row_begun (all_entries (row_at formats keys) entries) w) before before
      row-begins none both =
          let format = row_at formats keys in
          let fields = fields_of bytes format entries in
          row-starts bytes frame formats rows w can before before within keys rules height entries elements at w.place [] above
          (adds-fitting bytes frame before before [] (adds-fewer bytes frame 0 4 before before [] (omega arith) (adds-none bytes frame before)))
          (lines-alone none
          ∙ ap (lines_behind sheet above) (boxed-row w.bars.boxing (is_row w.above) [] format fields (elements_of bytes formats elements) both))
          (omega (arith, steps-at row-first at))

      pub row-at-element : (new : KeptWalk) → RowAtElement bytes frame formats rows keys rules entries w new before after
          → Steps bytes frame formats rows w new before after
      row-at-element new (RuleRowsCome some come pieces) =
          subst (λ (k : KeptPieces). Steps bytes frame formats rows w new before k) (sym pieces)
          (rules-come bytes frame formats rows w can before after within keys rules height entries elements at new next some come)
      row-at-element new (BehindRow none both r) = between-comes new none both r
      row-at-element new (RowBegin none both walk pieces) =
          subst (λ (k : KeptWalk). Steps bytes frame formats rows w k before after) (sym walk)
          (subst (λ (k : KeptPieces). Steps bytes frame formats rows w (row_begun (all_entries (row_at formats keys) entries) w) before k) (sym pieces)
          (row-begins none both))

  -- the rule above all elements
  pub top-comes : (new : KeptWalk) → w.next ≡ AtTop → RuleAtElement bytes frame formats rows (frame_sign w.bars.boxing.bars) false w new before after
      → Steps bytes frame formats rows w new before after
  top-comes new next r =
      let all = drop w.element rows.elements in
      let sign = frame_sign w.bars.boxing.bars in
      rule-comes bytes frame formats rows w can before after within sign false w.element can.element
      (ap (λ (n : Next). to_come_by n bytes formats rows w all) next
      ∙ rule-lines (sheet_of rows w) (line_beside bytes formats false rows.elements w.above) sign (elements_of bytes formats all))
      (omega (arith, ap (λ (n : Next). steps_by n bytes formats rows w all) next)) new r
