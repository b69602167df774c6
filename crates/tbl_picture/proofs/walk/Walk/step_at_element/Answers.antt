use Rattle.std.proofs.Common.{◌≡◌, suc, ◌+◌, [], ◌∷◌, ◌++◌, drop, refl, sym, ap, subst, ◌∙◌, arith}
use Rattle.std.specs.List.{slice_range}
use Rattle.input_source.specs.Bytes.{newline}
use Rattle.tbl_format.specs.RowsServed.{all_rows}
use Rattle.tbl_kept.specs.Rows.{Row}
use Rattle.tbl_picture.specs.ElementsWalked.{CanWalk, Steps}
use Rattle.tbl_picture.specs.Walks.{KeptWalk, kept_by}
use Rattle.tbl_picture.specs.Nexts.{AtElement}
use Rattle.tbl_text.proofs.BlockSlices.{length-slice_range}
use Rattle.tbl_pieces.proofs.Adding.{adds-fewer, adds-more}
use Rattle.tbl_picture.proofs.PictureSteps.{command-lies, command-steps, row-at-element, rule-element}
use Rattle.tbl_picture.proofs.walk.Walk.step_at_element.Goals as goal

pub returns-in-Command : goal.returns-in-Command
returns-in-Command c = record {
  step = λ bytes frame can within.
      let formats = all_rows c.args.format.now.format in
      let rows = c.args.rows.now in
      let w = kept_by c.self.inside in
      let view = c.self.view_is in
      let here = subst (λ (k : KeptWalk). CanWalk bytes formats rows k) (sym view) can in
      let next : w.next ≡ AtElement = ap (λ (k : KeptWalk). k.next) view ∙ c.requires.next in
      let from = c.in-Command.from in
      let to = c.in-Command.to in
      let before = c.args.pieces.now in
      let between = c.add.new.self in
      let after = c.add-in-Command.new.self in
      let elements = drop (suc w.element) rows.elements in
      let at = c.in-Command.ensures in
      let lies = command-lies bytes frame formats rows w here before after within next from to elements at in
      let text = slice_range bytes from to in
      let adds = adds-fewer bytes frame (1 + 1) 4 before after (text ++ newline ∷ []) (omega arith)
      (adds-more bytes frame 1 1 before between after text (newline ∷ [])
      (c.add.ensures.adds bytes frame (length-slice_range bytes from to lies.within)) (c.add-in-Command.ensures.adds bytes frame refl)) in
      subst (λ (k : KeptWalk). Steps bytes frame formats rows k (record w { element = w.element + 1 }) before after) view
      (command-steps bytes frame formats rows w here before after within next from to elements at adds);
}

pub returns-in-Rule : goal.returns-in-Rule
returns-in-Rule c = record {
  step = λ bytes frame can within.
      let formats = all_rows c.args.format.now.format in
      let rows = c.args.rows.now in
      let w = kept_by c.self.inside in
      let view = c.self.view_is in
      let here = subst (λ (k : KeptWalk). CanWalk bytes formats rows k) (sym view) can in
      let next : w.next ≡ AtElement = ap (λ (k : KeptWalk). k.next) view ∙ c.requires.next in
      let before = c.args.pieces.now in
      let after = c.step_at_rule.new.pieces in
      let new = c.step_at_rule.new.self in
      subst (λ (k : KeptWalk). Steps bytes frame formats rows k new before after) view
      (rule-element bytes frame formats rows w here before after within next c.in-Rule.sign (drop (suc w.element) rows.elements) new c.in-Rule.ensures
      (c.step_at_rule.ensures bytes frame can.narrow));
}

pub returns-in-Row : goal.returns-in-Row
returns-in-Row c = record {
  step = λ bytes frame can within.
      let formats = all_rows c.args.format.now.format in
      let rows = c.args.rows.now in
      let w = c.args.self.now in
      let before = c.args.pieces.now in
      let after = c.step_at_row.new.pieces in
      let row = c.in-Row in
      let at = subst (λ (k : KeptWalk). drop k.element rows.elements ≡ Row row.keys row.rules row.field-2 row.entries.now ∷ drop (suc k.element) rows.elements)
      c.self.view_is row.ensures in
      row-at-element bytes frame formats rows w can before after within c.requires.next row.keys row.rules row.field-2 row.entries.now
      (drop (suc w.element) rows.elements) at c.step_at_row.new.self (c.step_at_row.ensures bytes frame can.narrow);
}
