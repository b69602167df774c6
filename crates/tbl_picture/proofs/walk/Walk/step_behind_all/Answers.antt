use Rattle.std.proofs.Common.{◌≡◌, ℕ, true, false, ap, sym, subst, ◌∙◌, arith, ◌==◌, ne_eqb}
use Rattle.std.proofs.lemmas.List.{drop_all}
use Rattle.tbl_format.specs.RowsServed.{all_rows}
use Rattle.tbl_layout.specs.declared.data_lines.RuleSign.{RuleSign}
use Rattle.tbl_picture.specs.ElementsWalked.{RuleAtElement}
use Rattle.tbl_lines.specs.PictureLines.{frame_sign}
use Rattle.tbl_picture.specs.Walks.{KeptWalk}
use Rattle.tbl_picture.proofs.PictureSteps.{all-given, bottom-comes}
use Rattle.tbl_picture.proofs.walk.Walk.step_behind_all.Goals as goal

pub returns-then-bars-eq0 : goal.returns-then-bars-eq0
returns-then-bars-eq0 c = record {
  step = λ bytes frame can within.
      let formats = all_rows c.args.format.now.format in
      let rows = c.args.rows.now in
      let w = c.args.self.now in
      let before = c.args.pieces.now in
      let unframed : (w.bars.boxing.bars == 0) ≡ true =
      ap (λ (k : KeptWalk). k.bars.boxing.bars == 0) (sym c.self.view_is) ∙ ap (λ (n : ℕ). n == 0) c.if-bars-eq0.true in
      all-given bytes frame formats rows w can before before within c.requires.next
      (drop_all w.element rows.elements (omega (arith, c.requires.element))) unframed;
}

pub returns : goal.returns
returns c = record {
  step = λ bytes frame can within.
      let formats = all_rows c.args.format.now.format in
      let rows = c.args.rows.now in
      let w = c.args.self.now in
      let before = c.args.pieces.now in
      let after = c.step_at_rule.new.pieces in
      let new = c.step_at_rule.new.self in
      let view = c.self.view_is in
      let framed : (w.bars.boxing.bars == 0) ≡ false =
      ne_eqb w.bars.boxing.bars 0 (λ is. c.if-bars-eq0.false (ap (λ (k : KeptWalk). k.bars.boxing.bars) view ∙ is)) in
      let sign_is = c.frame_sign.ensures ∙ ap (λ (k : KeptWalk). frame_sign k.bars.boxing.bars) view in
      bottom-comes bytes frame formats rows w can before after within c.requires.next new
      (drop_all w.element rows.elements (omega (arith, c.requires.element))) framed
      (subst (λ (sign : RuleSign). RuleAtElement bytes frame formats rows sign true w new before after) sign_is
      (c.step_at_rule.ensures bytes frame can.narrow));
}
