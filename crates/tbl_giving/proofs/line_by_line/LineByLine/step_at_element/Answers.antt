use Rattle.std.proofs.Common.{◌≡◌, ◌+◌, ℕ, List, [], ◌∷◌, ◌++◌, drop, length, suc, Some, refl, sym, ap, subst, ◌∙◌, arith}
use Rattle.tbl_format.specs.RowsServed.{all_rows}
use Rattle.tbl_kept.specs.Rows.{KeptElement, Command as CommandKept, ElementLaid, Rule as RuleKept}
use Rattle.tbl_giving.specs.LinesWalked.{CanGo, KeptLineByLine, LineSteps, kept_by}
use Rattle.tbl_giving.specs.declared.line_by_line.Place.{Place}
use Rattle.tbl_giving.specs.declared.line_by_line.Place.TheVariants.{AtElement}
use Rattle.tbl_giving.specs.declared.line_by_line.RuleAt.TheVariants.{Element as OfElement}
use Rattle.std.proofs.lemmas.List.{drop_all}
use Rattle.std.specs.List.{slice_range}
use Rattle.input_source.specs.Bytes.{newline}
use Rattle.tbl_format.proofs.Elements.{each-at}
use Rattle.tbl_format.proofs.Parts.{length-slice_range}
use Rattle.tbl_pieces.proofs.Adding.{adds-fewer, adds-more}
use Rattle.tbl_picture.specs.RulesWalked.{IsRowFirst}
use Rattle.tbl_giving.proofs.PartsNext.{RuleNext}
use Rattle.tbl_giving.proofs.LineStepsMade.{command-step}
use Rattle.tbl_giving.proofs.StepsOffLines.{element-at, rule-step}
use Rattle.tbl_giving.proofs.line_by_line.LineByLine.step_at_element.Goals as goal
use Rattle.tbl_giving.proofs.line_by_line.LineByLine.step_at_element.Goals.{In-Rule}

next : (c : In-Rule) → RuleNext c.args.bytes.now (all_rows c.args.format.now.format) c.args.rows.now c.args.self.now AtElement OfElement (Some c.in-Rule.sign) c.args.walk.now.room
next c =
    let elements = c.args.rows.now.elements in
    element-at c.requires.place c.requires.can
    (subst (λ (k : KeptLineByLine). drop k.element elements ≡ RuleKept c.in-Rule.sign ∷ drop (suc k.element) elements) c.self.view_is c.in-Rule.ensures)

pub step_behind_all-requires-clause-none : goal.step_behind_all-requires-clause-none
step_behind_all-requires-clause-none c =
    let g = c.args.self.now in
    let same : c.self.inside.element ≡ g.element = ap (λ (k : KeptLineByLine). k.element) c.self.view_is in
    drop_all g.element c.args.rows.now.elements (omega (arith, c.if-self-count.true, c.count.ensures, same))

pub begin_rule-requires : goal.begin_rule-requires
begin_rule-requires c =
    let rule = next (goal.at.begin_rule-requires c).In-Rule in
    record { come = rule.still.come; sign = rule.told }

pub step_at_row-requires-clause-row : goal.step_at_row-requires-clause-row
step_at_row-requires-clause-row c =
    let rows = c.args.rows.now in
    subst (λ (k : KeptLineByLine). IsRowFirst (drop k.element rows.elements)) c.self.view_is
    (subst (λ (es : List KeptElement). IsRowFirst es) (sym c.in-Row.ensures) tt)

pub returns-in-Rule-clause-step : goal.returns-in-Rule-clause-step
returns-in-Rule-clause-step c = λ frame. rule-step c.requires.place refl (next (goal.at.returns-in-Rule-clause-step c).In-Rule) c.begin_rule.ensures.begins

pub returns-in-Command : goal.returns-in-Command
returns-in-Command c = record {
  step = λ frame.
      let g = kept_by c.self.inside in
      let bytes = c.args.bytes.now in
      let formats = all_rows c.args.format.now.format in
      let rows = c.args.rows.now in
      let w = c.args.walk.now in
      let from = c.in-Command.from in
      let to = c.in-Command.to in
      let before = c.args.pieces.now in
      let between = c.add.new.self in
      let after = c.add-in-Command.new.self in
      let text = slice_range bytes from to in
      let place : g.place ≡ AtElement = ap (λ (k : KeptLineByLine). k.place) c.self.view_is ∙ c.requires.place in
      let here = subst (λ (k : KeptLineByLine). CanGo bytes formats rows k w) (sym c.self.view_is) c.requires.can in
      let can = subst (λ (p : Place). CanGo bytes formats rows (record g { place = p }) w) place here in
      let lies = each-at (ElementLaid bytes formats (length rows.columns)) rows.elements g.element (CommandKept from to) (drop (suc g.element) rows.elements)
      can.come.drawn.laid.elements c.in-Command.ensures in
      let adds = adds-fewer bytes frame (1 + 1) 4 before after (text ++ newline ∷ []) (omega arith)
      (adds-more bytes frame 1 1 before between after text (newline ∷ [])
      (c.add.ensures.adds bytes frame (length-slice_range bytes from to lies.within)) (c.add-in-Command.ensures.adds bytes frame refl)) in
      let steps = command-step bytes frame formats rows g w from to (drop (suc g.element) rows.elements) c.in-Command.ensures can before after adds in
      let new = record g { element = suc g.element; place = AtElement } in
      let one : suc g.element ≡ g.element + 1 = omega arith in
      subst (λ (k : KeptLineByLine). LineSteps bytes frame formats rows k (record g { element = g.element + 1 }) w w before after) c.self.view_is
      (subst (λ (p : Place). LineSteps bytes frame formats rows (record g { place = p }) (record g { element = g.element + 1; place = p }) w w before after) (sym place)
      (subst (λ (n : ℕ). LineSteps bytes frame formats rows (record g { place = AtElement }) (record g { element = n; place = AtElement }) w w before after) one steps));
  escapes = refl;
}
