use Rattle.std.proofs.Common.{◌≡◌, ℕ, suc, ◌+◌, true, List, drop, sym, ap, ◌∙◌, arith}
use Rattle.std.proofs.lemmas.List.{drop_all}
use Rattle.tbl_kept.specs.Rows.{KeptElement, elements_of}
use Rattle.tbl_lines.specs.PictureLines.{behind_rules, line_below}
use Rattle.tbl_picture.specs.RulesWalked.{line_of_first, rules_of_first}
use Rattle.tbl_picture.proofs.walk.beside.row_below.Goals as goal

pub returns-in-Row-clause-line : goal.returns-in-Row-clause-line
returns-in-Row-clause-line c = λ bytes formats.
    ap (λ (es : List KeptElement). behind_rules (rules_of_first formats es) (line_of_first bytes formats true es)) c.in-Row.ensures
    ∙ sym (ap (λ (es : List KeptElement). line_below (elements_of bytes formats es)) c.in-Row.ensures)
    ∙ c.loop-at.invariant.line bytes formats

pub returns-in-Rule-clause-line : goal.returns-in-Rule-clause-line
returns-in-Rule-clause-line c = λ bytes formats.
    sym (ap (λ (es : List KeptElement). line_below (elements_of bytes formats es)) c.in-Rule.ensures) ∙ c.loop-at.invariant.line bytes formats

pub loop-at-preserved : goal.loop-at-preserved
loop-at-preserved c =
    let elements = c.args.rows.now.elements in
    let next : c.loop-at.at + 1 ≡ suc c.loop-at.at = omega arith in
    record {
      within = omega (arith, c.loop-at-test.true, c.count.ensures);
      line = λ bytes formats.
          ap (λ (n : ℕ). line_below (elements_of bytes formats (drop n elements))) next
          ∙ sym (ap (λ (es : List KeptElement). line_below (elements_of bytes formats es)) c.in-Command.ensures)
          ∙ c.loop-at.invariant.line bytes formats;
    }

pub returns-clause-line : goal.returns-clause-line
returns-clause-line c = λ bytes formats.
    let none = drop_all c.loop-at.at c.args.rows.now.elements (omega (arith, c.loop-at-test.false, c.count.ensures)) in
    sym (ap (λ (es : List KeptElement). line_below (elements_of bytes formats es)) none) ∙ c.loop-at.invariant.line bytes formats
