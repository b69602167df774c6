use Rattle.std.proofs.Common.{replicate, refl, sym, ap, ◌∙◌, arith, rules}
use Rattle.std.proofs.lemmas.Grind.{common_steps}
use Rattle.page_bytes.specs.LineBytes.Fronts.{blanks_in_front}
use Rattle.page_bytes.specs.LineBytes.Left.{spare_columns}
use Rattle.page_bytes.proofs.BlanksInFront.{first_byte}
use Rattle.page_bytes.proofs.line_bytes.LineBytesIterator.next.Goals as goal

pub returns-clause-steps : goal.returns-clause-steps
returns-clause-steps c =
    let left = c.self.inside in
    let same = c.self.view_is ∙ c.if-take_blank.ensures.taken in
    let none = ap blanks_in_front same ∙ c.if-take_blank.ensures.none refl in
    sym same ∙ first_byte (spare_columns left) left.gaps left.passed c.in-Some.field-0-0.now left.blanks left.text.now c.in-Some.rest.now (replicate left.newlines 10)
    c.in-Some.ensures.cases.0 none

pub returns-clause-goes : goal.returns-clause-goes
returns-clause-goes c = let steps = returns-clause-steps c in first_of (search rules, grind (arith, common_steps))
