use Rattle.std.proofs.Common.{◌≡◌, ℕ, ◌+◌, ◌≤◌, List, [], ◌∷◌, get_or, length, subst, sym, ap, ◌∙◌, arith, length-append}
use Rattle.tbl_format.specs.RowsServed.{all_rows}
use Rattle.tbl_layout.specs.declared.bars.Bars.{Bars}
use Rattle.tbl_lines.specs.LinesLeft.{Beside, OfRules, Over}
use Rattle.tbl_tall.specs.Bands.{BandStands, band_line, kept_band, lines_behind, passed_bars}
use Rattle.tbl_tall.specs.declared.band.Band.{Band}
use Rattle.tbl_tall.proofs.BandSteps.{counts-next, pass-stands}
use Rattle.tbl_tall.proofs.band.Band.pass.Goals as goal

pub loop-boundary-preserved : goal.loop-boundary-preserved
loop-boundary-preserved c =
    let i = c.loop-boundary.invariant in
    let formats = all_rows c.args.format.now.format in
    let at = c.loop-boundary.boundary in
    let xs = c.loop-boundary.self.counts.items in
    let v = c.passed_at-bars.result in
    let passed_of : Band → Bars → List Over → Beside → Beside → ℕ → ℕ = λ b bars all above below boundary.
    passed_bars bars (length b.through.items) (band_line formats (kept_band b) b.at) all above (lines_behind formats (kept_band b) all
    (b.at + 1) below) boundary in
    let Passed : Band → Type 0 = λ b. (bars : Bars) (all : List Over) (above below : Beside) → bars.boxing ≡ c.args.boxing
    → BandStands formats bars (length b.through.items) (kept_band b) all above below → v ≡ passed_of b bars all above below at in
    let here : Passed c.args.self.now = subst Passed i.same c.passed_at-bars.ensures in
    record {
      same = ap (λ (b : Band). record b { counts = c.push_reserved.new.self }) i.same;
      many = omega (arith, ap length c.push_reserved.ensures.items, length-append xs (v ∷ []), i.many);
      capacity = c.push_reserved.ensures.capacity ∙ i.capacity;
      passed = λ bars all above below boxed stands boundary few.
          ap (λ (ys : List ℕ). get_or ys boundary 0) c.push_reserved.ensures.items
          ∙ counts-next (passed_of c.args.self.now bars all above below) xs v at i.many (here bars all above below boxed stands)
          (i.passed bars all above below boxed stands) boundary few;
    }

pub returns-clause-stands : goal.returns-clause-stands
returns-clause-stands c = λ bars all other line above below boxed stands cells lines.
    let i = c.loop-boundary.invariant in
    let formats = all_rows c.args.format.now.format in
    let self : Band = c.args.self.now in
    let columns = length self.through.items in
    let b = kept_band self in
    let xs = c.loop-boundary.self.counts.items in
    let ys : List ℕ = c.swap.new.x.items in
    let same : ys ≡ xs = ap (λ v. v.items) c.swap.ensures.x_after in
    let end : c.loop-boundary.boundary ≡ columns + 1
    = omega (arith, c.loop-boundary-test.false, c.loop-boundary.auto.boundary-end, c.len-boundary-end.ensures) in
    let many : length ys ≡ length b.through + 1 = ap length same ∙ i.many ∙ end in
    let are : (boundary : ℕ) → boundary ≤ columns → get_or ys boundary 0
    ≡ passed_bars bars columns (band_line formats b b.at) all above (lines_behind formats b all (b.at + 1) below) boundary
    = λ boundary few. ap (λ (zs : List ℕ). get_or zs boundary 0) same ∙ i.passed bars all above below boxed stands boundary (omega
    (arith, few, end)) in
    subst (λ (s : Band). BandStands formats bars columns (record (kept_band s) { above = ys; at = s.at + 1 }) other
    (OfRules line all above) below) (sym i.same)
    (pass-stands formats bars columns b all other line above below ys stands c.requires.line many are cells lines)
