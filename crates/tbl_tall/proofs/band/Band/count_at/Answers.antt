use Rattle.std.proofs.Common.{◌≡◌, get_or, max, sym, ◌∙◌, rules, arith}
use Rattle.std.proofs.lemmas.Grind.{get_or_default_zero}
use Rattle.tbl_tall.proofs.BandSteps.{meets-free, meets-held, meets-ruled}
use Rattle.tbl_tall.proofs.band.Band.count_at.Goals.{After-index-above}
use Rattle.tbl_tall.proofs.band.Band.count_at.Goals as goal

-- the bars above it are those that are kept
kept : (c : After-index-above) → c.index-above.result.now ≡ get_or c.args.self.now.above.items c.args.boundary 0
kept c =
    let above = c.args.self.now.above.items in
    let bars = c.index-above.result.now in
    let read : bars ≡ get_or above c.args.boundary bars = search rules in
    read ∙ get_or_default_zero above c.args.boundary bars (omega (arith, c.requires.fits.boundaries, c.requires.boundary))

pub returns-then-is_ruled : goal.returns-then-is_ruled
returns-then-is_ruled c = λ bars all above below boxed stands.
    let out = sym (stands.through.within c.args.boundary) ∙ sym c.is_inside.ensures ∙ c.if-is_inside.false in
    let ruled = sym (c.is_ruled.ensures all stands.through) ∙ c.if-is_ruled.true in
    let rest = (rw (← boxed) at c.stretch.ensures) all below stands.through stands.below_shown out in
    let here = kept (goal.at.returns-then-is_ruled c).After-index-above in
    c.max.ensures ∙ (λ i. max (rest i) (here i)) ∙ meets-ruled stands c.requires.line c.requires.boundary out ruled

pub returns-then-not-is_ruled : goal.returns-then-not-is_ruled
returns-then-not-is_ruled c = λ bars all above below boxed stands.
    let out = sym (stands.through.within c.args.boundary) ∙ sym c.is_inside.ensures ∙ c.if-is_inside.false in
    let free = sym (c.is_ruled.ensures all stands.through) ∙ c.if-is_ruled.false in
    let before = sym (c.is_ruled-then-self-gt0.ensures all stands.through) ∙ c.if-not-is_ruled.true in
    kept (goal.at.returns-then-not-is_ruled c).After-index-above
    ∙ meets-held stands c.requires.line c.requires.boundary out free c.if-self-gt0.true before

pub returns : goal.returns
returns c = λ bars all above below boxed stands.
    let out = sym (stands.through.within c.args.boundary) ∙ sym c.is_inside.ensures ∙ c.if-is_inside.false in
    let free = sym (c.is_ruled.ensures all stands.through) ∙ c.if-is_ruled.false in
    let rest = (rw (← boxed) at c.stretch-2.ensures) all below stands.through stands.below_shown out in
    let here = kept (goal.at.returns c).After-index-above in
    c.max-2.ensures ∙ (λ i. max (rest i) (here i)) ∙ meets-free stands c.requires.line c.requires.boundary out free
