use Rattle.std.proofs.Common.{◌≡◌, ◌++◌, ℕ, Bool, List, [], ◌∷◌, ap, arith, ◌==◌, if◌then◌else◌, ne_eqb}
use Rattle.tbl_giving.proofs.CutsAtElements.{whole-can}
use Rattle.tbl_giving.proofs.cuts.cut_on_frame.Goals as goal
use Rattle.tbl_giving.proofs.cuts.cut_on_frame.Goals.{Else-bars-eq0}
use Rattle.tbl_layout.specs.Entries.{Element, Rule}
use Rattle.tbl_lines.specs.PictureLines.{Whole, frame_rules, frame_sign}
use Rattle.tbl_tall.specs.TallRows.{WholeComes}

framed : (c : Else-bars-eq0) (rest : List Element) → let boxing = c.args.drawn.bars.boxing in
    frame_rules boxing ++ rest ≡ Rule (frame_sign boxing.bars) ∷ rest
framed c rest =
    let bars = c.args.drawn.bars.boxing.bars in
    ap (λ (b : Bool). (if b then [] else Rule (frame_sign bars) ∷ []) ++ rest) (ne_eqb bars 0 c.if-bars-eq0.false)

pub cut_on_rule-requires : goal.cut_on_rule-requires
cut_on_rule-requires c =
    let r = c.requires.next in
    let is = framed (goal.at.cut_on_rule-requires c).Else-bars-eq0 r.rest in
    record { next = whole-can _ _ _ c.args.rows.now _ c.requires.can _ _ _ _ _ _ c.frame_sign.ensures (rw is at r.come) (rw is at r.places) }

pub returns-then-bars-eq0-clause-count : goal.returns-then-bars-eq0-clause-count
returns-then-bars-eq0-clause-count c = λ heights rest count places come.
    let sign = frame_sign c.args.drawn.bars.boxing.bars in
    let unframed = ap (λ (n : ℕ). n == 0) c.if-bars-eq0.true in
    let is : frame_rules c.args.drawn.bars.boxing ++ rest ≡ rest = ap (λ (b : Bool). (if b then [] else Rule sign ∷ []) ++ rest) unframed in
    record { more = count; all = omega arith; come = rw is at come }

pub returns-clause-count : goal.returns-clause-count
returns-clause-count c = λ heights rest count places come.
    let sign = frame_sign c.args.drawn.bars.boxing.bars in
    let is = framed (goal.at.returns-clause-count c).Else-bars-eq0 rest in
    c.cut_on_rule.ensures.count heights (Rule sign ∷ rest) rest (Whole sign) count c.requires.can.places
    (rw is at places) WholeComes c.frame_sign.ensures (rw is at come)
