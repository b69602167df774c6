use Rattle.std.proofs.Common.{◌≡◌, ℕ, ◌+◌, ◌-◌, ◌++◌, replicate, refl, sym, ap, subst, ◌∙◌, arith}
use Rattle.std.proofs.lemmas.List.{length-replicate}
use Rattle.input_source.specs.Bytes.{blank}
use Rattle.tbl_lines.specs.PictureLines.{bar, bars_at}
use Rattle.tbl_lines.specs.RowsLeft.{if_given, one_less}
use Rattle.tbl_picture.specs.Walks.{FrontStands, IsNear, KeptWalk, RowSteps, front_passed, kept_by, lent_row, reached_by}
use Rattle.tbl_pieces.proofs.Adding.{adds-fewer, adds-more}
use Rattle.tbl_picture.proofs.FrontSteps.{bars-steps}
use Rattle.tbl_picture.proofs.walk.Walk.give_bars.Goals as goal

pub returns : goal.returns
returns c = λ frame.
    let row = lent_row c.args.row.now in
    let w = kept_by c.self.inside in
    let view = c.self.view_is in
    let at = c.args.at in
    let place = c.args.place in
    let n = c.args.bars in
    let stands = subst (λ (k : KeptWalk). FrontStands row at (bars_at place n) k) (sym view) c.requires.front in
    let next = ap (λ (k : KeptWalk). k.next) view ∙ c.requires.next in
    let gap = c.gap_to.result in
    let gap_is : gap ≡ place - w.place = c.gap_to.ensures ∙ ap (λ (k : KeptWalk). place - k.place) (sym view) in
    let reached : KeptWalk → ℕ = λ k. reached_by k.count k.place place n in
    let near = subst (λ (k : KeptWalk). IsNear (one_less k.count) (reached k)) (sym view) c.pass_front.ensures.near in
    let before = c.args.pieces.now in
    let between = c.give.new.pieces in
    let after = c.give-2.new.pieces in
    let blanks = if_given w.count (replicate gap blank) in
    let bars = if_given w.count (replicate n bar) in
    let both = adds-fewer row.bytes frame (1 + 1) 4 before after (blanks ++ bars) (omega arith)
    (adds-more row.bytes frame 1 1 before between after blanks bars
    (c.give.ensures.adds row.bytes frame (length-replicate gap blank)) (c.give-2.ensures.adds row.bytes frame (length-replicate n bar))) in
    let steps = bars-steps row w at next frame n before after place gap (reached w) c.requires.some stands gap_is refl near both in
    subst (λ (k : KeptWalk). RowSteps frame row c.args.self.now k before after) (sym c.pass_front.ensures.value)
    (subst (λ (k : KeptWalk). RowSteps frame row k (front_passed row at (reached k) k) before after) view steps)
