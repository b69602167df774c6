use Rattle.std.proofs.Common.{◌≡◌, ℕ, ◌+◌, ◌-◌, ◌++◌, replicate, refl, sym, ap, subst, ◌∙◌, arith}
use Rattle.std.proofs.lemmas.List.{length-replicate}
use Rattle.input_source.specs.Bytes.{blank}
use Rattle.tbl_layout.specs.DataLines.{sign_byte}
use Rattle.tbl_lines.specs.PictureLines.{crossed_at, crossing}
use Rattle.tbl_pieces.specs.PieceQueue.{Adds}
use Rattle.tbl_lines.specs.RowsLeft.{if_given, one_less}
use Rattle.tbl_picture.specs.Walks.{FrontStands, IsNear, KeptWalk, RowSteps, front_passed, kept_by, lent_row, reached_by}
use Rattle.tbl_pieces.proofs.Adding.{adds-fewer, adds-more}
use Rattle.tbl_picture.proofs.FrontSteps.{crossing-steps}
use Rattle.tbl_picture.proofs.walk.Walk.give_crossing.Goals as goal

pub returns : goal.returns
returns c = λ frame.
    let row = lent_row c.args.row.now in
    let w = kept_by c.self.inside in
    let view = c.self.view_is in
    let at = c.args.at in
    let place = c.args.place in
    let n = c.args.bars in
    let sign = c.args.sign in
    let end = c.args.end in
    let rest = c.saturating_sub-rest.result in
    let stands = subst (λ (k : KeptWalk). FrontStands row at (crossed_at place n sign end) k) (sym view) c.requires.front in
    let next = ap (λ (k : KeptWalk). k.next) view ∙ c.requires.next in
    let line : w.line ≡ 0 = ap (λ (k : KeptWalk). k.line) view ∙ c.requires.line in
    let gap = c.gap_to.result in
    let gap_is : gap ≡ place - w.place = c.gap_to.ensures ∙ ap (λ (k : KeptWalk). place - k.place) (sym view) in
    let rest_is : rest ≡ end - (place + n) = omega (arith, c.saturating_sub.ensures, c.saturating_sub-rest.ensures) in
    let reached : KeptWalk → ℕ = λ k. reached_by k.count k.place place (n + rest) in
    let near = subst (λ (k : KeptWalk). IsNear (one_less k.count) (reached k)) (sym view) c.pass_front.ensures.near in
    let before = c.args.pieces.now in
    let second = c.give.new.pieces in
    let third = c.give-2.new.pieces in
    let after = c.give-3.new.pieces in
    let blanks = if_given w.count (replicate gap blank) in
    let cross = if_given w.count (replicate n crossing) in
    let rule = if_given w.count (replicate rest (sign_byte sign)) in
    let drawn = subst (λ (b : ℕ). Adds row.bytes frame 1 third after (if_given w.count (replicate rest b))) c.sign_byte.ensures
    (c.give-3.ensures.adds row.bytes frame (length-replicate rest c.sign_byte.result)) in
    let parts = adds-more row.bytes frame 1 1 second third after cross rule (c.give-2.ensures.adds row.bytes frame (length-replicate n crossing)) drawn in
    let all = adds-fewer row.bytes frame (1 + (1 + 1)) 4 before after (blanks ++ (cross ++ rule)) (omega arith)
    (adds-more row.bytes frame 1 (1 + 1) before second after blanks (cross ++ rule) (c.give.ensures.adds row.bytes frame (length-replicate gap blank)) parts) in
    let steps = crossing-steps row w at next frame n before after place end gap rest (reached w) sign c.requires.some stands line gap_is rest_is refl near all in
    subst (λ (k : KeptWalk). RowSteps frame row c.args.self.now k before after) (sym c.pass_front.ensures.value)
    (subst (λ (k : KeptWalk). RowSteps frame row k (front_passed row at (reached k) k) before after) view steps)
