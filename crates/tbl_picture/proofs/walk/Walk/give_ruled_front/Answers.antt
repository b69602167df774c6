use Rattle.std.proofs.Common.{◌≡◌, ℕ, ◌+◌, ◌-◌, ◌++◌, replicate, refl, sym, ap, subst, ◌∙◌, arith}
use Rattle.std.proofs.lemmas.List.{length-replicate}
use Rattle.input_source.specs.Bytes.{blank}
use Rattle.tbl_layout.specs.DataLines.{sign_byte}
use Rattle.tbl_lines.specs.PictureLines.{crossing}
use Rattle.tbl_pieces.specs.PieceQueue.{Adds}
use Rattle.tbl_lines.specs.RowsLeft.{cell_of_front, if_given, one_less}
use Rattle.tbl_lines.specs.declared.fronts.Front.TheVariants.{Ruled}
use Rattle.tbl_picture.specs.Walks.{FrontStands, IsNear, KeptWalk, RowSteps, front_passed, kept_by, lent_row, reached_by}
use Rattle.tbl_pieces.proofs.Adding.{adds-more}
use Rattle.tbl_picture.proofs.FrontSteps.{ruled-steps}
use Rattle.tbl_picture.proofs.walk.Walk.give_ruled_front.Goals as goal

pub returns : goal.returns
returns c = λ frame.
    let row = lent_row c.args.row.now in
    let w = kept_by c.self.inside in
    let view = c.self.view_is in
    let at = c.args.at in
    let from = c.args.from in
    let place = c.args.place in
    let n = c.args.bars in
    let sign = c.args.sign in
    let end = c.args.end in
    let front = c.saturating_sub-front.result in
    let rest = c.saturating_sub-rest.result in
    let cell = cell_of_front (Ruled from sign place n end) in
    let stands = subst (λ (k : KeptWalk). FrontStands row at cell k) (sym view) c.requires.front in
    let next = ap (λ (k : KeptWalk). k.next) view ∙ c.requires.next in
    let gap = c.gap_to.result in
    let gap_is : gap ≡ from - w.place = c.gap_to.ensures ∙ ap (λ (k : KeptWalk). from - k.place) (sym view) in
    let front_is : front ≡ place - from = omega (arith, c.saturating_sub-front.ensures) in
    let rest_is : rest ≡ end - (place + n) = omega (arith, c.saturating_sub.ensures, c.saturating_sub-rest.ensures) in
    let before = c.args.pieces.now in
    let second = c.give.new.pieces in
    let third = c.give-2.new.pieces in
    let fourth = c.give-3.new.pieces in
    let after = c.give-4.new.pieces in
    let blanks = if_given w.count (replicate gap blank) in
    let rule = if_given w.count (replicate front (sign_byte sign)) in
    let cross = if_given w.count (replicate n crossing) in
    let behind = if_given w.count (replicate rest (sign_byte sign)) in
    let drawn = subst (λ (b : ℕ). Adds row.bytes frame 1 fourth after (if_given w.count (replicate rest b))) c.sign_byte-2.ensures
    (c.give-4.ensures.adds row.bytes frame (length-replicate rest c.sign_byte-2.result)) in
    let crossed = adds-more row.bytes frame 1 1 third fourth after cross behind (c.give-3.ensures.adds row.bytes frame (length-replicate n crossing)) drawn in
    let begun = subst (λ (b : ℕ). Adds row.bytes frame 1 second third (if_given w.count (replicate front b))) c.sign_byte.ensures
    (c.give-2.ensures.adds row.bytes frame (length-replicate front c.sign_byte.result)) in
    let ruled = adds-more row.bytes frame 1 (1 + 1) second third after rule (cross ++ behind) begun crossed in
    let all = adds-more row.bytes frame 1 (1 + (1 + 1)) before second after blanks (rule ++ (cross ++ behind))
    (c.give.ensures.adds row.bytes frame (length-replicate gap blank)) ruled in
    let reached : KeptWalk → ℕ = λ k. reached_by k.count k.place from (front + n + rest) in
    let near = subst (λ (k : KeptWalk). IsNear (one_less k.count) (reached k)) (sym view) c.pass_front.ensures.near in
    let steps = ruled-steps row w at next frame n before after from place end gap front rest (reached w) sign stands gap_is front_is rest_is refl near all in
    subst (λ (k : KeptWalk). RowSteps frame row c.args.self.now k before after) (sym c.pass_front.ensures.value)
    (subst (λ (k : KeptWalk). RowSteps frame row k (front_passed row at (reached k) k) before after) view steps)
