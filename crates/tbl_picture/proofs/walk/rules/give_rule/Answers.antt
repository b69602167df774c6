use Rattle.std.proofs.Common.{ℕ, ◌+◌, [], ◌∷◌, ◌++◌, codes, replicate, refl, subst, arith}
use Rattle.std.proofs.lemmas.List.{length-replicate}
use Rattle.input_source.specs.Bytes.{newline}
use Rattle.tbl_layout.specs.DataLines.{sign_byte}
use Rattle.tbl_pieces.specs.PieceQueue.{Adds}
use Rattle.tbl_pieces.proofs.Adding.{adds-fewer, adds-more}
use Rattle.tbl_picture.proofs.walk.rules.give_rule.Goals as goal

pub returns : goal.returns
returns c = λ block frame.
    let before = c.args.pieces.now in
    let second = c.add.new.self in
    let third = c.add-2.new.self in
    let after = c.add-3.new.self in
    let width = c.args.width in
    let line = replicate width (sign_byte c.args.sign) in
    let drawn = subst (λ (b : ℕ). Adds block frame 1 second third (replicate width b)) c.sign_byte.ensures
    (c.add-2.ensures.adds block frame (length-replicate width c.sign_byte.result)) in
    adds-fewer block frame (1 + (1 + 1)) 4 before after (codes "\\&" ++ (line ++ newline ∷ [])) (omega arith)
    (adds-more block frame 1 (1 + 1) before second after (codes "\\&") (line ++ newline ∷ []) (c.add.ensures.adds block frame refl)
    (adds-more block frame 1 1 second third after line (newline ∷ []) drawn (c.add-3.ensures.adds block frame refl)))
