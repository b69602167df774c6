use Rattle.std.proofs.Common.{ℕ, Option, sym, subst}
use Rattle.tbl_layout.specs.DataLines.{sign_byte}
use Rattle.tbl_layout.specs.declared.data_lines.RuleSign.{RuleSign}
use Rattle.tbl_lines.specs.PictureLines.{last_mark}
use Rattle.tbl_picture.specs.RulesWalked.{bytes_at, mark_given}
use Rattle.tbl_pieces.specs.PieceQueue.{Adds}
use Rattle.tbl_picture.proofs.walk.Walk.give_over.Goals as goal

pub returns-in-Some-clause-adds : goal.returns-in-Some-clause-adds
returns-in-Some-clause-adds c = λ block frame.
    let from = c.args.from in
    let place = c.args.self.now.place in
    let before = c.args.pieces.now in
    let after = c.give_mark.new.pieces in
    let given : ℕ → ℕ → Type 0 = λ byte n. Adds block frame 2 before after (mark_given (bytes_at from byte n) place) in
    subst (λ (s : Option RuleSign). Adds block frame 2 before after (mark_given (last_mark s from c.args.to) place)) (sym c.in-Some.is)
    (subst (given (sign_byte c.in-Some.sign)) c.saturating_sub.ensures
    (subst (λ (byte : ℕ). given byte c.saturating_sub.result) c.sign_byte.ensures (c.give_mark.ensures.adds block frame)))
