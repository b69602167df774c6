use Rattle.std.proofs.Common.{◌≡◌, ℕ, ◌+◌, ◌-◌, ◌++◌, replicate, subst, arith}
use Rattle.std.proofs.lemmas.List.{length-replicate}
use Rattle.input_source.specs.Bytes.{blank}
use Rattle.tbl_layout.specs.DataLines.{sign_byte}
use Rattle.tbl_lines.specs.PictureLines.{crossing}
use Rattle.tbl_pieces.specs.PieceQueue.{Adds}
use Rattle.tbl_pieces.proofs.Adding.{adds-more}
use Rattle.tbl_picture.proofs.RuleMarks.{ruled-given}
use Rattle.tbl_picture.proofs.walk.Walk.give_ruled.Goals as goal

pub returns-clause-adds : goal.returns-clause-adds
returns-clause-adds c = λ block frame.
    let a = c.args in
    let b = sign_byte a.sign in
    let gap = c.gap_to.result in
    let front = c.saturating_sub-front.result in
    let rest = c.saturating_sub-rest.result in
    let before = a.pieces.now in
    let second = c.add.new.self in
    let third = c.add-2.new.self in
    let fourth = c.add-3.new.self in
    let after = c.add-4.new.self in
    let gap_is : gap ≡ a.from - a.self.now.place = c.gap_to.ensures in
    let rest_is : rest ≡ a.end - (a.at + a.count) = omega (arith, c.saturating_sub.ensures, c.saturating_sub-rest.ensures) in
    let ruled = subst (λ (n : ℕ). Adds block frame 1 second third (replicate front n)) c.sign_byte-byte.ensures
    (c.add-2.ensures.adds block frame (length-replicate front c.sign_byte-byte.result)) in
    let behind = subst (λ (n : ℕ). Adds block frame 1 fourth after (replicate rest n)) c.sign_byte-byte.ensures
    (c.add-4.ensures.adds block frame (length-replicate rest c.sign_byte-byte.result)) in
    let crossed = replicate a.count crossing in
    subst (Adds block frame 4 before after)
    (ruled-given a.sign a.from a.at a.count a.end a.self.now.place front rest gap c.saturating_sub-front.ensures rest_is gap_is c.if-front-crossed-eq0.false)
    (adds-more block frame 1 (1 + (1 + 1)) before second after (replicate gap blank) (replicate front b ++ (crossed ++ replicate rest b))
    (c.add.ensures.adds block frame (length-replicate gap blank))
    (adds-more block frame 1 (1 + 1) second third after (replicate front b) (crossed ++ replicate rest b) ruled
    (adds-more block frame 1 1 third fourth after crossed (replicate rest b) (c.add-3.ensures.adds block frame (length-replicate a.count crossing)) behind)))
