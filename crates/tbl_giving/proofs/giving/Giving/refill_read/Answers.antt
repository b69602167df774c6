use Rattle.std.proofs.Common.{◌≡◌, length, ap, refl, ◌∙◌}
use Rattle.std.proofs.lemmas.List.{drop_all}
use Rattle.tbl_giving.specs.Giving.{kept_by, last_piece}
use Rattle.tbl_giving.proofs.GivingLeft.{CanGive-joint, CanGive-last, coming-joint, coming-last}
use Rattle.tbl_pieces.proofs.PiecesLeft.{drop-at}
use Rattle.tbl_giving.proofs.giving.Giving.refill_read.Goals as goal

pub returns-in-Some-clause-can : goal.returns-in-Some-clause-can
returns-in-Some-clause-can c = λ r k.
    let a = c.self.inside in
    let joint = c.in-Some.next.now in
    let behind = rw c.joints.ensures.value at (drop-at c.joints.result.now c.args.joint joint c.in-Some.ensures.lookup.3) in
    rw c.set_two.ensures
    (CanGive-joint c.args.text.now r k (kept_by a) c.args.from c.args.joint joint behind c.requires)

pub returns-in-None-clause-coming : goal.returns-in-None-clause-coming
returns-in-None-clause-coming c = λ r k.
    let a = c.self.inside in
    let none = rw c.joints.ensures.value at (drop_all c.args.joint c.joints.result.now c.in-None.ensures.lookup.3) in
    let last : c.last_piece-last.result ≡ last_piece a.has_newline = c.last_piece-last.ensures ∙ rw (← c.self.view_is) refl in
    rw (← c.self.view_is, c.set_two-in-None.ensures, last)
    (coming-last c.args.text.now r k (kept_by a) c.args.from c.args.joint (length c.block.result.now) (ap length c.block.ensures) none)

pub returns-in-Some-clause-coming : goal.returns-in-Some-clause-coming
returns-in-Some-clause-coming c = λ r k.
    let a = c.self.inside in
    let joint = c.in-Some.next.now in
    let behind = rw c.joints.ensures.value at (drop-at c.joints.result.now c.args.joint joint c.in-Some.ensures.lookup.3) in
    rw (← c.self.view_is, c.set_two.ensures)
    (coming-joint c.args.text.now r k (kept_by a) c.args.from c.args.joint joint behind)

pub returns-in-None-clause-can : goal.returns-in-None-clause-can
returns-in-None-clause-can c = λ r k.
    let a = c.self.inside in
    let last : c.last_piece-last.result ≡ last_piece a.has_newline = c.last_piece-last.ensures ∙ rw (← c.self.view_is) refl in
    rw (c.set_two-in-None.ensures, last)
    (CanGive-last c.args.text.now r k (kept_by a) c.args.from (length c.block.result.now) (ap length c.block.ensures))
