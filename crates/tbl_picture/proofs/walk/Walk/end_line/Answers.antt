use Rattle.std.proofs.Common.{◌≡◌, List, refl, sym, ap, subst, ◌∙◌, ◌∷◌, [], ◌+◌, length, arith, nat_eq}
use Rattle.input_source.specs.Bytes.{newline}
use Rattle.tbl_picture.specs.Walks.{InLine, KeptWalk, RowEndsOrGoesOn, kept_by, lent_row}
use Rattle.tbl_picture.specs.Nexts.{AtLine}
use Rattle.tbl_text.specs.declared.block_parts.BlockPlace.{BlockPlace}
use Rattle.tbl_pieces.proofs.Adding.{adds-fewer}
use Rattle.tbl_picture.proofs.LineSteps.{ended-by}
use Rattle.tbl_picture.proofs.walk.Walk.end_line.Goals as goal

pub overflow_add-self : goal.overflow_add-self
overflow_add-self c = omega (arith, ap (λ (k : KeptWalk). k.line) c.self.view_is, c.requires.line.on.before.line, c.requires.small)

pub returns : goal.returns
returns c = λ frame.
    let row = lent_row c.args.row.now in
    let w = kept_by c.self.inside in
    let view = c.self.view_is in
    let before = c.args.pieces.now in
    let after = c.add.new.self in
    let line = subst (λ (k : KeptWalk). InLine row k) (sym view) c.requires.line in
    let steps = ended-by row w frame before after (ap (λ (k : KeptWalk). k.next) view ∙ c.requires.next) line
    (ap (λ (k : KeptWalk). length k.behind) view ∙ c.requires.all)
    (adds-fewer row.bytes frame 1 4 before after (newline ∷ []) (omega arith) (c.add.ensures.adds row.bytes frame refl))
    (nat_eq (w.line + 1) row.height) refl in
    let places : c.swap.new.x.items ≡ w.behind = rw c.swap.ensures.x_after refl in
    let behind : c.swap.new.y.items ≡ w.places = rw c.swap.ensures.y_after refl in
    let t = nat_eq (w.line + 1) row.height in
    let new : List BlockPlace → List BlockPlace → KeptWalk = λ ps bs. record w { line = w.line + 1; next = AtLine; places = ps; behind = bs } in
    subst (λ (k : KeptWalk). RowEndsOrGoesOn t frame row k (new c.swap.new.x.items c.swap.new.y.items) before after) view
    (subst (λ (ps : List BlockPlace). RowEndsOrGoesOn t frame row w (new ps c.swap.new.y.items) before after) (sym places)
    (subst (λ (bs : List BlockPlace). RowEndsOrGoesOn t frame row w (new w.behind bs) before after) (sym behind) steps))
