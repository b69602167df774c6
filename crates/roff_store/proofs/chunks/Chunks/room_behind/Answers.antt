use Rattle.std.proofs.Common.{◌≡◌, ◌+◌, [], length, sym, ap, ◌∙◌, subst, arith}
use Rattle.std.proofs.lemmas.List.{get_or_read}
use Rattle.roff_store.specs.Chains.{IsText, content}
use Rattle.roff_store.specs.Chunks.Kept.{kept_by}
use Rattle.roff_store.proofs.Extending.{text-last, text-room}
use Rattle.roff_store.proofs.chunks.Chunks.room_behind.Goals as goal

pub index-requires : goal.index-requires
index-requires c =
    let text = subst (λ m. IsText m c.args.strand) (sym c.self.view_is) c.requires in
    let within = c.self.invariant.within in
    let long = c.self.inside.contents.ok.0 in
    let there = text-last (kept_by c.self.inside) c.args.strand (omega arith) text (omega arith) in
    omega arith

pub returns-else-strand-eq0-clause-room : goal.returns-else-strand-eq0-clause-room
returns-else-strand-eq0-clause-room c =
    let text = subst (λ m. IsText m c.args.strand) (sym c.self.view_is) c.requires in
    let within = c.self.invariant.within in
    let long = c.self.inside.contents.ok.0 in
    let there = text-last (kept_by c.self.inside) c.args.strand (omega arith) text (omega arith) in
    let read = get_or_read c.self.inside.contents.items _ _ there c.index.ensures (record { items = [] }) in
    let left : c.remaining_capacity.result + length (content (kept_by c.self.inside) c.args.strand.last) ≡ 120 =
    ap (λ bytes. c.remaining_capacity.result + length bytes.items) (sym read) ∙ c.remaining_capacity.ensures in
    λ some. text-room (kept_by c.self.inside) c.args.strand c.remaining_capacity.result text some left
