use Rattle.std.proofs.Common.{◌≡◌, [], sym, ap, ◌∙◌, subst, None, arith}
use Rattle.std.specs.List.{last_or}
use Rattle.std.proofs.lemmas.List.{get_or_read}
use Rattle.roff_store.specs.Chains.{IsText, bytes_of, content}
use Rattle.roff_store.specs.Chunks.Kept.{kept_by}
use Rattle.roff_store.proofs.Extending.{text-last}
use Rattle.roff_store.proofs.LastBytes.{last-place, last-text, text-chunks}
use Rattle.roff_store.proofs.chunks.Chunks.last_byte.Goals as goal

pub index-requires : goal.index-requires
index-requires c =
    let text = subst (λ m. IsText m c.args.strand) (sym c.self.view_is) c.requires in
    let within = c.self.invariant.within in
    let long = c.self.inside.contents.ok.0 in
    let some = text-chunks (kept_by c.self.inside) c.args.strand text (omega arith) in
    let there = text-last (kept_by c.self.inside) c.args.strand (omega arith) text some in
    omega arith

pub returns : goal.returns
returns c =
    let text = subst (λ m. IsText m c.args.strand) (sym c.self.view_is) c.requires in
    let within = c.self.invariant.within in
    let long = c.self.inside.contents.ok.0 in
    let some = text-chunks (kept_by c.self.inside) c.args.strand text (omega arith) in
    let there = text-last (kept_by c.self.inside) c.args.strand (omega arith) text some in
    let read = get_or_read c.self.inside.contents.items _ _ there c.index.ensures (record { items = [] }) in
    let bytes : c.as_slice-bytes.result.now ≡ content (kept_by c.self.inside) c.args.strand.last =
    c.as_slice-bytes.ensures.value ∙ ap (λ bytes. bytes.items) read in
    let last = last-text (kept_by c.self.inside) c.args.strand (omega arith) c.self.invariant.fits text (omega arith) in
    c.copied.ensures ∙ (c.last.ensures.value ∙ (last-place c.as_slice-bytes.result.now ∙ (ap (last_or None) bytes ∙ (sym last
    ∙ ap (λ m. last_or None (bytes_of m c.args.strand)) c.self.view_is))))
