use Rattle.std.proofs.Common.{◌≡◌, ◌<◌, [], ◌++◌, length, set, sym, ap, ◌∙◌, subst, arith}
use Rattle.std.proofs.lemmas.Bool.Decides.{nat_tests}
use Rattle.std.proofs.lemmas.List.{get_or_read, nil_from_length}
use Rattle.roff_store.specs.Chains.{IsShared, IsText, content}
use Rattle.roff_store.specs.Chunks.Kept.{kept_by}
use Rattle.roff_store.proofs.Extending.{fill-extended, text-last}
use Rattle.roff_store.proofs.ExtendingOn.{extended-none, grown-set}
use Rattle.roff_store.proofs.chunks.Chunks.fill.Goals as goal

pub returns-then-is_empty-clause-extended : goal.returns-then-is_empty-clause-extended
returns-then-is_empty-clause-extended c =
    let within = c.self.invariant.within in
    let long = c.self.inside.contents.ok.0 in
    let m = kept_by c.self.inside in
    let text = subst (λ m. IsText m c.args.strand) (sym c.self.view_is) c.requires.strand in
    let shared = subst (λ m. IsShared m c.args.strand) (sym c.self.view_is) c.requires.shared in
    let none : length c.args.front.now ≡ 0 = grind (arith, nat_tests) in
    rw (← c.self.view_is, nil_from_length c.args.front.now none) (extended-none m c.args.strand text shared (omega arith))

pub index_mut-requires : goal.index_mut-requires
index_mut-requires c =
    let text = subst (λ m. IsText m c.args.strand) (sym c.self.view_is) c.requires.strand in
    let within = c.self.invariant.within in
    let long = c.self.inside.contents.ok.0 in
    let some : 0 < length c.args.front.now = grind (arith, nat_tests) in
    let there = text-last (kept_by c.self.inside) c.args.strand (omega arith) text (omega arith) in
    omega arith

pub unwrap-requires : goal.unwrap-requires
unwrap-requires c =
    let text = subst (λ m. IsText m c.args.strand) (sym c.self.view_is) c.requires.strand in
    let within = c.self.invariant.within in
    let long = c.self.inside.contents.ok.0 in
    let some : 0 < length c.args.front.now = grind (arith, nat_tests) in
    let there = text-last (kept_by c.self.inside) c.args.strand (omega arith) text (omega arith) in
    let read = get_or_read c.self.inside.contents.items _ _ there c.index_mut.ensures.value (record { items = [] }) in
    let filled = (text.ends (omega arith)).filled in
    let before : length c.index_mut.result.now.items ≡ length (content (kept_by c.self.inside) c.args.strand.last) =
    ap (λ bytes. length bytes.items) read in
    c.try_extend_from_slice.ensures.variant.1 (omega arith)

pub returns-clause-extended : goal.returns-clause-extended
returns-clause-extended c =
    let text = subst (λ m. IsText m c.args.strand) (sym c.self.view_is) c.requires.strand in
    let shared = subst (λ m. IsShared m c.args.strand) (sym c.self.view_is) c.requires.shared in
    let within = c.self.invariant.within in
    let long = c.self.inside.contents.ok.0 in
    let some : 0 < length c.args.front.now = grind (arith, nat_tests) in
    let there = text-last (kept_by c.self.inside) c.args.strand (omega arith) text (omega arith) in
    let read = get_or_read c.self.inside.contents.items _ _ there c.index_mut.ensures.value (record { items = [] }) in
    let longer : c.try_extend_from_slice.new.self.items ≡ content (kept_by c.self.inside) c.args.strand.last ++ c.args.front.now =
    rw c.unwrap.ensures at c.try_extend_from_slice.ensures.ok ∙ ap (λ bytes. bytes.items ++ c.args.front.now) read in
    let m = kept_by c.self.inside in
    rw (← c.self.view_is) (fill-extended m
    (record m { contents = set m.contents c.args.strand.last c.try_extend_from_slice.new.self }) c.args.strand
    c.args.front.now (omega arith) c.self.invariant.fits text shared some c.requires.room
    (grown-set m c.args.strand.last c.try_extend_from_slice.new.self c.args.front.now there longer))
