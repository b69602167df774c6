use Rattle.std.proofs.Common.{◌≡◌, [], ◌++◌, set, get_or, refl, sym, ap, ◌∙◌, subst, arith, get_or-set_other, get_or-set_same}
use Rattle.std.proofs.lemmas.List.{get_or_read}
use Rattle.roff_store.specs.Chains.{content}
use Rattle.roff_store.specs.Chunks.Kept.{kept_by}
use Rattle.roff_store.proofs.Extending.{last-claimed, link-extended, link-first}
use Rattle.roff_store.proofs.ExtendingOn.{claimed-chunk, put-set}
use Rattle.roff_store.proofs.chunks.Chunks.link_behind.Goals as goal

pub returns-then-strand-eq0-clause-extended : goal.returns-then-strand-eq0-clause-extended
returns-then-strand-eq0-clause-extended c =
    let mc = kept_by c.self.inside in
    let e = c.claim-chunk.ensures in
    let claimed = claimed-chunk c.self.inside c.args.self.now c.claim-chunk.new.self c.claim-chunk.result c.self.invariant
    c.self.view_is e.fresh e.chunk e.end e.claimed e.shares e.others in
    let read = get_or_read c.self.inside.contents.items _ _ claimed.there c.index_mut.ensures.value (record { items = [] }) in
    let empty : content mc c.claim-chunk.result ≡ [] =
    subst (λ new. content new c.claim-chunk.result ≡ []) (sym c.self.view_is) e.empty in
    let holds : c.try_extend_from_slice.new.self.items ≡ c.args.piece.now =
    rw c.unwrap.ensures at c.try_extend_from_slice.ensures.ok ∙ ap (λ bytes. bytes.items ++ c.args.piece.now) read
    ∙ ap (λ items. items ++ c.args.piece.now) empty in
    link-first c.args.self.now mc
    (record mc { contents = set mc.contents c.claim-chunk.result c.try_extend_from_slice.new.self }) c.args.strand
    c.claim-chunk.result c.args.piece.now claimed
    (put-set mc c.args.strand.last c.claim-chunk.result c.try_extend_from_slice.new.self c.args.piece.now mc.links claimed.there
    holds (λ _ _. refl))
    c.requires.strand c.if-strand-eq0.true c.requires.some c.requires.fits refl

pub index_mut-requires-2 : goal.index_mut-requires-2
index_mut-requires-2 c =
    let e = c.claim-chunk.ensures in
    let claimed = claimed-chunk c.self.inside c.args.self.now c.claim-chunk.new.self c.claim-chunk.result c.self.invariant
    c.self.view_is e.fresh e.chunk e.end e.claimed e.shares e.others in
    let there = last-claimed c.args.self.now (kept_by c.self.inside) c.args.strand c.claim-chunk.result claimed
    c.requires.strand (omega arith) in
    let long = c.self.inside.contents.ok.0 in
    let as_many = c.self.invariant.links in
    omega arith

pub returns-clause-extended : goal.returns-clause-extended
returns-clause-extended c =
    let mc = kept_by c.self.inside in
    let e = c.claim-chunk.ensures in
    let claimed = claimed-chunk c.self.inside c.args.self.now c.claim-chunk.new.self c.claim-chunk.result c.self.invariant
    c.self.view_is e.fresh e.chunk e.end e.claimed e.shares e.others in
    let read = get_or_read c.self.inside.contents.items _ _ claimed.there c.index_mut.ensures.value (record { items = [] }) in
    let empty : content mc c.claim-chunk.result ≡ [] =
    subst (λ new. content new c.claim-chunk.result ≡ []) (sym c.self.view_is) e.empty in
    let holds : c.try_extend_from_slice.new.self.items ≡ c.args.piece.now =
    rw c.unwrap.ensures at c.try_extend_from_slice.ensures.ok ∙ ap (λ bytes. bytes.items ++ c.args.piece.now) read
    ∙ ap (λ items. items ++ c.args.piece.now) empty in
    let there = last-claimed c.args.self.now mc c.args.strand c.claim-chunk.result claimed c.requires.strand (omega arith) in
    let long = c.self.inside.contents.ok.0 in
    let long_links = c.self.inside.links.ok.0 in
    let as_many = c.self.invariant.links in
    let linked : get_or (set mc.links c.args.strand.last c.claim-chunk.result) c.args.strand.last mc.most ≡ c.claim-chunk.result =
    get_or-set_same mc.links c.args.strand.last c.claim-chunk.result _ (omega arith) in
    link-extended c.args.self.now mc
    (record mc {
      contents = set mc.contents c.claim-chunk.result c.try_extend_from_slice.new.self;
      links = set mc.links c.args.strand.last c.claim-chunk.result;
    })
    c.args.strand c.claim-chunk.result c.args.piece.now claimed
    (put-set mc c.args.strand.last c.claim-chunk.result c.try_extend_from_slice.new.self c.args.piece.now
    (set mc.links c.args.strand.last c.claim-chunk.result) claimed.there holds
    (λ other apart. get_or-set_other mc.links c.args.strand.last other c.claim-chunk.result _ apart))
    c.requires.strand c.requires.shared (omega arith) c.requires.full c.requires.some c.requires.fits linked
