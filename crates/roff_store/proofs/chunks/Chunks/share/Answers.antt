use Rattle.std.proofs.Common.{arith}
use Rattle.roff_store.proofs.Sharing.{Along-here, Sharing-start, Sharing-shared, Sharing-step, Sharing-end, link-read}
use Rattle.roff_store.proofs.chunks.Chunks.share.Goals as goal

pub loop-init : goal.loop-init
loop-init c = Sharing-start c.args.self.now c.args.strand _ (omega arith) c.requires.strand

pub share_chunk-requires-clause-shared : goal.share_chunk-requires-clause-shared
share_chunk-requires-clause-shared c = Sharing-shared _ _ _ _ _ (omega arith) c.requires.shared c.loop.invariant

pub index-chunk-requires : goal.index-chunk-requires
index-chunk-requires c =
    Along-here _ _ _ _ _ _ c.self.inside c.self.invariant c.self.view_is c.share_chunk.ensures.same (omega arith)
    c.loop.invariant.along

pub loop-preserved : goal.loop-preserved
loop-preserved c =
    let here = Along-here _ _ _ _ _ _ c.self.inside c.self.invariant c.self.view_is c.share_chunk.ensures.same (omega arith)
    c.loop.invariant.along in
    let next = link-read _ _ _ c.self.inside c.self.view_is c.share_chunk.ensures.same _ c.index-chunk.ensures here in
    Sharing-step _ _ _ _ _ _ _ _ (omega arith) next c.share_chunk.ensures.same c.share_chunk.ensures.shares
    c.share_chunk.ensures.sum c.loop.invariant

pub returns-clause-shares : goal.returns-clause-shares
returns-clause-shares c = Sharing-end _ _ _ _ _ (omega arith) c.loop.invariant
