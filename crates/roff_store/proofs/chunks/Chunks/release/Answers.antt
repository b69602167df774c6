use Rattle.std.proofs.Common.{arith}
use Rattle.roff_store.proofs.Sharing.{AreSameChunks-refl, Along-here, Releasing-start, Releasing-shared, Releasing-step, Releasing-end, link-read}
use Rattle.roff_store.proofs.chunks.Chunks.release.Goals as goal

pub loop-init : goal.loop-init
loop-init c = Releasing-start c.args.self.now c.args.strand _ (omega arith) c.requires.strand

pub index-next-requires : goal.index-next-requires
index-next-requires c =
    Along-here _ _ _ _ _ _ c.self.inside c.self.invariant c.self.view_is (AreSameChunks-refl _) (omega arith)
    c.loop.invariant.along

pub let_go-requires : goal.let_go-requires
let_go-requires c = Releasing-shared _ _ _ _ _ (omega arith) c.requires.shared c.loop.invariant

pub loop-preserved : goal.loop-preserved
loop-preserved c =
    let here = Along-here _ _ _ _ _ _ c.self.inside c.self.invariant c.self.view_is (AreSameChunks-refl _) (omega arith)
    c.loop.invariant.along in
    let next = link-read _ _ _ c.self.inside c.self.view_is (AreSameChunks-refl _) _ c.index-next.ensures here in
    Releasing-step _ _ _ _ _ _ _ _ (omega arith) next c.let_go.ensures.same c.let_go.ensures.shares
    c.let_go.ensures.sum c.requires.shared c.loop.invariant

pub returns-clause-shares : goal.returns-clause-shares
returns-clause-shares c = Releasing-end _ _ _ _ _ (omega arith) c.loop.invariant
