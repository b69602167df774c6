use Rattle.std.proofs.Common.{arith}
use Rattle.roff_store.proofs.Sharing.{front-here, front-of, front-read, front-some}
use Rattle.roff_store.proofs.chunks.Chunks.front.Goals as goal

pub index-requires : goal.index-requires
index-requires c = front-here _ c.args.strand c.self.inside c.self.view_is (omega arith) c.requires

pub slice_bounds-behind-count : goal.slice_bounds-behind-count
slice_bounds-behind-count c =
    let read = front-read _ c.args.strand c.self.inside _ _ c.self.view_is (omega arith) c.requires c.index.ensures
    c.as_slice-bytes.ensures.value in omega (arith, read.1)

pub slice_bounds-behind-start : goal.slice_bounds-behind-start
slice_bounds-behind-start c = slice_bounds-behind-count c

pub returns-clause-bytes : goal.returns-clause-bytes
returns-clause-bytes c =
    let read = front-read _ c.args.strand c.self.inside _ _ c.self.view_is (omega arith) c.requires c.index.ensures
    c.as_slice-bytes.ensures.value in
    front-of _ _ _ _ _ _ _ read.0 (omega arith) c.requires.chain (omega (arith, read.1)) c.min.ensures

pub returns-clause-some : goal.returns-clause-some
returns-clause-some c =
    let read = front-read _ c.args.strand c.self.inside _ _ c.self.view_is (omega arith) c.requires c.index.ensures
    c.as_slice-bytes.ensures.value in front-some _ _ _ _ read.1 c.min.ensures
