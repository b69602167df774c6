use Rattle.std.proofs.Common.{arith}
use Rattle.roff_store.proofs.Sharing.{bytes-none, first-had, IsNext-read}
use Rattle.roff_store.proofs.chunks.Chunks.pass_within.Goals as goal

pub returns-then-rest-eq0-clause-bytes : goal.returns-then-rest-eq0-clause-bytes
returns-then-rest-eq0-clause-bytes c =
    bytes-none c.args.self.now c.release.new.self c.args.strand c.empty.result c.args.count (omega arith) c.empty.ensures.rest

pub let_go-requires : goal.let_go-requires
let_go-requires c =
    let had = (first-had _ c.args.strand (omega arith) c.requires.strand).1 in
    let shared = c.requires.shared c.args.strand.first in omega arith

pub returns-clause-strand : goal.returns-clause-strand
returns-clause-strand c =
    (IsNext-read _ _ c.args.strand c.args.count _ c.self.inside c.self.invariant c.self.view_is c.index-first.ensures
    c.let_go.ensures.same c.if-at-lt-CHUNK.false c.requires.chunk (omega arith) c.requires.strand).strand

pub returns-clause-bytes : goal.returns-clause-bytes
returns-clause-bytes c =
    (IsNext-read _ _ c.args.strand c.args.count _ c.self.inside c.self.invariant c.self.view_is c.index-first.ensures
    c.let_go.ensures.same c.if-at-lt-CHUNK.false c.requires.chunk (omega arith) c.requires.strand).bytes

pub returns-clause-shares : goal.returns-clause-shares
returns-clause-shares c = λ x.
    let next = IsNext-read _ _ c.args.strand c.args.count _ c.self.inside c.self.invariant c.self.view_is c.index-first.ensures
    c.let_go.ensures.same c.if-at-lt-CHUNK.false c.requires.chunk (omega arith) c.requires.strand in
    let had = next.has x in let fewer = c.let_go.ensures.shares x in let shared = c.requires.shared x in omega arith
