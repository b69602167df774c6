use Rattle.std.proofs.Common.{◌∙◌, set, arith, length-set}
use Rattle.roff_store.proofs.Free.{AreFree, AreFree-let_go, free_kept, last_share, room_for_free, sum-set}
use Rattle.roff_store.proofs.chunks.Chunks.let_go.Goals as goal

pub push_reserved-requires : goal.push_reserved-requires
push_reserved-requires c =
    let last = last_share c.self.inside c.args.self.now c.args.chunk c.index_mut-shares.result.now c.self.view_is c.requires
    c.index_mut-shares.ensures.value c.if-shares-eq0.true in
    let room = room_for_free c.self.inside c.args.chunk c.self.invariant last.0 last.1 in
    omega arith

pub invariant_of-self : goal.invariant_of-self
invariant_of-self c =
    let sound = c.self.invariant in
    let last = last_share c.self.inside c.args.self.now c.args.chunk c.index_mut-shares.result.now c.self.view_is c.requires
    c.index_mut-shares.ensures.value c.if-shares-eq0.true in
    let gone : AreFree (set c.self.inside.shares.items c.args.chunk 0) c.push_reserved.new.self.items =
    rw c.push_reserved.ensures.items (AreFree-let_go c.self.inside.shares.items c.self.inside.free.items c.args.chunk last.0 last.1
    (free_kept c.self.inside sound)) in
    let all = sum-set c.self.inside.shares.items c.args.chunk 0 last.0 in
    record {
      links = sound.links;
      shares = sound.shares;
      within = sound.within;
      shared = rw c.if-shares-eq0.true (omega arith);
      fits = sound.fits;
      known = λ k d below.
          let short = length-set c.self.inside.shares.items c.args.chunk 0 in
          omega (arith, gone.known k d below);
      unshared = rw c.if-shares-eq0.true gone.unshared;
      once = gone.once;
      all = rw c.if-shares-eq0.true (c.push_reserved.new.self.ok.0 ∙ gone.all);
      contents_reserved = sound.contents_reserved;
      links_reserved = sound.links_reserved;
      shares_reserved = sound.shares_reserved;
      free_reserved = omega arith;
    }
