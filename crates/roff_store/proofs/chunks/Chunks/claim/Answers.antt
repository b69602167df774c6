use Rattle.std.proofs.Common.{◌≡◌, ◌∙◌, ◌+◌, ◌<◌, ◌++◌, ◌∷◌, [], sym, ap, arith, sum, set, subst, length-set}
use Rattle.std.specs.Vec.{vec_len}
use Rattle.roff_store.specs.Chains.{Chunks, shares_in}
use Rattle.roff_store.specs.Chunks.Kept.{kept_by}
use Rattle.roff_store.proofs.Free.{LeavesOthers-claimed, AreFree, AreFree-claimed, AreFree-made, fits-push, fits-set, free_kept, last_free, room_for_one, sum-push, sum-set}
use Rattle.roff_store.proofs.chunks.Chunks.claim.Goals as goal

pub invariant_of-self : goal.invariant_of-self
invariant_of-self c =
    let sound = c.self.invariant in
    let rest = c.pop.new.self.items in
    let popped : c.self.inside.free.items ≡ rest ++ c.in-Some.chunk ∷ [] = c.in-Some.ensures.items in
    let free : AreFree c.self.inside.shares.items (rest ++ c.in-Some.chunk ∷ []) = rw popped at (free_kept c.self.inside sound) in
    let last = last_free c.self.inside.shares.items rest c.in-Some.chunk free in
    let claimed = AreFree-claimed c.self.inside.shares.items rest c.in-Some.chunk free in
    let all = sum-set c.self.inside.shares.items c.in-Some.chunk 1 last.0 in
    let below = subst (λ (m : Chunks). shares_in m < m.most) (sym c.self.view_is) c.requires in
    record {
      links = sound.links;
      shares = sound.shares;
      within = sound.within;
      shared = omega arith;
      fits = fits-set c.self.inside.contents.items c.in-Some.chunk c.clear.new.self (omega arith)
          (rw c.clear.ensures (omega arith)) sound.fits;
      known = λ k d below.
          let short = length-set c.self.inside.shares.items c.in-Some.chunk 1 in
          omega (arith, claimed.known k d below);
      unshared = claimed.unshared;
      once = claimed.once;
      all = c.pop.new.self.ok.0 ∙ claimed.all;
      contents_reserved = sound.contents_reserved;
      links_reserved = sound.links_reserved;
      shares_reserved = sound.shares_reserved;
      free_reserved = omega arith;
    }

pub push_reserved-requires : goal.push_reserved-requires
push_reserved-requires c =
    let sound = c.self.invariant in
    let room = room_for_one c.self.inside c.args.self.now sound c.self.view_is c.in-None.ensures.cases.0 c.requires in
    omega arith

pub push_reserved-requires-in-None : goal.push_reserved-requires-in-None
push_reserved-requires-in-None c =
    let sound = c.self.invariant in
    let room = room_for_one c.self.inside c.args.self.now sound c.self.view_is c.in-None.ensures.cases.0 c.requires in
    omega arith

pub push_reserved-requires-in-None-2 : goal.push_reserved-requires-in-None-2
push_reserved-requires-in-None-2 c =
    let sound = c.self.invariant in
    let room = room_for_one c.self.inside c.args.self.now sound c.self.view_is c.in-None.ensures.cases.0 c.requires in
    omega arith

pub invariant_of-self-in-None : goal.invariant_of-self-in-None
invariant_of-self-in-None c =
    let sound = c.self.invariant in
    let room = room_for_one c.self.inside c.args.self.now sound c.self.view_is c.in-None.ensures.cases.0 c.requires in
    let below = subst (λ (m : Chunks). shares_in m < m.most) (sym c.self.view_is) c.requires in
    let none : (vec_len c.self.inside.free ≡ 0) × (vec_len c.pop.new.self ≡ 0) = c.in-None.ensures.cases in
    let made : AreFree (c.self.inside.shares.items ++ 1 ∷ []) c.pop.new.self.items =
    AreFree-made c.self.inside.shares.items c.self.inside.free.items c.pop.new.self.items (omega arith) (omega arith)
    (free_kept c.self.inside sound) in
    let all : sum (c.self.inside.shares.items ++ 1 ∷ []) ≡ sum c.self.inside.shares.items + 1 =
    sum-push c.self.inside.shares.items 1 in
    record {
      links = omega arith;
      shares = omega arith;
      within = omega arith;
      shared = rw (c.push_reserved-in-None-2.ensures.items, all) (omega arith);
      fits = rw c.push_reserved.ensures.items (fits-push c.self.inside.contents.items c.new.result (rw c.new.ensures (omega arith)) sound.fits);
      known = λ k d below. absurd (omega arith);
      unshared = λ k d below. absurd (omega arith);
      once = made.once;
      all = rw c.push_reserved-in-None-2.ensures.items (c.pop.new.self.ok.0 ∙ made.all);
      contents_reserved = omega arith;
      links_reserved = omega arith;
      shares_reserved = omega arith;
      free_reserved = omega arith;
    }

pub returns-in-Some-clause-sum : goal.returns-in-Some-clause-sum
returns-in-Some-clause-sum c =
    let sound = c.self.invariant in
    let rest = c.pop.new.self.items in
    let popped : c.self.inside.free.items ≡ rest ++ c.in-Some.chunk ∷ [] = c.in-Some.ensures.items in
    let free : AreFree c.self.inside.shares.items (rest ++ c.in-Some.chunk ∷ []) = rw popped at (free_kept c.self.inside sound) in
    let last = last_free c.self.inside.shares.items rest c.in-Some.chunk free in
    let all = sum-set c.self.inside.shares.items c.in-Some.chunk 1 last.0 in
    let more : sum (set c.self.inside.shares.items c.in-Some.chunk 1) ≡ sum c.self.inside.shares.items + 1 = omega arith in
    more ∙ ap (λ (m : Chunks). shares_in m + 1) c.self.view_is

pub returns-in-Some-clause-others : goal.returns-in-Some-clause-others
returns-in-Some-clause-others c =
    let rest = c.pop.new.self.items in
    let popped : c.self.inside.free.items ≡ rest ++ c.in-Some.chunk ∷ [] = c.in-Some.ensures.items in
    let free : AreFree c.self.inside.shares.items (rest ++ c.in-Some.chunk ∷ []) =
    rw popped at (free_kept c.self.inside c.self.invariant) in
    let last = last_free c.self.inside.shares.items rest c.in-Some.chunk free in
    LeavesOthers-claimed (kept_by c.self.inside) c.args.self.now c.in-Some.chunk _ c.clear.new.self _ c.self.view_is last.1
