use Rattle.std.proofs.Common.{◌≡◌, ◌≤◌, ◌+◌, ◌-◌, ◌*◌, ◌%◌, ◌++◌, [], List, ℕ, Err, length, take, replicate, arith, refl, ap, subst, rules, vec_len, take_all}
use Rattle.std.proofs.lemmas.List.{replicate-append-replicate}
use Rattle.std.proofs.lemmas.Result.{err_from_is_err_and}
use Rattle.page_bytes.specs.Sinks.{Sunk, Writes, Fails, Puts}
use Rattle.page_bytes.proofs.Appending.{Writes-nothing, Writes-append, Fails-front, Puts-behind}
use Rattle.page_bytes.proofs.block.Block.put_newlines.Goals as goal

-- so many newlines in place of nothing
filled : (held : List ℕ) (n long : ℕ) → held ≡ [] → long ≡ length held → take n held ++ replicate (n - long) 10 ≡ replicate n 10
filled held n long none whole =
    let empty : length held ≡ 0 = ap length none in
    let more : n - long ≡ n = omega (arith, whole, empty) in
    let few : length held ≤ n = omega (arith, empty) in
    rw (take_all n held few, none, more) refl

-- newlines behind newlines
more_newlines : (first second count : ℕ) → first + second ≡ count → replicate first 10 ++ replicate second 10 ≡ replicate {A = ℕ} count 10
more_newlines first second count whole = rw (replicate-append-replicate, whole) refl

-- a beginning of a second piece is one of both, and of what follows
Fails-behind : {old mid new : Sunk} (front back rest : List ℕ) → Writes old mid front → Fails mid new back → Fails old new ((front ++ back) ++ rest)
Fails-behind front back rest first second =
    Fails-front (front ++ back) rest (Puts-behind {F = Unit {0}} front back (Err tt) first (record { ok = tt; err = second })).err

pub loop-init : goal.loop-init
loop-init g c = record {
  room = omega (arith, c.self.inside.reserved, c.clear.ensures.capacity);
  empty = c.clear.ensures.items;
  written = Writes-nothing _;
}

pub returns-in_err-put : goal.returns-in_err-put
returns-in_err-put g c =
    let failed = err_from_is_err_and c.from_residual.result c.from_residual.ensures.1 in
    let k : ℕ = c.loop.counter in
    let count : ℕ = c.args.count in
    let short : vec_len c.loop.bytes ≡ length c.loop.bytes.items = first_of (omega arith, search rules) in
    let block : c.resize.new.self.items ≡ replicate 8192 10 = rw (c.resize.ensures.items, c.unwrap.ensures) (filled c.loop.bytes.items 8192 _ c.loop.invariant.empty short) in
    let part : Fails (g.O.ByteSink.sunk c.loop.out) (g.O.ByteSink.sunk c.put.new.out) (replicate 8192 10) = rw (← block) c.in_err-put.ensures.puts.err in
    let whole : (replicate (k * 8192) 10 ++ replicate 8192 10) ++ replicate (count - (k * 8192 + 8192)) 10 ≡ replicate count 10 =
    rw (more_newlines (k * 8192) 8192 (k * 8192 + 8192) refl) (more_newlines (k * 8192 + 8192) (count - (k * 8192 + 8192)) count (omega (arith, c.loop-test.true))) in
    rw failed.1 (record {
      ok = tt;
      err = subst (λ (bytes : List ℕ). Fails (g.O.ByteSink.sunk c.args.out.now) (g.O.ByteSink.sunk c.put.new.out) bytes) whole
          (Fails-behind (replicate (k * 8192) 10) (replicate 8192 10) (replicate (count - (k * 8192 + 8192)) 10) c.loop.invariant.written part);
    })

pub loop-preserved : goal.loop-preserved
loop-preserved g c =
    let k : ℕ = c.loop.counter in
    let short : vec_len c.loop.bytes ≡ length c.loop.bytes.items = first_of (omega arith, search rules) in
    let block : c.resize.new.self.items ≡ replicate 8192 10 = rw (c.resize.ensures.items, c.unwrap.ensures) (filled c.loop.bytes.items 8192 _ c.loop.invariant.empty short) in
    let part : Writes (g.O.ByteSink.sunk c.loop.out) (g.O.ByteSink.sunk c.put.new.out) (replicate 8192 10) = rw (← block) c.in_ok-put.ensures.puts.ok in
    record {
      room = omega (arith, c.loop.invariant.room, c.resize.ensures.capacity, c.in_ok-put.ensures.capacity);
      empty = c.in_ok-put.ensures.empty;
      written = subst (λ (bytes : List ℕ). Writes (g.O.ByteSink.sunk c.args.out.now) (g.O.ByteSink.sunk c.put.new.out) bytes) (more_newlines (k * 8192) 8192 ((k + 1) * 8192) (omega arith))
          (Writes-append (replicate (k * 8192) 10) (replicate 8192 10) c.loop.invariant.written part);
    }

pub returns : goal.returns
returns g c =
    let k : ℕ = c.loop.counter in
    let count : ℕ = c.args.count in
    let short : vec_len c.loop.bytes ≡ length c.loop.bytes.items = first_of (omega arith, search rules) in
    let left : c.resize-2.new.self.items ≡ replicate (count % 8192) 10 =
    rw (c.resize-2.ensures.items, c.unwrap-2.ensures) (filled c.loop.bytes.items (count % 8192) _ c.loop.invariant.empty short) in
    let part : Puts (g.O.ByteSink.sunk c.loop.out) (g.O.ByteSink.sunk c.put-2.new.out) (replicate (count % 8192) 10) c.put-2.result = rw (← left) c.put-2.ensures.puts in
    subst (λ (bytes : List ℕ). Puts (g.O.ByteSink.sunk c.args.out.now) (g.O.ByteSink.sunk c.put-2.new.out) bytes c.put-2.result)
    (more_newlines (k * 8192) (count % 8192) count (omega (arith, c.loop-test.false, c.loop.auto.counter-end)))
    (Puts-behind (replicate (k * 8192) 10) (replicate (count % 8192) 10) c.put-2.result c.loop.invariant.written part)
