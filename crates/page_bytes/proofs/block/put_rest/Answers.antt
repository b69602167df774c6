use Rattle.std.proofs.Common.{◌≡◌, ◌++◌, ◌∷◌, [], List, ℕ, length, arith, refl, append_assoc, append-nil, sym, ap, ◌∙◌, length-append}
use Rattle.std.proofs.lemmas.Result.{err_from_is_err_and, on_ok_weaker, on_err_weaker}
use Rattle.page_bytes.specs.LineBytes.Fronts.{Moves}
use Rattle.page_bytes.specs.Sinks.{Sunk}
use Rattle.page_bytes.proofs.Appending.{Writes-nothing, HoldsBack-push, HoldsBack-keep, HoldsBack-put, Fails-held}
use Rattle.page_bytes.proofs.block.put_rest.Invariants.{Begun}
use Rattle.page_bytes.proofs.block.put_rest.Goals as goal

-- the first of the bytes to come are held back too
behind_pieces : {all to_come to_come_then held held_then : List ℕ} {old new : Sunk}
    → Begun all to_come held old new → Moves held held_then to_come to_come_then → Begun all to_come_then held_then old new
behind_pieces begun moves = record {
  front = begun.front ++ moves.moved;
  whole = rw (append_assoc, moves.taken) begun.whole;
  so_far = rw moves.added (HoldsBack-keep moves.moved begun.so_far);
}

pub loop-byte-init : goal.loop-byte-init
loop-byte-init g c = record {
  capacity = omega arith;
  few = c.requires.few;
  begun = record {
    front = c.args.bytes.now.items;
    whole = refl;
    so_far = record { front = []; split = refl; writes = Writes-nothing _ };
  };
}

pub returns-in_err-push-clause-puts : goal.returns-in_err-push-clause-puts
returns-in_err-push-clause-puts g c =
    let failed = err_from_is_err_and c.from_residual.result c.from_residual.ensures.1 in
    let begun = behind_pieces c.loop-byte.invariant.begun c.add_pieces.ensures.moves in
    let whole : begun.front ++ (c.in-Some.byte ∷ c.next.new.self) ≡ c.args.bytes.now.items ++ c.args.rest = rw (← c.in-Some.ensures.steps) begun.whole in
    rw failed.1 (record {
      ok = tt;
      err = rw (← whole) (Fails-held _ begun.so_far c.in_err-push.ensures.err);
    })

pub loop-byte-preserved : goal.loop-byte-preserved
loop-byte-preserved g c =
    let begun = behind_pieces c.loop-byte.invariant.begun c.add_pieces.ensures.moves in
    let whole : begun.front ++ (c.in-Some.byte ∷ c.next.new.self) ≡ c.args.bytes.now.items ++ c.args.rest = rw (← c.in-Some.ensures.steps) begun.whole in
    record {
      capacity = omega (arith, c.loop-byte.invariant.capacity, c.in_ok-push.ensures.capacity, c.add_pieces.ensures.capacity);
      few = c.in_ok-push.ensures.few;
      begun = record {
        front = begun.front ++ c.in-Some.byte ∷ [];
        whole = rw append_assoc whole;
        so_far = HoldsBack-push c.in-Some.byte begun.so_far c.in_ok-push.ensures.ok;
      };
    }

pub loop-byte-smaller : goal.loop-byte-smaller
loop-byte-smaller g c =
    let moves = c.add_pieces.ensures.moves in
    omega (arith, ap length moves.taken, length-append moves.moved c.add_pieces.new.to_come, ap length c.in-Some.ensures.steps)

pub returns-in_default-clause-puts : goal.returns-in_default-clause-puts
returns-in_default-clause-puts g c =
    let begun = behind_pieces c.loop-byte.invariant.begun c.add_pieces.ensures.moves in
    let whole : begun.front ++ [] ≡ c.args.bytes.now.items ++ c.args.rest =
    ap (λ (rest : List ℕ). begun.front ++ rest) (sym c.in_default.ensures.steps.0) ∙ begun.whole in
    record {
      ok = on_ok_weaker c.put.result (λ rest. rw (← whole, append-nil) (HoldsBack-put (g.O.ByteSink.sunk c.put.new.out) begun.so_far rest)) c.put.ensures.puts.ok;
      err = on_err_weaker c.put.result (λ part. rw (← begun.whole) (Fails-held _ begun.so_far part)) c.put.ensures.puts.err;
    }
