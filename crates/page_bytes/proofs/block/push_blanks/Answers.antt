use Rattle.std.proofs.Common.{◌≡◌, ◌+◌, ◌-◌, ◌≤◌, ◌++◌, [], List, ℕ, length, take, replicate, append_assoc, append-nil, refl, sym, ap, subst, ◌∙◌, arith, rules, vec_len, vec_capacity, take_all, length-append}
use Rattle.std.proofs.lemmas.List.{length-replicate, replicate-append-replicate}
use Rattle.std.proofs.lemmas.Result.{err_from_is_err_and}
use Rattle.page_model.specs.Columns.{spaces}
use Rattle.page_bytes.specs.Sinks.{Sunk, Writes, Fails, HoldsBack}
use Rattle.page_bytes.proofs.Appending.{Fails-held, HoldsBack-keep, HoldsBack-put}
use Rattle.page_bytes.proofs.block.push_blanks.Goals as goal
use Rattle.page_bytes.proofs.block.push_blanks.Goals.{then-len-ge-BLOCK+in_ok-put, else-len-ge-BLOCK}

-- blanks that were added, and some more
more_spaces : (items : List ℕ) (added more all : ℕ) → added + more ≡ all → (items ++ spaces added) ++ spaces more ≡ items ++ spaces all
more_spaces items added more all sum =
    append_assoc items (spaces added) (spaces more)
    ∙ ap (λ (bytes : List ℕ). items ++ bytes) (replicate-append-replicate added more 32 ∙ ap spaces sum)

-- blanks behind what is held
resized : (held : List ℕ) (blanks end long : ℕ) → end ≡ length held + blanks → long ≡ length held
    → take end held ++ replicate (end - long) 32 ≡ held ++ spaces blanks
resized held blanks end long ends whole =
    let more : end - long ≡ blanks = omega arith in
    rw (take_all end held (omega arith), more) refl

-- nothing is held back once all was put
put_held : {old mid : Sunk} (new : Sunk) (piece held bytes : List ℕ) → HoldsBack old mid piece held → Writes mid new held → bytes ≡ [] → HoldsBack old new piece bytes
put_held new piece held bytes all rest none = record {
  front = piece;
  split = sym (append-nil piece) ∙ ap (λ (more : List ℕ). piece ++ more) (sym none);
  writes = HoldsBack-put new all rest;
}

pub returns-in_err-put-clause-err : goal.returns-in_err-put-clause-err
returns-in_err-put-clause-err g c =
    let failed = err_from_is_err_and c.from_residual.result c.from_residual.ensures.1 in
    let l = c.loop-left in
    let whole = more_spaces c.args.bytes.now.items (c.args.count - l.left) l.left c.args.count (omega (arith, l.invariant.part)) in
    rw failed.1 (subst (λ (bytes : List ℕ). Fails (g.O.ByteSink.sunk c.args.out.now) (g.O.ByteSink.sunk c.put.new.out) bytes) whole
    (Fails-held (spaces l.left) l.invariant.held c.in_err-put.ensures.puts.err))

pub loop-left-preserved : goal.loop-left-preserved
loop-left-preserved g c =
    let l = c.loop-left in
    let now = c.if-len-ge-BLOCK in
    let held : List ℕ = now.bytes.items in
    let items : List ℕ = c.args.bytes.now.items in
    let piece : List ℕ = items ++ spaces (c.args.count - l.left) in
    let more : ℕ = c.min-more.result in
    let holds : HoldsBack (g.O.ByteSink.sunk c.args.out.now) (g.O.ByteSink.sunk now.out) piece held =
    elim c.if-len-ge-BLOCK.branch [
      | then-len-ge-BLOCK+in_ok-put w ↦ rw (w.bytes-is, w.out-is)
          (put_held (g.O.ByteSink.sunk w.put.new.out) piece l.bytes.items w.put.new.bytes.items l.invariant.held w.in_ok-put.ensures.puts.ok w.in_ok-put.ensures.empty)
      | else-len-ge-BLOCK w ↦ rw (w.bytes-is, w.out-is) l.invariant.held
    ] in
    let few : length held ≤ 8192 =
    elim c.if-len-ge-BLOCK.branch [
      | then-len-ge-BLOCK+in_ok-put w ↦ rw w.bytes-is (omega (arith, ap length w.in_ok-put.ensures.empty))
      | else-len-ge-BLOCK w ↦ rw w.bytes-is l.invariant.few
    ] in
    let room : vec_capacity c.args.bytes.now ≤ vec_capacity now.bytes =
    elim c.if-len-ge-BLOCK.branch [
      | then-len-ge-BLOCK+in_ok-put w ↦ rw w.bytes-is (omega (arith, l.invariant.capacity, w.in_ok-put.ensures.capacity))
      | else-len-ge-BLOCK w ↦ rw w.bytes-is l.invariant.capacity
    ] in
    let whole : vec_len now.bytes ≡ length held = first_of (omega arith, search rules) in
    let ends : c.len-in-loop-left-2.result + more ≡ length held + more = omega (arith, c.len-in-loop-left-2.ensures, whole) in
    let blanks : c.resize.new.self.items ≡ held ++ spaces more =
    rw (c.resize.ensures.items, c.unwrap.ensures) (resized held more _ _ ends whole) in
    let sum : (c.args.count - l.left) + more ≡ c.args.count - (l.left - more) = omega (arith, l.invariant.part, c.min-more.ensures) in
    record {
      capacity = omega (arith, room, c.resize.ensures.capacity);
      few = omega (arith, ap length blanks, length-append held (spaces more), length-replicate {A = ℕ} more 32, c.min-more.ensures, c.len-in-loop-left.ensures, whole, few);
      part = omega (arith, l.invariant.part);
      held = rw blanks (subst (λ (bytes : List ℕ). HoldsBack (g.O.ByteSink.sunk c.args.out.now) (g.O.ByteSink.sunk now.out) bytes (held ++ spaces more))
          (more_spaces items (c.args.count - l.left) more (c.args.count - (l.left - more)) sum) (HoldsBack-keep (spaces more) holds));
    }
