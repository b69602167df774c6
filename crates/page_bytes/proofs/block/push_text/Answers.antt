use Rattle.std.proofs.Common.{◌≡◌, ◌++◌, [], List, ℕ, Err, append-nil, sym, ap, ◌∙◌}
use Rattle.std.proofs.lemmas.Result.{err_from_is_err_and, on_ok_weaker, on_err_weaker}
use Rattle.page_bytes.specs.Sinks.{Sunk, Writes, Fails, HoldsBack}
use Rattle.page_bytes.proofs.Appending.{Fails-front, Puts-behind, Writes-append}
use Rattle.page_bytes.proofs.block.push_text.Goals as goal

-- two pieces were written, and nothing is held back
nothing_held : {old mid new : Sunk} (front back held : List ℕ) → held ≡ [] → Writes old mid front → Writes mid new back → HoldsBack old new (front ++ back) held
nothing_held front back held none first second = record {
  front = front ++ back;
  split = sym (append-nil (front ++ back)) ∙ ap (λ (bytes : List ℕ). (front ++ back) ++ bytes) (sym none);
  writes = Writes-append front back first second;
}

-- a beginning of the second piece is one of both
Fails-second : {old mid new : Sunk} (front back : List ℕ) → Writes old mid front → Fails mid new back → Fails old new (front ++ back)
Fails-second front back first second = (Puts-behind {F = Unit {0}} front back (Err tt) first (record { ok = tt; err = second })).err

pub returns-in_err-put-clause-err : goal.returns-in_err-put-clause-err
returns-in_err-put-clause-err g c =
    let failed = err_from_is_err_and c.from_residual.result c.from_residual.ensures.1 in
    rw failed.1 (Fails-front c.args.bytes.now.items c.args.text.now c.in_err-put.ensures.puts.err)

pub returns-clause-ok : goal.returns-clause-ok
returns-clause-ok g c =
    on_ok_weaker c.put-2.result
    (λ rest. nothing_held c.args.bytes.now.items c.args.text.now c.put.new.bytes.items c.in_ok-put.ensures.empty c.in_ok-put.ensures.puts.ok rest)
    c.put-2.ensures.ok

pub returns-clause-err : goal.returns-clause-err
returns-clause-err g c =
    on_err_weaker c.put-2.result (λ part. Fails-second c.args.bytes.now.items c.args.text.now c.in_ok-put.ensures.puts.ok part) c.put-2.ensures.err
